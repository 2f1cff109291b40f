-- Images that meet.
use Rattle.std.proofs.Common.{◌≡◌, sym, MatchBool, ◌<◌, ℕ, ◌+◌, ◌*◌, ◌/◌, ◌%◌, None, Some, Bool, true, false, ltb, List, get_or, ◌∙◌, eq-eqb, ne_eqb}
use Rattle.house.specs.Lists.{any}
use Rattle.house.proofs.Lists.Bounded.{any_yes, any_from}
use Rattle.laying.specs.declared.Fault.TheVariants.{PartOfAWord, BeyondThePages, OnAnother}
use Rattle.laying.specs.Laid.{owner_of, meeting, fault_of}

pub any_told : (p : ℕ → Bool) (n : ℕ) (r : Bool) → MatchBool r ((j : ℕ) × (j < n) × (p j ≡ true)) ((j : ℕ) → j < n → p j ≡ false) → r ≡ any p n
any_told p n true h = sym (any_yes p n h.0 h.1 h.2)
any_told p n false h = sym (any_from p n h)

-- ---- why an image is not laid

module _ (pages table counts : List ℕ) (k size : ℕ) where
  pub fault_part : (size % 4 ≡ 0 → ⊥) → Some PartOfAWord ≡ fault_of pages table counts k size
  unfolding fault_of
  fault_part h = simp (ne_eqb (size % 4) 0 h)

  module _ (whole : size % 4 ≡ 0) (b : Bool) (e : b ≡ ltb (4096 * get_or pages (owner_of table k) 0) (get_or table (3 * k + 1) 0 + size)) where
    pub fault_beyond : b ≡ true → Some BeyondThePages ≡ fault_of pages table counts k size
    unfolding fault_of
    fault_beyond t = simp (eq-eqb (size % 4) 0 whole, ← e, t)

    module _ (left : b ≡ false) (m : Bool) (f : m ≡ any (meeting table counts k (size / 4)) k) where
      pub fault_meets : m ≡ true → Some OnAnother ≡ fault_of pages table counts k size
      unfolding fault_of
      fault_meets t = simp (eq-eqb (size % 4) 0 whole, ← e, left, ← f, t)

      pub fault_none : m ≡ false → None ≡ fault_of pages table counts k size
      unfolding fault_of
      fault_none t = simp (eq-eqb (size % 4) 0 whole, ← e, left, ← f, t)

pub room_there : {b : Bool} (pages table : List ℕ) (k size w n : ℕ) → w ≡ k → n ≡ get_or pages (get_or table (3 * w) 0) 0 → b ≡ ltb (4096 * n) (get_or table (3 * w + 1) 0 + size)
    → b ≡ ltb (4096 * get_or pages (owner_of table k) 0) (get_or table (3 * k + 1) 0 + size)
room_there pages table k size w n e f g = g ∙ rw (f, e)

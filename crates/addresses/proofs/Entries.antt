-- Laws of entry words, and of what a table and a frame list give: nothing, or a valid entry of an own frame.
use mathlib.Core.Path.{◌≡◌, refl, sym, ap, ◌∙◌}
use mathlib.Core.Bool.{Bool, true, false, not, false≢true}
use mathlib.Core.List.{List}
use Prim.Native.Nat.{ℕ, ◌+◌, ◌*◌, ◌/◌, ◌%◌, ◌^◌, ◌<◌, ◌≤◌}
use native.Mathlib.Omega.{arith}
use borrow.Author.Tests.{ltb-true, leb-false, le-leb, eq-eqb, ne_eqb}
use lib.Dec.{ltb, leb}
use lib.ListN.{get_or, length-replicate}
use Rattle.dlx.specs.declared.partition.Table.{Table}
use Rattle.dlx.proofs.Kept.{either}
use Rattle.addresses.specs.Entries.{number, valid, protection, entry_of, Found, fault, found, judged}
use Rattle.addresses.specs.Walk.{entries, entry_address, walked, direct}
use Rattle.addresses.specs.Memory.{Lone, lone_word, lone_found, hosted, given, fresh_shadow}
use Rattle.addresses.specs.Premises.{Listed, Placed, Own, Shadowed}
use Rattle.dlx.proofs.Tests.{either_both, get_or_replicate_same}

-- ---- the format

pub number_entry : (f p : ℕ) → p < 2 → number (entry_of f p) ≡ f
number_entry f p h = omega arith

pub valid_entry : (f p : ℕ) → p < 2 → valid (entry_of f p) ≡ true
valid_entry f p h = eq-eqb (entry_of f p / 2 ^ 11 % 2) 1 (omega arith)

pub protection_entry : (f p : ℕ) → p < 2 → protection (entry_of f p) ≡ p
protection_entry f p h = omega arith

-- neither the empty entry nor a fault is valid
pub fault_invalid : (x : ℕ) → x < 8 → valid x ≡ false
fault_invalid x l = ne_eqb (x / 2 ^ 11 % 2) 1 (λ e. omega arith)

pub valid_zero : valid 0 ≡ false
valid_zero = refl

pub empty_invalid : valid 0 ≡ true → ⊥
empty_invalid e = false≢true e

pub fresh_invalid : (px : ℕ) → valid (get_or fresh_shadow px 0) ≡ true → ⊥
fresh_invalid px e = empty_invalid (rw (get_or_replicate_same entries 0 px) at e)

-- ---- what is found lies in the guest's pages, or is one of the faults

abbrev pub Within : ℕ → Found → Type 0
Within n (fault x) = x < 8
Within n (found k p) = (k < n) × (p < 2)

pub judged_within : (n e : ℕ) → Within n (judged n e)
unfolding judged
judged_within n e =
    either (Within n) (not (valid e)) (λ _. omega arith) λ _.
    either (Within n) (leb n (number e)) (λ _. omega arith) λ q.
    (leb-false n (number e) q, omega arith)

pub walked_within : (guest : ℕ → ℕ) (n : ℕ) (t : Table) (px : ℕ) → Within n (walked guest n t px)
unfolding walked
walked_within guest n t px =
    either (Within n) (leb t.ptl px) (λ _. omega arith) λ _.
    either (Within n) (leb entries px) (λ _. omega arith) λ _.
    either (Within n) (leb (4096 * n) (entry_address t px)) (λ _. omega arith) λ _.
    judged_within n _

pub direct_within : (n a : ℕ) → Within n (direct n a)
unfolding direct
direct_within n a = either (Within n) (ltb a (4096 * n)) (λ q. (omega (arith, ltb-true a (4096 * n) q), omega arith)) (λ _. omega arith)

pub found_within : (n : ℕ) (s : Lone) (user : Bool) (a : ℕ) → Within n (lone_found n s user a)
unfolding lone_found
found_within n s user a = either (Within n) user (λ _. walked_within (lone_word s) n s.table (a / 4096)) (λ _. direct_within n a)

-- A walk reads one word: word px of page PTO, where the table and the memory reach.
pub walked_same : (guest guest' : ℕ → ℕ) (n : ℕ) (t : Table) (px : ℕ)
    → (px < t.ptl → px < entries → t.pto < n → guest (t.pto * 1024 + px) ≡ guest' (t.pto * 1024 + px))
    → walked guest n t px ≡ walked guest' n t px
unfolding walked
walked_same guest guest' n t px h =
    either_both ◌≡◌ (leb t.ptl px) (λ _. refl) λ q.
    either_both ◌≡◌ (leb entries px) (λ _. refl) λ q'.
    either_both ◌≡◌ (leb (4096 * n) (entry_address t px)) (λ _. refl) λ q''.
    let l = leb-false entries px q' in
    let l' = leb-false (4096 * n) (entry_address t px) q'' in
    let w : entry_address t px / 4 ≡ t.pto * 1024 + px = omega arith in
    rw w (ap (judged n) (h (leb-false t.ptl px q) l (omega arith)))

-- ---- what is given

-- the frame of a valid entry is own
abbrev pub Owned : List ℕ → ℕ → ℕ → Type 0
Owned fr n e = valid e ≡ true → Own fr n (number e)

module _ (fr : List ℕ) (n : ℕ) where
  pub hosted_own : (g : Found) → Within n g → Owned fr n (hosted fr g)
  unfolding hosted
  hosted_own (fault x) h e = absurd (false≢true (sym (fault_invalid x h) ∙ e))
  hosted_own (found k p) h e = (k, h.0, sym (number_entry (get_or fr k 0) p h.1))

  pub hosted_word : Listed fr n → (g : Found) → Within n g → hosted fr g < 2 ^ 32
  unfolding hosted
  hosted_word L (fault x) h = omega arith
  hosted_word L (found k p) h = omega (arith, L.low k h.0)

  pub hosted_fault : (g : Found) → Within n g → valid (hosted fr g) ≡ false → hosted fr g < 8
  unfolding hosted
  hosted_fault (fault x) h e = h
  hosted_fault (found k p) h e = absurd (false≢true (sym e ∙ valid_entry (get_or fr k 0) p h.1))

  -- what is given and not valid is a fault; a valid entry that is given names an own frame
  pub given_fault : (t : Table) (ws : List ℕ) (px : ℕ) → valid (given fr n t ws px) ≡ false → given fr n t ws px < 8
  unfolding given
  given_fault t ws px = hosted_fault _ (walked_within _ n t px)

  pub given_own : (t : Table) (ws : List ℕ) (px : ℕ) → Owned fr n (given fr n t ws px)
  unfolding given
  given_own t ws px = hosted_own _ (walked_within _ n t px)

  pub given_word : Listed fr n → (t : Table) (ws : List ℕ) (px : ℕ) → given fr n t ws px < 2 ^ 32
  unfolding given
  given_word L t ws px = hosted_word L _ (walked_within _ n t px)

  -- nothing but a fault is given outside the shadow table
  pub given_outside : (t : Table) (ws : List ℕ) (px : ℕ) → entries ≤ px → valid (given fr n t ws px) ≡ false
  unfolding given walked hosted
  given_outside t ws px h = either (λ g. valid (hosted fr g) ≡ false) (leb t.ptl px) (λ _. refl) (λ _. rw (le-leb entries px h))

-- ---- the premises

module _ {fr : List ℕ} {n : ℕ} where
  -- in a memory of at most 2 ^ 20 words a frame has at most 20 bits
  pub placed_listed : {size : ℕ} → Placed fr n size → Listed fr n
  placed_listed F = record { few = F.few; list = F.list; low = λ k h. omega (arith, F.inside k h) }

  -- an own frame lies in the memory
  pub own_inside : {size f : ℕ} → Placed fr n size → Own fr n f → f * 1024 + 1024 ≤ size
  own_inside F o = omega (arith, F.inside o.0 o.1, o.2)

  pub fresh_shadowed : Shadowed fr n fresh_shadow
  fresh_shadowed = record { count = length-replicate {A = ℕ} entries 0; own = λ px e. absurd (fresh_invalid px e) }

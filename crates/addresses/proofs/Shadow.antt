-- What a search for an entry fills, what a store into the table empties, and which words a store leaves: for simulation, isolation and what is kept.
use mathlib.Core.Path.{◌≡◌, refl, sym, ap, ◌∙◌}
use mathlib.Core.Bool.{Bool, true, false, true≢false, ◌&&◌}
use mathlib.Core.List.{List}
use Prim.Native.Nat.{ℕ, ◌+◌, ◌*◌, ◌/◌, ◌%◌, ◌<◌}
use native.Mathlib.Omega.{arith}
use borrow.Author.Tests.{lt-ltb, eq-eqb}
use lib.Dec.{ltb, eqb}
use lib.ListN.{length, get_or, set, length-set}
use lib.Seq.{get_or-set_other}
use Rattle.dlx.specs.declared.partition.Table.{Table}
use Rattle.dlx.proofs.Kept.{either, get_or_set_elim}
use Rattle.addresses.specs.Entries.{valid}
use Rattle.addresses.specs.Walk.{entries}
use Rattle.addresses.specs.Memory.{Host, host, place, hosted, given, filled, looked, served, emptied}
use Rattle.addresses.specs.Premises.{Own, Shadowed}
use Rattle.dlx.proofs.Tests.{by_eq, get_or_set_default}
use Rattle.addresses.proofs.Entries.{empty_invalid, direct_within, walked_same, Owned, hosted_own, given_own, hosted_fault, given_fault}

-- the word of page k's frame that stands for the guest's word
pub place_page : (fr : List ℕ) (k off : ℕ) → off < 1024 → place fr (k * 1024 + off) ≡ get_or fr k 0 * 1024 + off
place_page fr k off h =
    let d : (k * 1024 + off) / 1024 ≡ k = omega arith in
    let m : (k * 1024 + off) % 1024 ≡ off = omega arith in
    rw (d, m)

module _ (fr : List ℕ) (n : ℕ) where
  -- ---- the search

  -- It leaves the memory, or fills the entry with what is given, a valid one.
  looking : (P : Host → Type 0) (h : Host) (px : ℕ) → P h
      → (valid (given fr n h.table h.words px) ≡ true → P (host h.table h.words (set h.shadow px (given fr n h.table h.words px))))
      → P (looked fr n h px).1
  unfolding looked filled
  looking P h px p q =
      either (λ (g : ℕ × Host). P g.1) (valid (get_or h.shadow px 0)) (λ _. p) λ _.
      either P (valid (given fr n h.table h.words px)) q (λ _. p)

  pub serving : (P : Host → Type 0) (h : Host) (user : Bool) (a : ℕ) → P h
      → ((px : ℕ) → valid (given fr n h.table h.words px) ≡ true → P (host h.table h.words (set h.shadow px (given fr n h.table h.words px))))
      → P (served fr n h user a).1
  unfolding served
  serving P h true a p q = looking P h (a / 4096) p (q (a / 4096))
  serving P h false a p q = p

  -- only the shadow changes
  pub served_state : (h : Host) (user : Bool) (a : ℕ) → (served fr n h user a).1 ≡ host h.table h.words (served fr n h user a).1.shadow
  served_state h user a = serving (λ s. s ≡ host h.table h.words s.shadow) h user a refl (λ _ _. refl)

  module _ (h : Host) (k : Shadowed fr n h.shadow) where
    -- a valid entry that serves names an own frame
    pub looked_own : (px : ℕ) → Owned fr n (looked fr n h px).0
    unfolding looked
    looked_own px = either (λ (g : ℕ × Host). Owned fr n g.0) (valid (get_or h.shadow px 0)) (λ _. k.own px) (λ _. given_own fr n h.table h.words px)

    pub served_own : (user : Bool) (a : ℕ) → Owned fr n (served fr n h user a).0
    unfolding served
    served_own true a = looked_own (a / 4096)
    served_own false a = hosted_own fr n _ (direct_within n a)

    -- one that is not valid is a fault
    pub served_fault : (user : Bool) (a : ℕ) → valid (served fr n h user a).0 ≡ false → (served fr n h user a).0 < 8
    unfolding served looked
    served_fault true a =
        either (λ (g : ℕ × Host). valid g.0 ≡ false → g.0 < 8) (valid (get_or h.shadow (a / 4096) 0))
        (λ v e. absurd (true≢false (sym v ∙ e)))
        (λ _. given_fault fr n h.table h.words (a / 4096))
    served_fault false a = hosted_fault fr n _ (direct_within n a)

    pub looked_shadowed : (px : ℕ) → Shadowed fr n (looked fr n h px).1.shadow
    looked_shadowed px =
        looking (λ s. Shadowed fr n s.shadow) h px k (λ _. record {
          count = simp length-set k.count;
          own = λ j. get_or_set_elim (Owned fr n) h.shadow px j _ 0 (λ _. given_own fr n h.table h.words px) (k.own j);
        })

    pub served_shadowed : (user : Bool) (a : ℕ) → Shadowed fr n (served fr n h user a).1.shadow
    unfolding served
    served_shadowed true a = looked_shadowed (a / 4096)
    served_shadowed false a = k

  -- ---- the emptying

  -- a store into word `off` of the frame f misses entry px of the table
  abbrev pub Missed : Table → ℕ → ℕ → ℕ → Type 0
  Missed t f off px = px < t.ptl → px < entries → t.pto < n → get_or fr t.pto 0 ≡ f → px ≡ off → ⊥

  -- It empties the entry of that word, or the store misses every entry.
  emptying : (P : List ℕ → Type 0) (t : Table) (f off : ℕ) (sh : List ℕ) → P (set sh off 0) → (((px : ℕ) → Missed t f off px) → P sh) → P (emptied fr n t f off sh)
  unfolding emptied
  emptying P t f off sh p g =
      either P (ltb t.pto n && eqb (get_or fr t.pto 0) f && ltb off t.ptl && ltb off entries) (λ _. p)
      (λ q. g λ px a b c d e. true≢false (simp (lt-ltb t.pto n c, eq-eqb _ f d, lt-ltb off t.ptl (omega arith), lt-ltb off entries (omega arith)) at q))

  -- an entry after the emptying is empty, or as it stood and missed
  pub emptied_each : (P : ℕ → Type 0) (t : Table) (f off : ℕ) (sh : List ℕ) (px : ℕ)
      → P 0 → (Missed t f off px → P (get_or sh px 0)) → P (get_or (emptied fr n t f off sh) px 0)
  emptied_each P t f off sh px z g =
      emptying (λ m. P (get_or m px 0)) t f off sh
      (by_eq px off (λ e. rw (e, get_or_set_default sh off 0) z) (λ e. rw (get_or-set_other sh off px 0 0 e) (g λ _ _ _ _. e)))
      (λ m. g (m px))

  pub emptied_count : (t : Table) (f off : ℕ) (sh : List ℕ) → length (emptied fr n t f off sh) ≡ length sh
  emptied_count t f off sh = emptying (λ m. length m ≡ length sh) t f off sh (length-set sh off 0) (λ _. refl)

  pub emptied_shadowed : (t : Table) (f off : ℕ) (sh : List ℕ) → Shadowed fr n sh → Shadowed fr n (emptied fr n t f off sh)
  emptied_shadowed t f off sh k = record {
    count = emptied_count t f off sh ∙ k.count;
    own = λ px. emptied_each (Owned fr n) t f off sh px (λ e. absurd (empty_invalid e)) (λ _. k.own px);
  }

  -- a store that misses an entry leaves what is given there
  pub given_missed : (t : Table) (ws : List ℕ) (f off x px : ℕ) → off < 1024 → Missed t f off px → given fr n t (set ws (f * 1024 + off) x) px ≡ given fr n t ws px
  unfolding given
  given_missed t ws f off x px l m =
      ap (hosted fr) (walked_same _ _ n t px λ a b c.
      rw (place_page fr t.pto px (omega arith)) (get_or-set_other ws (f * 1024 + off) _ x 0 (λ q. m a b c (omega arith) (omega arith))))

  -- ---- the words of others

  -- no word outside the own frames has changed since base
  abbrev pub Untouched : List ℕ → List ℕ → Type 0
  Untouched base ws = (i : ℕ) → (Own fr n (i / 1024) → ⊥) → get_or ws i 0 ≡ get_or base i 0

  pub stored_untouched : (base ws : List ℕ) (f off x : ℕ) → Own fr n f → off < 1024 → Untouched base ws → Untouched base (set ws (f * 1024 + off) x)
  stored_untouched base ws f off x o l u i h =
      get_or-set_other ws (f * 1024 + off) i x 0 (λ q. h (o.0, o.1, omega (arith, o.2))) ∙ u i h

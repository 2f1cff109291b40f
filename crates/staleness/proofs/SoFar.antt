-- A list of n numbers that a loop makes over, one by one, from the rule g to the rule f.
use mathlib.Core.Path.{◌≡◌, refl, sym, ap, ◌∙◌}
use mathlib.Core.Bool.{true, false}
use mathlib.Core.List.{List}
use Prim.Native.Nat.{ℕ, ◌+◌, ◌<◌, ◌≤◌}
use native.Mathlib.Omega.{arith}
use borrow.Author.Tests.{lt-ltb, le-ltb, ltb-true, ltb-false}
use lib.Dec.{ltb}
use lib.ListN.{length, get_or, set, get_or-eq_default}
use lib.Seq.{ext_get_or}
use Rattle.std.proofs.lemmas.List.{set-get_or}
use Rattle.dlx.specs.Choice.{when◌then◌else◌}
use Rattle.dlx.proofs.Tests.{by_test}
use Rattle.dlx.specs.declared.partition.Table.{Table}
use Rattle.addresses.specs.Walk.{entries}
use Rattle.addresses.specs.Memory.{stale}
use Rattle.house.specs.Lists.{list_from}
use Rattle.house.proofs.Lists.ByRule.{length_list_from, list_from_at, list_from_same, set_list_from}
use Rattle.staleness.specs.Audit.{kept_in}

-- a list is the one by its own elements
pub list_from_self : (l : List ℕ) (n : ℕ) → length l ≡ n → list_from (λ k. get_or l k 0) 0 n ≡ l
list_from_self l n e =
    ext_get_or 0 _ l (length_list_from (λ k. get_or l k 0) 0 n ∙ sym e) λ i b.
    list_from_at (λ k. get_or l k 0) 0 n i (omega (arith, length_list_from (λ k. get_or l k 0) 0 n))

-- what holds of 0 and of every number by the rule
pub list_from_each : (P : ℕ → Type 0) (f : ℕ → ℕ) (n : ℕ) → P 0 → ((k : ℕ) → P (f k)) → (k : ℕ) → P (get_or (list_from f 0 n) k 0)
list_from_each P f n z h k =
    by_test (ltb k n)
    (λ t. rw (list_from_at f 0 n k (ltb-true k n t)) (h k))
    (λ t. rw (get_or-eq_default (list_from f 0 n) 0 {n = k} (omega (arith, length_list_from f 0 n, ltb-false k n t))) z)

module _ (f g : ℕ → ℕ) (n : ℕ) where
  abbrev pub so_far : ℕ → List ℕ
  so_far px = list_from (λ k. when ltb k px then f k else g k) 0 n

  pub far_none : so_far 0 ≡ list_from g 0 n
  far_none = list_from_same _ g 0 n (λ k _. rw (le-ltb k 0 (omega arith)))

  pub far_length : (px : ℕ) → length (so_far px) ≡ n
  far_length px = length_list_from (λ k. when ltb k px then f k else g k) 0 n

  -- where the rules agree on the rest, all is done
  pub far_all : (px : ℕ) → ((k : ℕ) → px ≤ k → k < n → f k ≡ g k) → so_far px ≡ list_from f 0 n
  far_all px h = list_from_same _ f 0 n (λ k l. by_test (ltb k px) (λ t. rw t) (λ t. rw t (sym (h k (ltb-false k px t) (omega arith)))))

  pub far_at : (px : ℕ) → px < n → get_or (so_far px) px 0 ≡ g px
  far_at px l = list_from_at (λ k. when ltb k px then f k else g k) 0 n px l ∙ rw (le-ltb px px (omega arith))

  pub far_more : (px : ℕ) → px < n → set (so_far px) px (f px) ≡ so_far (px + 1)
  far_more px l =
      let F : ℕ → ℕ = λ k. when ltb k px then f k else g k in
      let G : ℕ → ℕ = λ k. when ltb k (px + 1) then f k else g k in
      let e : G px ≡ f px = rw (lt-ltb px (px + 1) (omega arith)) in
      ap (λ (v : ℕ). set (so_far px) px v) (sym e)
      ∙ set_list_from F G n px
      (λ j d. by_test (ltb j px)
      (λ t. let b = ltb-true j px t in rw (t, lt-ltb j (px + 1) (omega arith)))
      (λ t. let b = ltb-false j px t in rw (t, le-ltb j (px + 1) (omega arith)))) l

  -- the rules agree on the next
  pub far_same : (px : ℕ) → f px ≡ g px → so_far px ≡ so_far (px + 1)
  far_same px e =
      list_from_same (λ k. when ltb k px then f k else g k) (λ k. when ltb k (px + 1) then f k else g k) 0 n
      (λ k _. by_test (ltb k px)
      (λ t. let b = ltb-true k px t in rw (t, lt-ltb k (px + 1) (omega arith)))
      (λ t. by_test (ltb k (px + 1))
      (λ s. let b = ltb-true k (px + 1) s in let c = ltb-false k px t in let q : k ≡ px = omega arith in rw (t, s, q) (sym e))
      (λ s. rw (t, s))))

  -- as a loop has it: the list, the place and the number each by an equation
  pub far_set : (l : List ℕ) (px a r : ℕ) → l ≡ so_far px → px < n → a ≡ px → r ≡ f px → set l a r ≡ so_far (px + 1)
  far_set l px a r e b p q = rw (e, p, q) (far_more px b)

-- one entry more of a shadow that is mended: a stale one, and another
module _ (fr : List ℕ) (n : ℕ) (t : Table) (ws old sh : List ℕ) (px : ℕ)
    (i : sh ≡ so_far (kept_in fr n t ws old) (λ k. get_or old k 0) entries px) (l : px < entries) where
  before : get_or sh px 0 ≡ get_or old px 0
  before = rw i (far_at (kept_in fr n t ws old) (λ k. get_or old k 0) entries px l)

  pub made_empty : stale fr n t ws px (get_or sh px 0) ≡ true → set sh px 0 ≡ so_far (kept_in fr n t ws old) (λ k. get_or old k 0) entries (px + 1)
  made_empty e =
      let v : 0 ≡ kept_in fr n t ws old px = rw (rw before at e) in
      far_set (kept_in fr n t ws old) (λ k. get_or old k 0) entries sh px px 0 i l refl v

  pub left_alone : stale fr n t ws px (get_or sh px 0) ≡ false → set sh px (get_or sh px 0) ≡ so_far (kept_in fr n t ws old) (λ k. get_or old k 0) entries (px + 1)
  left_alone e =
      let v : kept_in fr n t ws old px ≡ get_or old px 0 = rw (rw before at e) in
      set-get_or sh px 0 ∙ i ∙ far_same (kept_in fr n t ws old) (λ k. get_or old k 0) entries px v

-- What it means that an entry of a shadow is stale: the line of `Right` about shadows, and what the audit looks for.
use mathlib.Core.Path.{◌≡◌, refl, sym, ap, ◌∙◌}
use mathlib.Core.Bool.{true, false, not, ◌&&◌, true≢false, false≢true}
use mathlib.Core.List.{List}
use Prim.Native.Nat.{ℕ, ◌/◌, ◌%◌, ◌^◌}
use native.Mathlib.Omega.{arith}
use borrow.Author.Tests.{eqb-true, eq-eqb}
use lib.Dec.{eqb}
use lib.ListN.{get_or}
use Rattle.dlx.specs.declared.partition.Table.{Table}
use Rattle.dlx.proofs.Tests.{by_test, get_or_replicate_same}
use Rattle.addresses.specs.Entries.{number, valid, protection, entry_of, Found, fault, found}
use Rattle.addresses.specs.Walk.{entries, walked}
use Rattle.addresses.specs.Memory.{host_word, hosted, given, stale, fresh_shadow}
use Rattle.addresses.proofs.Entries.{number_entry, protection_entry, fault_invalid, Within, walked_within, empty_invalid}

-- a valid entry with 0 in its unused bits is its frame and its protection
entry_parts : (e : ℕ) → e / 2 ^ 11 % 2 ≡ 1 → e % 1024 ≡ 0 → e ≡ entry_of (number e) (protection e)
entry_parts e v z =
    let a : e / 2 ^ 11 ≡ e / 2 ^ 10 / 2 = omega arith in
    let b : e / 2 ^ 12 ≡ e / 2 ^ 11 / 2 = omega arith in
    omega (arith, a, b)

-- of the memory it asks for what is given alone
pub stale_same : (fr : List ℕ) (n : ℕ) (t : Table) (ws ws' : List ℕ) (px e : ℕ) → given fr n t ws px ≡ given fr n t ws' px → stale fr n t ws px e ≡ stale fr n t ws' px e
unfolding stale
stale_same fr n t ws ws' px e q = ap (λ g. valid e && not (eqb e g)) q

module _ (fr : List ℕ) (n : ℕ) (t : Table) (ws : List ℕ) (px : ℕ) where
  -- an entry is stale, or it is what is given where it is valid
  pub stale_denied : (e : ℕ) → stale fr n t ws px e ≡ false → valid e ≡ true → e ≡ given fr n t ws px
  unfolding stale
  stale_denied e s v = by_test (eqb e (given fr n t ws px)) (λ q. eqb-true e _ q) (λ q. absurd (true≢false (simp (v, q) at s)))

  pub not_stale : (e : ℕ) → (valid e ≡ true → e ≡ given fr n t ws px) → stale fr n t ws px e ≡ false
  unfolding stale
  not_stale e h = by_test (valid e) (λ q. simp (q, eq-eqb e (given fr n t ws px) (h q))) (λ q. simp q)

  pub empty_not_stale : stale fr n t ws px 0 ≡ false
  empty_not_stale = not_stale 0 (λ q. absurd (empty_invalid q))

  pub fresh_not_stale : stale fr n t ws px (get_or fresh_shadow px 0) ≡ false
  fresh_not_stale = rw (get_or_replicate_same entries 0 px) empty_not_stale

  -- All tests pass, and the entry's frame and protection are what comes of them.
  pub record Agrees (e : ℕ) : Type 0 where
    pub page : ℕ
    pub protects : ℕ
    pub passes : walked (host_word fr ws) n t px ≡ found page protects
    pub frame : number e ≡ get_or fr page 0
    pub same : protection e ≡ protects

  agrees_found : (e : ℕ) (g : Found) → Within n g → walked (host_word fr ws) n t px ≡ g → valid e ≡ true → e ≡ hosted fr g → Agrees e
  unfolding hosted
  agrees_found e (fault x) w p v q = absurd (false≢true (sym (fault_invalid x w) ∙ ap valid (sym q) ∙ v))
  agrees_found e (found k s) w p v q = record { page = k; protects = s; passes = p; frame = ap number q ∙ number_entry (get_or fr k 0) s w.1; same = ap protection q ∙ protection_entry (get_or fr k 0) s w.1 }

  module _ (e : ℕ) (v : valid e ≡ true) where
    -- A valid entry that is not stale agrees in frame and protection, and so does no stale one whose unused bits are 0.
    pub agrees_from : stale fr n t ws px e ≡ false → Agrees e
    agrees_from s = agrees_found e _ (walked_within (host_word fr ws) n t px) refl v (unfold given in stale_denied e s v)

    pub agrees_gives : e % 1024 ≡ 0 → Agrees e → stale fr n t ws px e ≡ false
    unfolding given hosted
    agrees_gives z a = not_stale e (λ _. rw a.passes (entry_parts e (eqb-true (e / 2 ^ 11 % 2) 1 v) z ∙ rw (a.frame, a.same)))

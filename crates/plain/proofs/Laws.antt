-- What is seen serves, and what a plain instruction asks for is done.
use Rattle.std.proofs.Common.{◌≡◌, ℕ, ◌+◌, ◌*◌, ◌/◌, ◌%◌, ◌≤◌, Bool, true, false, not, ◌&&◌, eqb, ltb, List, length, get_or, set, sym, refl, ap, ◌∙◌, subst, arith, ne_eqb}
use Rattle.std.specs.Prelude.{Option, Some, None}
use Rattle.std.specs.Option.{MatchOption}
use Rattle.dlx.specs.Choice.{when◌then◌else◌}
use Rattle.dlx.specs.Words.{plus}
use Rattle.dlx.specs.Fields.{aligned, width, brought, placed}
use Rattle.dlx.specs.Processor.{user, behind}
use Rattle.dlx.specs.Execute.{reached, written, loads, stores}
use Rattle.dlx.specs.Machine.{core, after_read, after_write, loaded, stored, accessed, request_of}
use Rattle.dlx.specs.Spells.{plainly, passed}
use Rattle.dlx.specs.declared.partition.Table.{Table}
use Rattle.dlx.specs.declared.partition.Timer.{Timer}
use Rattle.dlx.specs.declared.partition.Processor.{Processor}
use Rattle.dlx.specs.declared.execute.Change.TheVariants.{Plain}
use Rattle.dlx.specs.declared.execute.Effect.{Effect}
use Rattle.dlx.specs.declared.execute.Effect.TheVariants.{Done}
use Rattle.dlx.proofs.Tests.{by_test, and_left}
use Rattle.tickets.specs.Queues.{desk}
use Rattle.addresses.specs.Entries.{number, valid, protection}
use Rattle.addresses.specs.Memory.{host, looked, served, host_read, host_reads, host_written, host_writes, emptied, host_memory}
use Rattle.addresses.specs.Premises.{Placed, Shadowed}
use Rattle.translate.proofs.Served.{served_inside}
use Rattle.plain.specs.Plain.{seen_of, holds_of, held_of, pair_of, performed, Does}

pub not_true : (b : Bool) → not b ≡ true → b ≡ false
not_true true e = sym e
not_true false e = refl

pub not_false : (b : Bool) → not b ≡ false → b ≡ true
not_false true e = refl
not_false false e = sym e

-- what is said of each case of an option, said in other words
pub match_on : {A P P' : Type 0} {Q Q' : A → Type 0} (o : Option A) → MatchOption o P Q → (P → P') → ((x : A) → Q x → Q' x) → MatchOption o P' Q'
match_on None m f g = f m
match_on (Some x) m f g = g x m

-- what a test of the address says of its alignment
pub fits_left : (o a : ℕ) (r : Bool) → r ≡ (aligned (width o) a && ltb a 4194304) → not r ≡ false → aligned (width o) a ≡ true
fits_left o a r e n = and_left (aligned (width o) a) (ltb a 4194304) (sym e ∙ not_false r n)

-- ---- what is seen

module _ (fr : List ℕ) (n : ℕ) where
  pub seen_served : (t : Table) (ws sh : List ℕ) (u : Bool) (a : ℕ) → valid (seen_of fr n sh u a) ≡ true → served fr n (host t ws sh) u a ≡ (seen_of fr n sh u a, host t ws sh)
  unfolding seen_of served looked
  seen_served t ws sh true a v = simp v
  seen_served t ws sh false a v = refl

  pub seen_inside : (t : Table) (ws sh : List ℕ) (u : Bool) (a e : ℕ) → Placed fr n (length ws) → Shadowed fr n sh → e ≡ seen_of fr n sh u a → valid e ≡ true → number e * 1024 + 1024 ≤ length ws
  seen_inside t ws sh u a e p s q v =
      let g : valid (seen_of fr n sh u a) ≡ true = subst (λ x. valid x ≡ true) q v in
      rw q (served_inside fr n (host t ws sh) (host t ws sh) u a p s (sym (seen_served t ws sh u a g)) g)

-- ---- a load and a store that need no walk

-- another frame than the one that holds the table
pub not_held : (fr : List ℕ) (n : ℕ) (t : Table) (f h : ℕ) → h ≡ held_of fr n t → (f ≡ h → ⊥) → false ≡ holds_of fr n t f
unfolding holds_of held_of
not_held fr n t f h e d =
    by_test (ltb t.pto n)
    (λ b. let x : h ≡ get_or fr t.pto 0 = e ∙ simp b in let y : eqb (get_or fr t.pto 0) f ≡ false = ne_eqb _ _ (λ q. d (sym (x ∙ q))) in simp (b, y))
    (λ b. simp b)

-- a store into a frame that does not hold the table empties nothing
emptied_none : (fr : List ℕ) (n : ℕ) (t : Table) (f off : ℕ) (sh : List ℕ) → holds_of fr n t f ≡ false → emptied fr n t f off sh ≡ sh
unfolding emptied holds_of
emptied_none fr n t f off sh q =
    by_test (ltb t.pto n)
    (λ e. let x : eqb (get_or fr t.pto 0) f ≡ false = simp e at q in simp (e, x))
    (λ e. simp e)

module _ (fr : List ℕ) (n : ℕ) (p : Processor) (t : Table) (page y : ℕ) where
  shift : (z : ℕ) → plus (plus y z) page ≡ plus (plus y page) z
  shift z = omega arith

  module _ (regs ws sh : List ℕ) (o x imm a e : ℕ) (sum : a ≡ plus x imm) (fits : true ≡ aligned (width o) a) (seen : e ≡ seen_of fr n sh (user p) a) (good : valid e ≡ true) where
    goods : valid (seen_of fr n sh (user p) a) ≡ true
    goods = subst (λ z. valid z ≡ true) seen good

    pub load_does : (d w v y' : ℕ) (regs' : List ℕ) → w ≡ get_or ws (number e * 1024 + a / 4 % 1024) 0 → v ≡ brought o a w → regs' ≡ written regs d v → y' ≡ plus y 4 → Does fr n p t page y y' regs regs' ws ws sh (λ _ _. loads o d x imm)
    unfolding performed loads reached accessed loaded after_read passed plainly request_of desk host_reads host_read
    load_does d w v y' regs' b c r g dpc latest count i k q =
        simp (← sum, ← fits, seen_served fr n t ws sh (user p) a goods, goods, g, shift 4, r, c, b, seen)

    pub store_does : (v y' i : ℕ) (ws' : List ℕ) → eqb (protection e) 1 ≡ false → false ≡ holds_of fr n t (number e) → i ≡ number e * 1024 + a / 4 % 1024 → ws' ≡ set ws i (placed o a v (get_or ws i 0)) → y' ≡ plus y 4 → Does fr n p t page y y' regs regs ws ws' sh (λ _ _. stores o v x imm)
    unfolding performed stores reached accessed stored after_write passed plainly request_of desk host_writes host_written written
    store_does v y' i ws' pr h j w g dpc latest count i' k q =
        simp (← sum, ← fits, seen_served fr n t ws sh (user p) a goods, goods, subst (λ z. eqb (protection z) 1 ≡ false) seen pr, emptied_none fr n t (number (seen_of fr n sh (user p) a)) (a / 4 % 1024) sh (subst (λ z. holds_of fr n t (number z) ≡ false) seen (sym h)), g, shift 4, w, j, seen)

  -- ---- what a word asks for that is done at once

  pub plain_does : (regs regs' ws sh : List ℕ) (d v y' : ℕ) (g : Processor → ℕ) (e : Timer → Processor → Effect) → ((dpc : ℕ) (k : Timer) → e k (pair_of p dpc (plus y page)) ≡ Done (Plain d v (g (pair_of p dpc (plus y page))))) → regs' ≡ written regs d v → ((dpc : ℕ) → plus y' page ≡ g (pair_of p dpc (plus y page))) → Does fr n p t page y y' regs regs' ws ws sh e
  unfolding performed accessed passed plainly request_of desk
  plain_does regs regs' ws sh d v y' g e a r b dpc latest count i k q = simp (a dpc k, r, b dpc)

  -- to PC + 4
  pub next_does : (regs regs' ws sh : List ℕ) (d v y' : ℕ) (e : Timer → Processor → Effect) → ((dpc : ℕ) (k : Timer) → e k (pair_of p dpc (plus y page)) ≡ Done (Plain d v (behind (pair_of p dpc (plus y page))))) → regs' ≡ written regs d v → y' ≡ plus y 4 → Does fr n p t page y y' regs regs' ws ws sh e
  next_does regs regs' ws sh d v y' e a r b = plain_does regs regs' ws sh d v y' (λ c. behind c) e a r (λ _. ap (λ (z : ℕ). plus z page) b ∙ shift 4)

  pub shifts : (z y' : ℕ) → y' ≡ plus y z → plus y' page ≡ plus (plus y page) z
  shifts z y' b = ap (λ (j : ℕ). plus j page) b ∙ shift z

  -- a branch
  pub lands : (b : Bool) (i near next y' : ℕ) → near ≡ plus y i → next ≡ plus y 4 → y' ≡ (when b then near else next) → plus y' page ≡ (when b then plus (plus y page) i else plus (plus y page) 4)
  lands true i near next y' e f g = shifts i y' (g ∙ e)
  lands false i near next y' e f g = shifts 4 y' (g ∙ f)

  pub lands_not : (b : Bool) (i near next y' : ℕ) → near ≡ plus y i → next ≡ plus y 4 → y' ≡ (when b then next else near) → plus y' page ≡ (when b then plus (plus y page) 4 else plus (plus y page) i)
  lands_not true i near next y' e f g = shifts 4 y' (g ∙ f)
  lands_not false i near next y' e f g = shifts i y' (g ∙ e)

  -- the same asked for in other words
  pub does_same : (y' : ℕ) (regs regs' ws ws' sh : List ℕ) (e e' : Timer → Processor → Effect) → ((dpc : ℕ) (k : Timer) → e k (pair_of p dpc (plus y page)) ≡ e' k (pair_of p dpc (plus y page))) → Does fr n p t page y y' regs regs' ws ws' sh e → Does fr n p t page y y' regs regs' ws ws' sh e'
  does_same y' regs regs' ws ws' sh e e' s d dpc latest count i k q =
      d dpc latest count i k q
      ∙ ap (λ (z : Effect). performed (host_memory fr n) (desk count i) (core (pair_of p dpc (plus y page)) regs latest k) z (host t ws sh) q) (s dpc k)

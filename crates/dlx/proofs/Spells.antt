-- A stretch is its first spell, and what is behind it.
use Prim.{Unit}
use Rattle.std.specs.Prelude.{Result, Ok, Err}
use mathlib.Core.Path.{◌≡◌, refl, sym, ap, subst, ◌∙◌}
use mathlib.Core.Bool.{Bool, true, false}
use Prim.Native.Nat.{ℕ, zero, suc, ◌+◌, ◌-◌, ◌<◌, ◌≤◌}
use native.Mathlib.Nat.{sub-zero}
use native.Mathlib.Omega.{arith}
use borrow.Author.Tests.{ne_eqb}
use lib.Dec.{eqb}
use lib.ListN.{length}
use Rattle.dlx.specs.Choice.{when◌then◌else◌}
use Rattle.dlx.specs.Fields.{aligned, placed}
use Rattle.dlx.specs.Processor.{user}
use Rattle.dlx.specs.Timer.{ticked, raised}
use Rattle.dlx.specs.Machine.{Reply, Ops, Core, Outcome, outcome, after_read, after_write, fetched, accessed, left, changed, settled, retabled, step, request_of, asked, Desk, Stretch, stretch_from, Places}
use Rattle.dlx.specs.Spells.{sunk, timed, plainly, passed, ended, Spell, spell, passed_at, spell_from, leg_at}
use Rattle.dlx.specs.declared.partition.Timer.{Timer}
use Rattle.dlx.specs.declared.execute.Change.{Change}
use Rattle.dlx.specs.declared.execute.Change.TheVariants.{Plain, Special, Retable, Cause, Return}
use Rattle.dlx.specs.declared.execute.Effect.{Effect}
use Rattle.dlx.specs.declared.execute.Effect.TheVariants.{Done, Load, Store, Send, Take}
use Rattle.dlx.proofs.Kept.{either}
use Rattle.dlx.proofs.Places.{fetched_places, accessed_places, written_count, fetched_count, accessed_count}

-- in n steps the timer reaches 0 at the last one, if at all
abbrev pub Within : Timer → ℕ → Type 0
Within k n = 0 < k.tcount → n ≤ k.tcount

-- ---- fetch and access leave the timer alone

after_read_timer : (c : Core) (x : Result ℕ ℕ) → (after_read c x).timer ≡ c.timer
unfolding after_read
after_read_timer c (Err n) = refl
after_read_timer c (Ok w) = refl

after_write_timer : (c : Core) (x : Result (Unit {0}) ℕ) → (after_write c x).timer ≡ c.timer
unfolding after_write
after_write_timer c (Err n) = refl
after_write_timer c (Ok u) = refl

module _ {S : Type 0} (O : Ops S) where
  fetched_timer : (c : Core) (s : S) → (fetched O (c, s)).0.1.timer ≡ c.timer
  unfolding fetched
  fetched_timer c s =
      either (λ (g : (Effect × Core) × S). g.0.1.timer ≡ c.timer) (aligned 32 c.processor.dpc) (λ _. after_read_timer c _) (λ _. refl)

  accessed_timer : (y : Reply) (c : Core) (e : Effect) (s : S) → (accessed O y c e s).0.1.timer ≡ c.timer
  unfolding accessed
  accessed_timer y c (Done x) s = refl
  accessed_timer y c (Load d a o) s = after_read_timer c _
  accessed_timer y c (Store o a v) s = after_write_timer c _
  accessed_timer y c (Send v to) s = refl
  accessed_timer y c Take s = refl

-- ---- a timer that stands still

pub still_ticked : (k : Timer) → k.tcount ≡ 0 → ticked k ≡ k
unfolding ticked
still_ticked k e =
    let f : (when eqb k.tcount 1 then k.tload else k.tcount - 1) ≡ k.tcount = simp e in
    ap (λ (n : ℕ). record { tcount = n; tload = k.tload }) f

pub still_raised : (k : Timer) (sr : ℕ) → k.tcount ≡ 0 → raised k sr ≡ 0
unfolding raised
still_raised k sr e = simp e

-- ---- a step that is plain, or ends its spell

-- where the timer reaches no 0 it sinks, and nothing else comes of it
unmoved : (c : Core) (d v target : ℕ) → (c.timer.tcount ≡ 1 → ⊥) → settled c (Plain d v target) ≡ outcome (let b = passed c (Plain d v target) in timed b (sunk b.timer 1)) false
unfolding settled changed left raised ticked passed
unmoved c d v target h = simp (ne_eqb _ _ h)

-- the last of a spell
final : (c : Core) (d v target : ℕ) → settled c (Plain d v target) ≡ ended (passed c (Plain d v target)) (Plain 0 0 0)
unfolding settled changed ended passed
final c d v target = refl

-- ---- what a spell leaves names registers that exist, and there are as many

passed_count : (c : Core) (x : Change) → length (passed c x).registers ≡ length c.registers
unfolding passed
passed_count c (Plain d v target) = written_count c.registers d v
passed_count c (Special n v) = refl
passed_count c (Retable t) = refl
passed_count c (Cause causes datum) = refl
passed_count c Return = refl

module _ {S T : Type 0} (O : Ops S) (D : Desk T) where
  passed_places : (m : Core × S) (t : T) → Places (passed_at O D m t).0.0.0 × (length (passed_at O D m t).0.0.1.registers ≡ length m.0.registers)
  unfolding passed_at
  passed_places m t =
      let f = fetched O m in (
        accessed_places O _ f.0.1 f.0.0 f.1 (fetched_places O m.0 m.1),
        passed_count _ _ ∙ accessed_count O _ f.0.1 f.0.0 f.1 ∙ fetched_count O m.0 m.1,
      )

  abbrev Named : ℕ → Spell S T → Type 0
  Named n p = Places p.change × (length p.core.registers ≡ n)

  pub spell_places : (k made : ℕ) (m : Core × S) (t : T) → Named (length m.0.registers) (spell_from O D k made m t)
  unfolding spell_from
  spell_places zero made m t = (omega arith, refl)
  spell_places (suc k) made m t =
      let g = passed_at O D m t in
      let c = g.0.0.1 in
      let n = passed_places m t in
      let h = spell_places k (suc made) (timed c (sunk c.timer 1), g.0.1) g.1 in
      either (Named (length m.0.registers)) (plainly g.0.0.0) (λ _. (h.0, h.1 ∙ n.1)) (λ _. n)

-- ---- how many steps a spell makes

module _ {S T : Type 0} (O : Ops S) (D : Desk T) where
  abbrev Most : ℕ → ℕ → Spell S T → Type 0
  Most k made p = (made ≤ p.made) × (p.made ≤ made + k)

  spell_most : (k made : ℕ) (m : Core × S) (t : T) → Most k made (spell_from O D k made m t)
  unfolding spell_from
  spell_most zero made m t = (omega arith, omega arith)
  spell_most (suc k) made m t =
      let g = passed_at O D m t in
      let c = g.0.0.1 in
      let h = spell_most k (suc made) (timed c (sunk c.timer 1), g.0.1) g.1 in
      either (Most (suc k) made) (plainly g.0.0.0) (λ _. (omega (arith, h.0), omega (arith, h.1))) (λ _. (omega arith, omega arith))

  pub spell_some : (k made : ℕ) (m : Core × S) (t : T) → 0 < k → (made < (spell_from O D k made m t).made) × ((spell_from O D k made m t).made ≤ made + k)
  unfolding spell_from
  spell_some zero made m t l = absurd (omega (arith, l))
  spell_some (suc k) made m t l =
      let g = passed_at O D m t in
      let c = g.0.0.1 in
      let h = spell_most k (suc made) (timed c (sunk c.timer 1), g.0.1) g.1 in
      either (λ (p : Spell S T). (made < p.made) × (p.made ≤ made + suc k)) (plainly g.0.0.0) (λ _. (omega (arith, h.0), omega (arith, h.1))) (λ _. (omega arith, omega arith))

  -- ---- the law

  -- what a step comes to, within a stretch of which n steps more are to make
  abbrev on : ℕ → ℕ → Outcome → S → T → Stretch S T
  on n made o s t =
      when o.calls then record { made = made; called = true; core = o.core; memory = s; desk = t } else stretch_from O D n made (o.core, s) t

  -- behind a spell that began after so many steps with the timer k
  abbrev resumed : ℕ → ℕ → Timer → Spell S T → Stretch S T
  resumed total before k p =
      on (total - p.made) p.made (ended (timed p.core (sunk k (p.made - before - 1))) p.change) (retabled O p.change p.memory) p.desk

  resumed_as : (total before n : ℕ) (k : Timer) (p : Spell S T) (c : Core) → timed p.core (sunk k (p.made - before - 1)) ≡ c → total - p.made ≡ n
      → resumed total before k p ≡ on n p.made (ended c p.change) (retabled O p.change p.memory) p.desk
  resumed_as total before n k p c e f = simp (e, f)

  first : (made : ℕ) (k : Timer) → sunk k (suc made - made - 1) ≡ k
  first made k = let e : suc made - made - 1 ≡ 0 = omega arith in simp (e, sub-zero)

  less : (x a b : ℕ) → b ≡ suc a → x - 1 - a ≡ x - b
  less x a b e = omega (arith, e)

  -- the timer before the last of the steps that a spell made
  deeper : (k : Timer) (made n : ℕ) → suc made < n → sunk (sunk k 1) (n - suc made - 1) ≡ sunk k (n - made - 1)
  deeper k made n l =
      ap (λ (x : ℕ). record { tcount = x; tload = k.tload }) (less k.tcount (n - suc made - 1) (n - made - 1) (omega (arith, l)))

  abbrev Law : ℕ → ℕ → Type 0
  Law k r = (made : ℕ) (c : Core) (s : S) (t : T) → 0 < k → Within c.timer k
      → stretch_from O D (k + r) made (c, s) t ≡ resumed (k + r + made) made c.timer (spell_from O D k made (c, s) t)

  -- a change behind fetch and access, the timer as before
  module _ (r made : ℕ) (k₀ : Timer) (c : Core) (s : S) (t : T) (same : c.timer ≡ k₀) where
    abbrev behind : ℕ → Change → Spell S T
    behind k x =
        let b = passed c x in
        when plainly x then spell_from O D k (suc made) (timed b (sunk b.timer 1), s) t else spell (suc made) x b s t

    ending : (k : ℕ) (x : Change) → resumed (suc k + r + made) made k₀ (spell (suc made) x c s t) ≡ on (k + r) (suc made) (ended c x) (retabled O x s) t
    ending k x = resumed_as _ _ _ _ (spell (suc made) x c s t) c (ap (λ (j : Timer). timed c j) (first made k₀ ∙ sym same)) (omega arith)

    final_core : (d v target : ℕ) → (let b = passed c (Plain d v target) in timed (timed b (sunk b.timer 1)) (sunk k₀ (suc made - made - 1)) ≡ b)
    unfolding passed
    final_core d v target = let b = passed c (Plain d v target) in ap (λ (j : Timer). timed b j) (first made k₀ ∙ sym same)

    shifted : (total : ℕ) (p : Spell S T) (k : Timer) → sunk k (p.made - suc made - 1) ≡ sunk k₀ (p.made - made - 1) → resumed total (suc made) k p ≡ resumed total made k₀ p
    shifted total p k e =
        resumed_as _ _ _ _ p (timed p.core (sunk k₀ (p.made - made - 1))) (ap (λ (j : Timer). timed p.core j) e) refl
        ∙ sym (resumed_as _ _ _ _ p _ refl refl)

    last : (d v target : ℕ) → on (0 + r) (suc made) (settled c (Plain d v target)) (retabled O (Plain d v target) s) t ≡ resumed (1 + r + made) made k₀ (behind 0 (Plain d v target))
    unfolding plainly spell_from retabled
    last d v target =
        ap (λ (o : Outcome). on (0 + r) (suc made) o s t) (final c d v target)
        ∙ sym (resumed_as _ _ (0 + r) _ (behind 0 (Plain d v target)) (passed c (Plain d v target)) (final_core d v target) (omega arith))

    further : (k d v target : ℕ) → Within k₀ (suc (suc k)) → Law (suc k) r → on (suc k + r) (suc made) (settled c (Plain d v target)) (retabled O (Plain d v target) s) t ≡ resumed (suc (suc k) + r + made) made k₀ (behind (suc k) (Plain d v target))
    unfolding plainly retabled passed
    further k d v target w h =
        let b = passed c (Plain d v target) in
        let a = timed b (sunk b.timer 1) in
        let p = spell_from O D (suc k) (suc made) (a, s) t in
        let e : suc k + r + suc made ≡ suc (suc k) + r + made = omega arith in
        ap (λ (o : Outcome). on (suc k + r) (suc made) o s t) (unmoved c d v target (subst (λ (j : Timer). j.tcount ≡ 1 → ⊥) (sym same) λ q. omega (arith, q, w (omega (arith, q)))))
        ∙ h (suc made) a s t (omega arith) (subst (λ (j : Timer). Within (sunk j 1) (suc k)) (sym same) λ q. omega (arith, q, w (omega (arith, q))))
        ∙ ap (λ (n : ℕ). resumed n (suc made) (sunk b.timer 1) p) e
        ∙ shifted _ p _ (subst (λ (j : Timer). sunk (sunk j 1) (p.made - suc made - 1) ≡ sunk k₀ (p.made - made - 1)) (sym same) (deeper k₀ made p.made (spell_some (suc k) (suc made) (a, s) t (omega arith)).0))

    one : (k : ℕ) (x : Change) → Within k₀ (suc k) → Law k r → on (k + r) (suc made) (settled c x) (retabled O x s) t ≡ resumed (suc k + r + made) made k₀ (behind k x)
    unfolding plainly passed ended
    one k (Special n v) w h = sym (ending k (Special n v))
    one k (Retable u) w h = sym (ending k (Retable u))
    one k (Cause causes datum) w h = sym (ending k (Cause causes datum))
    one k Return w h = sym (ending k Return)
    one zero (Plain d v target) w h = last d v target
    one (suc k) (Plain d v target) w h = further k d v target w h

  -- a stretch is its first spell, and what is behind it
  pub spell_stretch : (k r : ℕ) → Law k r
  unfolding stretch_from spell_from passed_at step asked
  spell_stretch zero r made c s t l w = absurd (omega (arith, l))
  spell_stretch (suc k) r made c s t l w =
      let f = fetched O (c, s) in
      let e : suc k + r ≡ suc (k + r) = omega arith in
      ap (λ (n : ℕ). stretch_from O D n made (c, s) t) e
      ∙ one r made c.timer _ _ _ (accessed_timer O (D t (request_of f.0.0)).0 f.0.1 f.0.0 f.1 ∙ fetched_timer O c s) k _ w (spell_stretch k r)

  -- ---- counted from 0

  abbrev shift : ℕ → Spell S T → Spell S T
  shift b p = spell (b + p.made) p.change p.core p.memory p.desk

  branch : (b : ℕ) (q : Bool) {x y : Spell S T} (x' y' : Spell S T) → x ≡ shift b x' → y ≡ shift b y' → (when q then x else y) ≡ shift b (when q then x' else y')
  branch b true x' y' e f = e
  branch b false x' y' e f = f

  shifting : (b k made : ℕ) (m : Core × S) (t : T) → spell_from O D k (b + made) m t ≡ shift b (spell_from O D k made m t)
  unfolding spell_from
  shifting b zero made m t = refl
  shifting b (suc k) made m t =
      let g = passed_at O D m t in
      let c = g.0.0.1 in
      let n : Core × S = (timed c (sunk c.timer 1), g.0.1) in
      let e : suc (b + made) ≡ b + suc made = omega arith in
      branch b (plainly g.0.0.0) (spell_from O D k (suc made) n g.1) (spell (suc made) g.0.0.0 c g.0.1 g.1)
      (ap (λ (i : ℕ). spell_from O D k i n g.1) e ∙ shifting b k (suc made) n g.1)
      (ap (λ (i : ℕ). spell i g.0.0.0 c g.0.1 g.1) e)

  -- a stretch of which so many steps are made: its first leg, of up to n of the n + r to make, and what is behind it
  pub leg_stretch : (n r made : ℕ) (c : Core) (s : S) (t : T) → 0 < n → Within c.timer n
      → (let g = leg_at O D n (c, s) t in stretch_from O D (n + r) made (c, s) t ≡ on (n + r - g.made) (made + g.made) g.outcome g.memory g.desk)
  leg_stretch n r made c s t l w =
      let p = spell_from O D n 0 (c, s) t in
      let e : made ≡ made + 0 = omega arith in
      let f : made + p.made - made - 1 ≡ p.made - 1 = omega arith in
      spell_stretch n r made c s t l w
      ∙ ap (λ (q : Spell S T). resumed (n + r + made) made c.timer q) (ap (λ (i : ℕ). spell_from O D n i (c, s) t) e ∙ shifting made n 0 (c, s) t)
      ∙ resumed_as _ _ _ _ (shift made p) _ (ap (λ (i : ℕ). timed p.core (sunk c.timer i)) f) (omega arith)

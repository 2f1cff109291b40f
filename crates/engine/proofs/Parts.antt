-- A stretch put together from its parts, and what each part hands on to the next. Each part's answer is a variable here, so that the code's proofs
-- only hand their equations over.
use Rattle.std.specs.Prelude.{Result, Ok}
use Rattle.std.proofs.Common.{◌≡◌, ℕ, suc, ◌+◌, ◌-◌, ◌<◌, ◌≤◌, Bool, true, false, not, eqb, ltb, List, length, sym, refl, ap, ◌∙◌, subst, arith, ltb-false, ltb-true, eqb-true}
use native.Mathlib.Nat.{sub-zero}
use borrow.Author.Tests.{eqb-false}
use Rattle.dlx.specs.Choice.{when◌then◌else◌}
use Rattle.dlx.specs.Fields.{brought}
use Rattle.dlx.specs.Processor.{user, behind}
use Rattle.dlx.specs.Machine.{Ops, Core, core, Outcome, outcome, step, asked, step_at, settled, changed, fetched, after_read, accessed, loaded, retabled, request_of, nothing, Desk, accessed_at, Stretch, stretch_from, Places, Asks}
use Rattle.dlx.specs.Spells.{sunk, timed, passed, ended, spell, passed_at, spell_from, Leg, leg_at}
use Rattle.dlx.specs.declared.partition.Processor.{Processor}
use Rattle.dlx.specs.declared.partition.Timer.{Timer}
use Rattle.dlx.specs.declared.execute.Change.{Change}
use Rattle.dlx.specs.declared.execute.Change.TheVariants.{Plain, Special, Retable, Cause, Return}
use Rattle.dlx.specs.declared.execute.Effect.{Effect}
use Rattle.dlx.specs.declared.execute.Effect.TheVariants.{Done, Load}
use Rattle.dlx.proofs.Kept.{either}
use Rattle.dlx.proofs.Places.{fetched_places, accessed_places, accessed_count}
use Rattle.dlx.proofs.Spells.{Within, spell_some, leg_stretch}
use Rattle.tickets.specs.Queues.{Queues, Seated, desk}
use Rattle.tickets.proofs.Queues.{desk_queued}
use Rattle.addresses.specs.Memory.{Host, host_reads, host_memory}
use Rattle.addresses.proofs.Steps.{Whole, fetched_whole, accessed_whole, retabled_whole}
use Rattle.engine.specs.Answers.{room_of}

-- a step of a spell
module _ {S T : Type 0} (O : Ops S) (D : Desk T) where
  pub passed_is : (c c₁ c₂ c₃ : Core) (s s₁ s₂ : S) (q q₁ : T) (e : Effect) (x : Change) → ((e, c₁), s₁) ≡ fetched O (c, s) → (((x, c₂), s₂), q₁) ≡ accessed_at O D c₁ e s₁ q → c₃ ≡ passed c₂ x → (((x, c₃), s₂), q₁) ≡ passed_at O D (c, s) q
  unfolding passed_at
  passed_is c c₁ c₂ c₃ s s₁ s₂ q q₁ e x f a p =
      ap (λ (b : Core). (((x, b), s₂), q₁)) p
      ∙ ap (λ (g : ((Change × Core) × S) × T). (((g.0.0.0, passed g.0.0.1 g.0.0.0), g.0.1), g.1)) a
      ∙ ap (λ (f : (Effect × Core) × S). let g = accessed_at O D f.0.1 f.0.0 f.1 q in (((g.0.0.0, passed g.0.0.1 g.0.0.0), g.0.1), g.1)) f

  -- a spell and its end
  pub leg_is : (n made : ℕ) (c c₁ : Core) (s s₁ s₂ : S) (q q₁ : T) (x : Change) (o : Outcome) (b : Timer) → spell made x c₁ s₁ q₁ ≡ spell_from O D n 0 (c, s) q → b ≡ sunk c.timer (made - 1) → o ≡ ended (timed c₁ b) x → s₂ ≡ retabled O x s₁ → record { made = made; outcome = o; memory = s₂; desk = q₁ } ≡ leg_at O D n (c, s) q
  leg_is n made c c₁ s s₁ s₂ q q₁ x o b p t e r = simp (← p, e, r, t)

-- a step is the step of a spell, and its end
settled_passed : (c : Core) (x : Change) → settled c x ≡ ended (passed c x) x
unfolding settled changed ended passed
settled_passed c (Plain d v target) = refl
settled_passed c (Special n v) = refl
settled_passed c (Retable t) = refl
settled_passed c (Cause causes datum) = refl
settled_passed c Return = refl

module _ {S T : Type 0} (O : Ops S) (D : Desk T) where
  pub step_is : (c c₁ : Core) (s s₁ s₂ : S) (q q₁ : T) (x : Change) (o : Outcome) → (((x, c₁), s₁), q₁) ≡ passed_at O D (c, s) q → o ≡ ended c₁ x → s₂ ≡ retabled O x s₁ → ((o, s₂), q₁) ≡ step_at O D (c, s) q
  unfolding passed_at step asked
  step_is c c₁ s s₁ s₂ q q₁ x o p e r =
      let f = fetched O (c, s) in
      let g = accessed_at O D f.0.1 f.0.0 f.1 q in
      ap (λ (y : Outcome). ((y, s₂), q₁)) e
      ∙ ap (λ (y : S). ((ended c₁ x, y), q₁)) r
      ∙ ap (λ (z : ((Change × Core) × S) × T). ((ended z.0.0.1 z.0.0.0, retabled O z.0.0.0 z.0.1), z.1)) p
      ∙ ap (λ (y : Outcome). ((y, retabled O g.0.0.0 g.0.1), g.1)) (sym (settled_passed g.0.0.1 g.0.0.0))

  -- the first step of a stretch
  pub stretch_step : (rest made : ℕ) (c : Core) (s s' : S) (q q' : T) (o : Outcome) → 0 < rest → ((o, s'), q') ≡ step_at O D (c, s) q → stretch_from O D rest made (c, s) q ≡ (when o.calls then record { made = suc made; called = true; core = o.core; memory = s'; desk = q' } else stretch_from O D (rest - 1) (suc made) (o.core, s') q')
  unfolding stretch_from
  stretch_step rest made c s s' q q' o l w =
      let e : rest ≡ suc (rest - 1) = omega arith in
      ap (λ (j : ℕ). stretch_from O D j made (c, s) q) e
      ∙ ap (λ (z : (Outcome × S) × T). when z.0.0.calls then record { made = suc made; called = true; core = z.0.0.core; memory = z.0.1; desk = z.1 } else stretch_from O D (rest - 1) (suc made) (z.0.0.core, z.0.1) z.1) (sym w)

  -- a step that asks for nothing
  pub step_done : (c : Core) (s : S) (q : T) (x : Change) (o : Outcome) → fetched O (c, s) ≡ ((Done x, c), s) → settled c x ≡ o → retabled O x s ≡ s → ((y : T) → (D y nothing).1 ≡ y) → ((o, s), q) ≡ step_at O D (c, s) q
  unfolding step asked accessed request_of
  step_done c s q x o f e r d = sym (simp (f, e, r, d))

-- a load that finds a word
pub load_is : (fr : List ℕ) (n count i : ℕ) (p : Processor) (r : List ℕ) (l : ℕ) (h h₁ : Host) (q : Queues) (e : Effect) (x : Result ℕ ℕ) (d a o w v next : ℕ) → e ≡ Load d a o → (x, h₁) ≡ host_reads fr n h (user p) a → x ≡ Ok w → v ≡ brought o a w → next ≡ behind p → (k : Timer) → (((Plain d v next, core p r l k), h₁), q) ≡ accessed_at (host_memory fr n) (desk count i) (core p r l k) e h q
unfolding accessed loaded after_read request_of desk
load_is fr n count i p r l h h₁ q e x d a o w v next f g k b t m = simp (f, ← g, k, b, t)

module _ (fr : List ℕ) (n size count i : ℕ) where
  pub after_fetch : (c c₁ : Core) (h h₁ : Host) (e : Effect) → Whole fr n size h → ((e, c₁), h₁) ≡ fetched (host_memory fr n) (c, h) → Whole fr n size h₁ × Asks e
  after_fetch c c₁ h h₁ e w f =
      subst (λ (g : (Effect × Core) × Host). Whole fr n size g.1 × Asks g.0.0) (sym f)
      (fetched_whole fr n size c h w, fetched_places (host_memory fr n) c h)

  pub after_access : (c c₁ : Core) (h h₂ : Host) (q q₁ : Queues) (e : Effect) (x : Change) → length c.registers ≡ 32 → Whole fr n size h × Asks e → (((x, c₁), h₂), q₁) ≡ accessed_at (host_memory fr n) (desk count i) c e h q → (length c₁.registers ≡ 32) × Places x
  after_access c c₁ h h₂ q q₁ e x l w a =
      subst (λ (g : ((Change × Core) × Host) × Queues). (length g.0.0.1.registers ≡ 32) × Places g.0.0.0) (sym a)
      (accessed_count (host_memory fr n) _ c e h ∙ l, accessed_places (host_memory fr n) _ c e h w.1)

  -- a step leaves a whole memory and seated queues
  pub after_step : (c : Core) (h h' : Host) (q q' : Queues) (o : Outcome) → Whole fr n size h → Seated count i q → ((o, h'), q') ≡ step_at (host_memory fr n) (desk count i) (c, h) q → Whole fr n size h' × Seated count i q'
  unfolding step asked
  after_step c h h' q q' o w k s =
      subst (λ (g : (Outcome × Host) × Queues). Whole fr n size g.0.1 × Seated count i g.1) (sym s)
      (retabled_whole fr n size _ _ (accessed_whole fr n size _ _ _ _ (fetched_whole fr n size c h w)), record { queued = desk_queued count i q k.queued k.few k.small _; few = k.few; small = k.small })

  -- what a step of a spell gives its end
  pub after_passed : (c c' : Core) (h h' : Host) (q q' : Queues) (x : Change) → Whole fr n size h → (((x, c'), h'), q') ≡ passed_at (host_memory fr n) (desk count i) (c, h) q → Whole fr n size h' × Places x
  unfolding passed_at
  after_passed c c' h h' q q' x w s =
      subst (λ (g : ((Change × Core) × Host) × Queues). Whole fr n size g.0.1 × Places g.0.0.0) (sym s)
      (accessed_whole fr n size _ _ _ _ (fetched_whole fr n size c h w), accessed_places (host_memory fr n) _ _ _ _ (fetched_places (host_memory fr n) c h))

-- how many steps a leg makes
pub leg_made : {S T : Type 0} (O : Ops S) (D : Desk T) (k made : ℕ) (c : Core) (s s' : S) (q q' : T) (o : Outcome) → 0 < k → record { made = made; outcome = o; memory = s'; desk = q' } ≡ leg_at O D k (c, s) q → (0 < made) × (made ≤ k)
leg_made {S = S} {T = T} O D k made c s s' q q' o l e =
    subst (λ (g : Leg S T). (0 < g.made) × (g.made ≤ k)) (sym e)
    (let h = spell_some O D k 0 (c, s) q l in (h.0, omega (arith, h.1)))

-- ---- a leg's room

abbrev pub Roomy : Timer → ℕ → ℕ → Type 0
Roomy k rest n = (0 < n) × (n ≤ rest) × Within k n

room_fits : (k : Timer) (rest : ℕ) → 0 < rest → Roomy k rest (room_of k rest)
unfolding room_of
room_fits k rest l =
    either (Roomy k rest) (eqb k.tcount 0) (λ e. let z = eqb-true k.tcount 0 e in (l, omega arith, λ h. omega (arith, h, z))) λ e.
    either (Roomy k rest) (ltb rest k.tcount) (λ f. let y = ltb-true rest k.tcount f in (l, omega arith, λ h. omega (arith, y))) λ f.
    let y = ltb-false rest k.tcount f in
    let z = eqb-false k.tcount 0 e in
    (omega (arith, z), omega (arith, y), λ h. omega arith)

pub room_is : (k : Timer) (rest n : ℕ) → 0 < rest → n ≡ room_of k rest → Roomy k rest n
room_is k rest n l e = subst (Roomy k rest) (sym e) (room_fits k rest l)

pub not_true : (b : Bool) → not b ≡ true → b ≡ false
not_true true e = sym e
not_true false e = refl

-- ---- a stretch, leg by leg

-- rest of n steps are still to make
module _ {S T : Type 0} (O : Ops S) (D : Desk T) (n rest : ℕ) (c : Core) (s : S) (q : T) where
  pub stretch_done : rest ≤ 0 → record { made = n; called = false; core = c; memory = s; desk = q } ≡ stretch_from O D rest (n - rest) (c, s) q
  unfolding stretch_from
  stretch_done h = let e : rest ≡ 0 = omega arith in simp (e, sub-zero)

  module _ (k made : ℕ) (c' : Core) (s' : S) (q' : T) (b : Bool) (room : Roomy c.timer rest k) (most : rest ≤ n) (walked : record { made = made; outcome = outcome c' b; memory = s'; desk = q' } ≡ leg_at O D k (c, s) q) where
    steps : (0 < made) × (made ≤ k)
    steps = leg_made O D k made c s s' q q' (outcome c' b) room.0 walked

    abbrev next : Stretch S T
    next =
        when b then record { made = n - (rest - made); called = true; core = c'; memory = s'; desk = q' }
        else stretch_from O D (rest - made) (n - (rest - made)) (c', s') q'

    ahead : stretch_from O D rest (n - rest) (c, s) q ≡ next
    ahead =
        let e : rest ≡ k + (rest - k) = omega (arith, room.1) in
        let f : k + (rest - k) - made ≡ rest - made = omega (arith, room.1) in
        let g : n - rest + made ≡ n - (rest - made) = omega (arith, room.1, steps.1, most) in
        let h = leg_stretch O D k (rest - k) (n - rest) c s q room.0 room.2 in
        ap (λ (j : ℕ). stretch_from O D j (n - rest) (c, s) q) e
        ∙ h
        ∙ ap (λ (l : Leg S T). when l.outcome.calls then record { made = n - rest + l.made; called = true; core = l.outcome.core; memory = l.memory; desk = l.desk } else stretch_from O D (k + (rest - k) - l.made) (n - rest + l.made) (l.outcome.core, l.memory) l.desk) (sym walked)
        ∙ simp (f, g)

    pub stretch_called : b ≡ true → record { made = n - (rest - made); called = true; core = c'; memory = s'; desk = q' } ≡ stretch_from O D rest (n - rest) (c, s) q
    stretch_called t = sym (ahead ∙ simp t)

    pub stretch_on : b ≡ false → stretch_from O D (rest - made) (n - (rest - made)) (c', s') q' ≡ stretch_from O D rest (n - rest) (c, s) q
    stretch_on t = sym (ahead ∙ simp t)

-- ---- a stretch, step by step, rest of n steps still to make

module _ {S T : Type 0} (O : Ops S) (D : Desk T) (n rest : ℕ) (c : Core) (s s' : S) (q q' : T) (o : Outcome) (some : 0 < rest) (most : rest ≤ n) (walked : ((o, s'), q') ≡ step_at O D (c, s) q) where
  one_more : suc (n - rest) ≡ n - (rest - 1)
  one_more = omega (arith, some, most)

  pub turn_called : o.calls ≡ true → record { made = n - (rest - 1); called = true; core = o.core; memory = s'; desk = q' } ≡ stretch_from O D rest (n - rest) (c, s) q
  turn_called t = sym (stretch_step O D rest (n - rest) c s s' q q' o some walked ∙ simp (t, one_more))

  pub turn_on : o.calls ≡ false → stretch_from O D (rest - 1) (n - (rest - 1)) (o.core, s') q' ≡ stretch_from O D rest (n - rest) (c, s) q
  turn_on t = sym (stretch_step O D rest (n - rest) c s s' q q' o some walked ∙ simp (t, one_more))

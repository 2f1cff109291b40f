-- Two memories that answer alike make steps alike. Isolation and simulation are instances.
use mathlib.Core.Path.{◌≡◌, refl, ap, subst}
use mathlib.Core.Bool.{Bool, true, false}
use Prim.Native.Nat.{ℕ, zero, suc}
use Rattle.dlx.specs.Choice.{when◌then◌else◌}
use Rattle.dlx.specs.Fields.{aligned, placed}
use Rattle.dlx.specs.Processor.{user}
use Rattle.dlx.specs.Machine.{Reply, Ops, Core, fetched, accessed, settled, retabled, step, steps, request_of, asked}
use Rattle.dlx.specs.declared.partition.Table.{Table}
use Rattle.dlx.specs.declared.execute.Change.{Change}
use Rattle.dlx.specs.declared.execute.Change.TheVariants.{Plain, Special, Retable, Cause, Return}
use Rattle.dlx.specs.declared.execute.Effect.{Effect}
use Rattle.dlx.specs.declared.execute.Effect.TheVariants.{Done, Load, Store, Send, Take}

module _ {S S' : Type 0} (R : S → S' → Type 0) where
  -- the same answer, and related memories
  pub record Both {A : Type 0} (g : A × S) (g' : A × S') : Type 0 where
    pub same : g.0 ≡ g'.0
    pub rest : R g.1 g'.1

  -- related memories answer every access alike, and stay related
  pub record Like (O : Ops S) (O' : Ops S') : Type 0 where
    pub tables : (s : S) (s' : S') → R s s' → O.table s ≡ O'.table s'
    pub reads : (s : S) (s' : S') → R s s' → (u : Bool) (a : ℕ) → Both (O.read s u a) (O'.read s' u a)
    pub writes : (s : S) (s' : S') → R s s' → (u : Bool) (a : ℕ) (f : ℕ → ℕ) → Both (O.write s u a f) (O'.write s' u a f)
    pub retables : (s : S) (s' : S') → R s s' → (t : Table) → R (O.retable s t) (O'.retable s' t)

module _ {S S' : Type 0} (R : S → S' → Type 0) (O : Ops S) (O' : Ops S') (L : Like R O O') where
  either_like : {A : Type 0} (b : Bool) {g h : A × S} {g' h' : A × S'} → Both R g g' → Both R h h' → Both R (when b then g else h) (when b then g' else h')
  either_like true k l = k
  either_like false k l = l

  fetched_like : (c : Core) (s : S) (s' : S') → R s s' → Both R (fetched O (c, s)) (fetched O' (c, s'))
  unfolding fetched
  fetched_like c s s' r =
      let g = L.reads s s' r (user c.processor) c.processor.dpc in
      either_like (aligned 32 c.processor.dpc)
      (record { same = rw (g.same, L.tables s s' r); rest = g.rest })
      (record { same = refl; rest = r })

  -- so they ask for the same
  pub asked_like : (m : Core × S) (m' : Core × S') → Both R m m' → asked O m ≡ asked O' m'
  unfolding asked
  asked_like m m' b =
      subst (λ c. request_of (fetched O m).0.0 ≡ request_of (fetched O' (c, m'.1)).0.0) b.same
      (ap (λ (x : Effect × Core). request_of x.0) (fetched_like m.0 m.1 m'.1 b.rest).same)

  accessed_like : (y : Reply) (c : Core) (e : Effect) (s : S) (s' : S') → R s s' → Both R (accessed O y c e s) (accessed O' y c e s')
  unfolding accessed
  accessed_like y c (Done x) s s' r = record { same = refl; rest = r }
  accessed_like y c (Send v to) s s' r = record { same = refl; rest = r }
  accessed_like y c Take s s' r = record { same = refl; rest = r }
  accessed_like y c (Load d a o) s s' r =
      let g = L.reads s s' r (user c.processor) a in
      record { same = rw g.same; rest = g.rest }
  accessed_like y c (Store o a v) s s' r =
      let g = L.writes s s' r (user c.processor) a (placed o a v) in
      record { same = rw g.same; rest = g.rest }

  retabled_like : (c : Change) (s : S) (s' : S') → R s s' → R (retabled O c s) (retabled O' c s')
  unfolding retabled
  retabled_like (Plain d v target) s s' r = r
  retabled_like (Special n v) s s' r = r
  retabled_like (Retable t) s s' r = L.retables s s' r t
  retabled_like (Cause causes datum) s s' r = r
  retabled_like Return s s' r = r

  settled_like : (g : (Change × Core) × S) (g' : (Change × Core) × S') → Both R g g'
      → Both R (settled g.0.1 g.0.0, retabled O g.0.0 g.1) (settled g'.0.1 g'.0.0, retabled O' g'.0.0 g'.1)
  settled_like g g' b =
      subst (λ (x : Change × Core). Both R (settled g.0.1 g.0.0, retabled O g.0.0 g.1) (settled x.1 x.0, retabled O' x.0 g'.1)) b.same
      (record { same = refl; rest = retabled_like g.0.0 g.1 g'.1 b.rest })

  -- from the same effect on
  stepped_like : (y : Reply) (f : (Effect × Core) × S) (f' : (Effect × Core) × S') → Both R f f'
      → Both R (accessed O y f.0.1 f.0.0 f.1) (accessed O' y f'.0.1 f'.0.0 f'.1)
  stepped_like y f f' b =
      subst (λ (x : Effect × Core). Both R (accessed O y f.0.1 f.0.0 f.1) (accessed O' y x.1 x.0 f'.1)) b.same
      (accessed_like y f.0.1 f.0.0 f.1 f'.1 b.rest)

  pub step_like : (y : Reply) (m : Core × S) (m' : Core × S') → Both R m m' → Both R (step O y m) (step O' y m')
  unfolding step
  step_like y m m' b =
      subst (λ c. Both R (step O y m) (step O' y (c, m'.1))) b.same
      (settled_like _ _ (stepped_like y _ _ (fetched_like m.0 m.1 m'.1 b.rest)))

  pub steps_like : (feed : ℕ → Reply) (n : ℕ) (m : Core × S) (m' : Core × S') → Both R m m' → Both R (steps O feed n m) (steps O' feed n m')
  unfolding steps
  steps_like feed zero m m' b = b
  steps_like feed (suc n) m m' b =
      let k = step_like (feed n) _ _ (steps_like feed n m m' b) in
      record { same = ap (λ o. o.core) k.same; rest = k.rest }

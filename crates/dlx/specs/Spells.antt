-- A stretch cut into spells, as the engine makes it: plain steps on end, in which nothing changes but DPC, PC, registers, the memory with its shadow, the queues
-- behind the desk, and TCOUNT, which falls. A spell ends with a step that is not plain, or with the one in which the timer reaches 0. proofs/Spells.antt shows
-- that the stretch is the same.
use Rattle.std.specs.Prelude.{Bool, true, false, ℕ, zero, suc, ◌-◌}
use Rattle.dlx.specs.Choice.{when◌then◌else◌}
use Rattle.dlx.specs.Processor.{behind, with_special, with_count, went_to}
use Rattle.dlx.specs.Interrupts.{returned}
use Rattle.dlx.specs.Timer.{ticked, raised}
use Rattle.dlx.specs.Execute.{written}
use Rattle.dlx.specs.Machine.{Ops, Core, core, Outcome, fetched, accessed_at, left, settled, retabled, Desk}
use Rattle.dlx.specs.declared.partition.Processor.{Processor}
use Rattle.dlx.specs.declared.partition.Timer.{Timer}
use Rattle.dlx.specs.declared.execute.Change.{Change}
use Rattle.dlx.specs.declared.execute.Change.TheVariants.{Plain, Special, Retable, Cause, Return}

-- ---- the timer over steps in which it reaches no 0

abbrev pub sunk : Timer → ℕ → Timer
sunk k n = record { tcount = k.tcount - n; tload = k.tload }

abbrev pub timed : Core → Timer → Core
timed c k = core c.processor c.registers c.fault k

-- ---- a change within a spell: a plain one is made at once, but for the timer, any other is left to the spell's end

unfoldable pub plainly : Change → Bool
plainly (Plain d v target) = true
plainly (Special n v) = false
plainly (Retable t) = false
plainly (Cause causes datum) = false
plainly Return = false

unfoldable pub passed : Core → Change → Core
passed c (Plain d v target) = core (went_to c.processor target) (written c.registers d v) c.fault c.timer
passed c (Special n v) = c
passed c (Retable t) = c
passed c (Cause causes datum) = c
passed c Return = c

-- what is left of a change that is no cause: of the processor, and of the timer behind its count
unfoldable pub turned : Processor → Change → Processor
turned p (Plain d v target) = p
turned p (Special n v) = went_to (with_special p n v) (behind p)
turned p (Retable t) = went_to p (behind p)
turned p (Cause causes datum) = p
turned p Return = returned p

unfoldable pub retimed : Timer → Change → Timer
retimed k (Plain d v target) = k
retimed k (Special n v) = with_count k n v
retimed k (Retable t) = k
retimed k (Cause causes datum) = k
retimed k Return = k

-- what the spell's end comes to, by its change: of a plain one nothing is left but the timer
unfoldable pub ended : Core → Change → Outcome
ended c (Plain d v target) = left (raised c.timer c.processor.sr) (timed c (ticked c.timer))
ended c (Special n v) = settled c (Special n v)
ended c (Retable t) = settled c (Retable t)
ended c (Cause causes datum) = settled c (Cause causes datum)
ended c Return = settled c Return

-- ---- the spell

-- `made`: how many steps, the one that ends it included; `change`: what ended it; the core with the timer sunk for all plain steps
pub record Spell (S T : Type 0) : Type 0 where
  pub made : ℕ
  pub change : Change
  pub core : Core
  pub memory : S
  pub desk : T

abbrev pub spell : {S T : Type 0} → ℕ → Change → Core → S → T → Spell S T
spell made x c s t = record { made = made; change = x; core = c; memory = s; desk = t }

-- one step of a spell: its change, and the core with it
unfoldable pub passed_at : {S T : Type 0} → Ops S → Desk T → Core × S → T → ((Change × Core) × S) × T
passed_at O D m t =
    let f = fetched O m in
    let g = accessed_at O D f.0.1 f.0.0 f.1 t in
    (((g.0.0.0, passed g.0.0.1 g.0.0.0), g.0.1), g.1)

-- up to k steps more, where so many are made
unfoldable pub spell_from : {S T : Type 0} → Ops S → Desk T → ℕ → ℕ → Core × S → T → Spell S T
spell_from O D zero made m t = spell made (Plain 0 0 0) m.0 m.1 t
spell_from O D (suc k) made m t =
    let g = passed_at O D m t in
    let c = g.0.0.1 in
    when plainly g.0.0.0 then spell_from O D k (suc made) (timed c (sunk c.timer 1), g.0.1) g.1
    else spell (suc made) g.0.0.0 c g.0.1 g.1

-- ---- a spell and its end

pub record Leg (S T : Type 0) : Type 0 where
  pub made : ℕ
  pub outcome : Outcome
  pub memory : S
  pub desk : T

-- of up to k steps; the end counts the last of them, so the timer stands as before it
abbrev pub leg_at : {S T : Type 0} → Ops S → Desk T → ℕ → Core × S → T → Leg S T
leg_at O D k m t =
    let p = spell_from O D k 0 m t in
    record {
      made = p.made;
      outcome = ended (timed p.core (sunk m.0.timer (p.made - 1))) p.change;
      memory = retabled O p.change p.memory;
      desk = p.desk;
    }

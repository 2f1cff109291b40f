-- The memory that a guest sees, and one step over any such memory: fetch, execute, data access, then emptying.
use Rattle.std.specs.Prelude.{◌≡◌, Bool, true, false, not, ◌&&◌, List, ℕ, zero, suc, ◌+◌, ◌^◌, ◌<◌, eqb, Result, Ok, Err}
use Prim.{Unit}
use Rattle.dlx.specs.Choice.{when◌then◌else◌}
use Rattle.dlx.specs.Fields.{aligned, loading, storing, width, brought, placed}
use Rattle.dlx.specs.Processor.{user, behind, with_special, with_count, went_to}
use Rattle.dlx.specs.Interrupts.{mal, pff, pfls, level_of, interrupted, returned}
use Rattle.dlx.specs.Timer.{ticked, raised}
use Rattle.dlx.specs.Instructions.{instruction_of}
use Rattle.dlx.specs.Execute.{written, effect_of}
use Rattle.dlx.specs.declared.partition.Table.{Table}
use Rattle.dlx.specs.declared.partition.Processor.{Processor}
use Rattle.dlx.specs.declared.partition.Timer.{Timer}
use Rattle.dlx.specs.declared.execute.Change.{Change}
use Rattle.dlx.specs.declared.execute.Change.TheVariants.{Plain, Special, Retable, Cause, Return}
use Rattle.dlx.specs.declared.execute.Effect.{Effect}
use Rattle.dlx.specs.declared.execute.Effect.TheVariants.{Done, Load, Store, Send, Take}

-- ---- the memory

-- A memory with states S. An access says whether it is made in user mode, and names the word by any byte address in it. It may change the
-- state (a shadow is filled). A read answers the word, or the number of the translation's fault; a write takes an update of the word, and answers that it is
-- made, or that number. `retable` changes PTO and PTL.
pub record Ops (S : Type 0) : Type 0 where
  pub table : S → Table
  pub read : S → Bool → ℕ → Result ℕ ℕ × S
  pub write : S → Bool → ℕ → (ℕ → ℕ) → Result (Unit {0}) ℕ × S
  pub retable : S → Table → S

-- ---- what the house answers to a ticket sent or taken

-- the code, 0 done, 1 full, 2 no such partition, 3 none waiting, as the guest sees it; and the ticket taken
pub record Reply : Type 0 where
  pub code : ℕ
  pub ticket : ℕ

-- ---- what a guest is beside its memory, and what a step makes of it

-- `fault`: the latest translation fault by its number, 0 for none yet
pub record Core : Type 0 where
  pub processor : Processor
  pub registers : List ℕ
  pub fault : ℕ
  pub timer : Timer

abbrev pub core : Processor → List ℕ → ℕ → Timer → Core
core p r n k = record { processor = p; registers = r; fault = n; timer = k }

-- `calls`: the guest calls the hypervisor, by a trap taken in system mode
pub record Outcome : Type 0 where
  pub core : Core
  pub calls : Bool

abbrev pub outcome : Core → Bool → Outcome
outcome c b = record { core = c; calls = b }

-- ---- the step

unfoldable pub executed : Core → Table → Result ℕ ℕ → Effect
executed c t (Err n) = Done (Cause pff c.processor.dpc)
executed c t (Ok w) = effect_of c.processor t c.timer c.registers (instruction_of w)

-- the core after an access that was answered so: a fault is its latest, and only a fault changes that
abbrev pub failing : Core → ℕ → Core
failing c n = core c.processor c.registers n c.timer

unfoldable pub after_read : Core → Result ℕ ℕ → Core
after_read c (Err n) = failing c n
after_read c (Ok w) = c

unfoldable pub after_write : Core → Result (Unit {0}) ℕ → Core
after_write c (Err n) = failing c n
after_write c (Ok u) = c

-- the fetch at DPC, and what its word asks for
unfoldable pub fetched : {S : Type 0} → Ops S → Core × S → (Effect × Core) × S
fetched O m =
    let p = m.0.processor in
    let g = O.read m.1 (user p) p.dpc in
    when aligned 32 p.dpc then ((executed m.0 (O.table m.1) g.0, after_read m.0 g.0), g.1) else ((Done (Cause mal 0), m.0), m.1)

unfoldable pub loaded : Processor → ℕ → ℕ → ℕ → Result ℕ ℕ → Change
loaded p d a o (Err n) = Cause pfls a
loaded p d a o (Ok w) = Plain d (brought o a w) (behind p)

unfoldable pub stored : Processor → ℕ → Result (Unit {0}) ℕ → Change
stored p a (Err n) = Cause pfls a
stored p a (Ok u) = Plain 0 0 (behind p)

-- a ticket taken goes to register 1; on any other answer register 1 stays
unfoldable pub received : List ℕ → Reply → List ℕ
received r a = when eqb a.code 0 then written r 1 a.ticket else r

-- the data access: the change, and the core with what else it brings, a fault or a take's ticket; a, the answer, is used where a ticket is sent or taken, and
-- nowhere else: register 3 becomes its code
unfoldable pub accessed : {S : Type 0} → Ops S → Reply → Core → Effect → S → (Change × Core) × S
accessed O a c (Done x) s = ((x, c), s)
accessed O a c (Load d x o) s = let g = O.read s (user c.processor) x in ((loaded c.processor d x o g.0, after_read c g.0), g.1)
accessed O a c (Store o x v) s = let g = O.write s (user c.processor) x (placed o x v) in ((stored c.processor x g.0, after_write c g.0), g.1)
accessed O a c (Send v to) s = ((Plain 3 a.code (behind c.processor), c), s)
accessed O a c Take s = ((Plain 3 a.code (behind c.processor), core c.processor (received c.registers a) c.fault c.timer), s)

-- the core that an instruction left which raised no cause; where the timer's is there, it is the level, and the handler is entered from that core
unfoldable pub left : ℕ → Core → Outcome
left raise c = outcome (when eqb raise 0 then c else core (interrupted c.processor raise 0) c.registers c.fault c.timer) false

-- a cause entered; a trap in system mode calls
unfoldable pub handled : Core → ℕ → ℕ → Outcome
handled c causes datum =
    outcome (core (interrupted c.processor causes datum) c.registers c.fault c.timer)
    (eqb (level_of causes) 5 && not (user c.processor))

-- the change of the processor, the registers and the timer, where the timer raised this: a cause is entered with it, by the level of both
unfoldable pub changed : ℕ → Core → Change → Outcome
changed raise c (Plain d v target) = left raise (core (went_to c.processor target) (written c.registers d v) c.fault c.timer)
changed raise c (Special n v) =
    left raise (core (went_to (with_special c.processor n v) (behind c.processor)) c.registers c.fault (with_count c.timer n v))
changed raise c (Retable t) = left raise (core (went_to c.processor (behind c.processor)) c.registers c.fault c.timer)
changed raise c (Cause causes datum) = handled c (causes + raise) datum
changed raise c Return = left raise (core (returned c.processor) c.registers c.fault c.timer)

-- the count, the change, the entry: the timer falls, and what it raises is told by TCOUNT and SR before the step
unfoldable pub settled : Core → Change → Outcome
settled c x = changed (raised c.timer c.processor.sr) (core c.processor c.registers c.fault (ticked c.timer)) x

-- the change of PTO and PTL
unfoldable pub retabled : {S : Type 0} → Ops S → Change → S → S
retabled O (Plain d v target) s = s
retabled O (Special n v) s = s
retabled O (Retable t) s = O.retable s t
retabled O (Cause causes datum) s = s
retabled O Return s = s

-- the step, with the answer a to what it asks
unfoldable pub step : {S : Type 0} → Ops S → Reply → Core × S → Outcome × S
step O a m =
    let f = fetched O m in
    let g = accessed O a f.0.1 f.0.0 f.1 in
    (settled g.0.1 g.0.0, retabled O g.0.0 g.1)

-- so many steps, fed answers by step number
unfoldable pub steps : {S : Type 0} → Ops S → (ℕ → Reply) → ℕ → Core × S → Core × S
steps O feed zero m = m
steps O feed (suc n) m = let o = step O (feed n) (steps O feed n m) in (o.0.core, o.1)

-- ---- what a step asks: a function of the machine before it

pub data Request : Type 0 where
  nothing : Request
  sends : ℕ → ℕ → Request
  takes : Request

unfoldable pub request_of : Effect → Request
request_of (Done c) = nothing
request_of (Load d a o) = nothing
request_of (Store o a v) = nothing
request_of (Send v to) = sends v to
request_of Take = takes

unfoldable pub asked : {S : Type 0} → Ops S → Core × S → Request
asked O m = request_of (fetched O m).0.0

abbrev pub reply : ℕ → ℕ → Reply
reply c t = record { code = c; ticket = t }

-- Who answers, with states T: the answer to a request, and the state after it.
abbrev pub Desk : Type 0 → Type 0
Desk T = T → Request → Reply × T

-- the data access of a guest at a desk
abbrev pub accessed_at : {S T : Type 0} → Ops S → Desk T → Core → Effect → S → T → ((Change × Core) × S) × T
accessed_at O D c e s t = let g = D t (request_of e) in (accessed O g.0 c e s, g.1)

-- the step of a guest at a desk
abbrev pub step_at : {S T : Type 0} → Ops S → Desk T → Core × S → T → (Outcome × S) × T
step_at O D m t = let g = D t (asked O m) in (step O g.0 m, g.1)

-- ---- a stretch: up to so many steps, ending early after a step that calls the hypervisor

-- `made`: how many steps; `called`: whether the last one called
pub record Stretch (S T : Type 0) : Type 0 where
  pub made : ℕ
  pub called : Bool
  pub core : Core
  pub memory : S
  pub desk : T

-- up to k steps more, where so many are made
unfoldable pub stretch_from : {S T : Type 0} → Ops S → Desk T → ℕ → ℕ → Core × S → T → Stretch S T
stretch_from O D zero made m t = record { made = made; called = false; core = m.0; memory = m.1; desk = t }
stretch_from O D (suc k) made m t =
    let o = step_at O D m t in
    when o.0.0.calls then record { made = suc made; called = true; core = o.0.0.core; memory = o.0.1; desk = o.1 }
    else stretch_from O D k (suc made) (o.0.0.core, o.0.1) o.1

-- the register that a change names exists; its causes are below the timer's
abbrev pub Places : Change → Type 0
Places (Plain d v target) = d < 32
Places (Special n v) = Unit
Places (Retable t) = Unit
Places (Cause causes datum) = causes < 2 ^ 13
Places Return = Unit

-- so does the one that an effect names; a load and a store are asked for by an opcode of theirs, at an address that it may reach
abbrev pub Asks : Effect → Type 0
Asks (Done c) = Places c
Asks (Load d a o) = (d < 32) × (loading o ≡ true) × (aligned (width o) a ≡ true)
Asks (Store o a v) = (storing o ≡ true) × (aligned (width o) a ≡ true)
Asks (Send v to) = Unit
Asks Take = Unit

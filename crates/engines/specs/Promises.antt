-- The two engines compared, as statements about the definitions that the run calls' contracts cite. proofs/Promises.antt proves each.
use Rattle.std.specs.Prelude.{◌≡◌, Bool, List, [], ◌∷◌, ◌++◌, ℕ, zero, suc, ◌+◌, ◌%◌, ◌^◌, ◌<◌, eqb, length, get_or}
use Rattle.dlx.specs.Choice.{when◌then◌else◌}
use Rattle.dlx.specs.Machine.{Reply, steps, reply}
use Rattle.addresses.specs.Memory.{lone_memory}
use Rattle.house.specs.Lists.{list_from}
use Rattle.house.specs.House.{fresh_shadows, with_shadows, partition}
use Rattle.house.specs.Turns.{World, world, host_steps}
use Rattle.house.specs.Sound.{Shaped, Typed}
use Rattle.house.specs.Calls.{Answered, answered, run_call}
use Rattle.demands.specs.Histories.{Boot, booted, Call, run, empty, after, history, steps_of, steps_made, turns_made, lone_of, lone_at_boot, Event, event_of, log_of, answers_to}
use Rattle.staleness.specs.Promises.{Passes}
use Rattle.unshadowed.specs.Turns.{unshadowed_steps, all_empty}
use Rattle.unshadowed_run.specs.Calls.{unshadowed_call, run_by}

-- (a) The two runs answer the same number and detail, for every house, memory and run length.
abbrev pub SameVerdicts : Type 0
SameVerdicts = (w : World) (k : ℕ) → (unshadowed_call w k).verdict ≡ (run_call w k).verdict

-- Refused means untouched; a done run, one of 0 steps too, gives every shadow back empty.
abbrev pub RefusedUntouched : Type 0
RefusedUntouched = (w : World) (k : ℕ) → ((unshadowed_call w k).verdict.number ≡ 0 → ⊥) → (unshadowed_call w k).world ≡ w

abbrev pub DoneEmpty : Type 0
DoneEmpty = (w : World) (k : ℕ) → (unshadowed_call w k).verdict.number ≡ 0 → (unshadowed_call w k).world.house.shadows ≡ fresh_shadows

-- (b) From a house in which the audit finds nothing stale, grown from a boot or not, the two runs leave the same house and memory, but for the shadows.
abbrev pub SameRuns : Type 0
SameRuns = (w : World) → Shaped w.house → Passes w → (k : ℕ) →
    let a = (run_call w k).world in
    let b = (unshadowed_call w k).world in
    b ≡ world (with_shadows a.house b.house.shadows) a.memory

-- So a run of a house as boot leaves it, by the engine that is asked for, answers as the first engine's, with every shadow emptied where it is the second: a
-- night's report is the same by both.
unfoldable pub emptied_by : Bool → Answered → Answered
emptied_by unshadowed a = when unshadowed then answered a.verdict (all_empty a.world) else a

abbrev pub BootedRuns : Type 0
BootedRuns = (unshadowed : Bool) (b : Boot) (k : ℕ) → run_by unshadowed (booted b) k ≡ emptied_by unshadowed (run_call (booted b) k)

-- (d) So a done run by the second engine is a run by the first and then one emptying of each partition; a refused one is a refused run.
abbrev pub empty_each : ℕ → List Call
empty_each n = list_from empty 0 n

unfoldable pub instead : ℕ → World → List Call
instead k w = run k ∷ (when eqb (run_call w k).verdict.number 0 then empty_each w.house.count else [])

abbrev pub RunThenEmpty : Type 0
RunThenEmpty = (w : World) → Typed w → Passes w → (k : ℕ) → (unshadowed_call w k).world ≡ history (instead k w) w

-- (c) Histories in which each run is made by either engine, in any mixture
pub data EitherCall : Type 0 where
  call : Call → EitherCall
  unshadowed_run : ℕ → EitherCall

unfoldable pub after_either : EitherCall → World → World
after_either (call c) w = after c w
after_either (unshadowed_run k) w = (unshadowed_call w k).world

unfoldable pub either_history : List EitherCall → World → World
either_history [] w = w
either_history (e ∷ es) w = either_history es (after_either e w)

-- the host steps of a call, by the engine that makes them: how many, the world after n of them, and those of partition i among them
unfoldable pub either_steps_of : EitherCall → World → ℕ
either_steps_of (call c) w = steps_of c w
either_steps_of (unshadowed_run k) w = when eqb (unshadowed_call w k).verdict.number 0 then k else 0

unfoldable pub after_steps : EitherCall → ℕ → World → World
after_steps (call c) n w = host_steps n w
after_steps (unshadowed_run k) n w = unshadowed_steps n w

unfoldable pub either_turns_in : EitherCall → ℕ → World → ℕ → ℕ
either_turns_in e zero w i = 0
either_turns_in e (suc n) w i = (when eqb (after_steps e n w).house.current i then 1 else 0) + either_turns_in e n w i

-- what they asked and were answered
unfoldable pub either_log_in : EitherCall → ℕ → World → List Event
either_log_in e zero w = []
either_log_in e (suc n) w = either_log_in e n w ++ (event_of (after_steps e n w) ∷ [])

-- the same of a history
unfoldable pub either_steps_made : List EitherCall → World → ℕ
either_steps_made [] w = 0
either_steps_made (e ∷ es) w = either_steps_of e w + either_steps_made es (after_either e w)

unfoldable pub either_turns_made : List EitherCall → World → ℕ → ℕ
either_turns_made [] w i = 0
either_turns_made (e ∷ es) w i = either_turns_in e (either_steps_of e w) w i + either_turns_made es (after_either e w) i

unfoldable pub either_log_of : List EitherCall → World → List Event
either_log_of [] w = []
either_log_of (e ∷ es) w = either_log_in e (either_steps_of e w) w ++ either_log_of es (after_either e w)

abbrev pub either_feed_of : List EitherCall → World → ℕ → ℕ → Reply
either_feed_of es w i k = get_or (answers_to i (either_log_of es w)) k (reply 0 0)

-- Demand 3: every partition stands where its lone machine does.
abbrev pub EitherHistories : Type 0
EitherHistories = (b : Boot) → ((i : ℕ) → get_or b.memory i 0 < 2 ^ 32) → (es : List EitherCall) (i : ℕ) → i < length b.pages →
    let w = either_history es (booted b) in
    let n = either_turns_made es (booted b) i in
    (lone_of w i ≡ steps (lone_memory (get_or b.pages i 0)) (either_feed_of es (booted b) i) n (lone_at_boot b i))
    × ((partition w.house i).counter ≡ n % 2 ^ 64)

-- And they are histories of calls, so that all the demands hold of them: the calls that come to the same
unfoldable pub one_as_calls : EitherCall → World → List Call
one_as_calls (call c) w = c ∷ []
one_as_calls (unshadowed_run k) w = instead k w

unfoldable pub as_calls : List EitherCall → World → List Call
as_calls [] w = []
as_calls (e ∷ es) w = one_as_calls e w ++ as_calls es (after_either e w)

-- with the same house and memory behind them, as many host steps, as many of each partition, and the same asked and answered
pub record Alike (es : List EitherCall) (cs : List Call) (w : World) : Type 0 where
  pub left : either_history es w ≡ history cs w
  pub steps : either_steps_made es w ≡ steps_made cs w
  pub turns : (i : ℕ) → either_turns_made es w i ≡ turns_made cs w i
  pub log : either_log_of es w ≡ log_of cs w

abbrev pub EitherGrown : Type 0
EitherGrown = (b : Boot) → ((i : ℕ) → get_or b.memory i 0 < 2 ^ 32) → (es : List EitherCall) → Alike es (as_calls es (booted b)) (booted b)

-- The run call by the engine without shadows.
use Rattle.std.specs.Prelude.{ℕ, Bool}
use Rattle.dlx.specs.Choice.{when◌then◌else◌}
use Rattle.house.specs.Turns.{World}
use Rattle.house.specs.Calls.{Answered, unless_refused, run_verdict, run_call}
use Rattle.unshadowed.specs.Turns.{unshadowed_steps, all_empty}

-- refused as the first engine's is; a done one, of 0 steps too, gives every shadow back empty
unfoldable pub unshadowed_call : World → ℕ → Answered
unshadowed_call w k = unless_refused (run_verdict w k) w (all_empty (unshadowed_steps k w))

-- by the engine that is asked for
unfoldable pub run_by : Bool → World → ℕ → Answered
run_by unshadowed w k = when unshadowed then unshadowed_call w k else run_call w k

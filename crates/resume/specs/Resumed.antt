-- A saved house run on, in as many runs of at most 1,000,000 host steps as it takes.
use Rattle.std.specs.Prelude.{ℕ, zero, suc, ◌-◌, ◌*◌, ◌/◌}
use Rattle.house.specs.Calls.{Answered}
use Rattle.night_run.specs.Ran.{Way, after_boot, saved_file}

-- n runs of 1,000,000; a refusal stays
unfoldable pub full_runs : ℕ → Answered → Answered
full_runs zero a = a
full_runs (suc n) a = full_runs n (after_boot a 1000000)

-- the full ones, and one of what is left, 1 to 1,000,000 steps; none at all is one run of 0
unfoldable pub resumed : Answered → ℕ → Answered
resumed a steps =
    let full = (steps - 1) / 1000000 in
    after_boot (full_runs full a) (steps - full * 1000000)

-- a saved file, read and run on
abbrev pub resumed_file : ℕ → Way
resumed_file steps = record { answer = λ file. resumed (saved_file.answer file) steps; wrong = saved_file.wrong }

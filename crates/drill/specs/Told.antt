-- The text of a call.
use Rattle.std.specs.Prelude.{ℕ, ◌+◌, ◌*◌, List, ◌++◌, ◌==◌, nat_le}
use Rattle.dlx.specs.Choice.{when◌then◌else◌}
use Rattle.house.specs.Boot.{Verdict}
use Rattle.house.specs.Calls.{Answered}
use Rattle.house.specs.declared.House.{House}
use Rattle.drill_text.specs.Lines.{call_of, house_of, memory_of}
use Rattle.drill_text.specs.Partitions.{longest, partitions_of}
use Rattle.drill_text.specs.Queues.{queue_lines_of}

-- the most bytes of a call's text, and of one with a read-out's output
abbrev pub most_told : ℕ
most_told = 8 * longest + 6149

abbrev pub most_read : ℕ
most_read = most_told + 196

unfoldable pub told_of : ℕ → ℕ → ℕ → House → List ℕ → List ℕ
told_of op number detail h memory =
    call_of op number detail ++ (house_of h ++ (partitions_of h ++ (queue_lines_of h ++ memory_of memory)))

-- of an answer
abbrev pub answer_told : ℕ → Answered → List ℕ → List ℕ
answer_told op a memory = told_of op a.verdict.number a.verdict.detail a.world.house memory

-- how many words are shown of a read-out's output: those read, if the call was done and they are at most 8
unfoldable pub shown_of : ℕ → ℕ → ℕ
shown_of number detail = when number == 0 then (when nat_le detail 8 then detail else 0) else 0

abbrev pub shown_by : Verdict → ℕ
shown_by v = shown_of v.number v.detail

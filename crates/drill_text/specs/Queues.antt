-- The lines that tell of the queues.
use Rattle.std.specs.Prelude.{ℕ, Bool, ◌&&◌, List, [], ◌++◌, take, ◌==◌}
use Rattle.dlx.specs.Choice.{when◌then◌else◌}
use Rattle.tickets.specs.Queues.{places_of, waiting_of}
use Rattle.house.specs.declared.House.{House}
use Rattle.house.specs.House.{queues_of}
use Rattle.decimal.specs.Texts.{ascii, joined}
use Rattle.drill_text.specs.Numbers.{number_of}
use Rattle.drill_text.specs.Lines.{row_of}
use Rattle.drill_text.specs.Partitions.{zeros_of, listed_of}

-- none waits, and every place is 0
unfoldable pub idle_of : ℕ → List ℕ → Bool
idle_of waiting places = waiting == 0 && zeros_of places

-- how many tickets wait for partition i, and its places up to the last that is not 0
unfoldable pub queue_line_of : ℕ → ℕ → List ℕ → List ℕ
queue_line_of i waiting places =
    when idle_of waiting places then []
    else ascii "queue" ++ (number_of i ++ (number_of waiting ++ row_of [] (take (listed_of places) places)))

unfoldable pub queue_lines_of : House → List ℕ
queue_lines_of h = joined (λ i. queue_line_of i (waiting_of (queues_of h) i) (places_of (queues_of h) i)) 8

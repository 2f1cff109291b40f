-- What holds from turn to turn.
use Rattle.std.specs.Prelude.{ℕ, ◌+◌, ◌≤◌}
use Rattle.drill.specs.declared.State.{State}
use Rattle.drill.specs.Fit.{Stands}
use Rattle.drill.specs.Told.{most_read}

pub record Goes (s : State) (bytes words : ℕ) : Type 0 where
  pub stands : Stands s.reading bytes s.reading.lent
  pub lent : s.reading.lent ≤ words
  pub used : s.used ≤ 65536 + most_read

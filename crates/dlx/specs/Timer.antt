-- The timer. In every step of its partition, faulted ones included, TCOUNT falls; movs2i reads it before, and movi2s sets it behind that.
use Rattle.std.specs.Prelude.{◌&&◌, ℕ, ◌-◌, eqb}
use Rattle.dlx.specs.Choice.{when◌then◌else◌}
use Rattle.dlx.specs.Interrupts.{timer, unmasked}
use Rattle.dlx.specs.declared.partition.Timer.{Timer}

-- TCOUNT, if not 0, falls by one; where that makes it 0 it becomes TLOAD
unfoldable pub ticked : Timer → Timer
ticked k = record { tcount = when eqb k.tcount 1 then k.tload else k.tcount - 1; tload = k.tload }

-- and cause 13 is raised, unless SR masks it: then it is dropped. As a cause word, 0 for none
unfoldable pub raised : Timer → ℕ → ℕ
raised k sr = when eqb k.tcount 1 && unmasked 13 sr then timer else 0

-- What holds of the reading between two commands, and what a right command says of itself.
use Rattle.std.specs.Prelude.{◌≡◌, ℕ, ◌+◌, ◌*◌, ◌≤◌, Option, None, Some, IfSome}
use Rattle.drill.specs.declared.reading.Reading.{Reading}
use Rattle.drill_script.specs.declared.commands.Command.{Command}
use Rattle.drill_script.specs.Commands.{size_of}

-- the bytes of a command, where there is one
abbrev pub size_in : Option Command → ℕ
size_in None = 0
size_in (Some c) = c.size

-- the command stands in the input's bytes, with its size; so many words are lent
pub record Stands (r : Reading) (bytes lent : ℕ) : Type 0 where
  pub inside : r.at + size_in r.command ≤ r.end
  pub held : r.end ≤ bytes
  pub sized : IfSome r.command (λ c. size_of c.op c.a c.c ≡ Some c.size)
  pub lends : r.lent ≡ lent

-- the command, and its lent words are in the memory
pub record Plays (r : Reading) (c : Command) (bytes words : ℕ) : Type 0 where
  pub stands : Stands r bytes r.lent
  pub right : r.command ≡ Some c
  pub lent : r.lent ≤ words

-- a boot's page counts and frame numbers are few, and stand in the bytes behind its four words
pub record Boots (c : Command) (more : ℕ) : Type 0 where
  pub pages : c.a ≤ 16
  pub frames : c.c ≤ 4096
  pub stands : 4 * (c.a + c.c) ≤ more

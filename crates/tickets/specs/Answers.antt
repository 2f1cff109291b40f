-- What the answers of the code stand for: what the house answers.
use Prim.{Unit}
use Rattle.std.specs.Prelude.{ℕ, Option, Some, None, Result, Ok, Err}
use Rattle.dlx.specs.Machine.{Reply, reply}
use Rattle.tickets.specs.declared.Unsent.{Unsent}
use Rattle.tickets.specs.declared.Unsent.TheVariants.{Full, NoSuchPartition}

abbrev pub code_of : Unsent → ℕ
code_of Full = 1
code_of NoSuchPartition = 2

abbrev pub sent_reply : Result (Unit {0}) Unsent → Reply
sent_reply (Ok u) = reply 0 0
sent_reply (Err x) = reply (code_of x) 0

abbrev pub taken_reply : Option ℕ → Reply
taken_reply (Some v) = reply 0 v
taken_reply None = reply 3 0

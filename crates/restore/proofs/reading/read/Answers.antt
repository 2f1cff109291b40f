use Rattle.std.proofs.Common.{refl, ap, ◌∙◌, rules}
use Rattle.save.specs.Reading.{Reading, fed}
use Rattle.save.specs.Calls.{read_piece}
use Rattle.restore.proofs.reading.read.Goals as goal

-- src/reading.rt:134:5
pub read_bytes-requires : goal.read_bytes-requires
read_bytes-requires c = let a = c.args in record { held_length = search (rules, c.read_bytes-arg-1); standing = (c.lend-x.ensures a.held.now a.memory.now refl).1 }

-- src/reading.rt:130:1
pub returns : goal.returns
unfolding read_piece
returns c = let a = c.args in c.read_bytes.ensures ∙ ap (λ (y : Reading). fed y a.piece.now) (c.lend-x.ensures a.held.now a.memory.now refl).0

use native.Mathlib.Omega.{arith}
use Rattle.saver.proofs.Heads.{record_put}
use Rattle.saver.proofs.head.put_record.Goals as goal

-- src/head.rt:47:1
pub returns : goal.returns
returns c = record_put c.args.kind _ c.args.words.now (omega arith) c.put_front-first.ensures c.put_words.ensures

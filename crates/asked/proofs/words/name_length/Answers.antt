use Rattle.std.proofs.Common.{arith, rules}
use Rattle.asked.proofs.Rows.{last_found, last_none}
use Rattle.asked.proofs.words.name_length.Goals as goal

pub returns-in-Some-clause-value : goal.returns-in-Some-clause-value
returns-in-Some-clause-value c = last_found c.args.word.now c.in-Some.n _ (search rules) (omega arith) (search rules) (search rules)

pub returns-in-None-clause-value : goal.returns-in-None-clause-value
returns-in-None-clause-value c = last_none c.args.word.now _ (omega arith) (search rules)

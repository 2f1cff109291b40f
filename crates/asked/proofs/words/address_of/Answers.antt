use Rattle.asked.proofs.Taken.{address_none, address_said}
use Rattle.asked.proofs.words.address_of.Goals as goal

pub returns-then-n-word-clause-value : goal.returns-then-n-word-clause-value
returns-then-n-word-clause-value c = address_none c.args.word.now c.name_length-n.result c.name_length-n.ensures.value c.if-n-word.true

pub returns-clause-value : goal.returns-clause-value
returns-clause-value c = address_said c.args.word.now c.name_length-n.result c.number_in.result c.name_length-n.ensures.value c.if-n-word.false c.number_in.ensures.value

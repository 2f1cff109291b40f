use Rattle.decimal.specs.Texts.{ascii}
use Rattle.decimal.proofs.Texts.{exactly, puts, ◌then◌}
use Rattle.drill_text.specs.Lines.{call_of}
use Rattle.drill_text.proofs.lines.call.Goals as goal

pub returns : goal.returns
unfolding call_of ascii
returns c = exactly c.put_text-called.ensures then puts (rw c.name.ensures.named at c.put_text-named.ensures) (rw c.name.ensures.named at c.name.ensures.short) then exactly c.put_text-answered.ensures then c.pair.ensures

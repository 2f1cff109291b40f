use Rattle.list.specs.Words.{Behind}
use Rattle.list.proofs.list_words.Given as goal

abbrev pub invariant-loop : goal.invariant-loop
invariant-loop l = Behind l.rest

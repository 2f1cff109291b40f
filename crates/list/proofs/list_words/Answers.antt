use Rattle.list.proofs.Pieces.{behind_none, behind_more}
use Rattle.list.proofs.list_words.Goals as goal

pub loop-init : goal.loop-init
loop-init c = behind_none _ c.none-rest.ensures

pub list_piece-requires-clause-behind : goal.list_piece-requires-clause-behind
list_piece-requires-clause-behind c = c.loop.invariant

pub loop-preserved : goal.loop-preserved
loop-preserved c = behind_more _ _ _ c.loop.invariant c.list_piece.ensures.bytes c.in-Some.ensures.rest_value

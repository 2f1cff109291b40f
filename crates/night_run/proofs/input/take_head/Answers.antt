use mathlib.Core.Path.{sym, ◌∙◌}
use native.Mathlib.Omega.{arith}
use Rattle.night_run.proofs.Pieces.{heads_none, heads_more, heads_over, head_begins, falls}
use Rattle.night_run.proofs.input.take_head.Goals as goal

-- src/input.rt:138:5
pub loop-source-init : goal.loop-source-init
loop-source-init c = heads_none _ _ c.none-t.ensures c.requires

-- src/input.rt:139:13
pub head_piece-p-requires : goal.head_piece-p-requires
head_piece-p-requires c = let t = c.loop-source.t in record { bytes_bound = (head_begins t.ended t.bytes (sym c.begins.ensures ∙ c.loop-source-test.true)).1; head_length = c.loop-source.invariant.2 }

-- src/input.rt:138:5
pub loop-source-smaller : goal.loop-source-smaller
loop-source-smaller c = let t = c.loop-source.t in let e = c.head_piece-p.ensures in let o = head_begins t.ended t.bytes (sym c.begins.ensures ∙ c.loop-source-test.true) in falls _ _ _ _ e.1 o.0

-- src/input.rt:138:5
pub loop-source-preserved : goal.loop-source-preserved
loop-source-preserved c = let t = c.loop-source.t in let e = c.head_piece-p.ensures in let o = head_begins t.ended t.bytes (sym c.begins.ensures ∙ c.loop-source-test.true) in heads_more _ _ _ _ _ _ e.1 e.2 o.1 e.3 c.loop-source.invariant (omega (arith, c.head_piece-p.auto))

-- src/input.rt:132:1
pub returns : goal.returns
returns c = let t = c.loop-source.t in record { by_index = λ wrong. heads_over t _ wrong (sym c.begins.ensures ∙ c.loop-source-test.false) c.loop-source.invariant; bytes_bound = c.loop-source.invariant.1 }

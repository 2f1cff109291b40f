use mathlib.Core.Path.{refl, sym, ◌∙◌}
use mathlib.Core.Bool.{not}
use lib.Dec.{eqb}
use native.Mathlib.Omega.{arith}
use Rattle.night_run.proofs.Pieces.{goes_on, falls}
use Rattle.night_run.proofs.Files.{saved_more, saved_over_lem}
use Rattle.night_run.proofs.restoring.take_saved.Goals as goal

-- src/restoring.rt:54:5
pub loop-source-init : goal.loop-source-init
loop-source-init c = (λ first head g. g, refl)

-- src/restoring.rt:54:5
pub loop-source-smaller : goal.loop-source-smaller
loop-source-smaller c = let t = c.loop-source.taken in let w = not (eqb c.loop-source.restoring.reader.refusal 0) in let e = c.saved_piece-x.ensures in let o = goes_on t.ended w (sym c.more.ensures ∙ c.loop-source-test.true) in falls _ _ _ _ e.2 o.0

-- src/restoring.rt:54:5
pub loop-source-preserved : goal.loop-source-preserved
loop-source-preserved c = let t = c.loop-source.taken in let w = not (eqb c.loop-source.restoring.reader.refusal 0) in let e = c.saved_piece-x.ensures in let o = goes_on t.ended w (sym c.more.ensures ∙ c.loop-source-test.true) in (λ first head g. saved_more first head _ _ _ _ _ _ e.2 e.3 e.4 o.0 o.1 (c.loop-source.invariant.0 first head g), omega (arith, c.loop-source.invariant.1, c.saved_piece-x.auto))

-- src/restoring.rt:43:1
pub returns : goal.returns
returns c = λ first head g. saved_over_lem first head _ _ (sym c.more.ensures ∙ c.loop-source-test.false) (c.loop-source.invariant.0 first head g)

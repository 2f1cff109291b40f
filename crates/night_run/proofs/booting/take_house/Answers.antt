use mathlib.Core.Path.{refl, sym, ◌∙◌}
use native.Mathlib.Omega.{arith}
use Rattle.night_run.proofs.Pieces.{goes_on, falls}
use Rattle.night_run.proofs.Files.{house_more, house_over}
use Rattle.night_run.proofs.booting.take_house.Goals as goal

-- src/booting.rt:64:5
pub loop-source-init : goal.loop-source-init
loop-source-init c = (λ head g. g, refl)

-- src/booting.rt:64:5
pub loop-source-smaller : goal.loop-source-smaller
loop-source-smaller c = let t = c.loop-source.taken in let w = c.loop-source.reader.wrong in let e = c.house_piece-x.ensures in let o = goes_on t.ended w (sym c.more.ensures ∙ c.loop-source-test.true) in falls _ _ _ _ e.2 o.0

-- src/booting.rt:64:5
pub loop-source-preserved : goal.loop-source-preserved
loop-source-preserved c = let t = c.loop-source.taken in let w = c.loop-source.reader.wrong in let e = c.house_piece-x.ensures in let o = goes_on t.ended w (sym c.more.ensures ∙ c.loop-source-test.true) in (λ head g. house_more head _ _ _ _ _ _ e.2 e.3 e.4 o.0 o.1 (c.loop-source.invariant.0 head g), omega (arith, c.loop-source.invariant.1, c.house_piece-x.auto))

-- src/booting.rt:51:1
pub returns : goal.returns
returns c = λ head g. house_over head _ _ (sym c.more.ensures ∙ c.loop-source-test.false) (c.loop-source.invariant.0 head g)

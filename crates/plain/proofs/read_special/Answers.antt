use Rattle.std.proofs.Common.{ℕ, ◌<◌, get_or, refl, ap, ◌∙◌, arith, ne_eqb}
use Rattle.dlx.specs.Execute.{written}
use Rattle.plain.proofs.read_special.Goals as goal

-- src/lib.rt:230:9
pub returns-then-p-eq1 : goal.returns-then-p-eq1
returns-then-p-eq1 c = refl

-- src/lib.rt:233:9
pub returns-then-n-ge-TCOUNT : goal.returns-then-n-ge-TCOUNT
returns-then-n-ge-TCOUNT c = refl

-- src/lib.rt:216:1
pub returns : goal.returns
returns c = let e = c.put.ensures in
    let l : c.args.n < 10 = omega (arith, c.if-n-ge-TCOUNT.false) in
    (ne_eqb _ _ c.if-p-eq1.false, l, e.0 ∙ ap (λ (v : ℕ). written c.args.regs.now c.args.rd v) (ap (λ (j : ℕ). get_or c.args.specials.now j 0) c.wide.ensures ∙ c.requires.numbered.1 c.args.n l), e.1)

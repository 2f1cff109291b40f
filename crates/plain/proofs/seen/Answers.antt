use Rattle.plain.specs.Plain.{seen_of}
use Rattle.std.proofs.Common.{◌≡◌, ◌/◌, get_or, arith}
use lib.ListN.{get_or-eq_default}
use Rattle.plain.proofs.seen.Goals as goal

-- src/lib.rt:44:13
pub returns-then-page-ge-LIMIT : goal.returns-then-page-ge-LIMIT
unfolding seen_of
returns-then-page-ge-LIMIT c = let a = c.args in let e : get_or a.shadow.now (a.a / 4096) 0 ≡ 0 = get_or-eq_default a.shadow.now 0 (omega (arith, c.if-page-ge-LIMIT.true, c.requires.shadow_length)) in simp (c.if-user.true, e)

-- src/lib.rt:46:9
pub returns-then-user : goal.returns-then-user
unfolding seen_of
returns-then-user c = simp (c.if-user.true, c.wide.ensures)

-- src/lib.rt:37:1
pub returns : goal.returns
unfolding seen_of
returns c = simp (c.if-user.false, c.straight.ensures)

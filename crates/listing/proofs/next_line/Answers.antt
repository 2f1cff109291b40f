use Rattle.std.proofs.Common.{arith, sym, ◌∙◌, take, drop, length, length-drop, take_all, ◌≡◌, ◌-◌, ◌+◌, ◌≤◌}
use Rattle.std.proofs.lemmas.Grind.{common_steps}
use Rattle.listing.proofs.Passes.{first_line, only_line}
use Rattle.listing.proofs.next_line.Goals as goal

pub returns-in-Some : goal.returns-in-Some
returns-in-Some c = let p = first_line c.args.text.now (sym c.in-Some.is ∙ c.newline_in.ensures) in
    let n : c.in-Some.end + 1 ≤ length c.args.text.now = omega (arith, p.0) in
    let w : take (length c.args.text.now - (c.in-Some.end + 1)) (drop (c.in-Some.end + 1) c.args.text.now) ≡ drop (c.in-Some.end + 1) c.args.text.now = take_all _ _ (omega (arith, length-drop (c.in-Some.end + 1) c.args.text.now)) in
    rw w (p.1, omega (arith, length-drop (c.in-Some.end + 1) c.args.text.now))

pub returns-in-None : goal.returns-in-None
returns-in-None c = let p = only_line c.args.text.now c.if-is_empty.ensures (sym c.in-None.is ∙ c.newline_in.ensures) in (p, grind (arith, common_steps))

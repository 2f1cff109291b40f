use Rattle.std.proofs.Common.{◌-◌, ◌≤◌, length, take, drop, refl, ◌∙◌, arith, length-drop, length-take}
use Rattle.drill.proofs.Commands.{command_right}
use Rattle.drill.proofs.reading.found.Goals as goal

pub returns : goal.returns
returns c =
    let bs = take (c.args.end - c.args.at) (drop c.args.at c.args.input.now) in
    let l : length bs ≤ c.args.end - c.args.at = simp (length-take, length-drop) (omega arith) in
    let k = command_right bs in
    let read = c.ok-command.ensures.value ∙ c.read.ensures.command in
    record {
      inside = rw read (omega (arith, k.1, c.requires));
      held = omega (arith, c.requires);
      sized = rw read k.0;
      lends = refl;
    }

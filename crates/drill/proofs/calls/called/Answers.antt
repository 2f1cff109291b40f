use Rattle.std.proofs.Common.{◌≡◌, length, arith, rules}
use Rattle.drill.specs.Player.{called_of}
use Rattle.drill_script.proofs.Ops.{is_no}
use Rattle.drill.proofs.calls.called.Goals as goal

pub booted-requires : goal.booted-requires
booted-requires c =
    let n : length c.args.pages.now ≡ 16 = search rules in record { boots = c.requires.boots c.in-Boot.is; pages_room = omega (arith, n); frames_room = c.requires.frames_room }

pub returns-in-Boot : goal.returns-in-Boot
unfolding called_of
returns-in-Boot c = simp c.in-Boot.is c.booted.ensures

pub returns-in-Run : goal.returns-in-Run
unfolding called_of
returns-in-Run c = simp c.in-Run.is c.run.ensures

pub returns-in-Start : goal.returns-in-Start
unfolding called_of
returns-in-Start c = simp c.in-Start.is (c.start.ensures _)

pub returns-in-Stop : goal.returns-in-Stop
unfolding called_of
returns-in-Stop c = simp c.in-Stop.is (c.stop.ensures _)

pub returns-in-Mend : goal.returns-in-Mend
unfolding called_of
returns-in-Mend c = simp c.in-Mend.is c.mend.ensures

pub returns-in-Unshadowed : goal.returns-in-Unshadowed
unfolding called_of
returns-in-Unshadowed c = simp c.in-Unshadowed.is c.run-in-Unshadowed.ensures

pub returns-in_default : goal.returns-in_default
unfolding called_of
returns-in_default c =
    let n = c.in_default in
    simp (is_no _ _ n.not-Boot, is_no _ _ n.not-Run, is_no _ _ n.not-Start, is_no _ _ n.not-Stop, is_no _ _ n.not-Mend, is_no _ _ n.not-Unshadowed) (c.empty.ensures _)

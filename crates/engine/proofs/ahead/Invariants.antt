use Rattle.engine.specs.Answers.{Leads}
use Rattle.std.proofs.Common.{◌≡◌, length}
use Rattle.engine.proofs.ahead.Given as goal

abbrev pub invariant-loop-left : goal.invariant-loop-left
invariant-loop-left l =
    Leads l.frames l.pages l.shadow l.n l.left l.initial.s l.initial.regs l.initial.words l.s l.regs l.words
    × (length l.s ≡ 14)
    × (length l.regs ≡ length l.initial.regs)
    × (length l.words ≡ length l.initial.words)

abbrev pub decreases-loop-left : goal.decreases-loop-left
decreases-loop-left l = l.left

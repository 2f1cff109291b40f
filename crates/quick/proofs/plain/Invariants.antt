use Rattle.plain.specs.Plain.{pair_of}
use Rattle.quick.specs.Quick.{Goes}
use Rattle.std.proofs.Common.{◌≡◌, length}
use Rattle.quick.proofs.plain.Given as goal

abbrev pub invariant-loop-rest : goal.invariant-loop-rest
invariant-loop-rest l =
    Goes l.frames l.pages l.t l.shadow l.k l.rest l.p l.initial.regs l.initial.words (pair_of l.p l.dpc l.pc) l.regs l.words
    × (length l.regs ≡ length l.initial.regs)
    × (length l.words ≡ length l.initial.words)

abbrev pub decreases-loop-rest : goal.decreases-loop-rest
decreases-loop-rest l = l.rest

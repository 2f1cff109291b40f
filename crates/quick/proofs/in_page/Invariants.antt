use Rattle.plain.specs.Plain.{pair_of}
use Rattle.quick.specs.Quick.{Goes}
use Rattle.dlx.specs.Words.{plus}
use Rattle.std.proofs.Common.{◌≡◌, length}
use Rattle.quick.proofs.in_page.Given as goal

abbrev pub invariant-loop-left : goal.invariant-loop-left
invariant-loop-left l =
    Goes l.frames l.pages l.t l.shadow l.k l.left l.p l.initial.regs l.initial.words (pair_of l.p (plus l.x l.page) (plus l.y l.page)) l.regs l.words
    × (length l.regs ≡ length l.initial.regs)
    × (length l.words ≡ length l.initial.words)

use Rattle.house.specs.Lists.{list_from}
use Rattle.addresses.specs.Memory.{host_word}
use Rattle.std.proofs.Common.{◌≡◌, ◌+◌, ◌++◌, drop}
use Rattle.hypervisor.proofs.single.read.Given as goal

abbrev pub invariant-loop-j : goal.invariant-loop-j
invariant-loop-j l = l.word-items ≡ list_from (λ k. host_word l.frames l.words (l.from + k)) 0 l.j ++ drop l.j l.initial.word-items

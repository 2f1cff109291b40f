use Rattle.hypervisor.proofs.Read.{word_more, words_all}
use Rattle.house.specs.Lists.{list_from}
use Rattle.addresses.specs.Memory.{host_word}
use Rattle.std.proofs.Common.{ℕ, List, ◌+◌, ◌++◌, drop, take, refl, ap, ◌∙◌, arith, length-take-le}
use Rattle.hypervisor.proofs.single.read.Goals as goal

pub loop-j-init : goal.loop-j-init
unfolding list_from
loop-j-init c = refl

pub loop-j-preserved : goal.loop-j-preserved
loop-j-preserved c =
    let o = take c.args.count c.args.out.now in
    simp (c.loop-j.invariant, c.wide.ensures) (word_more (λ k. host_word c.args.frames.now c.args.words.now (c.args.from + k)) o c.loop-j.j (omega arith))

pub returns : goal.returns
returns c =
    ap (λ (l : List ℕ). l ++ drop c.args.count c.args.out.now)
    (c.loop-j.invariant ∙ words_all (λ k. host_word c.args.frames.now c.args.words.now (c.args.from + k)) c.args.out.now c.args.count c.loop-j.j (omega (arith, length-take-le c.args.count c.args.out.now c.requires.out_room)) c.requires.out_room)

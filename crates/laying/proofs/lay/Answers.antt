use Rattle.std.proofs.Common.{◌≡◌, ◌∙◌, refl, arith, rules}
use Rattle.laying.specs.Laid.{laid_words, sum_words, word_at}
use Rattle.laying.proofs.Words.{word_there, laid_on, sum_on}
use Rattle.laying.proofs.lay.Goals as goal

pub loop-k-init : goal.loop-k-init
loop-k-init c = (unfold laid_words in refl, unfold sum_words in refl, refl)

pub loop-k-preserved : goal.loop-k-preserved
loop-k-preserved c =
    let w : c.from_le_bytes-w.result ≡ word_at c.args.bytes.now c.loop-k.k = c.from_le_bytes-w.ensures ∙ word_there _ c.args.bytes.now c.loop-k.k c.as_chunks.ensures.front (omega (arith, c.as_chunks.ensures.front_len)) in
    (laid_on c.args.frames.now c.args.first c.args.bytes.now c.args.memory.now c.loop-k.k c.loop-k.invariant.0 w c.place_of-at.ensures c.set_word.ensures, sum_on c.args.bytes.now c.loop-k.k c.loop-k.invariant.1 w refl, search rules)

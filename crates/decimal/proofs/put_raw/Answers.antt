use Rattle.std.proofs.Common.{ap, ◌∙◌}
use Rattle.decimal.proofs.Texts.{exactly, word_bytes}
use Rattle.decimal.specs.Raw.{low_first}
use Rattle.decimal.specs.Texts.{text, put}
use Rattle.decimal.proofs.put_raw.Goals as goal

pub returns : goal.returns
unfolding low_first
returns c = exactly (c.put_text.ensures ∙ ap (put (text c.args.out.now c.args.at)) (c.to_le_bytes.ensures ∙ word_bytes c.args.w c.ranges.w.fits))

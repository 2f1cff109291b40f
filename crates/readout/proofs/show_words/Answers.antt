use native.Mathlib.Omega.{arith}
use Rattle.report.proofs.Texts.{put_there}
use Rattle.readout.proofs.Texts.{behind_told}
use Rattle.readout.proofs.show_words.Goals as goal

pub put_words-k-requires : goal.put_words-k-requires
put_words-k-requires c = record { n_bound = omega (arith, c.words.ensures, c.requires.n_bound, c.requires.count_bound); piece_bound = c.requires.piece_bound }

pub show-requires : goal.show-requires
show-requires c = let a = c.args in let p = c.requires in behind_told a.w a.t a.words.now a.s.words _ a.n a.count _ c.words.ensures p.n_bound p.count_bound p.told (put_there _ _ _ _ c.put_words-k.ensures.out_after)

pub returns : goal.returns
returns c = c.show.ensures

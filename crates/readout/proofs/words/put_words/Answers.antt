use mathlib.Core.Path.{◌≡◌, refl}
use lib.ListN.{length}
use native.Mathlib.Omega.{arith}
use borrow.Author.Rules.{rules}
use Rattle.report.proofs.Texts.{whole_is, put_as}
use Rattle.readout.specs.Printed.{words_from}
use Rattle.readout.proofs.words.put_words.Goals as goal

pub put_each-requires : goal.put_each-requires
put_each-requires c = c.requires.n_bound

pub returns : goal.returns
returns c = let a = c.args in let n : length a.out.now ≡ 49152 = search (rules, c.put_each-arg-1) in let e = whole_is c.put_each.ensures (omega (arith, n, c.requires.piece_bound)) in let t = words_from a.want a.words.now a.from a.n in record { out_after = put_as t t _ _ _ e.0.0 e.0.1 refl; counts = e.1 }

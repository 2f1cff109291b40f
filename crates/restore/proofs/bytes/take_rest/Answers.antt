use Rattle.std.proofs.Common.{refl, arith, rules, ne_eqb}
use Rattle.restore.proofs.Standing.{copied}
use Rattle.restore.proofs.bytes.take_rest.Goals as goal

pub returns-else-end-to : goal.returns-else-end-to
returns-else-end-to c = record {
  more = c.min-n.result;
  most = search rules;
  reader = search rules;
  ends = search (rules, ne_eqb _ _ c.if-end-to.false);
  goes = refl;
  put = copied c.args.held.now c.args.piece.now _ _ _ _ _ _ c.wide-at.ensures c.copy_from_slice.ensures.after (omega arith) (omega arith);
}

use Rattle.std.proofs.Common.{drop, refl, sym, ap, ◌∙◌, arith}
use Rattle.save.specs.Reading.{Reading, fed}
use Rattle.restore.specs.Standing.{reading_at}
use Rattle.restore.proofs.Whole.{open_there, whole_there, fed_all}
use Rattle.restore.proofs.reading.read_bytes.Goals as goal

pub loop-i-preserved-in-Open : goal.loop-i-preserved-in-Open
loop-i-preserved-in-Open c =
    let l = c.loop-i in
    let s = c.take_some-s.result in
    let n = c.take_some-s.ensures in
    record {
      same =
          ap (λ (y : Reading). fed y (drop s.next c.args.piece.now)) (open_there s.step c.in-Open.x l.house l.memory c.take_some-s.new.held c.in-Open.is)
          ∙ n.piece_after l.house l.memory refl refl
          ∙ l.invariant.same;
      within = n.stepped_to.2;
      standing = record { short = (rw c.in-Open.is at n.stepped_to.0).0 refl; sized = λ z o. let k = rw c.in-Open.is at n.kept in l.invariant.standing.sized (k.1 z) (sym k.0 ∙ o) };
    }

pub loop-i-preserved : goal.loop-i-preserved
loop-i-preserved c =
    let l = c.loop-i in
    let s = c.take_some-s.result in
    let n = c.take_some-s.ensures in
    let q = c.settle-settled.ensures in
    let x = c.settle-settled.result in
    record {
      same =
          ap (λ (y : Reading). fed y (drop s.next c.args.piece.now))
          (whole_there s.step c.in-Whole.x x.reader l.house x.house l.memory c.settle-settled.new.memory c.take_some-s.new.held c.in-Whole.is q.held_value q.memory_after)
          ∙ n.piece_after l.house l.memory refl refl
          ∙ l.invariant.same;
      within = n.stepped_to.2;
      standing = record { short = omega (arith, q.held_value); sized = q.sized };
    }

pub returns : goal.returns
returns c = let l = c.loop-i in fed_all (reading_at l.reader l.house l.held l.memory) c.args.piece.now l.i c.loop-i-test.false ∙ l.invariant.same

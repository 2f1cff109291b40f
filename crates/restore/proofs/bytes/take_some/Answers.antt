use Rattle.std.proofs.Common.{true, false, not, get_or, set, refl, ap, ◌∙◌, arith, length-set}
use Rattle.restore.specs.declared.Reader.{Reader}
use Rattle.restore.proofs.Standing.{one_byte, step_refused, step_ended, step_early, step_wrong, few, step_rest, step_whole}
use Rattle.restore.proofs.bytes.take_some.Goals as goal

pub returns-then-r-ne0 : goal.returns-then-r-ne0
returns-then-r-ne0 c = let a = c.args in let p = c.requires in let b = get_or a.piece.now a.from 0 in let q = one_byte a.r b a.held.now p.held_bound p.held_length a.piece.now a.from p.piece_room refl a.r false a.held.now a.count a.words (step_refused a.r b a.held.now p.held_bound p.held_length a.count a.words c.if-r-ne0.true) in record { piece_after = q.0; stepped_to = q.1.0; kept = q.1.1 }

pub returns-then-r : goal.returns-then-r
returns-then-r c = let a = c.args in let p = c.requires in let b = get_or a.piece.now a.from 0 in let q = one_byte a.r b a.held.now p.held_bound p.held_length a.piece.now a.from p.piece_room refl _ false a.held.now a.count a.words (step_ended a.r b a.held.now p.held_bound p.held_length c.if-r-ne0.false _ a.count a.words c.wrong.ensures c.if-r.true) in record { piece_after = q.0; stepped_to = q.1.0; kept = q.1.1 }

pub returns-then-more-lt6 : goal.returns-then-more-lt6
returns-then-more-lt6 c = let a = c.args in let p = c.requires in let b = get_or a.piece.now a.from 0 in let q = one_byte a.r b a.held.now p.held_bound p.held_length a.piece.now a.from p.piece_room refl _ false (set a.held.now a.r.held b) a.count a.words (step_early a.r b a.held.now p.held_bound p.held_length c.if-r-ne0.false c.if-r.false a.count a.words _ c.holding-more.ensures (omega (arith, ap (λ (x : Reader). x.held) c.holding-more.ensures, c.if-more-lt6.true))) in record { piece_after = rw c.wide-at.ensures q.0; stepped_to = rw c.wide-at.ensures q.1.0; kept = q.1.1 }

pub word-size-requires : goal.word-size-requires
word-size-requires c = simp length-set (omega (arith, c.requires.held_length))

pub pair-kind-requires : goal.pair-kind-requires
pair-kind-requires c = simp length-set (omega (arith, c.requires.held_length))

pub returns-then-not-may_come : goal.returns-then-not-may_come
returns-then-not-may_come c = let a = c.args in let p = c.requires in let b = get_or a.piece.now a.from 0 in let w = c.wide-at.ensures in let q = one_byte a.r b a.held.now p.held_bound p.held_length a.piece.now a.from p.piece_room refl _ false (set a.held.now a.r.held b) a.count a.words (step_wrong a.r b a.held.now p.held_bound p.held_length c.if-r-ne0.false c.if-r.false a.count a.words (omega (arith, ap (λ (x : Reader). x.held) c.holding-more.ensures, c.if-more-lt6.false)) _ _ (rw w at c.pair-kind.ensures.value) (rw w at c.word-size.ensures) _ c.may_come.ensures _ c.wrong-then-not-may_come.ensures (ap not c.if-not-may_come.true)) in record { piece_after = rw w q.0; stepped_to = rw w q.1.0; kept = q.1.1 }

pub returns-then-wide : goal.returns-then-wide
returns-then-wide c = let a = c.args in let p = c.requires in let b = get_or a.piece.now a.from 0 in let w = c.wide-at.ensures in let q = one_byte a.r b a.held.now p.held_bound p.held_length a.piece.now a.from p.piece_room refl _ true (set a.held.now a.r.held b) a.count a.words (step_whole a.r b a.held.now p.held_bound p.held_length c.if-r-ne0.false c.if-r.false a.count a.words (omega (arith, ap (λ (x : Reader). x.held) c.holding-more.ensures, c.if-more-lt6.false)) _ _ (rw w at c.pair-kind.ensures.value) (rw w at c.word-size.ensures) _ c.may_come.ensures (ap not c.if-not-may_come.false) _ c.holding-more.ensures (omega (arith, ap (λ (x : Reader). x.held) c.holding-more.ensures, c.wide.ensures, c.wide-2.ensures, c.if-wide.true))) in record { piece_after = rw w q.0; stepped_to = rw w q.1.0; kept = q.1.1 }

pub take_rest-requires : goal.take_rest-requires
take_rest-requires c = let a = c.args in let p = c.requires in let b = get_or a.piece.now a.from 0 in let w = c.wide-at.ensures in record { held_bound = omega (arith, c.wide.ensures, c.wide-2.ensures, c.if-wide.false); size_bound = few a.r b a.held.now p.held_bound p.held_length c.if-r-ne0.false c.if-r.false a.count a.words (omega (arith, ap (λ (x : Reader). x.held) c.holding-more.ensures, c.if-more-lt6.false)) _ _ (rw w at c.pair-kind.ensures.value) (rw w at c.word-size.ensures) _ c.may_come.ensures (ap not c.if-not-may_come.false); held_length = simp length-set p.held_length; piece_room = omega (arith, p.piece_room) }

pub shape_of-held : goal.shape_of-held
shape_of-held c = let a = c.args in c.held-1.given ∙ length-set a.held.now c.wide-at.result (get_or a.piece.now a.from 0)

pub returns : goal.returns
returns c = let a = c.args in let p = c.requires in let b = get_or a.piece.now a.from 0 in let w = c.wide-at.ensures in let q = step_rest a.r b a.held.now p.held_bound p.held_length c.if-r-ne0.false c.if-r.false a.count a.words (omega (arith, ap (λ (x : Reader). x.held) c.holding-more.ensures, c.if-more-lt6.false)) _ _ (rw w at c.pair-kind.ensures.value) (rw w at c.word-size.ensures) _ c.may_come.ensures (ap not c.if-not-may_come.false) a.piece.now a.from p.piece_room refl (omega (arith, ap (λ (x : Reader). x.held) c.holding-more.ensures, c.wide.ensures, c.wide-2.ensures, c.if-wide.false)) _ c.holding-more.ensures _ _ _ _ (rw w at c.take_rest.ensures) in record { piece_after = q.0; stepped_to = q.1.0; kept = q.1.1 }

use Rattle.std.proofs.Common.{◌≡◌, Ok, sym, ◌∙◌, rules}
use Rattle.std.proofs.lemmas.Result.{err_from_is_err_and}
use borrow.Author.Tests.{eqb-true, eqb-false}
use Rattle.asked.specs.Words.{rowed, row_of}
use Rattle.asked.proofs.Rows.{fed_on, fed_done, fed_wrong, row_empty, row_whole, row_wrong, count_is, count_wrong, frames_are}
use Rattle.asked.proofs.words.row_of.Goals as goal

pub returns-then-is_empty : goal.returns-then-is_empty
returns-then-is_empty c =
    let e = row_empty c.args.at c.args.frames.now c.args.word.now (eqb-true _ 0 (sym c.is_empty.ensures ∙ c.if-is_empty.true)) in
    record { value = count_is e; frames_after = frames_are e }

pub returns-in_err-r : goal.returns-in_err-r
returns-in_err-r c =
    let l = c.loop-b in
    let p = err_from_is_err_and c.from_residual.result c.from_residual.ensures.1 in
    let f = fed_on c.args.at l.r l.frames c.args.word.now l.b-index c.loop-b-test.true l.invariant.0 c.in_err-r.ensures in
    let e = row_wrong c.args.at _ c.args.frames.now c.args.word.now c.row_took.new.frames (eqb-false _ 0 (sym c.is_empty.ensures ∙ c.if-is_empty.false)) (sym (fed_wrong c.args.at _ c.row_took.new.frames _) ∙ f) in
    record { value = rw (p.1, p.2) (count_wrong e); frames_after = frames_are e }

pub loop-b-preserved : goal.loop-b-preserved
loop-b-preserved c = let l = c.loop-b in (fed_on c.args.at l.r l.frames c.args.word.now l.b-index c.loop-b-test.true l.invariant.0 c.in_ok-r.ensures, search rules)

pub returns-in_err-row_ended : goal.returns-in_err-row_ended
returns-in_err-row_ended c =
    let l = c.loop-b in
    let p = err_from_is_err_and c.from_residual-in_err-row_ended.result c.from_residual-in_err-row_ended.ensures.1 in
    let f = fed_done c.args.at (rowed (Ok l.r) l.frames) c.args.word.now l.b-index c.loop-b-test.false l.invariant.0 in
    let w = row_whole c.args.at c.args.frames.now c.args.word.now l.r l.frames (eqb-false _ 0 (sym c.is_empty.ensures ∙ c.if-is_empty.false)) f in
    let e = c.in_err-row_ended.ensures ∙ w in
    record { value = rw (p.1, p.2) (count_wrong e); frames_after = frames_are e }

pub returns : goal.returns
returns c =
    let l = c.loop-b in
    let f = fed_done c.args.at (rowed (Ok l.r) l.frames) c.args.word.now l.b-index c.loop-b-test.false l.invariant.0 in
    let w = row_whole c.args.at c.args.frames.now c.args.word.now l.r l.frames (eqb-false _ 0 (sym c.is_empty.ensures ∙ c.if-is_empty.false)) f in
    let e : rowed (Ok c.in_ok-row_ended.field-0) c.row_ended.new.frames ≡ row_of c.args.at c.args.frames.now c.args.word.now = c.in_ok-row_ended.ensures ∙ w in
    record { value = count_is e; frames_after = frames_are e }

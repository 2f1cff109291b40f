use Rattle.std.proofs.Common.{◌≡◌, ◌+◌, arith, rules}
use Rattle.texts.proofs.Pieces.{behind_none, behind_more, whole_of}
use Rattle.texts.proofs.read_text.Goals as goal

pub loop-bytes-init : goal.loop-bytes-init
loop-bytes-init c = (behind_none c.args.decimals c.args.line.now c.args.words.now c.requires.words_zeros, record { size = c.requires.line_length; within = omega arith })

pub returns-then-n-eq0 : goal.returns-then-n-eq0
returns-then-n-eq0 c = record { whole = whole_of c.args.decimals _ _ _ c.loop-bytes.invariant.0 (omega (arith, c.loop-bytes-test)) c.finished.ensures.words_after; fits = c.finished.ensures.fits }

pub loop-bytes-preserved : goal.loop-bytes-preserved
loop-bytes-preserved c =
    let b : c.in_ok-bytes.bytes ≡ c.loop-bytes.bytes + c.count-n.result = search rules in
    (rw b (behind_more c.args.decimals _ _ _ _ _ c.loop-bytes.invariant.0 c.fed-at.ensures.words_after c.count-n.ensures.in_bounds.1), c.fed-at.ensures.fits)

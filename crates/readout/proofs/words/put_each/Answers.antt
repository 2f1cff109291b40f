use Rattle.std.proofs.Common.{◌≡◌, ℕ, ◌+◌, ◌-◌, ◌<◌, ◌≤◌, List, get_or, take, drop, length, length-take, length-drop, get_or-take, get_or-drop, arith}
use Rattle.decimal.proofs.Texts.{parts_begin, parts_on, parts_end}
use Rattle.readout.specs.Printed.{word_text, words_from}
use Rattle.readout.proofs.words.put_each.Goals as goal

-- n words from this one on
part_at : (words : List ℕ) (from n i : ℕ) → i < from + n - from → get_or (take (from + n - from) (drop from words)) i 0 ≡ get_or words (from + i) 0
part_at words from n i l = rw (get_or-take, get_or-drop)

part_length : (words : List ℕ) (from n : ℕ) → from + n ≤ length words → length (take (from + n - from) (drop from words)) ≡ n
part_length words from n l = omega (arith, length-take (from + n - from) (drop from words), length-drop from words)

pub loop-w-init : goal.loop-w-init
loop-w-init c = parts_begin _ 12

pub loop-w-preserved : goal.loop-w-preserved
loop-w-preserved c =
    let a = c.args in
    let e = part_at a.words.now a.from a.n c.loop-w.w-index (omega (arith, c.loop-w-test.true, part_length a.words.now a.from a.n (omega (arith, c.requires)))) in
    parts_on (λ (k : ℕ). word_text a.want (get_or a.words.now (a.from + k) 0)) 12 c.loop-w.w-index c.loop-w.invariant (rw e at c.put_one-end.ensures)

pub returns : goal.returns
unfolding words_from
returns c =
    let a = c.args in
    let l = part_length a.words.now a.from a.n (omega (arith, c.requires)) in
    parts_end _ 12 c.loop-w.w-index a.n (omega arith) (omega (arith, c.loop-w-test.false)) c.loop-w.invariant

use Rattle.std.proofs.Common.{◌≡◌, ℕ, ◌-◌, ◌%◌, ◌^◌, None, Some, ap, ◌∙◌, arith}
use Rattle.texts.specs.Numbers.{negated}
use Rattle.texts.proofs.Said.{said_negated, said_plain}
use Rattle.texts.proofs.numbers.word_in.Goals as goal

pub returns-in_err-n-in-Some : goal.returns-in_err-n-in-Some
unfolding negated
returns-in_err-n-in-Some c =
    let d = (c.in-Some.ensures {u = tt}).cases in
    c.from_residual.ensures ∙ said_negated c.args.line.now c.in-Some.digits.now None d.0 d.1 (c.in_err-n-in-Some.ensures {u = tt}).value

pub returns-in_err-n-in-None : goal.returns-in_err-n-in-None
returns-in_err-n-in-None c = c.from_residual-in_err-n-in-None.ensures ∙ (c.in_err-n-in-None.ensures {u = tt}).value ∙ said_plain c.args.line.now (c.in-None.ensures {u = tt}).cases

pub returns-in_ok-n-in-Some : goal.returns-in_ok-n-in-Some
unfolding negated
returns-in_ok-n-in-Some c =
    let d = (c.in-Some.ensures {u = tt}).cases in
    let e : c.wrapping_neg.result ≡ (2 ^ 32 - c.in_ok-n-in-Some.n) % 2 ^ 32 = omega (arith, c.wrapping_neg.ensures, (c.in_ok-n-in-Some.ensures {u = tt}).value_le_most) in
    ap (λ (x : ℕ). Some x) e ∙ said_negated c.args.line.now c.in-Some.digits.now (Some c.in_ok-n-in-Some.n) d.0 d.1 (c.in_ok-n-in-Some.ensures {u = tt}).value

pub returns-in_ok-n-in-None : goal.returns-in_ok-n-in-None
returns-in_ok-n-in-None c = (c.in_ok-n-in-None.ensures {u = tt}).value ∙ said_plain c.args.line.now (c.in-None.ensures {u = tt}).cases

-- The digest is a fold.
use Rattle.std.proofs.Common.{◌≡◌, ℕ, zero, suc, ◌≤◌, List, length, take, fold, get_or, sym, refl, ap, ◌∙◌, add-one, take_all, arith}
use Rattle.std.proofs.lemmas.List.Sums.{fold_more}
use Rattle.drill_text.specs.Digest.{mixed_of, digest_to, digest_of}

folded_to : (words : List ℕ) (n : ℕ) → n ≤ length words → fold mixed_of 0 (take n words) ≡ digest_to words n
unfolding digest_to
folded_to words zero l = refl
folded_to words (suc n) l =
    let b : n ≤ length words = omega arith in
    rw (← add-one n, fold_more mixed_of 0 words n 0 (omega arith)) (ap (λ d. mixed_of d (get_or words n 0)) (folded_to words n b))

pub folded : (words : List ℕ) → fold mixed_of 0 words ≡ digest_of words
unfolding digest_of
folded words = ap (fold mixed_of 0) (sym (take_all (length words) words (omega arith))) ∙ folded_to words (length words) (omega arith)

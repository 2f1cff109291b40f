-- A piece byte by byte, and as much of a list as there is.
use Rattle.std.proofs.Common.{◌≡◌, ℕ, ◌+◌, ◌<◌, ◌≤◌, min, leb, List, length, get_or, take, drop, sym, ◌∙◌, add-one, arith, drop_of_length-le, take_all, drop-cons, leb-false, leb-true}
use native.Mathlib.Nat.{min-eq_left, min-eq_right}
use lib.Seq.{take-length}
use Rattle.dlx.proofs.Tests.{by_test}
use Rattle.housefile.specs.Reader.{Read, took, fed}

-- what is left to read from here is what was to read from the start

pub fed_on : (s s' : Read) (piece : List ℕ) (i : ℕ) → i < length piece → s' ≡ took s (get_or piece i 0) → fed s' (drop (i + 1) piece) ≡ fed s (drop i piece)
unfolding fed
fed_on s s' piece i l e = simp (drop-cons piece i 0 l, e, add-one)

pub fed_done : (s : Read) (piece : List ℕ) (i : ℕ) → length piece ≤ i → s ≡ fed s (drop i piece)
unfolding fed
fed_done s piece i l = simp (drop_of_length-le piece l)

pub take_there : (n : ℕ) (l : List ℕ) → take (min n (length l)) l ≡ take n l
take_there n l =
    by_test (leb n (length l))
    (λ e. let h : n ≤ length l = leb-true n (length l) e in rw (min-eq_left h))
    (λ e. let h : length l ≤ n = omega (arith, leb-false n (length l) e) in rw (min-eq_right h) (take-length l ∙ sym (take_all n l h)))

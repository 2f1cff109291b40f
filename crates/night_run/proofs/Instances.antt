-- What the reads of a program come to, used on closed inputs: zeros, whose first record is wrong.
use mathlib.Core.Path.{◌≡◌, refl, sym, ap, ◌∙◌}
use mathlib.Core.Bool.{true, false}
use mathlib.Core.List.{List, ◌++◌}
use Prim.Native.Nat.{ℕ, ◌+◌, ◌-◌, ◌≤◌}
use native.Mathlib.Omega.{arith}
use borrow.Author.Tests.{le-leb}
use lib.ListN.{length, replicate, take, length-append, length-replicate, replicate-append-replicate}
use lib.Seq.{take_at}
use Rattle.house.proofs.Lists.Bounded.{one_way}
use Rattle.housefile.specs.Records.{may_come}
use Rattle.housefile.specs.Reader.{Read, no_read, further, spoils, placed, completed, settled, took, fed}
use Rattle.housefile.proofs.Machine.{fed_pieces}
use Rattle.housefile.proofs.Steps.{stuck}
use Rattle.night_run.specs.Pieces.{fixed, AllOf}
use Rattle.night_run.specs.Ran.{house_file}
use Rattle.night_run.specs.declared.input.Taken.{Taken}

-- 22 of them, and more
wrong_there : (n : ℕ) → 22 ≤ n → house_file.wrong (replicate n 0) ≡ true
wrong_there n l =
    let e : 22 + (n - 22) ≡ n = omega arith in
    let first : (fed no_read (replicate 22 0)).reader.wrong ≡ true = unfold may_come further spoils placed completed settled took fed in refl in
    ap (λ (k : ℕ). (fed no_read (replicate k 0)).reader.wrong) (sym e)
    ∙ ap (λ (bs : List ℕ). (fed no_read bs).reader.wrong) (sym (replicate-append-replicate 22 (n - 22) 0))
    ∙ ap (λ (s : Read). s.reader.wrong) (fed_pieces no_read (replicate 22 0) (replicate (n - 22) 0) ∙ stuck (fed no_read (replicate 22 0)) (replicate (n - 22) 0) first)
    ∙ first

-- what comes before some of them is zeros
before_zeros : (n : ℕ) (before last : List ℕ) → replicate n 0 ≡ before ++ last → before ≡ replicate (length before) 0
before_zeros n before last e =
    let k = length before in
    let l : n ≡ k + length last = sym (length-replicate {A = ℕ} n 0) ∙ ap length e ∙ length-append before last in
    sym (take_at before last k refl)
    ∙ ap (take k) (sym e ∙ ap (λ (j : ℕ). replicate j 0) l ∙ sym (replicate-append-replicate k (length last) 0))
    ∙ take_at (replicate k 0) (replicate (length last) 0) k (length-replicate k 0)

-- no read is made behind the piece in which the first record was told to be wrong: the bytes of all reads are not so many
pub read_on : (t : Taken) → AllOf house_file.wrong t (replicate 200000 0) → ⊥
read_on t all =
    let b = all.behind in
    let long : length b.before + length b.last ≡ 200000 = sym (length-append b.before b.last) ∙ ap length (sym b.whole) ∙ length-replicate {A = ℕ} 200000 0 in
    let l : 22 ≤ length b.before = omega (arith, long, b.piece) in
    let w : house_file.wrong b.before ≡ true = ap house_file.wrong (before_zeros 200000 b.before b.last b.whole) ∙ wrong_there (length b.before) l in
    let f : fixed house_file.wrong b.before ≡ true = rw (le-leb 22 (length b.before) l, w) in
    one_way (fixed house_file.wrong b.before) f b.needed

-- and as many as the reads told
pub as_told : AllOf house_file.wrong (record { bytes = 5; ended = true; failed = false }) (replicate 6 0) → ⊥
as_told all = omega (arith, all.behind.count)

-- What was put, and counts.
use mathlib.Core.Path.{◌≡◌, sym, ap, ◌∙◌}
use mathlib.Core.List.{List, ◌++◌}
use Prim.Native.Nat.{ℕ, ◌+◌, ◌≤◌}
use native.Mathlib.Omega.{arith}
use lib.ListN.{length, take, drop, length-append}
use lib.Seq.{length-take-le, take_at}
use Rattle.decimal.specs.Texts.{Puts}
use Rattle.decimal.proofs.Texts.{whole}
use Rattle.files.specs.Counts.{IsPrefixLen}

pub counts_at : (n : ℕ) (l : List ℕ) → n ≤ length l → IsPrefixLen n l
counts_at n l h = (h, sym (length-take-le n l h))

-- what was put stands at the start
pub put_whole : {out o bs : List ℕ} {r most : ℕ} → Puts out 0 o r bs most → most ≤ length out → (take r o ≡ bs) × IsPrefixLen r o
put_whole {out} {o} {bs} {r} p l =
    let z : 0 + length bs ≡ length bs = omega arith in
    let e = whole p (omega arith) in
    let n : r ≡ length bs = e.0 ∙ z in
    let w : o ≡ bs ++ drop (length bs) out = e.1 ∙ rw z in
    let k : r ≤ length o = omega (arith, n, ap length w, length-append bs (drop (length bs) out)) in
    (ap (λ (x : List ℕ). take r x) w ∙ take_at bs (drop (length bs) out) r (sym n), counts_at r o k)

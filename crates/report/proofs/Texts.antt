-- The lines of partitions, one more in each turn, and a whole text.
use mathlib.Core.Path.{◌≡◌, refl, sym, ap, ◌∙◌}
use mathlib.Core.List.{List, [], ◌∷◌, ◌++◌, append-nil, append_assoc}
use Prim.Native.Nat.{ℕ, suc, ◌+◌, ◌*◌, ◌<◌, ◌≤◌, ◌^◌}
use native.Mathlib.Numerals.{add-one}
use native.Mathlib.Omega.{arith}
use lib.ListN.{length, get_or, take, drop, length-append}
use lib.Seq.{take-suc, take_at, length-take-le}
use Rattle.dlx.specs.declared.partition.Partition.{Partition}
use Rattle.decimal.specs.Decimals.{decimal}
use Rattle.decimal.specs.Texts.{Text, text, put, Puts}
use Rattle.decimal.proofs.Decimals.{few_digits}
use Rattle.decimal.proofs.Texts.{put_behind, whole, ◌then◌, nothing, roomy}
use Rattle.report.specs.Report.{field, line_of, lines_from}
use Rattle.report.specs.Put.{Counts}
use Rattle.report.specs.Put.{put as at_start}

-- a number of at most k + 1 digits, and the byte behind it
pub field_short : (k n b : ℕ) → n < 10 ^ suc k → length (field n b) ≤ suc k + 1
unfolding field
field_short k n b l = omega (arith, length-append (decimal n) (b ∷ []), few_digits k n l)

pub field_is : {o : List ℕ} {r : ℕ} {t' : Text} (t : Text) (n b : ℕ) → text o r ≡ put t (decimal n) → t' ≡ put (text o r) (b ∷ []) → t' ≡ put t (field n b)
unfolding field
field_is t n b e f = put_behind t (decimal n) (b ∷ []) e f

-- ---- a text at the start of a buffer

-- one that the buffer holds
pub whole_is : {out o bs : List ℕ} {r most : ℕ} → Puts out 0 o r bs most → most ≤ length out
    → ((r ≡ length bs) × (o ≡ bs ++ drop (length bs) out)) × Counts r o
whole_is {out} {o} {bs} {r} p l =
    let z : 0 + length bs ≡ length bs = omega arith in
    let e = whole p (omega arith) in
    let n : r ≡ length bs = e.0 ∙ z in
    let w : o ≡ bs ++ drop (length bs) out = e.1 ∙ rw z in
    let k : r ≤ length o = omega (arith, n, ap length w, length-append bs (drop (length bs) out)) in
    ((n, w), (k, sym (length-take-le r o k)))

-- the text t, put as it is, is the text t'
pub put_as : (t t' out : List ℕ) (n : ℕ) (now : List ℕ) → n ≡ length t → now ≡ t ++ drop (length t) out → t ≡ t' → (n, now) ≡ at_start t' out
put_as t t' out n now l h e = ap (λ (x : ℕ). (x, now)) l ∙ ap (λ (x : List ℕ). (length t, x)) h ∙ ap (λ (x : List ℕ). at_start x out) e

-- a text that was put stands at the buffer's start
pub put_there : (t out now : List ℕ) (n : ℕ) → (n, now) ≡ at_start t out → take n now ≡ t
put_there t out now n e = ap (λ (g : ℕ × List ℕ). take g.0 g.1) e ∙ take_at t (drop (length t) out) (length t) refl

-- ---- the lines

lines_behind_lem : (i : ℕ) (ps : List Partition) (p : Partition) → lines_from i (ps ++ (p ∷ [])) ≡ lines_from i ps ++ line_of (i + length ps) p
unfolding lines_from
lines_behind_lem i [] p = let z : i + 0 ≡ i = omega arith in rw (z, append-nil (line_of i p))
lines_behind_lem i (q ∷ ps) p =
    let z : suc i + length ps ≡ i + suc (length ps) = omega arith in
    rw (lines_behind_lem (suc i) ps p, z, append_assoc (line_of i q) (lines_from (suc i) ps) (line_of (i + suc (length ps)) p))

lines_more : (ps : List Partition) (i : ℕ) (d : Partition) → i < length ps → lines_from 0 (take (i + 1) ps) ≡ lines_from 0 (take i ps) ++ line_of i (get_or ps i d)
lines_more ps i d l =
    let z : 0 + length (take i ps) ≡ i = omega (arith, length-take-le i ps (omega arith)) in
    rw (add-one i, take-suc ps i d l, lines_behind_lem 0 (take i ps) (get_or ps i d), z)

pub lines_none : {s : List ℕ} {u : ℕ} (ps : List Partition) → Puts s u s u (lines_from 0 (take 0 ps)) (87 * 0)
unfolding lines_from
lines_none ps = nothing

pub lines_on : {s t r : List ℕ} {u v w : ℕ} (ps : List Partition) (i : ℕ) (d : Partition) → i < length ps
    → Puts s u t v (lines_from 0 (take i ps)) (87 * i) → Puts t v r w (line_of i (get_or ps i d)) 87 → Puts s u r w (lines_from 0 (take (i + 1) ps)) (87 * (i + 1))
lines_on ps i d l p q = rw (lines_more ps i d l) (roomy _ (p then q) (omega arith))

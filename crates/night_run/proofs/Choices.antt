-- What the first bytes tell.
use mathlib.Core.Path.{◌≡◌, ap, sym, ◌∙◌}
use mathlib.Core.Bool.{false}
use mathlib.Core.List.{List, ◌∷◌}
use Prim.Native.Nat.{ℕ, suc, ◌+◌, ◌*◌, ◌<◌, ◌≤◌, min}
use native.Mathlib.Numerals.{add-one}
use native.Mathlib.Omega.{arith}
use borrow.Author.Tests.{lt-ltb, le-ltb, lt-leb, le-leb}
use lib.Dec.{eqb}
use lib.ListN.{length, get_or, take, drop}
use lib.Seq.{drop-cons}
use Rattle.housefile.specs.Records.{number}
use Rattle.night_run.specs.Ran.{is_saved, room_for}

pub two_at : (l : List ℕ) (at : ℕ) → at + 2 ≤ length l → get_or l at 0 + 256 * get_or l (at + 1) 0 ≡ number (take 2 (drop at l))
unfolding number
two_at l at h =
    let e : drop at l ≡ get_or l at 0 ∷ get_or l (suc at) 0 ∷ drop (suc (suc at)) l = drop-cons l at 0 (omega arith) ∙ ap (λ (x : List ℕ). get_or l at 0 ∷ x) (drop-cons l (suc at) 0 (omega arith)) in
    sym (ap (λ (x : List ℕ). number (take 2 x)) e ∙ rw (add-one at) (omega arith))

four_at : (l : List ℕ) → 22 ≤ length l → number (take 2 (drop 10 l)) + 65536 * number (take 2 (drop 12 l)) ≡ number (take 4 (drop 10 l))
unfolding number
four_at l h =
    let e : drop 12 l ≡ get_or l 12 0 ∷ get_or l 13 0 ∷ drop 14 l = drop-cons l 12 0 (omega arith) ∙ ap (λ (x : List ℕ). get_or l 12 0 ∷ x) (drop-cons l 13 0 (omega arith)) in
    let f : drop 10 l ≡ get_or l 10 0 ∷ get_or l 11 0 ∷ drop 12 l = drop-cons l 10 0 (omega arith) ∙ ap (λ (x : List ℕ). get_or l 10 0 ∷ x) (drop-cons l 11 0 (omega arith)) in
    let a : number (take 2 (drop 12 l)) ≡ get_or l 12 0 + 256 * get_or l 13 0 = ap (λ (x : List ℕ). number (take 2 x)) e ∙ omega arith in
    let b : number (take 2 (drop 10 l)) ≡ get_or l 10 0 + 256 * get_or l 11 0 = ap (λ (x : List ℕ). number (take 2 x)) f ∙ omega arith in
    let c : number (take 4 (drop 10 l)) ≡ get_or l 10 0 + 256 * (get_or l 11 0 + 256 * (get_or l 12 0 + 256 * (get_or l 13 0 + 256 * 0))) =
    ap (λ (x : List ℕ). number (take 4 x)) (f ∙ ap (λ (x : List ℕ). get_or l 10 0 ∷ get_or l 11 0 ∷ x) e) in
    omega (arith, a, b, c)

pub short_saved : (l : List ℕ) → length l < 6 → false ≡ is_saved l
unfolding is_saved
short_saved l h = sym (rw (lt-leb 6 (length l) h))

pub long_saved : (l : List ℕ) (n : ℕ) → 6 ≤ length l → n ≡ number (take 2 (drop 4 l)) → eqb n 5 ≡ is_saved l
unfolding is_saved
long_saved l n h e = ap (λ (k : ℕ). eqb k 5) e ∙ sym (rw (le-leb 6 (length l) h))

pub short_room : (l : List ℕ) → length l < 22 → 0 ≡ room_for l
unfolding room_for
short_room l h = sym (rw (lt-ltb (length l) 22 h))

module _ (l : List ℕ) (low high : ℕ) (h : 22 ≤ length l) (a : low ≡ number (take 2 (drop 10 l))) (b : high ≡ number (take 2 (drop 12 l))) where
  said : low + 65536 * high ≡ number (take 4 (drop 10 l))
  said = rw (a, b) (four_at l h)

  pub some_room : min (low + 65536 * high) 1048576 ≡ room_for l
  unfolding room_for
  some_room = sym (rw (le-ltb (length l) 22 h, ← said))

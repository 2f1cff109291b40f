-- What the passes over words and over lines keep: what is left to do from here is what was to do from the start.
use mathlib.Core.Path.{◌≡◌, refl, sym, ap, ◌∙◌}
use mathlib.Core.Bool.{Bool, true, false}
use mathlib.Core.List.{List, [], ◌∷◌, ◌++◌, append_assoc, append-nil}
use Prim.Native.Nat.{ℕ, suc, ◌+◌, ◌-◌, ◌<◌, ◌≤◌}
use native.Mathlib.Numerals.{add-one}
use native.Mathlib.Omega.{arith}
use borrow.Author.Tests.{ne_eqb, lt-ltb, le-ltb, le-leb, lt-leb, leb-true, leb-false, ltb-true, ltb-false}
use Rattle.std.proofs.Common.{nat_eq, Ok, Err, Some, None}
use Rattle.std.specs.List.{position, position_or_len}
use lib.Dec.{eqb, ltb, leb}
use lib.ListN.{length, get_or, set, take, drop, drop_of_length-le, length-append}
use lib.Seq.{drop-cons, sets, sets-eq}
use Rattle.dlx.proofs.Tests.{by_test}
use Rattle.decimal.specs.Texts.{Text, text, put}
use Rattle.decimal.proofs.Texts.{put_behind, exactly, whole}
use Rattle.lines.specs.Lines.{line_of, candidate, right}
use Rattle.lines.specs.Listings.{listing, last_line, lines_behind, lines_of, wrong_from, words_of, answer, assembled, listed, wrong_by, words_by, read_by}
use Rattle.listing.specs.Answers.{answer_of, Surveyed}
use Rattle.listing.specs.declared.Refusal.{Refusal}
use Rattle.listing.specs.declared.Refusal.TheVariants.{ShortOutput, WrongLine}

-- ---- words

module _ (ws : List ℕ) (i : ℕ) (h : i < length ws) where
  listing_from : listing (drop i ws) ≡ line_of (get_or ws i 0) ++ (10 ∷ listing (drop (i + 1) ws))
  unfolding listing
  listing_from = rw (drop-cons ws i 0 h, add-one i)

  pub listing_on : {t : Text} {o1 o2 : List ℕ} {r1 r2 : ℕ} (out : List ℕ) (end : ℕ) → put (text out end) (listing (drop i ws)) ≡ t
      → text o1 r1 ≡ put (text out end) (line_of (get_or ws i 0)) → text o2 r2 ≡ put (text o1 r1) (10 ∷ []) → put (text o2 r2) (listing (drop (i + 1) ws)) ≡ t
  listing_on {t} {o1} {o2} {r1} {r2} out end e f g =
      let l = listing (drop (i + 1) ws) in
      put_behind (text out end) (line_of (get_or ws i 0)) (10 ∷ l) f (put_behind (text o1 r1) (10 ∷ []) l g refl)
      ∙ ap (put (text out end)) (sym listing_from)
      ∙ e

  room_from : (n : ℕ) → n ≡ length (line_of (get_or ws i 0)) → length (listing (drop i ws)) ≡ n + suc (length (listing (drop (i + 1) ws)))
  room_from n e = ap length listing_from ∙ length-append (line_of (get_or ws i 0)) (10 ∷ listing (drop (i + 1) ws)) ∙ rw e

  module _ (left room n : ℕ) (e : n ≡ length (line_of (get_or ws i 0))) (inv : left + length (listing ws) ≡ room + length (listing (drop i ws))) where
    pub room_on : n < left → left - (n + 1) + length (listing ws) ≡ room + length (listing (drop (i + 1) ws))
    room_on k = omega (arith, room_from n e)

    pub room_not : left ≤ n → false ≡ leb (length (listing ws)) room
    room_not k = sym (lt-leb (length (listing ws)) room (omega (arith, room_from n e)))

module _ (ws : List ℕ) (i : ℕ) (h : length ws ≤ i) where
  pub listing_done : {t : Text} (out : List ℕ) (end : ℕ) → put (text out end) (listing (drop i ws)) ≡ t → text out end ≡ t
  unfolding listing put
  listing_done out end e = rw (drop_of_length-le ws h) at e

  pub room_done : (left room : ℕ) → left + length (listing ws) ≡ room + length (listing (drop i ws)) → true ≡ leb (length (listing ws)) room
  unfolding listing
  room_done left room inv =
      let z : length (listing (drop i ws)) ≡ 0 = rw (drop_of_length-le ws h) in
      sym (le-leb (length (listing ws)) room (omega arith))

module _ (ws out : List ℕ) {b : Bool} (e : b ≡ leb (length (listing ws)) (length out)) where
  pub list_not : b ≡ false → answer 13 0 0 out ≡ listed ws out
  unfolding listed
  list_not n = let l = leb-false (length (listing ws)) (length out) (sym e ∙ n) in rw (lt-ltb (length out) (length (listing ws)) l)

  pub list_done : {o : List ℕ} {r : ℕ} → b ≡ true → text o r ≡ put (text out 0) (listing ws) → answer 0 0 r o ≡ listed ws out
  unfolding listed
  list_done {o} {r} y f =
      let l = leb-true (length (listing ws)) (length out) (sym e ∙ y) in
      let p = whole (exactly f) (omega arith) in
      let n : r ≡ length (listing ws) = omega (arith, p.0) in
      let q : o ≡ listing ws ++ drop (0 + length (listing ws)) out = p.1 in
      let z : 0 + length (listing ws) ≡ length (listing ws) = omega arith in
      rw (le-ltb (length out) (length (listing ws)) l, n, q, z)

-- ---- the first line, and the lines behind it

last_line_lem : (l : List ℕ) (x : ℕ) → last_line (l ++ (x ∷ [])) ≡ (l ++ (x ∷ [])) ∷ []
last_line_lem [] x = refl
last_line_lem (y ∷ l) x = refl

-- where the first newline of a text is
abbrev is_newline : ℕ → Bool
is_newline b = nat_eq b 10

abbrev newline : List ℕ → ℕ
newline t = position_or_len is_newline t

first_from : (l t : List ℕ) → newline t < length t → lines_behind l t ≡ (l ++ take (newline t) t) ∷ lines_of (drop (newline t + 1) t)
unfolding lines_behind
first_from l [] h = absurd (omega arith)
first_from l0 (x ∷ xs) h =
    by_test (eqb x 10)
    (λ q. rw (q, lines_behind) (rw (append-nil l0)))
    (λ q.
    let n = newline xs in
    let k : newline (x ∷ xs) ≡ suc n = rw q (omega arith) in
    let l : newline xs < length xs = omega arith in
    rw (k, q, lines_behind, add-one) (first_from (l0 ++ (x ∷ [])) xs l ∙ rw (append_assoc l0 (x ∷ []) (take n xs), add-one)))

-- without one
only_from : (l t : List ℕ) → length t ≤ newline t → lines_behind l t ≡ last_line (l ++ t)
unfolding lines_behind
only_from l [] h = ap last_line (sym (append-nil l))
only_from l (x ∷ xs) h =
    by_test (eqb x 10)
    (λ q. let z = rw q at h in absurd (omega arith))
    (λ q. rw (q, lines_behind) (let z = rw q at h in only_from (l ++ (x ∷ [])) xs (omega arith) ∙ ap last_line (append_assoc l (x ∷ []) xs)))

some_is : {a b : ℕ} → Some a ≡ Some b → a ≡ b
some_is e = cc

pub first_line : (t : List ℕ) {n : ℕ} → Some n ≡ position is_newline t → (n < length t) × (lines_of t ≡ take n t ∷ lines_of (drop (n + 1) t))
first_line t {n} e =
    by_test (ltb (newline t) (length t))
    (λ q.
    let z : n ≡ newline t = some_is (rw q at e) in
    let l = ltb-true (newline t) (length t) q in
    (omega arith, rw z (first_from [] t l)))
    (λ q. let z = rw q at e in cc)

pub only_line : (t : List ℕ) → false ≡ nat_eq (length t) 0 → None ≡ position is_newline t → lines_of t ≡ t ∷ lines_of []
unfolding lines_behind
only_line [] l e = cc
only_line (x ∷ xs) l e =
    by_test (ltb (newline (x ∷ xs)) (length (x ∷ xs)))
    (λ q. let z = rw q at e in cc)
    (λ q. only_from [] (x ∷ xs) (ltb-false (newline (x ∷ xs)) (length (x ∷ xs)) q))

-- ---- looking over lines: k is the number of lines passed

module _ (ls : List (List ℕ)) (k : ℕ) (l : List ℕ) (rest now : List (List ℕ)) (first : now ≡ l ∷ rest) where
  pub over_on : right l ≡ true → wrong_from (k + 1) now ≡ wrong_from 1 ls → wrong_from (k + 1 + 1) rest ≡ wrong_from 1 ls
  unfolding wrong_by
  over_on y e = let z : suc (k + 1) ≡ k + 1 + 1 = omega arith in rw (first, y, wrong_by, z) at e

  pub over_count : k + length now ≡ length ls → k + 1 + length rest ≡ length ls
  over_count e = omega (arith, ap length first)

  pub over_wrong : right l ≡ false → wrong_from (k + 1) now ≡ wrong_from 1 ls → wrong_from 1 ls ≡ k + 1
  unfolding wrong_by
  over_wrong y e = sym (rw (first, y, wrong_by) at e)

module _ (ls : List (List ℕ)) (k : ℕ) (t : List ℕ) (none : t ≡ []) where
  pub over_done : wrong_from (k + 1) (lines_of t) ≡ wrong_from 1 ls → wrong_from 1 ls ≡ 0
  unfolding wrong_by lines_behind
  over_done e = sym (rw none at e)

  pub over_all : k + length (lines_of t) ≡ length ls → k ≡ length ls
  unfolding lines_behind
  over_all e = let z : k + 0 ≡ length ls = rw none at e in omega arith

-- ---- writing words

module _ (l : List ℕ) (rest now : List (List ℕ)) (first : now ≡ l ∷ rest) where
  pub words_on : {o : List ℕ} {w : ℕ} (out : List ℕ) (k : ℕ) → w ≡ candidate l → sets out k (words_of now) ≡ o → sets (set out k w) (k + 1) (words_of rest) ≡ o
  unfolding words_by
  words_on out k f e = rw (add-one k, f) (rw first at e)

pub words_done : {o : List ℕ} (t out : List ℕ) (k : ℕ) → t ≡ [] → sets out k (words_of (lines_of t)) ≡ o → out ≡ o
unfolding words_by lines_behind
words_done t out k h e = rw h at e

words_length : (f : List ℕ → ℕ) (ls : List (List ℕ)) → length (words_by f ls) ≡ length ls
unfolding words_by
words_length f [] = refl
words_length f (l ∷ ls) = ap suc (words_length f ls)

pub words_all : {o : List ℕ} (f : List ℕ → ℕ) (ls : List (List ℕ)) (out : List ℕ) → length ls ≤ length out → o ≡ sets out 0 (words_by f ls) → o ≡ words_by f ls ++ drop (length ls) out
words_all f ls out h e =
    let n = words_length f ls in
    let z : 0 + length (words_by f ls) ≡ length ls = omega arith in
    let q : sets out 0 (words_by f ls) ≡ words_by f ls ++ drop (0 + length (words_by f ls)) out = sets-eq (words_by f ls) out 0 (omega arith) in
    e ∙ q ∙ rw z

-- ---- the call

module _ (t out : List ℕ) where
  pub assembled_wrong : (r : Refusal) → Surveyed (lines_of t) (Err r) → answer_of (Err r) out ≡ assembled t out
  unfolding read_by
  assembled_wrong ShortOutput s = absurd s
  assembled_wrong (WrongLine k) (e, l) = rw (e, ne_eqb k 0 (omega arith))

  module _ (n : ℕ) (s : Surveyed (lines_of t) (Ok n)) where
    pub assembled_short : length out < n → answer 13 0 0 out ≡ assembled t out
    unfolding read_by
    assembled_short h = rw (s.0, ← s.1, lt-ltb (length out) n h)

    pub assembled_done : {o : List ℕ} → n ≤ length out → o ≡ words_of (lines_of t) ++ drop (length (lines_of t)) out → answer 0 0 n o ≡ assembled t out
    unfolding read_by
    assembled_done h e = rw (s.0, ← s.1, le-ltb (length out) n h) (rw (e, ← s.1))

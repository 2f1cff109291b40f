-- Listings and texts as a whole.
use mathlib.Core.Path.{◌≡◌, refl, sym, ap, subst, ◌∙◌}
use mathlib.Core.Bool.{Bool, true, false, not}
use mathlib.Core.List.{List, [], ◌∷◌, ◌++◌, append_assoc, append-nil}
use Prim.Native.Nat.{ℕ, zero, suc, ◌+◌, ◌^◌, ◌<◌, ◌≤◌}
use native.Mathlib.Omega.{arith}
use borrow.Author.Tests.{eqb-true, not-true, lt-ltb, le-ltb}
use lib.Dec.{eqb}
use lib.ListN.{length, get_or, take, drop}
use lib.Seq.{take-append_seam}
use Rattle.dlx.proofs.Tests.{by_test, and_left}
use Rattle.decimal.proofs.Same.{and_right}
use Rattle.lines.specs.Lines.{line_of, right}
use Rattle.lines.specs.Listings.{listing, lines_behind, lines_of, wrong_from, words_of, ended_from, ended, answer, assembled, listed, wrong_by, words_by, read_by}
use Rattle.lines.proofs.Tables.{clean}
use Rattle.lines.proofs.Lines.{candidate_line, right_line, right_taken, line_clean}

-- ---- the lines of a listing

-- the line of each word
abbrev pub each : List ℕ → List (List ℕ)
each [] = []
each (w ∷ ws) = line_of w ∷ each ws

lines_clean : (l a t : List ℕ) → clean a ≡ true → lines_behind l (a ++ (10 ∷ t)) ≡ (l ++ a) ∷ lines_behind [] t
unfolding lines_behind
lines_clean l [] t e = rw (append-nil l)
lines_clean l (x ∷ a) t e =
    rw (not-true (eqb x 10) (and_left (not (eqb x 10)) (clean a) e), lines_behind)
    (lines_clean (l ++ (x ∷ [])) a t (and_right (not (eqb x 10)) (clean a) e) ∙ rw (append_assoc l (x ∷ []) a))

pub lines_listing : (ws : List ℕ) → lines_of (listing ws) ≡ each ws
unfolding listing lines_behind
lines_listing [] = refl
lines_listing (w ∷ ws) = lines_clean [] (line_of w) (listing ws) (line_clean w) ∙ ap (λ (x : List (List ℕ)). line_of w ∷ x) (lines_listing ws)

-- ---- words: below 2 ^ 32

abbrev pub Words : List ℕ → Type 0
Words ws = (i : ℕ) → get_or ws i 0 < 2 ^ 32

each_right : (n : ℕ) (ws : List ℕ) → Words ws → wrong_from n (each ws) ≡ 0
unfolding wrong_by
each_right n [] h = refl
each_right n (w ∷ ws) h = rw (right_line w (h 0), wrong_by) (each_right (suc n) ws (λ i. h (suc i)))

each_words : (ws : List ℕ) → Words ws → words_of (each ws) ≡ ws
unfolding words_by
each_words [] h = refl
each_words (w ∷ ws) h = rw (candidate_line w (h 0)) (ap (λ (x : List ℕ). w ∷ x) (each_words ws (λ i. h (suc i))))

each_length : (ws : List ℕ) → length (each ws) ≡ length ws
each_length [] = refl
each_length (w ∷ ws) = ap suc (each_length ws)

-- THEOREM: assembling a listing gives the words back
pub listing_assembled : (ws out : List ℕ) → Words ws → length ws ≤ length out → assembled (listing ws) out ≡ answer 0 0 (length ws) (ws ++ drop (length ws) out)
unfolding read_by
listing_assembled ws out h l =
    simp (lines_listing ws, each_right 1 ws h, each_length ws, each_words ws h, le-ltb (length out) (length ws) l)

-- THEOREM: unless they have no room
pub listing_short : (ws out : List ℕ) → Words ws → length out < length ws → assembled (listing ws) out ≡ answer 13 0 0 out
unfolding read_by
listing_short ws out h l = simp (lines_listing ws, each_right 1 ws h, each_length ws, lt-ltb (length out) (length ws) l)

-- THEOREM: what the lister put into an output that was long enough is assembled to the words that it was given
pub listed_assembled : (ws out back : List ℕ) → Words ws → length (listing ws) ≤ length out → length ws ≤ length back
    → assembled (take (listed ws out).count (listed ws out).out) back ≡ answer 0 0 (length ws) (ws ++ drop (length ws) back)
unfolding listed
listed_assembled ws out back h l k =
    rw (le-ltb (length out) (length (listing ws)) l, take-append_seam (listing ws) (drop (length (listing ws)) out)) (listing_assembled ws back h k)

-- THEOREM: two lists of words have two listings
pub listing_injective : (ws vs : List ℕ) → Words ws → Words vs → listing ws ≡ listing vs → ws ≡ vs
listing_injective ws vs h k e =
    sym (each_words ws h) ∙ ap words_of (sym (lines_listing ws) ∙ ap lines_of e ∙ lines_listing vs) ∙ each_words vs k

-- ---- a text without a wrong line is the listing of its words

-- lines, each with a newline
together : List (List ℕ) → List ℕ
together [] = []
together (l ∷ ls) = l ++ (10 ∷ together ls)

right_together : (n : ℕ) (ls : List (List ℕ)) → wrong_from (suc n) ls ≡ 0 → listing (words_of ls) ≡ together ls
unfolding wrong_by listing words_by together
right_together n [] e = refl
right_together n (l ∷ ls) e =
    by_test (right l)
    (λ q. rw (right_taken l q) (ap (λ (x : List ℕ). l ++ (10 ∷ x)) (right_together (suc n) ls (rw (q, wrong_by) at e))))
    (λ q. absurd (let z : suc n ≡ 0 = rw (q, wrong_by) at e in omega arith))

begun : List ℕ → Bool
begun [] = false
begun (x ∷ xs) = true

begun_more : (l : List ℕ) (x : ℕ) → begun (l ++ (x ∷ [])) ≡ true
unfolding begun
begun_more [] x = refl
begun_more (y ∷ l) x = refl

lines_together : (l t : List ℕ) → together (lines_behind l t) ≡ l ++ ended_from (begun l) t
unfolding together lines_behind ended_from begun
lines_together [] [] = refl
lines_together (x ∷ l) [] = refl
lines_together l (b ∷ t) =
    by_test (eqb b 10)
    (λ q. let p : b ≡ 10 = eqb-true b 10 q in rw (p, lines_behind) (rw (lines_together [] t)))
    (λ q. rw (q, lines_behind, ended_from) (lines_together (l ++ (b ∷ [])) t ∙ rw (begun_more l b) (append_assoc l (b ∷ []) (ended_from true t))))

-- THEOREM: a text that is taken is the listing of the words that it gives; only the newline at its end may be missing
pub taken_listing : (t : List ℕ) → wrong_from 1 (lines_of t) ≡ 0 → listing (words_of (lines_of t)) ≡ ended t
unfolding begun
taken_listing t e = right_together 0 (lines_of t) e ∙ lines_together [] t

-- ---- the first wrong line

-- the line at place i is wrong, and every line before it is right
pub record FirstWrong (ls : List (List ℕ)) (i : ℕ) : Type 0 where
  pub there : i < length ls
  pub wrong : right (get_or ls i []) ≡ false
  pub before : (j : ℕ) → j < i → right (get_or ls j []) ≡ true

wrong_from_lem : (k n : ℕ) (ls : List (List ℕ)) → wrong_from (suc k) ls ≡ suc n → (i : ℕ) × (n ≡ k + i) × FirstWrong ls i
unfolding wrong_by
wrong_from_lem k n [] e = absurd (let z : ◌≡◌ {A = ℕ} 0 (suc n) = e in omega arith)
wrong_from_lem k n (l ∷ ls) e =
    by_test (right l)
    (λ q.
    let (i, s, f) = wrong_from_lem (suc k) n ls (rw (q, wrong_by) at e) in
    (suc i, omega arith, record { there = omega (arith, f.there); wrong = f.wrong; before = earlier q f.before }))
    (λ q. let z : suc k ≡ suc n = rw (q, wrong_by) at e in (0, omega arith, record { there = omega arith; wrong = q; before = λ j h. absurd (omega arith) }))
  where
    earlier : right l ≡ true → {i : ℕ} → ((j : ℕ) → j < i → right (get_or ls j []) ≡ true) → (j : ℕ) → j < suc i → right (get_or (l ∷ ls) j []) ≡ true
    earlier q f zero h = q
    earlier q f (suc j) h = f j (omega arith)

-- THEOREM: the number of a refusal is that of the first wrong line, counted from 1
pub first_wrong : (n : ℕ) (ls : List (List ℕ)) → wrong_from 1 ls ≡ suc n → FirstWrong ls n
first_wrong n ls e = let (i, s, f) = wrong_from_lem 0 n ls e in let z : i ≡ n = omega arith in subst (λ (x : ℕ). FirstWrong ls x) z f

-- THEOREM: and where there is none every line is right
pub none_wrong : (n : ℕ) (ls : List (List ℕ)) → wrong_from (suc n) ls ≡ 0 → (j : ℕ) → j < length ls → right (get_or ls j []) ≡ true
unfolding wrong_by
none_wrong n [] e j h = absurd (omega arith)
none_wrong n (l ∷ ls) e j h =
    by_test (right l)
    (λ q. each_of q (none_wrong (suc n) ls (rw (q, wrong_by) at e)) j h)
    (λ q. absurd (let z : suc n ≡ 0 = rw (q, wrong_by) at e in omega arith))
  where
    each_of : right l ≡ true → ((j : ℕ) → j < length ls → right (get_or ls j []) ≡ true) → (j : ℕ) → j < length (l ∷ ls) → right (get_or (l ∷ ls) j []) ≡ true
    each_of q f zero h = q
    each_of q f (suc j) h = f j (omega arith)

-- Byte by byte the answer is that of the call for the whole text.
use Rattle.std.proofs.Common.{◌≡◌, ℕ, suc, ◌+◌, ◌%◌, ◌^◌, ◌<◌, ◌≤◌, Bool, true, false, not, ◌&&◌, eqb, ltb, leb, List, [], ◌∷◌, ◌++◌, length, take, drop, set, sym, refl, ap, ◌∙◌, append_assoc, append-nil, mod-eq_of_lt, add-one, arith, length-append, length-take, take_all, ltb-false, ltb-true, le-ltb, ne_eqb, leb-true, Some, None, is_some}
use borrow.Author.Tests.{lt-leb}
use lib.Seq.{sets, take-append-le}
use Rattle.dlx.specs.Choice.{when◌then◌else◌}
use Rattle.dlx.proofs.Tests.{by_test, and_left}
use Rattle.decimal.specs.Texts.{ascii, same}
use Rattle.lines.specs.Lines.{candidate, right}
use Rattle.lines.specs.Listings.{lines_behind, lines_of, wrong_by, words_by, Answer, answer, read_by, assembled}
use Rattle.listing.proofs.Passes.{words_all}
use Rattle.texts.specs.Numbers.{idle, bared_from, bared, right_by, word_by}
use Rattle.texts.specs.Reading.{no_words, Going, going, start, longer, ended, took, fed, finished, answer_of, words_of}

-- ---- a right line has at most 80 bytes

long_wrong : (d : Bool) (l : List ℕ) → 80 < length l → right_by d l ≡ false
unfolding right_by right
long_wrong true l h = rw (lt-leb (length l) 80 h)
long_wrong false l h = rw (lt-leb (length l) 80 h)

right_length : (d : Bool) (l : List ℕ) → right_by d l ≡ true → length l ≤ 80
unfolding right_by right
right_length true l e = leb-true (length l) 80 (and_left (leb (length l) 80) _ e)
right_length false l e = leb-true (length l) 80 (and_left (leb (length l) 80) _ e)

snoc_first : (l : List ℕ) (b : ℕ) → take 81 (l ++ (b ∷ [])) ≡ (when ltb (length (take 81 l)) 81 then take 81 l ++ (b ∷ []) else take 81 l)
snoc_first l b =
    by_test (ltb (length l) 81)
    (λ q.
    let h = ltb-true (length l) 81 q in
    let e : take 81 l ≡ l = take_all 81 l (omega arith) in
    rw (e, q) (take_all 81 (l ++ (b ∷ [])) (omega (arith, length-append l (b ∷ [])))))
    (λ q.
    let h = ltb-false (length l) 81 q in
    rw (le-ltb (length (take 81 l)) 81 (omega (arith, length-take 81 l))) (take-append-le 81 l (b ∷ []) h))

-- a state whose line is l, of which the first 81 bytes are kept
abbrev along : List ℕ → ℕ → List ℕ → Going
along l n ws = going (take 81 l) n None ws

longer_along : (l : List ℕ) (n : ℕ) (ws : List ℕ) (b : ℕ) → longer (along l n ws) b ≡ along (l ++ (b ∷ [])) n ws
unfolding longer
longer_along l n ws b = pushed (ltb (length (take 81 l)) 81) ∙ ap (λ (x : List ℕ). going x n None ws) (sym (snoc_first l b))
  where
    pushed : (t : Bool) → (when t then going (take 81 l ++ (b ∷ [])) n None ws else going (take 81 l) n None ws) ≡ going (when t then take 81 l ++ (b ∷ []) else take 81 l) n None ws
    pushed true = refl
    pushed false = refl

-- ---- zeros before a word

abbrev grown : Bool → List ℕ → ℕ → List ℕ
grown d k b = when idle d k b then k else k ++ (b ∷ [])

bared_more : (d : Bool) (k l : List ℕ) (b : ℕ) → bared_from d k (l ++ (b ∷ [])) ≡ grown d (bared_from d k l) b
unfolding bared_from
bared_more d k [] b = refl
bared_more d k (x ∷ l) b = bared_more d (grown d k x) l b

-- 81 bytes of a line tell it as well
idle_first : (d : Bool) (k : List ℕ) (b : ℕ) → idle d (take 81 k) b ≡ idle d k b
unfolding idle same ascii
idle_first false k b = refl
idle_first true [] b = refl
idle_first true (x ∷ []) b = refl
idle_first true (x ∷ y ∷ []) b = refl
idle_first true (x ∷ y ∷ z ∷ k) b = refl

grown_along : (d : Bool) (k : List ℕ) (n : ℕ) (ws : List ℕ) (b : ℕ)
    → (when idle d (take 81 k) b then along k n ws else longer (along k n ws) b) ≡ along (grown d k b) n ws
grown_along d k n ws b = ap (λ (t : Bool). when t then along k n ws else longer (along k n ws) b) (idle_first d k b) ∙ either (idle d k b)
  where
    either : (t : Bool) → (when t then along k n ws else longer (along k n ws) b) ≡ along (when t then k else k ++ (b ∷ [])) n ws
    either true = refl
    either false = longer_along k n ws b

-- a line with a byte has one without them, too
some_grown : (d : Bool) (k : List ℕ) (b : ℕ) → 1 ≤ length k → 1 ≤ length (grown d k b)
some_grown d k b h = either (idle d k b)
  where
    either : (t : Bool) → 1 ≤ length (when t then k else k ++ (b ∷ []))
    either true = h
    either false = omega (arith, length-append k (b ∷ []))

some_from : (d : Bool) (k l : List ℕ) → 1 ≤ length k → 1 ≤ length (bared_from d k l)
unfolding bared_from
some_from d k [] h = h
some_from d k (b ∷ l) h = some_from d (grown d k b) l (some_grown d k b h)

first_grown : (d : Bool) (b : ℕ) → 1 ≤ length (grown d [] b)
unfolding idle same ascii
first_grown false b = omega arith
first_grown true b = either (eqb b 48)
  where
    either : (t : Bool) → 1 ≤ length (when t && false then [] else b ∷ [])
    either true = omega arith
    either false = omega arith

some_bared : (d : Bool) (b : ℕ) (l : List ℕ) → 1 ≤ length (bared d (b ∷ l))
unfolding bared_from
some_bared d b l = some_from d (grown d [] b) l (first_grown d b)

-- ---- a whole line

abbrev right_of : Bool → List ℕ → Bool
right_of d l = right_by d (bared d l)

abbrev word_of : Bool → List ℕ → ℕ
word_of d l = word_by d (bared d l)

-- what lines come to, where n have ended
unfoldable answer_by : Bool → ℕ → List ℕ → List (List ℕ) → Answer
answer_by d n ws ls =
    when not (eqb (wrong_by (right_of d) (suc n) ls) 0) then answer 18 (wrong_by (right_of d) (suc n) ls) 0 no_words else
    when ltb 262144 (n + length ls) then answer 13 0 0 no_words else
    answer 0 0 (n + length ls) (sets ws n (words_by (word_of d) ls))

no_words_length : length no_words ≡ 262144
unfolding no_words
no_words_length = lib.ListN.length-replicate {A = ℕ} 262144 0

module _ (d : Bool) where
  -- ---- the first 81 bytes of a line tell as much as all of it

  right_first : (l : List ℕ) → right_by d (take 81 l) ≡ right_by d l
  right_first l =
      by_test (leb (length l) 80)
      (λ q. ap (right_by d) (take_all 81 l (omega (arith, leb-true (length l) 80 q))))
      (λ q.
      let h : 80 < length l = borrow.Author.Tests.leb-false (length l) 80 q in
      long_wrong d (take 81 l) (omega (arith, length-take 81 l)) ∙ sym (long_wrong d l h))

  right_short : (l : List ℕ) → right_by d l ≡ true → take 81 l ≡ l
  right_short l e = take_all 81 l (omega (arith, right_length d l e))

  -- ---- a state whose line is l, of which the first 81 bytes are kept

  module _ (l : List ℕ) (n : ℕ) (ws : List ℕ) (small : n + 1 < 2 ^ 64) where
    ended_right : right_by d l ≡ true → ended d (along l n ws) ≡ along [] (suc n) (set ws n (word_by d l))
    unfolding ended
    ended_right e =
        let m : (n + 1) % 2 ^ 64 ≡ suc n = mod-eq_of_lt small ∙ add-one n in
        let k = right_short l e in
        rw (k, e, m)

    ended_wrong : right_by d l ≡ false → ended d (along l n ws) ≡ going (take 81 l) (suc n) (Some (suc n)) ws
    unfolding ended
    ended_wrong e =
        let m : (n + 1) % 2 ^ 64 ≡ suc n = mod-eq_of_lt small ∙ add-one n in
        rw (right_first l, e, m)

  -- ---- what lines come to

  by_none : (n : ℕ) (ws : List ℕ) → answer_of (along [] n ws) ≡ answer_by d n ws []
  unfolding answer_of answer_by wrong_by words_by
  by_none n ws = let z : n + 0 ≡ n = omega arith in rw z

  by_right : (n : ℕ) (ws l : List ℕ) (ls : List (List ℕ)) → right_of d l ≡ true → answer_by d (suc n) (set ws n (word_of d l)) ls ≡ answer_by d n ws (l ∷ ls)
  unfolding answer_by wrong_by words_by
  by_right n ws l ls e = let z : suc n + length ls ≡ n + suc (length ls) = omega arith in rw (e, wrong_by, z)

  by_wrong : (n : ℕ) (x ws l : List ℕ) (ls : List (List ℕ)) → right_of d l ≡ false → answer_of (going x (suc n) (Some (suc n)) ws) ≡ answer_by d n ws (l ∷ ls)
  unfolding answer_of answer_by wrong_by
  by_wrong n x ws l ls e = rw (e, wrong_by, ne_eqb (suc n) 0 (λ z. omega arith))

  fed_wrong : (g : Going) (bs : List ℕ) → is_some g.wrong ≡ true → fed d g bs ≡ g
  unfolding fed took
  fed_wrong g [] z = refl
  fed_wrong g (b ∷ bs) z = rw z (fed_wrong g bs z)

  finished_wrong : (g : Going) → is_some g.wrong ≡ true → finished d g ≡ g
  unfolding finished
  finished_wrong g z = rw z

  finished_empty : (n : ℕ) (ws : List ℕ) → finished d (along [] n ws) ≡ along [] n ws
  unfolding finished
  finished_empty n ws = refl

  finished_some : (k : List ℕ) (n : ℕ) (ws : List ℕ) → 1 ≤ length k → finished d (along k n ws) ≡ ended d (along k n ws)
  unfolding finished
  finished_some k n ws h = rw (ne_eqb (length (take 81 k)) 0 (λ q. omega (arith, length-take 81 k)))

  took_end : (l : List ℕ) (n : ℕ) (ws : List ℕ) (b : ℕ) → eqb b 10 ≡ true → took d (along l n ws) b ≡ ended d (along l n ws)
  unfolding took
  took_end l n ws b e = rw e

  took_more : (k : List ℕ) (n : ℕ) (ws : List ℕ) (b : ℕ) → eqb b 10 ≡ false → took d (along k n ws) b ≡ along (grown d k b) n ws
  unfolding took
  took_more k n ws b e = rw e (grown_along d k n ws b)

  by_bytes : (bs l : List ℕ) (n : ℕ) (ws : List ℕ) → n + length bs + 1 < 2 ^ 64
      → answer_of (finished d (fed d (along (bared d l) n ws) bs)) ≡ answer_by d n ws (lines_behind l bs)
  unfolding fed lines_behind
  by_bytes [] [] n ws h = let z : bared d [] ≡ [] = unfold bared_from in refl in rw z (ap answer_of (finished_empty n ws) ∙ by_none n ws)
  by_bytes [] (x ∷ l) n ws h =
      let k = bared d (x ∷ l) in
      ap answer_of (finished_some k n ws (some_bared d x l))
      ∙ by_test (right_of d (x ∷ l))
      (λ q. ap answer_of (ended_right k n ws (omega arith) q) ∙ by_none (suc n) (set ws n (word_of d (x ∷ l))) ∙ by_right n ws (x ∷ l) [] q)
      (λ q. ap answer_of (ended_wrong k n ws (omega arith) q) ∙ by_wrong n (take 81 k) ws (x ∷ l) [] q)
  by_bytes (b ∷ bs) l n ws h =
      let k = bared d l in
      let z : bared d [] ≡ [] = unfold bared_from in refl in
      by_test (eqb b 10)
      (λ e. ap (λ (g : Going). answer_of (finished d (fed d g bs))) (took_end k n ws b e)
      ∙ by_test (right_of d l)
      (λ q. ap (λ (g : Going). answer_of (finished d (fed d g bs))) (ended_right k n ws (omega arith) q)
      ∙ ap (λ (x : List ℕ). answer_of (finished d (fed d (along x (suc n) (set ws n (word_of d l))) bs))) (sym z)
      ∙ by_bytes bs [] (suc n) (set ws n (word_of d l)) (omega arith)
      ∙ by_right n ws l (lines_behind [] bs) q
      ∙ rw (e, lines_behind))
      (λ q. ap (λ (g : Going). answer_of (finished d (fed d g bs))) (ended_wrong k n ws (omega arith) q)
      ∙ stays bs (going (take 81 k) (suc n) (Some (suc n)) ws) refl
      ∙ by_wrong n (take 81 k) ws l (lines_behind [] bs) q
      ∙ rw (e, lines_behind)))
      (λ e. ap (λ (g : Going). answer_of (finished d (fed d g bs))) (took_more k n ws b e ∙ ap (λ (x : List ℕ). along x n ws) (sym (bared_more d [] l b)))
      ∙ by_bytes bs (l ++ (b ∷ [])) n ws (omega arith)
      ∙ rw (e, lines_behind))
    where
      stays : (bs : List ℕ) (g : Going) → is_some g.wrong ≡ true → answer_of (finished d (fed d g bs)) ≡ answer_of g
      stays bs g z = ap answer_of (ap (finished d) (fed_wrong g bs z) ∙ finished_wrong g z)

  by_call : (t : List ℕ) → answer_by d 0 no_words (lines_of t) ≡ words_of d t
  unfolding answer_by words_of read_by
  by_call t =
      let ls = lines_of t in
      let z : 0 + length ls ≡ length ls = omega arith in
      by_test (not (eqb (wrong_by (right_of d) 1 ls) 0))
      (λ q. rw q)
      (λ q. rw q
      (by_test (ltb 262144 (length ls))
      (λ p. rw (z, no_words_length, p))
      (λ p.
      let k : length ls ≤ 262144 = ltb-false 262144 (length ls) p in
      let s : sets no_words 0 (words_by (word_of d) ls) ≡ words_by (word_of d) ls ++ drop (length ls) no_words = words_all (word_of d) ls no_words (omega (arith, no_words_length)) refl in
      rw (z, no_words_length, p, s))))

  -- THEOREM: a text read byte by byte comes to what the call answers for the whole of it
  pub read_whole : (t : List ℕ) → length t + 1 < 2 ^ 64 → answer_of (finished d (fed d start t)) ≡ words_of d t
  read_whole t h =
      let z : bared d [] ≡ [] = unfold bared_from in refl in
      ap (λ (x : List ℕ). answer_of (finished d (fed d (along x 0 no_words) t))) (sym z) ∙ by_bytes t [] 0 no_words (omega arith) ∙ by_call t

-- an instruction has no zeros before it that tell nothing
bared_not : (k l : List ℕ) → bared_from false k l ≡ k ++ l
unfolding bared_from idle
bared_not k [] = sym (append-nil k)
bared_not k (b ∷ l) = bared_not (k ++ (b ∷ [])) l ∙ append_assoc k (b ∷ []) l

wrong_same : (n : ℕ) (ls : List (List ℕ)) → wrong_by (right_of false) n ls ≡ wrong_by right n ls
unfolding wrong_by right_by
wrong_same n [] = refl
wrong_same n (l ∷ ls) =
    let same_line : right (bared false l) ≡ right l = ap right (bared_not [] l) in
    by_test (right l)
    (λ q. let z : right (bared false l) ≡ true = same_line ∙ q in rw (z, q, wrong_by) (wrong_same (suc n) ls))
    (λ q. let z : right (bared false l) ≡ false = same_line ∙ q in rw (z, q, wrong_by))

words_same : (ls : List (List ℕ)) → words_by (word_of false) ls ≡ words_by candidate ls
unfolding words_by word_by
words_same [] = refl
words_same (l ∷ ls) = rw (bared_not [] l) (ap (λ (x : List ℕ). candidate l ∷ x) (words_same ls))

-- THEOREM: where instructions are asked for, that is what the call answers
pub assembled_whole : (t : List ℕ) → length t + 1 < 2 ^ 64 → answer_of (finished false (fed false start t)) ≡ assembled t no_words
unfolding words_of read_by
assembled_whole t h = read_whole false t h ∙ rw (wrong_same 1 (lines_of t), words_same (lines_of t))

-- What a right record adds to the file, by the bytes behind its header.
use Rattle.std.proofs.Common.{◌≡◌, ℕ, zero, suc, ◌+◌, ◌*◌, ◌/◌, ◌%◌, ◌<◌, ◌≤◌, true, false, ◌&&◌, ◌||◌, eqb, ltb, leb, List, [], ◌∷◌, ◌++◌, length, take, drop, sym, refl, ap, ◌∙◌, append_assoc, suc-add, zero-add, arith, length-take-le, take-take, drop-drop, ltb-true, eqb-true, leb-true}
use lib.Seq.{sets, sets-eq, take-nil}
use Rattle.dlx.proofs.Tests.{by_test, and_left}
use Rattle.dlx.specs.Parts.{outer}
use Rattle.house.proofs.Lists.Bounded.{and_right, one_way}
use Rattle.housefile.specs.Records.{number, words_of, may_come, File, file, with_record}

-- ---- which records may come

pub by_kind : {P : Type 0} (last lists k z : ℕ) → may_come last lists k z ≡ true → (k ≡ 1 → z ≡ 8 → P)
    → (k ≡ 2 → lists < 8 → z % 4 ≡ 0 → z ≤ 1024 → P) → (k ≡ 3 → z ≡ 4100 → P) → (k ≡ 4 → z ≡ 0 → P) → P
unfolding may_come
by_kind last lists k z m f₁ f₂ f₃ f₄ =
    by_test (eqb k 1)
    (λ e. f₁ (eqb-true k 1 e) (eqb-true z 8 (and_right (eqb last 0) (eqb z 8) (rw e at m))))
    λ n₁. let m₁ = rw n₁ at m in
    by_test (eqb k 2)
    (λ e.
    let before = eqb last 1 || eqb last 2 in
    let all = rw e at m₁ in
    let two = and_left (before && ltb lists 8 && eqb (z % 4) 0) (leb z 1024) all in
    let one = and_left (before && ltb lists 8) (eqb (z % 4) 0) two in
    f₂ (eqb-true k 2 e) (ltb-true lists 8 (and_right before (ltb lists 8) one))
    (eqb-true (z % 4) 0 (and_right (before && ltb lists 8) (eqb (z % 4) 0) two))
    (leb-true z 1024 (and_right (before && ltb lists 8 && eqb (z % 4) 0) (leb z 1024) all)))
    λ n₂. let m₂ = rw n₂ at m₁ in
    by_test (eqb k 3)
    (λ e. f₃ (eqb-true k 3 e) (eqb-true z 4100 (and_right (eqb last 2 || eqb last 3) (eqb z 4100) (rw e at m₂))))
    λ n₃. let m₃ = rw n₃ at m₂ in
    by_test (eqb k 4)
    (λ e. f₄ (eqb-true k 4 e) (eqb-true z 0 (and_right (eqb last 2 || eqb last 3) (eqb z 0) (rw e at m₃))))
    λ n₄. one_way false (rw n₄ at m₃) refl

pub loads : (last lists k z : ℕ) → may_come last lists k z ≡ true → k ≡ 3 → z ≡ 4100
loads last lists k z m e =
    by_kind last lists k z m (λ q _. absurd (omega arith)) (λ q _ _ _. absurd (omega arith)) (λ _ z. z) (λ q _. absurd (omega arith))

-- ---- words of a part

pub length_words : (n : ℕ) (bs : List ℕ) → length (words_of n bs) ≡ n
unfolding words_of
length_words zero bs = refl
length_words (suc n) bs = ap suc (length_words n (drop 4 bs))

drop_take : (n m : ℕ) (l : List ℕ) → drop n (take (n + m) l) ≡ take m (drop n l)
drop_take zero m l = rw zero-add
drop_take (suc n) m [] = rw suc-add (sym (take-nil m))
drop_take (suc n) m (x ∷ l) = rw suc-add (drop_take n m l)

words_take : (n : ℕ) (l : List ℕ) → words_of n (take (4 * n) l) ≡ words_of n l
unfolding words_of
words_take zero l = refl
words_take (suc n) l =
    let z : 4 * suc n ≡ 4 + 4 * n = omega arith in
    ap (λ (i : ℕ). words_of (suc n) (take i l)) z
    ∙ ap (λ (x : List ℕ). number x ∷ words_of n (drop 4 (take (4 + 4 * n) l))) (take-take 4 (4 + 4 * n) l (omega arith))
    ∙ ap (λ (x : List ℕ). number (take 4 l) ∷ words_of n x) (drop_take 4 (4 * n) l)
    ∙ ap (λ (x : List ℕ). number (take 4 l) ∷ x) (words_take n (drop 4 l))

sets_outer : (m : List ℕ) (a n : ℕ) (vs : List ℕ) → length vs ≡ n → a + n ≤ length m → sets m a vs ≡ outer a n m vs
unfolding outer
sets_outer m a n vs e l =
    sets-eq vs m a (omega arith)
    ∙ append_assoc (take a m) vs (drop (a + length vs) m)
    ∙ ap (λ (x : List ℕ). take a m ++ (vs ++ x)) (ap (λ (i : ℕ). drop (a + i) m) e ∙ sym (drop-drop n a m))

-- ---- the file with a record whose body begins the bytes

module _ (f : File) (rest : List ℕ) where
  pub with_turns_lem : with_record f 1 (take 8 rest) ≡ file (number (take 4 rest)) (number (take 4 (drop 4 rest))) f.pages f.frames f.memory
  unfolding with_record
  with_turns_lem = simp (take-take 4 8 rest (omega arith), drop_take 4 4 rest, take-take 4 4 (drop 4 rest) (omega arith))

  pub with_frames_lem : (n : ℕ) → 4 * n ≤ length rest
      → with_record f 2 (take (4 * n) rest) ≡ file f.q f.run (f.pages ++ (n ∷ [])) (f.frames ++ words_of n rest) f.memory
  unfolding with_record
  with_frames_lem n l =
      let z : length (take (4 * n) rest) / 4 ≡ n = omega (arith, length-take-le (4 * n) rest l) in
      simp (z, words_take n rest)

  pub with_memory : number (take 4 rest) * 1024 + 1024 ≤ length f.memory
      → with_record f 3 (take 4100 rest) ≡ file f.q f.run f.pages f.frames (sets f.memory (number (take 4 rest) * 1024) (words_of 1024 (drop 4 rest)))
  unfolding with_record
  with_memory l =
      let v = number (take 4 rest) in
      simp (
        take-take 4 4100 rest (omega arith),
        drop_take 4 4096 rest,
        words_take 1024 (drop 4 rest),
        sets_outer f.memory (v * 1024) 1024 (words_of 1024 (drop 4 rest)) (length_words 1024 (drop 4 rest)) l,
      )

  pub with_none : with_record f 4 (take 0 rest) ≡ f
  unfolding with_record
  with_none = refl

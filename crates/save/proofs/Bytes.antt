-- Bytes and words, and a record of a kind and words.
use mathlib.Core.Path.{◌≡◌, refl, sym, ap, ◌∙◌}
use mathlib.Core.List.{List, [], ◌∷◌, ◌++◌, append-nil}
use Prim.Native.Nat.{ℕ, zero, suc, ◌+◌, ◌-◌, ◌*◌, ◌/◌, ◌%◌, ◌^◌, ◌<◌, ◌≤◌}
use native.Mathlib.Omega.{arith}
use lib.ListN.{length, get_or, take, drop}
use lib.Seq.{take-take, take-nil}
use Rattle.housefile.specs.Records.{number, words_of, size, kind}
use Rattle.save.specs.Saved.{little, all_bytes, record_of, records}

-- ---- every element below a bound

abbrev pub Below : ℕ → List ℕ → Type 0
Below n l = (i : ℕ) → get_or l i 0 < n

pub below_drop : (n k : ℕ) (l : List ℕ) → Below n l → Below n (drop k l)
below_drop n zero l g = g
below_drop n (suc k) [] g = g
below_drop n (suc k) (x ∷ l) g = below_drop n k l (λ i. g (suc i))

pub below_append : (n : ℕ) (l k : List ℕ) → Below n l → Below n k → Below n (l ++ k)
below_append n [] k g h = h
below_append n (x ∷ l) k g h = elim [ zero ↦ g 0 | suc i ↦ below_append n l k (λ j. g (suc j)) h i ]

pub below_left : (n : ℕ) (l k : List ℕ) → 0 < n → Below n (l ++ k) → Below n l
below_left n [] k z g = λ i. z
below_left n (x ∷ l) k z g = elim [ zero ↦ g 0 | suc i ↦ below_left n l k z (λ j. g (suc j)) i ]

-- ---- a word and its bytes

pub number_bytes : (w : ℕ) → w < 2 ^ 32 → number (little 4 w) ≡ w
unfolding number little
number_bytes w l =
    let e₁ : w / 256 < 2 ^ 24 = omega arith in
    let e₂ : w / 256 / 256 < 2 ^ 16 = omega arith in
    let e₃ : w / 256 / 256 / 256 < 256 = omega arith in
    omega arith

number_kind : (w : ℕ) → w < 65536 → number (little 2 w) ≡ w
unfolding number little
number_kind w l =
    let e₁ : w / 256 < 256 = omega arith in
    omega arith

little_number : (n : ℕ) (bs : List ℕ) → length bs ≡ n → Below 256 bs → little n (number bs) ≡ bs
unfolding number little
little_number zero [] e g = refl
little_number zero (b ∷ bs) e g = absurd (omega arith)
little_number (suc n) [] e g = absurd (omega arith)
little_number (suc n) (b ∷ bs) e g =
    let N = number bs in
    let e₀ : (b + 256 * N) % 256 ≡ b = omega (arith, g 0) in
    let e₁ : (b + 256 * N) / 256 ≡ N = omega (arith, g 0) in
    rw (e₀, e₁, little_number n bs (omega arith) (λ i. g (suc i)))

four : (a b c d : ℕ) → a < 256 → b < 256 → c < 256 → d < 256 → Below 256 (a ∷ b ∷ c ∷ d ∷ [])
four a b c d la lb lc ld zero = la
four a b c d la lb lc ld (suc zero) = lb
four a b c d la lb lc ld (suc (suc zero)) = lc
four a b c d la lb lc ld (suc (suc (suc zero))) = ld
four a b c d la lb lc ld (suc (suc (suc (suc i)))) = omega arith

number_below : (a b c d : ℕ) → a < 256 → b < 256 → c < 256 → d < 256 → number (a ∷ b ∷ c ∷ d ∷ []) < 2 ^ 32
unfolding number
number_below a b c d la lb lc ld = omega arith

-- ---- words and their bytes

pub length_bytes : (ws : List ℕ) → length (all_bytes ws) ≡ 4 * length ws
unfolding all_bytes little
length_bytes [] = refl
length_bytes (w ∷ ws) = omega (arith, length_bytes ws)

pub words_bytes : (ws rest : List ℕ) → Below (2 ^ 32) ws → words_of (length ws) (all_bytes ws ++ rest) ≡ ws
unfolding all_bytes words_of little
words_bytes [] rest g = refl
words_bytes (w ∷ ws) rest g = rw (words_bytes ws rest (λ i. g (suc i)), number_bytes w (g 0))

pub bytes_words : (n : ℕ) (bs : List ℕ) → length bs ≡ 4 * n → Below 256 bs → all_bytes (words_of n bs) ≡ bs
unfolding all_bytes words_of
bytes_words zero [] e g = refl
bytes_words zero (b ∷ bs) e g = absurd (omega arith)
bytes_words (suc n) [] e g = absurd (omega arith)
bytes_words (suc n) (a ∷ []) e g = absurd (omega arith)
bytes_words (suc n) (a ∷ b ∷ []) e g = absurd (omega arith)
bytes_words (suc n) (a ∷ b ∷ c ∷ []) e g = absurd (omega arith)
bytes_words (suc n) (a ∷ b ∷ c ∷ d ∷ bs) e g =
    rw (little_number 4 (a ∷ b ∷ c ∷ d ∷ []) refl (four a b c d (g 0) (g 1) (g 2) (g 3)), bytes_words n bs (omega arith) (λ i. g (suc (suc (suc (suc i))))))

pub length_words : (n : ℕ) (bs : List ℕ) → length (words_of n bs) ≡ n
unfolding words_of
length_words zero bs = refl
length_words (suc n) bs = ap suc (length_words n (drop 4 bs))

pub words_below : (n : ℕ) (bs : List ℕ) → length bs ≡ 4 * n → Below 256 bs → Below (2 ^ 32) (words_of n bs)
unfolding words_of
words_below zero bs e g i = omega arith
words_below (suc n) [] e g i = absurd (omega arith)
words_below (suc n) (a ∷ []) e g i = absurd (omega arith)
words_below (suc n) (a ∷ b ∷ []) e g i = absurd (omega arith)
words_below (suc n) (a ∷ b ∷ c ∷ []) e g i = absurd (omega arith)
words_below (suc n) (a ∷ b ∷ c ∷ d ∷ bs) e g zero = number_below a b c d (g 0) (g 1) (g 2) (g 3)
words_below (suc n) (a ∷ b ∷ c ∷ d ∷ bs) e g (suc i) = words_below n bs (omega arith) (λ j. g (suc (suc (suc (suc j))))) i

-- ---- a record

module _ (k : ℕ) (ws : List ℕ) (small : k < 65536) (few : length ws < 2 ^ 30) where
  pub record_size : size (record_of k ws) ≡ 4 * length ws
  unfolding record_of little
  record_size = unfold little in number_bytes (4 * length ws) (omega arith)

  pub record_kind : kind (record_of k ws) ≡ k
  unfolding record_of little
  record_kind = unfold little in number_kind k small

  pub record_length : length (record_of k ws) ≡ 6 + 4 * length ws
  unfolding record_of little
  record_length = omega (arith, length_bytes ws)

  pub record_words : Below (2 ^ 32) ws → words_of (size (record_of k ws) / 4) (drop 6 (record_of k ws)) ≡ ws
  unfolding record_of little
  record_words g =
      let e : size (record_of k ws) / 4 ≡ length ws = omega (arith, record_size) in
      ap (λ (n : ℕ). words_of n (all_bytes ws)) e ∙ ap (words_of (length ws)) (sym (append-nil (all_bytes ws))) ∙ words_bytes ws [] g

-- whole bytes are the record of their words
pub record_made : (bs : List ℕ) → length bs ≡ 6 + size bs → size bs % 4 ≡ 0 → Below 256 bs → bs ≡ record_of (kind bs) (words_of (size bs / 4) (drop 6 bs))
unfolding record_of
record_made [] l z g = absurd (omega arith)
record_made (a ∷ []) l z g = absurd (omega arith)
record_made (a ∷ b ∷ []) l z g = absurd (omega arith)
record_made (a ∷ b ∷ c ∷ []) l z g = absurd (omega arith)
record_made (a ∷ b ∷ c ∷ d ∷ []) l z g = absurd (omega arith)
record_made (a ∷ b ∷ c ∷ d ∷ e ∷ []) l z g = absurd (omega arith)
record_made (a ∷ b ∷ c ∷ d ∷ e ∷ f ∷ bs) l z g =
    let s = number (a ∷ b ∷ c ∷ d ∷ []) in
    let n = s / 4 in
    let count : length (words_of n bs) ≡ n = length_words n bs in
    let four_times : 4 * length (words_of n bs) ≡ s = omega (arith, count) in
    let whole : length bs ≡ 4 * n = omega arith in
    let head = little_number 4 (a ∷ b ∷ c ∷ d ∷ []) refl (four a b c d (g 0) (g 1) (g 2) (g 3)) in
    let next = little_number 2 (e ∷ f ∷ []) refl (λ i. below_left 256 (e ∷ f ∷ []) bs (omega arith) (λ j. g (suc (suc (suc (suc j))))) i) in
    sym (rw (four_times, head, next, bytes_words n bs whole (λ i. g (suc (suc (suc (suc (suc (suc i)))))))))

-- ---- a file is bytes

little_below : (n w : ℕ) → Below 256 (little n w)
unfolding little
little_below zero w = λ i. omega arith
little_below (suc n) w = elim [ zero ↦ (let l : w % 256 < 256 = omega arith in l) | suc i ↦ little_below n (w / 256) i ]

bytes_below : (ws : List ℕ) → Below 256 (all_bytes ws)
unfolding all_bytes
bytes_below [] = λ i. omega arith
bytes_below (w ∷ ws) = below_append 256 (little 4 w) (all_bytes ws) (little_below 4 w) (bytes_below ws)

pub record_below : (k : ℕ) (ws : List ℕ) → Below 256 (record_of k ws)
unfolding record_of
record_below k ws =
    below_append 256 (little 4 (4 * length ws)) (little 2 k ++ all_bytes ws) (little_below 4 (4 * length ws))
    (below_append 256 (little 2 k) (all_bytes ws) (little_below 2 k) (bytes_below ws))

pub records_below : (k : ℕ) (f : ℕ → List ℕ) (n : ℕ) → Below 256 (records k f n)
unfolding records
records_below k f zero = λ i. omega arith
records_below k f (suc n) = below_append 256 (records k f n) (record_of k (f n)) (records_below k f n) (record_below k (f n))

-- ---- words of the front of a list

pub drop_take : (n m : ℕ) (l : List ℕ) → drop n (take (n + m) l) ≡ take m (drop n l)
drop_take zero m l = let e : 0 + m ≡ m = omega arith in rw e
drop_take (suc n) m [] = let e : suc n + m ≡ suc (n + m) = omega arith in rw e (sym (take-nil m))
drop_take (suc n) m (x ∷ l) = let e : suc n + m ≡ suc (n + m) = omega arith in rw e (drop_take n m l)

words_front : (k j : ℕ) (l : List ℕ) → 4 * k ≤ j → words_of k (take j l) ≡ words_of k l
unfolding words_of
words_front zero j l h = refl
words_front (suc k) j l h =
    let e : j ≡ 4 + (j - 4) = omega arith in
    ap (λ (x : List ℕ). number x ∷ words_of k (drop 4 (take j l))) (take-take 4 j l (omega arith))
    ∙ ap (λ (x : ℕ). number (take 4 l) ∷ words_of k (drop 4 (take x l))) e
    ∙ ap (λ (x : List ℕ). number (take 4 l) ∷ words_of k x) (drop_take 4 (j - 4) l)
    ∙ ap (λ (x : List ℕ). number (take 4 l) ∷ x) (words_front k (j - 4) (drop 4 l) (omega arith))

pub words_there : (n k : ℕ) (l : List ℕ) → 6 + 4 * k ≤ n → words_of k (drop 6 (take n l)) ≡ words_of k (drop 6 l)
words_there n k l h =
    let e : n ≡ 6 + (n - 6) = omega arith in
    ap (λ (x : ℕ). words_of k (drop 6 (take x l))) e ∙ ap (words_of k) (drop_take 6 (n - 6) l) ∙ words_front k (n - 6) (drop 6 l) (omega arith)

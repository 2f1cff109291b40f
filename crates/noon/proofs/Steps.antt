-- One word more, and one image more.
use mathlib.Core.Path.{◌≡◌, refl, sym, ap, ◌∙◌}
use mathlib.Core.List.{List, [], ◌∷◌, ◌++◌}
use Prim.Native.Nat.{ℕ, zero, suc, ◌+◌, ◌*◌, ◌/◌, ◌<◌, ◌≤◌, min}
use native.Mathlib.Omega.{arith}
use native.Mathlib.Numerals.{add-one}
use borrow.Author.Tests.{eq-eqb, ne_eqb, eqb-true, eqb-false}
use lib.Dec.{eqb}
use lib.ListN.{length, get_or, set, take, drop, length-append, length-drop, length-take, replicate}
use lib.Seq.{get_or-set_same, get_or-set_other, length-take-le, take_at}
use Rattle.decimal.specs.Texts.{Puts}
use Rattle.decimal.proofs.Texts.{whole}
use Rattle.dlx.specs.Choice.{when◌then◌else◌}
use Rattle.dlx.proofs.Tests.{by_test}
use Rattle.contents.specs.Contents.{list_words}
use Rattle.asked.specs.Asked.{Going, going, took_word, took_words, nothing, at_first}
use Rattle.asked.specs.declared.asked.Asked.{Asked}
use Rattle.asked.specs.declared.asked.Awaits.TheVariants.{ImageOrPartition}
use Rattle.std.specs.Prelude.{Ok}
use Rattle.laying.specs.Laid.{count_of, sum_words, laid_words, laid_image, memory_of}
use Rattle.noon.specs.Noon.{Asks, AsksNext, Given, Laid, LaidNext}

-- ---- words

words_on : (g : Going) (n : ℕ) (words : List (List ℕ)) (word : List ℕ) → took_word (took_words g n words) (length words + n) word ≡ took_words g n (words ++ (word ∷ []))
unfolding took_words
words_on g n [] word = let e : 0 + n ≡ n = omega arith in ap (λ (x : ℕ). took_word g x word) e
words_on g n (w ∷ words) word =
    let e : suc (length words) + n ≡ length words + (n + 1) = omega arith in
    ap (λ (x : ℕ). took_word (took_words (took_word g n w) (n + 1) words) x word) e ∙ words_on (took_word g n w) (n + 1) words word

pub asks_on : (a a' : Asked) (pages frames table pages' frames' table' : List ℕ) (i : ℕ) → Asks a pages frames table i
    → AsksNext (going (Ok a) pages frames table) (going (Ok a') pages' frames' table') i → Asks a' pages' frames' table' (i + 1)
asks_on a a' pages frames table pages' frames' table' i s y =
    let words = s.0 in (
      words ++ (y.0 ∷ []),
      omega (arith, length-append words (y.0 ∷ []), s.1),
      y.1 ∙ ap (λ (g : Going). took_word g i y.0) s.2 ∙ ap (λ (n : ℕ). took_word (took_words at_first 4 words) n y.0) (sym s.1) ∙ words_on at_first 4 words y.0,
    )

-- ---- images

memory_same : (pages frames table : List ℕ) (f g : ℕ → List ℕ) (n : ℕ) → ((j : ℕ) → j < n → f j ≡ g j) → memory_of pages frames table f n ≡ memory_of pages frames table g n
unfolding memory_of
memory_same pages frames table f g zero h = refl
memory_same pages frames table f g (suc n) h =
    ap (λ (x : List ℕ). laid_image pages frames table n x (memory_of pages frames table f n)) (h n (omega arith))
    ∙ ap (laid_image pages frames table n (g n)) (memory_same pages frames table f g n (λ j l. h j (omega arith)))

-- the images with one more
with_one : (ℕ → List ℕ) → ℕ → List ℕ → ℕ → List ℕ
with_one f k x j = when eqb j k then x else f j

one_there : (f : ℕ → List ℕ) (k : ℕ) (x : List ℕ) → with_one f k x k ≡ x
unfolding with_one
one_there f k x = simp (eq-eqb k k refl)

one_before : (f : ℕ → List ℕ) (k : ℕ) (x : List ℕ) (j : ℕ) → j < k → with_one f k x j ≡ f j
unfolding with_one
one_before f k x j l = simp (ne_eqb j k (λ e. absurd (omega arith)))

module _ (pages frames table counts sums memory counts' sums' memory' : List ℕ) (k : ℕ) (s : Laid pages frames table counts sums memory k)
    (x : LaidNext pages frames table k counts sums memory counts' sums' memory') (room : k < length counts) (room' : k < length sums) where
  abbrev images' : ℕ → List ℕ
  images' = with_one s.images k x.image

  here : images' k ≡ x.image
  here = one_there s.images k x.image

  number_on : (f : List ℕ → ℕ) (l l' : List ℕ) → k < length l → ((j : ℕ) → j < k → get_or l j 0 ≡ f (s.images j)) → l' ≡ set l k (f x.image) → (j : ℕ) → j < k + 1 → get_or l' j 0 ≡ f (images' j)
  number_on f l l' r h e j b =
      by_test (eqb j k)
      (λ t.
      let z = eqb-true j k t in
      ap (λ (y : List ℕ). get_or y j 0) e ∙ ap (λ (i : ℕ). get_or (set l k (f x.image)) i 0) z ∙ get_or-set_same l k (f x.image) 0 r ∙ ap f (sym (ap images' z ∙ here)))
      (λ t.
      let z = eqb-false j k t in
      let c : j < k = omega (arith, z) in
      ap (λ (y : List ℕ). get_or y j 0) e ∙ get_or-set_other l k j (f x.image) 0 z ∙ h j c ∙ ap f (sym (one_before s.images k x.image j c)))

  pub laid_on : Laid pages frames table counts' sums' memory' (k + 1)
  unfolding memory_of
  laid_on = record {
    images = images';
    laid =
        x.laid
        ∙ ap (laid_image pages frames table k x.image) (s.laid ∙ memory_same pages frames table s.images images' k (λ j l. sym (one_before s.images k x.image j l)))
        ∙ ap (λ (y : List ℕ). laid_image pages frames table k y (memory_of pages frames table images' k)) (sym here)
        ∙ ap (memory_of pages frames table images') (sym (add-one k));
    counted = number_on count_of counts counts' room s.counted x.counted;
    summed = number_on (λ b. sum_words b (count_of b)) sums sums' room' s.summed x.summed;
  }

pub laid_none : (pages frames table counts sums memory : List ℕ) → memory ≡ replicate 16384 0 → Laid pages frames table counts sums memory 0
laid_none pages frames table counts sums memory e =
    record { images = λ j. []; laid = e ∙ (unfold memory_of in refl); counted = λ j l. absurd (omega arith); summed = λ j l. absurd (omega arith) }

pub next_laid : (pages frames table counts sums memory counts' sums' memory' bytes : List ℕ) (k w n sum : ℕ) → w ≡ k → n ≡ count_of bytes
    → memory' ≡ laid_words (list_words pages frames (get_or table (3 * w) 0)) (get_or table (3 * w + 1) 0 / 4) bytes memory (count_of bytes) → sum ≡ sum_words bytes (count_of bytes)
    → counts' ≡ set counts (k + 0) n → sums' ≡ set sums (k + 0) sum → LaidNext pages frames table k counts sums memory counts' sums' memory'
unfolding laid_image
next_laid pages frames table counts sums memory counts' sums' memory' bytes k w n sum e f laid summed c t =
    let z : k + 0 ≡ k = omega arith in
    record { image = bytes; laid = laid ∙ rw e; counted = c ∙ rw (z, f); summed = t ∙ rw (z, summed) }

pub asks_none : (pages frames table : List ℕ) → pages ≡ replicate 65 0 → frames ≡ replicate 2048 0 → table ≡ replicate 192 0
    → Asks nothing pages frames table 4
unfolding took_words
asks_none pages frames table e f g = ([], refl, rw (e, f, g))

-- ---- parts of buffers

pub counts : (n : ℕ) (l : List ℕ) → n ≤ length l → n ≡ length (take n l)
counts n l h = sym (length-take-le n l h)

-- the front of a front
pub counts_front : (n k : ℕ) (l : List ℕ) → n ≤ length (take k l) → n ≡ length (take n l)
counts_front n k l h = counts n l (omega (arith, h, length-take k l))

pub slip_there : (out o : List ℕ) (r : ℕ) (t : List ℕ) → length out ≡ 80 → Puts out 0 o r t 76 → (take r o ≡ t) × (r ≤ length o)
slip_there out o r t room p =
    let w = whole p (omega (arith, p.short)) in
    let z : r ≡ length t = w.0 ∙ omega arith in
    let n : length o ≡ 80 = ap length w.1 ∙ length-append t (drop (0 + length t) out) ∙ omega (arith, length-drop (0 + length t) out, p.short) in
    (ap (take r) w.1 ∙ take_at t (drop (0 + length t) out) r (sym z), omega (arith, p.short))

pub given_all : (a : Asked) (ps fr table : List ℕ) (n : ℕ) → Asks a ps fr table n → a.awaits ≡ ImageOrPartition → (w₁ w₂ r₁ r₂ r₃ : ℕ) → w₁ ≡ a.owner → w₂ ≡ a.total
    → r₁ ≡ min (w₁ + 1) 65 → r₂ ≡ min w₂ 2048 → r₃ ≡ min a.images 64 → Given (take r₁ ps) (take r₂ fr) table r₃
given_all a ps fr table n s t w₁ w₂ r₁ r₂ r₃ e₁ e₂ f₁ f₂ f₃ =
    record { asked = a; counts = ps; lists = fr; given = n; asks = s; ended = t; paged = rw (f₁, e₁); framed = rw (f₂, e₂); named = f₃ }

-- Words of raw bytes, and their places.
use Rattle.std.proofs.Common.{◌≡◌, ℕ, zero, suc, ◌+◌, ◌-◌, ◌*◌, ◌/◌, ◌<◌, List, [], ◌∷◌, length, get_or, take, drop, set, ap, ◌∙◌, add-one, refl, arith, length-drop, drop-drop}
use Rattle.std.specs.Int.{from_le_bytes, w32}
use Rattle.std.specs.Simd.{first_chunks}
use lib.Seq.{length-take-le}
use Rattle.dlx.specs.Words.{plus}
use Rattle.addresses.specs.Memory.{place}
use Rattle.housefile.specs.Records.{number}
use Rattle.dlx.specs.Parts.{inner}
use Rattle.house.specs.Boot.{offset}
use Rattle.contents.specs.Contents.{list_words}
use Rattle.laying.specs.Laid.{word_at, laid_words, sum_words, count_of}

-- four bytes as a number, by both words for it
four_number : (xs : List ℕ) → length xs ≡ 4 → from_le_bytes w32 xs ≡ number xs
unfolding number
four_number (a ∷ b ∷ c ∷ d ∷ []) l = omega arith
four_number [] l = absurd (omega arith)
four_number (a ∷ []) l = absurd (omega arith)
four_number (a ∷ b ∷ []) l = absurd (omega arith)
four_number (a ∷ b ∷ c ∷ []) l = absurd (omega arith)
four_number (a ∷ b ∷ c ∷ d ∷ e ∷ xs) l = absurd (omega arith)

-- the chunks are the words' bytes
chunk_at : (k n : ℕ) (xs : List ℕ) → k < n → get_or (first_chunks 4 n xs) k [] ≡ take 4 (drop (4 * k) xs)
chunk_at k zero xs l = absurd (omega arith)
chunk_at zero (suc n) xs l = refl
chunk_at (suc k) (suc n) xs l = chunk_at k n (drop 4 xs) (omega arith) ∙ ap (take 4) (drop-drop (4 * k) 4 xs) ∙ ap (λ (i : ℕ). take 4 (drop i xs)) (omega arith)

pub word_there : (chunks : List (List ℕ)) (bytes : List ℕ) (k : ℕ) → chunks ≡ first_chunks 4 (length bytes / 4) bytes → k < length bytes / 4 → from_le_bytes w32 (get_or chunks k []) ≡ word_at bytes k
unfolding word_at
word_there chunks bytes k e l =
    ap (λ (x : List (List ℕ)). from_le_bytes w32 (get_or x k [])) e
    ∙ ap (from_le_bytes w32) (chunk_at k (length bytes / 4) bytes l)
    ∙ four_number (take 4 (drop (4 * k) bytes)) (length-take-le 4 (drop (4 * k) bytes) (omega (arith, length-drop (4 * k) bytes)))

-- ---- one word more

pub laid_on : {m m' : List ℕ} {w at : ℕ} (frames : List ℕ) (first : ℕ) (bytes m₀ : List ℕ) (k : ℕ) → m ≡ laid_words frames first bytes m₀ k → w ≡ word_at bytes k → at ≡ place frames (first + k) → m' ≡ set m at w
    → m' ≡ laid_words frames first bytes m₀ (k + 1)
unfolding laid_words
laid_on frames first bytes m₀ k e f g h = rw (add-one k, h, e, f, g)

pub sum_on : {s s' w : ℕ} (bytes : List ℕ) (k : ℕ) → s ≡ sum_words bytes k → w ≡ word_at bytes k → s' ≡ plus s w → s' ≡ sum_words bytes (k + 1)
unfolding sum_words
sum_on bytes k e f h = rw (add-one k, h, e, f)

-- ---- in a partition's pages

pub image_laid : (pages frames : List ℕ) (owner address : ℕ) (bytes m : List ℕ) (from n wide first : ℕ) → from ≡ offset pages owner → n ≡ get_or pages owner 0 → wide ≡ n → first ≡ address
    → laid_words (take (from + wide - from) (drop from frames)) (first / 4) bytes m (count_of bytes) ≡ laid_words (list_words pages frames owner) (address / 4) bytes m (count_of bytes)
unfolding list_words inner
image_laid pages frames owner address bytes m from n wide first e₁ e₂ e₃ e₄ =
    let z : from + wide - from ≡ get_or pages owner 0 = omega arith in
    rw (z, e₁, e₄)

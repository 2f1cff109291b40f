-- The digest of words.
use Rattle.std.specs.Prelude.{ℕ, zero, suc, ◌+◌, ◌*◌, ◌%◌, ◌^◌, List, length, slice_index}

unfoldable pub mixed_of : ℕ → ℕ → ℕ
mixed_of d w = (d * 6364136223846793005 + w + 1) % 2 ^ 64

-- of the first n words
unfoldable pub digest_to : List ℕ → ℕ → ℕ
digest_to words zero = 0
digest_to words (suc n) = mixed_of (digest_to words n) (slice_index words n)

unfoldable pub digest_of : List ℕ → ℕ
digest_of words = digest_to words (length words)

-- Text as bytes, and what it is to put text into a lent buffer.
use Rattle.std.specs.Prelude.{◌≡◌, Bool, true, false, cond, ◌&&◌, List, [], ◌∷◌, ◌++◌, ℕ, zero, suc, ◌+◌, ◌≤◌, ltb, eqb, length, set}
use Prim.Native.Char.{code}
use Prim.Native.String.{String, [] as no_text, ◌∷◌ as ◌then◌}

-- the bytes of a text in ASCII
unfoldable pub ascii : String → List ℕ
ascii no_text = []
ascii (c then s) = code c ∷ ascii s

-- two texts are the same
unfoldable pub same : List ℕ → List ℕ → Bool
same [] [] = true
same [] (y ∷ ys) = false
same (x ∷ xs) [] = false
same (x ∷ xs) (y ∷ ys) = eqb x y && same xs ys

-- f 0, f 1 and on, n of them, one behind the other
unfoldable pub joined : (ℕ → List ℕ) → ℕ → List ℕ
joined f zero = []
joined f (suc n) = joined f n ++ f n

-- a buffer, and where the text ends in it
pub record Text : Type 0 where
  pub buffer : List ℕ
  pub end : ℕ

abbrev pub text : List ℕ → ℕ → Text
text out end = record { buffer = out; end = end }

-- the text with these bytes more, as far as there is room
unfoldable pub put : Text → List ℕ → Text
put t [] = t
put t (b ∷ bs) = put (cond (ltb t.end (length t.buffer)) (text (set t.buffer t.end b) (t.end + 1)) t) bs

-- bytes, at most so many, were put at a place, and now the text ends there
pub record Puts (out : List ℕ) (at : ℕ) (out' : List ℕ) (end : ℕ) (bytes : List ℕ) (most : ℕ) : Type 0 where
  pub stands : text out' end ≡ put (text out at) bytes
  pub short : length bytes ≤ most

-- A text at the start of a buffer, and what a caller must know of its length to lend it on.
use Rattle.std.specs.Prelude.{◌≡◌, List, ◌++◌, ℕ, ◌≤◌, length, take, drop}

-- n counts bytes at the start of a buffer
abbrev pub Counts : ℕ → List ℕ → Type 0
Counts n out = (n ≤ length out) × (n ≡ length (take n out))

-- a text put at the start of a buffer: its length, and the buffer after it
abbrev pub put : List ℕ → List ℕ → ℕ × List ℕ
put text out = (length text, text ++ drop (length text) out)

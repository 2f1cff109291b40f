-- Words of a script's bytes, and words of the memory.
use Rattle.std.specs.Prelude.{◌&&◌, List, ℕ, ◌+◌, ◌*◌, leb, ltb, length, get_or}
use Rattle.dlx.specs.Choice.{when◌then◌else◌}
use Rattle.house.specs.Lists.{list_from}

-- the word of the four bytes at a place, the lowest first
unfoldable pub word_at : List ℕ → ℕ → ℕ
word_at bytes at =
    get_or bytes at 0 + get_or bytes (at + 1) 0 * 256 + (get_or bytes (at + 2) 0 + get_or bytes (at + 3) 0 * 256) * 65536

-- word i of a read-out's output before the call
abbrev pub marked_of : ℕ → ℕ
marked_of i = 3405691582 + i

-- so many words from a place on, as far as there are any
unfoldable pub filled_of : List ℕ → ℕ → ℕ → ℕ → List ℕ
filled_of words from count value =
    list_from (λ j. when leb from j && ltb j (from + count) then value else get_or words j 0) 0 (length words)

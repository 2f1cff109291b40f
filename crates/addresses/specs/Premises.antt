-- What the damage check gives of one partition: its frames lie in the memory, each once, and its shadow's frames are its own.
use Rattle.std.specs.Prelude.{◌≡◌, true, List, ℕ, ◌+◌, ◌*◌, ◌^◌, ◌<◌, ◌≤◌, length, get_or}
use Rattle.addresses.specs.Entries.{number, valid}
use Rattle.addresses.specs.Walk.{entries}

-- the frame list fr of n pages, each frame of at most 20 bits
pub record Listed (fr : List ℕ) (n : ℕ) : Type 0 where
  pub few : n ≤ 256
  pub list : length fr ≡ 256
  pub low : (k : ℕ) → k < n → get_or fr k 0 < 2 ^ 20

-- the frame list fr of n pages in a memory of so many words
pub record Placed (fr : List ℕ) (n size : ℕ) : Type 0 where
  pub few : n ≤ 256
  pub list : length fr ≡ 256
  pub small : size ≤ 2 ^ 20
  pub inside : (k : ℕ) → k < n → get_or fr k 0 * 1024 + 1024 ≤ size
  pub distinct : (j k : ℕ) → j < n → k < n → get_or fr j 0 ≡ get_or fr k 0 → j ≡ k

-- f is one of the frames
abbrev pub Own : List ℕ → ℕ → ℕ → Type 0
Own fr n f = (k : ℕ) × (k < n) × (get_or fr k 0 ≡ f)

pub record Shadowed (fr : List ℕ) (n : ℕ) (sh : List ℕ) : Type 0 where
  pub count : length sh ≡ entries
  pub own : (px : ℕ) → valid (get_or sh px 0) ≡ true → Own fr n (number (get_or sh px 0))

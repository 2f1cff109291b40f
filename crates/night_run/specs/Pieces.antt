-- A file read in pieces: what each read adds, and what all of them come to.
use Rattle.std.specs.Prelude.{◌≡◌, Bool, true, false, ◌&&◌, ◌||◌, List, [], ◌++◌, ℕ, ◌+◌, ◌<◌, ◌≤◌, ◌^◌, ltb, leb, eqb, length, get_or, take, min, Option, Some, None, IfSome, is_none, ℤ, pos, negsuc}
use Rattle.dlx.specs.Choice.{when◌then◌else◌}
use Rattle.night_run.specs.declared.input.Taken.{Taken}

abbrev pub Bytes : List ℕ → Type 0
Bytes bs = (i : ℕ) → get_or bs i 0 < 256

-- ---- one read

-- no read yet
abbrev pub none_taken : Taken
none_taken = record { bytes = 0; ended = false; failed = false }

-- the last read brought nothing
abbrev pub over : Taken → Bool → Taken
over t failed = record { bytes = t.bytes; ended = true; failed = failed }

-- it brought so many bytes
abbrev pub onward : Taken → ℕ → Taken
onward t n = record { bytes = t.bytes + n; ended = false; failed = false }

-- what the system's number says of a read into a buffer of so many bytes: below 0 that it failed, else how many bytes it brought
abbrev pub answered : ℤ → ℕ → Option ℕ
answered (pos k) most = Some (min k most)
answered (negsuc k) most = None

-- the bytes of a read that answered this and left this buffer
abbrev pub came : Option ℕ → List ℕ → List ℕ
came (Some n) buffer = take n buffer
came None buffer = []

-- those of them that count: with the 2^64th byte the reads fail
unfoldable pub brought : Taken → Option ℕ → List ℕ → List ℕ
brought t answer buffer = when ltb (t.bytes + length (came answer buffer)) (2 ^ 64) then came answer buffer else []

-- After such a read. Without a byte the reads are over, and failed where it answered none. They also fail at the 2^64th byte.
unfoldable pub after_read : Taken → Option ℕ → List ℕ → Taken
after_read t answer buffer =
    let bs = came answer buffer in
    when eqb (length bs) 0 then over t (is_none answer) else
    when ltb (t.bytes + length bs) (2 ^ 64) then onward t (length bs) else
    over t true

-- one read more: what it answered, the buffer that it left, how the reads stand then, and how many bytes at the buffer's start are new
pub record OneRead (t t' : Taken) (count : ℕ) (buffer : List ℕ) : Type 0 where
  pub answer : Option ℕ
  pub fits : t.bytes < 2 ^ 64
  pub moved : IfSome answer (λ n. n ≤ length buffer)
  pub bytes : Bytes buffer
  pub stands : t' ≡ after_read t answer buffer
  pub new : take count buffer ≡ brought t answer buffer

-- ---- all reads

-- What a file comes to is fixed by these bytes of it: the first record of a saved file has come, or as many bytes, and a record is wrong.
abbrev pub fixed : (List ℕ → Bool) → List ℕ → Bool
fixed wrong bs = leb 22 (length bs) && wrong bs

-- These are the bytes of the reads so far. The last of them was made while nothing was fixed.
pub record Behind (wrong : List ℕ → Bool) (t : Taken) (bs : List ℕ) : Type 0 where
  pub bytes : Bytes bs
  pub count : length bs ≡ t.bytes
  pub fits : length bs < 2 ^ 64
  pub before : List ℕ
  pub last : List ℕ
  pub whole : bs ≡ before ++ last
  pub piece : length last ≤ 65536
  pub needed : fixed wrong before ≡ false

-- and the first 22 of them are these: fewer where the input has ended
pub record Going (wrong : List ℕ → Bool) (head : List ℕ) (t : Taken) (bs : List ℕ) : Type 0 where
  pub behind : Behind wrong t bs
  pub first : take 22 bs ≡ head
  pub headed : t.ended ≡ false → 22 ≤ length bs

-- these are the bytes of all reads, and no read more is made: the input has ended, or all is fixed
pub record AllOf (wrong : List ℕ → Bool) (t : Taken) (bs : List ℕ) : Type 0 where
  pub behind : Behind wrong t bs
  pub over : (t.ended || fixed wrong bs) ≡ true

pub record Reads (wrong : List ℕ → Bool) (head : List ℕ) (t : Taken) (bs : List ℕ) : Type 0 where
  pub all : AllOf wrong t bs
  pub first : take 22 bs ≡ head

-- a file of which these bytes were read: all of it where the input ended; else a record is wrong, and it may go on
pub record FileOf (t : Taken) (bs file : List ℕ) : Type 0 where
  pub more : List ℕ
  pub whole : file ≡ bs ++ more
  pub bytes : Bytes file
  pub fits : length file < 2 ^ 64
  pub ended : t.ended ≡ true → more ≡ []

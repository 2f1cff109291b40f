-- The file read byte by byte, whatever pieces the bytes come in: where the reading stands after each of them.
use Rattle.std.specs.Prelude.{ℕ, ◌+◌, ◌-◌, ◌*◌, ◌/◌, ◌%◌, ◌^◌, Bool, true, false, not, ◌&&◌, ◌||◌, List, [], ◌∷◌, take, replicate, ◌==◌, nat_eq, nat_le, nat_lt, slice_index, slice_set}
use Rattle.dlx.specs.Choice.{when◌then◌else◌}
use Rattle.dlx.specs.Words.{plus}
use Rattle.housefile.specs.Records.{may_come, file, Reading, wrong, right}
use Rattle.housefile.specs.declared.Record.{Record}
use Rattle.housefile.specs.declared.Reader.{Reader}

-- the reader, and the lists it reads into: q and run length, page counts, frames, the memory
pub record Read : Type 0 where
  pub reader : Reader
  pub turns : List ℕ
  pub pages : List ℕ
  pub frames : List ℕ
  pub memory : List ℕ

abbrev pub read : Reader → List ℕ → List ℕ → List ℕ → List ℕ → Read
read r turns pages frames memory = record { reader = r; turns = turns; pages = pages; frames = frames; memory = memory }

-- no byte of a record has come
abbrev pub no_record : Record
no_record = record { bytes = 0; size = 0; kind = 0; frame = 0; word = 0 }

abbrev pub no_reader : Reader
no_reader = record { wrong = false; start = 0; last = 0; lists = 0; total = 0; at = no_record }

abbrev pub no_read : Read
no_read = read no_reader (replicate 2 0) (replicate 8 0) (replicate 2048 0) (replicate 16384 0)

-- ---- one byte

-- the word of the last four bytes: each new one comes in at the top
abbrev pub shifted : ℕ → ℕ → ℕ
shifted w b = w / 256 + b * 2 ^ 24

-- the record with one byte more: its body length is whole after 4, its kind after 6, a frame number in front after 10
unfoldable pub further : Record → ℕ → Record
further n b =
    let w = shifted n.word b in
    record {
      bytes = plus n.bytes 1;
      size = when n.bytes == 3 then w else n.size;
      kind = when n.bytes == 5 then w / 2 ^ 16 else n.kind;
      frame = when n.bytes == 9 then w else n.frame;
      word = w;
    }

-- its header is whole and may not come here, or its frame number is, and not below 16
unfoldable pub spoils : Reader → Record → Bool
spoils r n =
    (n.bytes == 6) && not (may_come r.last r.lists n.kind n.size)
    || n.bytes == 10 && n.kind == 3 && nat_le 16 n.frame

-- a word of its body is whole: word j, at its place
unfoldable pub placed : Reader → Record → Read → Read
placed r n s =
    let j = n.bytes / 4 - 2 in
    when nat_lt n.bytes 10 || not (n.bytes % 4 == 2) then s else
    when n.kind == 1 then read s.reader (slice_set s.turns j n.word) s.pages s.frames s.memory else
    when n.kind == 2 then read s.reader s.turns s.pages (slice_set s.frames (r.total + j) n.word) s.memory else
    when n.kind == 3 && not (j == 0) then
    read s.reader s.turns s.pages s.frames (slice_set s.memory (n.frame * 1024 + (j - 1)) n.word)
    else s

-- the record is whole: the next one starts behind it; a list counts
unfoldable pub completed : Reader → Record → List ℕ → Reader × List ℕ
completed r n pages =
    let next = (r.start + (6 + n.size)) % 2 ^ 64 in
    when n.kind == 2 then (
      record { wrong = false; start = next; last = 2; lists = plus r.lists 1; total = plus r.total (n.size / 4); at = no_record },
      slice_set pages r.lists (n.size / 4),
    ) else
    (record { wrong = false; start = next; last = n.kind; lists = r.lists; total = r.total; at = no_record }, pages)

-- the reader within a record, and at one that is wrong: nothing after it is looked at
abbrev pub within : Reader → Record → Reader
within r n = record { wrong = r.wrong; start = r.start; last = r.last; lists = r.lists; total = r.total; at = n }

abbrev pub spoiled : Reader → Reader
spoiled r = record { wrong = true; start = r.start; last = r.last; lists = r.lists; total = r.total; at = r.at }

-- the reader after the byte that made the record n
unfoldable pub settled : Read → Record → Read
settled s n =
    let r = s.reader in
    when spoils r n then read (spoiled r) s.turns s.pages s.frames s.memory else
    let p = placed r n s in
    when not (n.bytes == 6 + n.size) || nat_lt n.bytes 6 then read (within r n) p.turns p.pages p.frames p.memory else
    read (completed r n p.pages).0 p.turns (completed r n p.pages).1 p.frames p.memory

-- after kind 4 comes no byte
unfoldable pub took : Read → ℕ → Read
took s b =
    let r = s.reader in
    when r.wrong then s else
    when r.last == 4 then read (spoiled r) s.turns s.pages s.frames s.memory else
    settled s (further r.at b)

unfoldable pub fed : Read → List ℕ → Read
fed s [] = s
fed s (b ∷ bs) = fed (took s b) bs

-- ---- at the file's end

unfoldable pub answer_of : Read → Reading
answer_of s =
    let r = s.reader in
    when not r.wrong && nat_eq r.last 4 then
    right (file (slice_index s.turns 0) (slice_index s.turns 1) (take r.lists s.pages) (take r.total s.frames) s.memory)
    else wrong r.start

-- A reading as the code has it: a reader, the house so far, a buffer that holds the record at hand, and the memory.
use Rattle.std.specs.Prelude.{◌≡◌, ℕ, ◌+◌, ◌-◌, ◌/◌, ◌≤◌, min, Bool, true, false, List, [], ◌++◌, length, take, drop, ◌==◌}
use Rattle.dlx.specs.Choice.{when◌then◌else◌}
use Rattle.house.specs.declared.House.{House}
use Rattle.housefile.specs.Records.{words_of, size, kind}
use Rattle.save.specs.Reading.{Progress, Reading, reading, may_come, settled}
use Rattle.restore.specs.declared.Reader.{Reader}
use Rattle.restore.specs.declared.records.Kind.{Kind}
use Rattle.restore.specs.declared.records.Kind.TheVariants.{Frame, End, Turn, Guest, Tickets}
use Rattle.restore.specs.declared.bytes.Step.{Step}
use Rattle.restore.specs.declared.bytes.Step.TheVariants.{Open, Whole}

-- the kinds of records by their numbers
abbrev pub number_of : Kind → ℕ
number_of Frame = 3
number_of End = 4
number_of Turn = 5
number_of Guest = 6
number_of Tickets = 7

abbrev pub progress_at : Reader → House → List ℕ → Progress
progress_at r h m = record {
  refusal = r.refusal;
  start = r.start;
  opened = r.opened;
  queues = r.queues;
  frames = r.frames;
  ended = r.ended;
  house = h;
  memory = m;
}

-- with so many bytes of the record at hand, and at a wrong record
abbrev pub held_to : Reader → ℕ → Reader
held_to r n = record { refusal = r.refusal; start = r.start; held = n; opened = r.opened; queues = r.queues; frames = r.frames; ended = r.ended }

abbrev pub wrong_at : Reader → Reader
wrong_at r = record { refusal = 17; start = r.start; held = 0; opened = r.opened; queues = r.queues; frames = r.frames; ended = r.ended }

-- a record that is not whole has at most 4,105 bytes
abbrev pub reading_at : Reader → House → List ℕ → List ℕ → Reading
reading_at r h held m = reading (progress_at r h m) (take (min r.held 4105) held)

abbrev pub reader_of : Step → Reader
reader_of (Open r) = r
reader_of (Whole r) = r

abbrev pub is_whole : Step → Bool
is_whole (Open r) = false
is_whole (Whole r) = true

-- after a byte: the record at hand is whole, and still to be settled, or not
unfoldable pub stepped : Reader → Bool → House → List ℕ → List ℕ → Reading
stepped r whole h held m =
    when whole then reading (settled (progress_at r h m) (kind held) (words_of (size held / 4) (drop 6 held))) [] else reading_at r h held m

-- the record at hand may come, whatever the house and the memory hold besides
abbrev pub Comes : Reader → ℕ → ℕ → List ℕ → Type 0
Comes r count words held = (h : House) (m : List ℕ) → h.count ≡ count → h.words ≡ words → may_come (progress_at r h m) (kind held) (size held) ≡ true

abbrev pub SteppedTo : Reader → Bool → ℕ → ℕ → List ℕ → Type 0
SteppedTo r whole count words held = (whole ≡ false → r.held ≤ 4105) × (whole ≡ true → (r.refusal ≡ 0) × Comes r count words held)

-- Behind a head, of a body of so many bytes, those of a piece from one on have been put into the buffer, as many as the record wants and the piece has: the
-- reader then, whether the record is whole, and the next byte.
pub record Rested (r : Reader) (size : ℕ) (piece : List ℕ) (from : ℕ) (held : List ℕ) (x : Reader) (whole : Bool) (next : ℕ) (held' : List ℕ) : Type 0 where
  pub more : ℕ
  pub most : more ≡ min (6 + size - r.held) (length piece - from)
  pub reader : x ≡ held_to r (r.held + more)
  pub ends : whole ≡ (r.held + more == 6 + size)
  pub goes : next ≡ from + more
  pub put : take (r.held + more) held' ≡ take r.held held ++ take more (drop from piece)

-- once kind 5 has come, the memory has the saved size
abbrev pub Sized : Reader → House → List ℕ → Type 0
Sized r h m = r.opened ≡ true → length m ≡ h.words

-- what holds between the bytes of a piece
pub record Standing (r : Reader) (h : House) (m : List ℕ) : Type 0 where
  pub short : r.held ≤ 4105
  pub sized : r.refusal ≡ 0 → Sized r h m

-- within a record nothing is opened, and no refusal is taken back
abbrev pub Kept : Reader → Reader → Type 0
Kept r x = (x.opened ≡ r.opened) × (x.refusal ≡ 0 → r.refusal ≡ 0)

-- What a file comes to: the first refusal of the file, of boot, or of run; or the house and memory after the run, or those that were saved.
use Rattle.std.specs.Prelude.{◌≡◌, Result, Ok, Err, Bool, not, ◌&&◌, List, [], ℕ, min, ltb, leb, eqb, length, take, drop, replicate}
use Rattle.dlx.specs.Choice.{when◌then◌else◌}
use Rattle.house.specs.House.{no_house}
use Rattle.house.specs.Boot.{Verdict, verdict}
use Rattle.house.specs.Turns.{World, world}
use Rattle.house.specs.Calls.{Answered, answered, boot_call, run_call}
use Rattle.house.specs.Refusals.{refusal}
use Rattle.house.specs.declared.refusal.Refusal.{Refusal}
use Rattle.housefile.specs.Records.{Reading, wrong, right, reading_of, number, kind}
use Rattle.housefile.specs.Reader.{Read, no_read, fed}
use Rattle.engines.specs.Promises.{emptied_by}
use Rattle.save.specs.Reading.{begun}
use Rattle.save.specs.Reading.{fed as Reading·fed}
use Rattle.save.specs.Reading.{Reading as Save-as-Reading}
use Rattle.save.specs.Calls.{finished}
use Rattle.night_run.specs.Pieces.{Going, AllOf, Reads, FileOf}
use Rattle.night_run.specs.declared.input.Taken.{Taken}
use Rattle.night_run.specs.declared.Ran.{Ran}

-- there is no house
abbrev pub none_ran : ℕ → ℕ → Answered
none_ran number detail = answered (verdict number detail) (world no_house [])

-- ---- a house file

unfoldable pub after_boot : Answered → ℕ → Answered
after_boot a steps = when eqb a.verdict.number 0 then run_call a.world steps else a

unfoldable pub ran_of : Reading → Answered
ran_of (wrong at) = none_ran 15 at
ran_of (right f) = after_boot (boot_call f.pages f.q f.frames f.memory) f.run

-- what it holds before a house is booted of it: the memory, and no house
unfoldable pub held_of : Reading → Answered
held_of (wrong at) = none_ran 15 at
held_of (right f) = answered (verdict 0 0) (world no_house f.memory)

-- ---- a saved file

-- its first record is of kind 5
unfoldable pub is_saved : List ℕ → Bool
is_saved file = leb 6 (length file) && eqb (kind file) 5

-- how many words its memory has, by the second word of that record; no more than 1,024 frames are lent
unfoldable pub room_for : List ℕ → ℕ
room_for head = when ltb (length head) 22 then 0 else min (number (take 4 (drop 10 head))) 1048576

-- the zeros over which it is read
unfoldable pub lent_for : List ℕ → List ℕ
lent_for file = replicate (room_for (take 22 file)) 0

-- ---- a way to read a file: what a whole file comes to, and whether some bytes of one have a record that is wrong

pub record Way : Type 0 where
  pub answer : List ℕ → Answered
  pub wrong : List ℕ → Bool

abbrev pub wrong_from : Read → List ℕ → Bool
wrong_from start bs = (fed start bs).reader.wrong

-- over this memory: some bytes are refused
abbrev pub refused_over : List ℕ → List ℕ → Bool
refused_over memory bs = not (eqb (Reading·fed (begun memory) bs).progress.refusal 0)

-- a house file, by what is made of it
abbrev pub house_file_of : (Reading → Answered) → Way
house_file_of of = record { answer = λ file. of (reading_of file); wrong = wrong_from no_read }

abbrev pub house_file : Way
house_file = house_file_of ran_of

-- by the engine that is asked for: the same, but that every shadow is empty behind the one without shadows
abbrev pub ran_by : Bool → Reading → Answered
ran_by unshadowed r = emptied_by unshadowed (ran_of r)

abbrev pub house_file_by : Bool → Way
house_file_by unshadowed = house_file_of (ran_by unshadowed)

abbrev pub held_file : Way
held_file = house_file_of held_of

abbrev pub saved_over : List ℕ → Way
saved_over memory = record { answer = λ file. finished (Reading·fed (begun memory) file); wrong = refused_over memory }

abbrev pub saved_file : Way
saved_file = record { answer = λ file. (saved_over (lent_for file)).answer file; wrong = λ bs. (saved_over (lent_for bs)).wrong bs }

-- the first record tells; this is what a house file comes to
abbrev pub saved_or : Way → Way
saved_or house = record {
  answer = λ file. when is_saved (take 22 file) then saved_file.answer file else house.answer file;
  wrong = λ bs. when is_saved (take 22 bs) then saved_file.wrong bs else house.wrong bs;
}

abbrev pub either_file : Way
either_file = saved_or house_file

abbrev pub either_held : Way
either_held = saved_or held_file

-- ---- while a file is read, and at its end

-- the reads stand at t, behind bytes that begin with `head`, and the reader at s
abbrev pub HouseGoing : List ℕ → Taken → Read → Type 0
HouseGoing head t s = (bs : List ℕ) × Going house_file.wrong head t bs × (s ≡ fed no_read bs)

abbrev pub HouseRead : List ℕ → Taken → Read → Type 0
HouseRead head t s = (bs : List ℕ) × Reads house_file.wrong head t bs × (s ≡ fed no_read bs)

-- of a saved file, over this memory
abbrev pub SavedGoing : List ℕ → List ℕ → Taken → Save-as-Reading → Type 0
SavedGoing memory head t s = (bs : List ℕ) × Going (refused_over memory) head t bs × (s ≡ Reading·fed (begun memory) bs)

abbrev pub SavedRead : List ℕ → List ℕ → Taken → Save-as-Reading → Type 0
SavedRead memory head t s = (bs : List ℕ) × Reads (refused_over memory) head t bs × (s ≡ Reading·fed (begun memory) bs)

-- ---- what is handed on

-- the memory that a program lends: 1,024 zero frames
unfoldable pub no_frames : List ℕ
no_frames = replicate 1048576 0

-- done with this detail, or refused
abbrev pub outcome_of : Result ℕ Refusal → Verdict
outcome_of (Ok detail) = verdict 0 detail
outcome_of (Err r) = refusal r

-- as an answer, over the lent memory
abbrev pub answer_in : Ran → List ℕ → Answered
answer_in x memory = answered (outcome_of x.outcome) (world x.house (take x.words memory))

-- for a file, once it is read: nothing where a read failed
abbrev pub handed : Way → Taken → List ℕ → Answered
handed way t file = when t.failed then none_ran 0 0 else way.answer file

-- the answer is the one for every file that was read like this
abbrev pub Handed : Way → Ran → List ℕ → Type 0
Handed way x memory = (bs : List ℕ) × AllOf way.wrong x.taken bs × ((file : List ℕ) → FileOf x.taken bs file → answer_in x memory ≡ handed way x.taken file)

-- and its first 22 bytes were these
abbrev pub HandedFrom : Way → List ℕ → Ran → List ℕ → Type 0
HandedFrom way head x memory =
    (bs : List ℕ) × Reads way.wrong head x.taken bs × ((file : List ℕ) → FileOf x.taken bs file → answer_in x memory ≡ handed way x.taken file)

-- the world is what every file that was read like this leaves, and nothing was refused
abbrev pub Left : Way → Taken → World → Type 0
Left way t w =
    (bs : List ℕ) × AllOf way.wrong t bs × ((file : List ℕ) → FileOf t bs file → (detail : ℕ) × (way.answer file ≡ answered (verdict 0 detail) w))

-- ---- what a program prints

-- for a file, once it is read, by what it prints for an answer; nothing where a read failed
abbrev pub told_by : Way → (Answered → List ℕ) → Taken → List ℕ → List ℕ
told_by way printed t file = when t.failed then [] else printed (way.answer file)

-- the text is the one for every file that was read like this
abbrev pub Told : Way → (Answered → List ℕ) → Taken → List ℕ → Type 0
Told way printed t text = (bs : List ℕ) × AllOf way.wrong t bs × ((file : List ℕ) → FileOf t bs file → text ≡ told_by way printed t file)

-- What a saved file is worth, as statements about the definitions that the calls' contracts cite. proofs/Promises.antt proves each.
use Rattle.std.specs.Prelude.{◌≡◌, true, false, List, [], ◌∷◌, ◌++◌, ℕ, zero, suc, ◌+◌, ◌*◌, ◌^◌, ◌<◌, ◌≤◌, length, get_or, take}
use Rattle.dlx.specs.Choice.{when◌then◌else◌}
use Rattle.house.specs.House.{no_house, fresh_shadows, with_shadows}
use Rattle.house.specs.Damage.{damaged}
use Rattle.house.specs.Boot.{verdict}
use Rattle.house.specs.Turns.{World, world}
use Rattle.house.specs.Calls.{answered}
use Rattle.house.specs.Sound.{Typed}
use Rattle.demands.specs.Histories.{Boot, booted, Call, empty, after, history, Grown, turns_made, steps_made, lone_of, log_of}
use Rattle.save.specs.Saved.{record_of, records, turn_words, guest_words, ticket_words, frame_words, file_of}
use Rattle.save.specs.Reading.{Progress, Reading, begun, fed}
use Rattle.save.specs.Calls.{save_call, read_piece, finished}
use Rattle.save.specs.Whole.{says_of, answer_to}

-- ---- what may be saved, and what is read

-- a house that is not damaged, in a memory of its size, of numbers as their types give them: what a save is not refused for
pub record Savable (w : World) : Type 0 where
  pub typed : Typed w
  pub whole : damaged w.house ≡ false
  pub size : length w.memory ≡ w.house.words

-- the world with every shadow empty
abbrev pub emptied : World → World
emptied w = world (with_shadows w.house fresh_shadows) w.memory

-- a list of bytes
abbrev pub Bytes : List ℕ → Type 0
Bytes f = (i : ℕ) → get_or f i 0 < 256

-- the pieces of a file, and a reading of them over a memory that is handed on untouched from each to the next
unfoldable pub whole : List (List ℕ) → List ℕ
whole [] = []
whole (x ∷ xs) = x ++ whole xs

unfoldable pub pieces_read : Reading → List (List ℕ) → Reading
pieces_read s [] = s
pieces_read s (x ∷ xs) = pieces_read (read_piece s s.progress.memory x) xs

-- ---- one house, one file

-- Read back: what was written, over any memory of the right size, cut anywhere, is the house with empty shadows, and the memory.
abbrev pub ReadBack : Type 0
ReadBack = (w : World) → Savable w → (m : List ℕ) → length m ≡ w.house.words → (xs : List (List ℕ)) → whole xs ≡ file_of w →
    finished (pieces_read (begun m) xs) ≡ answered (verdict 0 0) (emptied w)

-- One file: a file that is read without refusal is the file of the house and the memory that it gives.
abbrev pub OneFile : Type 0
OneFile = (m f : List ℕ) (w : World) → Bytes f → finished (fed (begun m) f) ≡ answered (verdict 0 0) w → file_of w ≡ f

-- Whole: it gives a house that is not damaged, in a memory of its size, so that it may be saved again.
abbrev pub GivesWhole : Type 0
GivesWhole = (m f : List ℕ) (w : World) → Bytes f → finished (fed (begun m) f) ≡ answered (verdict 0 0) w →
    (damaged w.house ≡ false) × (length w.memory ≡ w.house.words) × (length w.memory ≡ length m)

-- One house: two with the same file, and the memories, are equal but for the shadows.
abbrev pub OneHouse : Type 0
OneHouse = (w w' : World) → Savable w → Savable w' → file_of w ≡ file_of w' → emptied w ≡ emptied w'

-- Cut anywhere: pieces come to what the whole file comes to.
abbrev pub CutAnywhere : Type 0
CutAnywhere = (m : List ℕ) (xs : List (List ℕ)) → Bytes (whole xs) → pieces_read (begun m) xs ≡ fed (begun m) (whole xs)

-- Whole file: the bytes taken one by one come to what the whole file says, record by record: 17 names the first wrong record's place, or kind 4's where the house
-- is damaged; a file with neither is done.
abbrev pub WholeFile : Type 0
WholeFile = (m f : List ℕ) → length f < 2 ^ 64 → finished (fed (begun m) f) ≡ answer_to (says_of m f)

-- Refused: either refusal gives the house of no partitions. A later piece over a memory of another size is 9, and leaves that memory as it was lent; a refused
-- save writes nothing.
pub record Refused : Type 0 where
  pub reading : (s : Reading) → ((finished s).verdict.number ≡ 0 → ⊥) → (finished s).world ≡ world no_house s.progress.memory
  pub sizes : (s : Reading) (m piece : List ℕ) → s.progress.refusal ≡ 0 → s.progress.opened ≡ true → (length m ≡ s.progress.house.words → ⊥) →
      finished (read_piece s m piece) ≡ answered (verdict 9 0) (world no_house m)
  pub saving : (w : World) (at : ℕ) (out : List ℕ) → let r = save_call w at out in
      (r.verdict.number ≡ 0 → ⊥) → (r.count ≡ 0) × (r.house ≡ w.house) × (r.output ≡ out)

-- the right records that a reading has taken
unfoldable pub right_records : Progress → List ℕ
right_records p =
    let h = p.house in
    (when p.opened then record_of 5 (turn_words h) else [])
    ++ (records 6 (guest_words h) h.count
    ++ (records 7 (ticket_words h) p.queues
    ++ (records 3 (frame_words p.memory) p.frames
    ++ (when p.ended then record_of 4 [] else []))))

-- Right records alone: a reading, refused or not, has taken right records from the file's beginning up to the start of the first that is wrong or not there.
-- The memory holds the frames of those, and is otherwise as it was lent.
pub record TookRight (m f : List ℕ) (p : Progress) : Type 0 where
  pub rest : List ℕ
  pub split : f ≡ right_records p ++ rest
  pub start : p.start ≡ length (right_records p)
  pub long : length p.memory ≡ length m
  pub kept : (i : ℕ) → p.frames * 1024 ≤ i → get_or p.memory i 0 ≡ get_or m i 0

abbrev pub RightAlone : Type 0
RightAlone = (m f : List ℕ) → Bytes f → length f < 2 ^ 64 → TookRight m f (fed (begun m) f).progress

-- ---- histories with saves and restores

-- what the pieces of a save bring, into outputs lent one after the other, each from where the last one ended
unfoldable pub brought : World → ℕ → List (List ℕ) → List ℕ
brought w at [] = []
brought w at (out ∷ outs) =
    let r = save_call w at out in
    take r.count r.output ++ brought w (at + r.count) outs

-- A save counts: f is what its pieces bring, of one house and memory from the first to the last, and one more would bring no byte.
pub record SaveOf (w : World) (f : List ℕ) : Type 0 where
  pub outputs : List (List ℕ)
  pub done : (save_call w 0 []).verdict.number ≡ 0
  pub pieces : f ≡ brought w 0 outputs
  pub last : (save_call w (length f) (0 ∷ [])).count ≡ 0

-- A restore counts: it is done, its pieces are those of f, and nothing else touches the memory between them.
pub record RestoreOf (f : List ℕ) (w : World) : Type 0 where
  pub memory : List ℕ
  pub pieces : List (List ℕ)
  pub same : whole pieces ≡ f
  pub done : finished (pieces_read (begun memory) pieces) ≡ answered (verdict 0 0) w

-- Every house and memory that may be saved has a save that counts, and a restore of its file that counts: so that refusing all is no answer.
abbrev pub Saves : Type 0
Saves = (w : World) → Savable w → SaveOf w (file_of w) × RestoreOf (file_of w) (emptied w)

-- Every house and memory that is grown from a boot is such a one.
abbrev pub GrownSavable : Type 0
GrownSavable = (b : Boot) → ((i : ℕ) → get_or b.memory i 0 < 2 ^ 32) → (w : World) → Grown b w → Savable w

-- one emptying of each of n partitions
unfoldable pub emptyings : ℕ → List Call
emptyings zero = []
emptyings (suc n) = emptyings n ++ (empty n ∷ [])

-- A restore that counts gives what one emptying of each partition gives of the saved house and memory.
abbrev pub Restores : Type 0
Restores = (w w' : World) (f : List ℕ) → Typed w → SaveOf w f → RestoreOf f w' → w' ≡ history (emptyings w.house.count) w

-- A life from a boot, and its history: calls, and restores that count. After a restore the history is the one up to the save, and then what comes after the
-- restore; calls between them count for nothing. Any other reading ends it.
pub data Life (b : Boot) : List Call → World → Type 0 where
  begins : Life b [] (booted b)
  calls : {cs : List Call} {w : World} → Life b cs w → (c : Call) → Life b (cs ++ (c ∷ [])) (after c w)
  resumes : {cs : List Call} {w w' : World} {f : List ℕ} → Life b cs w → SaveOf w f → RestoreOf f w' → Life b (cs ++ emptyings w.house.count) w'

-- So every house and memory of a life is grown from the boot, by its history: the demands speak of it as they stand.
abbrev pub LivesGrown : Type 0
LivesGrown = (b : Boot) → ((i : ℕ) → get_or b.memory i 0 < 2 ^ 32) → (cs : List Call) (w : World) → Life b cs w → w ≡ history cs (booted b)

-- The emptyings themselves count for nothing: no host step, no ticket asked for, and each lone machine stands where it stood.
pub record Nothing (cs : List Call) (w : World) : Type 0 where
  pub steps : steps_made cs w ≡ 0
  pub turns : (i : ℕ) → turns_made cs w i ≡ 0
  pub log : log_of cs w ≡ []
  pub lone : (i : ℕ) → lone_of (history cs w) i ≡ lone_of w i

abbrev pub EmptyingsCountNothing : Type 0
EmptyingsCountNothing = (n : ℕ) (w : World) → Nothing (emptyings n) w

-- Saving and reading, piece by piece.
use Rattle.std.specs.Prelude.{not, ◌||◌, List, [], ◌∷◌, ◌++◌, ℕ, ◌-◌, min, eqb, length, take, drop}
use Rattle.dlx.specs.Choice.{when◌then◌else◌}
use Rattle.house.specs.House.{no_house}
use Rattle.house.specs.Damage.{damaged}
use Rattle.house.specs.Boot.{Verdict, verdict, case, first_of}
use Rattle.house.specs.Turns.{World, world}
use Rattle.house.specs.Calls.{Answered, answered}
use Rattle.house.specs.declared.House.{House}
use Rattle.save.specs.Saved.{file_of}
use Rattle.save.specs.Reading.{Progress, Reading, fed, lent}

-- ---- a piece of the file, from an offset on: at most 64 KiB, and what the output has room for

abbrev pub piece_length : World → ℕ → ℕ → ℕ
piece_length w at room = min (min room 65536) (length (file_of w) - at)

unfoldable pub save_verdict : World → Verdict
save_verdict w =
    first_of
    (case (damaged w.house) 8 0
    ∷ case (not (eqb (length w.memory) w.house.words)) 9 0
    ∷ [])
    (verdict 0 0)

-- what a save leaves, and how many bytes it wrote
pub record Written : Type 0 where
  pub verdict : Verdict
  pub count : ℕ
  pub house : House
  pub output : List ℕ

abbrev pub written : Verdict → ℕ → House → List ℕ → Written
written v n h out = record { verdict = v; count = n; house = h; output = out }

unfoldable pub save_call : World → ℕ → List ℕ → Written
save_call w at out =
    let v = save_verdict w in
    let n = when eqb v.number 0 then piece_length w at (length out) else 0 in
    written v n w.house (take n (drop at (file_of w)) ++ drop n out)

-- ---- reading

-- a piece, over a memory
unfoldable pub read_piece : Reading → List ℕ → List ℕ → Reading
read_piece s m piece = fed (lent s m) piece

-- at the file's end: a record is wrong or missing, or all are right and the house is damaged
unfoldable pub read_verdict : Progress → Verdict
read_verdict p =
    first_of
    (case (eqb p.refusal 9) 9 0
    ∷ case (not (eqb p.refusal 0) || not p.ended) 17 p.start
    ∷ case (damaged p.house) 17 (p.start - 6)
    ∷ [])
    (verdict 0 0)

unfoldable pub finished : Reading → Answered
finished s =
    let p = s.progress in
    let v = read_verdict p in
    answered v (world (when eqb v.number 0 then p.house else no_house) p.memory)

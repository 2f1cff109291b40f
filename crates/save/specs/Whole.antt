-- What a whole file says, record by record, over a lent memory.
use Rattle.std.specs.Prelude.{Bool, ◌&&◌, List, ℕ, zero, suc, ◌+◌, ◌-◌, ◌/◌, leb, eqb, length, drop}
use Rattle.dlx.specs.Choice.{when◌then◌else◌}
use Rattle.house.specs.House.{no_house}
use Rattle.house.specs.Damage.{damaged}
use Rattle.house.specs.Boot.{verdict}
use Rattle.house.specs.Turns.{World, world}
use Rattle.house.specs.Calls.{Answered, answered}
use Rattle.housefile.specs.Records.{words_of, size, kind}
use Rattle.save.specs.Reading.{Progress, begun, may_come, content_right, taken}

-- the words of the record at the head of the bytes
abbrev pub body_of : List ℕ → List ℕ
body_of bs = words_of (size bs / 4) (drop 6 bs)

-- that record is there as a whole, and right
unfoldable pub record_right : Progress → List ℕ → Bool
record_right p bs =
    leb 6 (length bs) && may_come p (kind bs) (size bs) && leb (6 + size bs) (length bs) && content_right p (kind bs) (body_of bs)

-- each with the memory as the right records before leave it
pub data Says : Type 0 where
  -- kind 5 tells another size than the memory's
  other_size : List ℕ → Says
  -- where the first wrong record starts
  wrong : ℕ → List ℕ → Says
  -- all are right: where kind 4 starts, and the house and the memory
  right : ℕ → World → Says

-- The bytes from offset `at` on, behind right records that came to p; n is above the number of records to come. After kind 4 comes no byte.
unfoldable pub says_from : ℕ → Progress → ℕ → List ℕ → Says
says_from zero p at bs = wrong at p.memory
says_from (suc n) p at bs =
    when eqb p.refusal 9 then other_size p.memory else
    when p.ended then (when eqb (length bs) 0 then right (at - 6) (world p.house p.memory) else wrong at p.memory) else
    when record_right p bs then says_from n (taken p (kind bs) (body_of bs)) (at + (6 + size bs)) (drop (6 + size bs) bs) else
    wrong at p.memory

unfoldable pub says_of : List ℕ → List ℕ → Says
says_of m f = says_from (suc (length f)) (begun m).progress 0 f

-- the answer to it: 17 with the first wrong record's place, or with kind 4's where the house is damaged
unfoldable pub answer_to : Says → Answered
answer_to (other_size m) = answered (verdict 9 0) (world no_house m)
answer_to (wrong at m) = answered (verdict 17 at) (world no_house m)
answer_to (right at w) = when damaged w.house then answered (verdict 17 at) (world no_house w.memory) else answered (verdict 0 0) w

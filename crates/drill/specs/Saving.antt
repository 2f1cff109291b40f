-- Saving and reading back, as the player does them. Of a reading it keeps all but the memory, which is lent anew with each piece.
use Rattle.std.specs.Prelude.{ℕ, ◌+◌, ◌*◌, ◌%◌, List, [], ◌++◌, take, drop, ◌==◌}
use Rattle.dlx.specs.Choice.{when◌then◌else◌}
use Rattle.house.specs.declared.House.{House}
use Rattle.house.specs.Lists.{list_from}
use Rattle.house.specs.Turns.{world}
use Rattle.save.specs.Reading.{Progress, Reading, reading, begun, over}
use Rattle.save.specs.Calls.{Written, save_call, read_piece, finished}
use Rattle.drill_script.specs.declared.commands.Command.{Command}
use Rattle.drill_script.specs.declared.commands.Op.{Op}
use Rattle.drill_script.specs.declared.commands.Op.TheVariants.{Clear, Save, Piece}
use Rattle.drill_script.specs.Commands.{◌is◌, number_of}
use Rattle.drill_text.specs.Lines.{written_of}
use Rattle.drill.specs.Told.{told_of}

-- ---- a save, into an output whose byte i is i modulo 251

unfoldable pub marked_bytes : ℕ → List ℕ
marked_bytes n = list_from (λ i. i % 251) 0 n

unfoldable pub saved_of : Command → House → List ℕ → ℕ → Written
saved_of c h m bytes = save_call (world h m) (c.a + c.b * 4294967296) (marked_bytes bytes)

unfoldable pub save_text_of : Command → House → List ℕ → ℕ → List ℕ
save_text_of c h m bytes =
    let w = saved_of c h m bytes in
    told_of (number_of c.op) w.verdict.number w.verdict.detail w.house m ++ written_of w.count w.output

-- ---- a piece, with the refusal so far

-- 1 begins a new reading
unfoldable pub begun_by : ℕ → Reading → Reading
begun_by b s = when b == 1 then begun [] else s

unfoldable pub piece_of : Command → List ℕ → Reading → List ℕ → Reading
piece_of c more s m = read_piece (begun_by c.b s) m (take c.a more)

unfoldable pub detail_of : Progress → ℕ
detail_of p = when p.refusal == 17 then p.start else 0

unfoldable pub piece_text_of : Command → List ℕ → House → Reading → List ℕ → List ℕ
piece_text_of c more h s m =
    let p = (piece_of c more s m).progress in
    told_of (number_of c.op) p.refusal (detail_of p) h p.memory

-- ---- the end of a reading

unfoldable pub finish_text_of : Command → Reading → List ℕ → List ℕ
finish_text_of c s m =
    let a = finished s in
    told_of (number_of c.op) a.verdict.number a.verdict.detail a.world.house m

-- after another command of the house: clear makes everything as at first
unfoldable pub cleared_by : Op → Reading → Reading
cleared_by op s = when op is Clear then begun [] else s

-- ---- all three

abbrev pub apart : Reading → Reading
apart s = reading (over s.progress []) s.held

-- the house, the memory, and the reading apart from it
pub record Keeps : Type 0 where
  pub house : House
  pub memory : List ℕ
  pub reading : Reading

abbrev pub keeps : House → List ℕ → Reading → Keeps
keeps h m s = record { house = h; memory = m; reading = s }

unfoldable pub kept_of : Command → List ℕ → ℕ → Keeps → Keeps
kept_of c more lent k =
    let s = piece_of c more k.reading (take lent k.memory) in
    when c.op is Save then k
    else when c.op is Piece then keeps k.house (s.progress.memory ++ drop lent k.memory) (apart s)
    else keeps (finished k.reading).world.house k.memory (begun [])

unfoldable pub saving_text_of : Command → List ℕ → ℕ → Keeps → List ℕ
saving_text_of c more lent k =
    let m = take lent k.memory in
    when c.op is Save then save_text_of c k.house m c.c
    else when c.op is Piece then piece_text_of c more k.house k.reading m
    else finish_text_of c k.reading m

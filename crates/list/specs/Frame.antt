-- What is printed for one frame of the memory that a house file holds.
use Rattle.std.specs.Prelude.{List, ℕ, ◌*◌, eqb}
use Rattle.dlx.specs.Choice.{when◌then◌else◌}
use Rattle.dlx.specs.Parts.{inner}
use Rattle.house.specs.Calls.{Answered}
use Rattle.lines.specs.Listings.{listing}
use Rattle.report.specs.Report.{refusal}

-- the frame's words, a line each; or the file's refusal
unfoldable pub frame_text : ℕ → Answered → List ℕ
frame_text frame a = when eqb a.verdict.number 0 then listing (inner (frame * 1024) 1024 a.world.memory) else refusal a.verdict

-- What night and resume print for an answer: the report, or the refusal.
use Rattle.std.specs.Prelude.{List, ℕ, eqb}
use Rattle.dlx.specs.Choice.{when◌then◌else◌}
use Rattle.house.specs.Calls.{Answered}
use Rattle.report.specs.Report.{report_of, refusal}

unfoldable pub printed : Answered → List ℕ
printed a = when eqb a.verdict.number 0 then report_of a.world.house else refusal a.verdict

-- The report tells nothing of shadows.
use mathlib.Core.Path.{◌≡◌, refl}
use mathlib.Core.Bool.{Bool, true, false}
use Rattle.house.specs.Calls.{Answered}
use Rattle.report.specs.Report.{report_of}
use Rattle.report.specs.Printed.{printed}
use Rattle.engines.specs.Promises.{emptied_by}

pub printed_by : (u : Bool) (a : Answered) → printed (emptied_by u a) ≡ printed a
unfolding printed emptied_by report_of
printed_by true a = refl
printed_by false a = refl

-- The examples hold: the single claim about the rules.
use mathlib.Core.Path.{◌≡◌, refl}
use mathlib.Core.Bool.{true}
use Rattle.decimal.specs.Decimals.{decimal_in, decimal}
use Rattle.decimal.specs.Texts.{ascii, same, joined}
use Rattle.decimal.specs.Examples.{all}
use Rattle.house.specs.Boot.{verdict}
use Rattle.house.specs.Calls.{answered}
use Rattle.report.specs.Report.{field, line, refused_text}
use Rattle.staleness.specs.Examples.{six_stale}
use Rattle.staleness.proofs.SixStale.{six_audit}
use Rattle.audit.specs.Printed.{audited, first_line, first_text, named}
use Rattle.audit.specs.Examples.{texts}

pub checked : all texts ≡ true
unfolding all same texts ascii decimal_in decimal joined field line refused_text audited first_line first_text named
checked = refl

-- of the house with six stale entries the first is named
pub six_named : named (answered (verdict 0 0) six_stale) ≡ ascii "first stale entry: partition 1, page 2\n"
unfolding named first_text first_line field decimal decimal_in ascii
six_named = rw six_audit

-- An image's line on the slip, up to its name: `partition P, address A: N words, sum S: `.
use Rattle.std.specs.Prelude.{ℕ, List, ◌++◌}
use Rattle.decimal.specs.Texts.{ascii}
use Rattle.report.specs.Report.{field}

unfoldable pub place_text : ℕ → ℕ → List ℕ
place_text owner address = ascii "partition " ++ (field owner 44 ++ (ascii " address " ++ field address 58))

unfoldable pub slip_text : ℕ → ℕ → ℕ → ℕ → List ℕ
slip_text owner address count sum =
    place_text owner address ++ (ascii " " ++ (field count 32 ++ (ascii "words, sum " ++ (field sum 58 ++ ascii " "))))

-- The report of a house, and a refusal, as the bytes of their text.
use Rattle.std.specs.Prelude.{List, [], ◌∷◌, ◌++◌, ℕ, suc, take}
use Rattle.decimal.specs.Decimals.{decimal}
use Rattle.decimal.specs.Texts.{ascii}
use Rattle.dlx.specs.declared.partition.Partition.{Partition}
use Rattle.house.specs.Boot.{Verdict}
use Rattle.house.specs.declared.House.{House}

-- ---- lines

-- a number, and the byte behind it
unfoldable pub field : ℕ → ℕ → List ℕ
field n behind = decimal n ++ (behind ∷ [])

-- numbers with a space between them, and a newline behind the last
unfoldable pub line : ℕ → List ℕ → List ℕ
line n [] = field n 10
line n (m ∷ ms) = field n 32 ++ line m ms

-- ---- the report

unfoldable pub header : List ℕ
header = ascii "partition pages steps mode dpc pc fault\n"

-- partition i's line
unfoldable pub line_of : ℕ → Partition → List ℕ
line_of i p = line i (p.pages ∷ p.counter ∷ p.processor.mode ∷ p.processor.dpc ∷ p.processor.pc ∷ p.fault ∷ [])

-- the lines of partitions that are numbered from i on
unfoldable pub lines_from : ℕ → List Partition → List ℕ
lines_from i [] = []
lines_from i (p ∷ ps) = line_of i p ++ lines_from (suc i) ps

-- the header, then one line for each partition in order; a house made by hand with a count above 8 has 8
unfoldable pub report_of : House → List ℕ
report_of h = header ++ lines_from 0 (take h.count h.parts)

-- a refusal's text: refused N D
unfoldable pub refused_text : ℕ → ℕ → List ℕ
refused_text n d = ascii "refused " ++ line n (d ∷ [])

abbrev pub refusal : Verdict → List ℕ
refusal v = refused_text v.number v.detail

-- What audit prints for what a house file comes to: a line for each partition, its number and how many of its shadow entries are stale after the run; or the
-- first refusal of the file, of boot, of run, or of the audit.
use Rattle.std.specs.Prelude.{List, [], ◌∷◌, ◌++◌, ℕ, eqb, get_or}
use Rattle.dlx.specs.Choice.{when◌then◌else◌}
use Rattle.decimal.specs.Texts.{ascii, joined}
use Rattle.house.specs.Calls.{Answered}
use Rattle.report.specs.Report.{field, line, refused_text, refusal}
use Rattle.staleness.specs.Audit.{Finding, audit_call, Counts, counts_call}

-- `P COUNT` of the first n partitions
abbrev pub lines_to : List ℕ → ℕ → List ℕ
lines_to each n = joined (λ i. line i (get_or each i 0 ∷ [])) n

unfoldable pub audited : ℕ → Counts → List ℕ
audited n c = when eqb c.number 0 then lines_to c.each n else refused_text c.number 0

unfoldable pub printed : Answered → List ℕ
printed a = when eqb a.verdict.number 0 then audited a.world.house.count (counts_call a.world) else refusal a.verdict

-- ---- what standard error tells where an entry is stale: the first, by partition and then by page

unfoldable pub first_line : ℕ → ℕ → List ℕ
first_line i px = ascii "first stale entry: partition " ++ (field i 44 ++ (ascii " page " ++ field px 10))

unfoldable pub first_text : Finding → List ℕ
first_text f = when f.stale then first_line f.partition f.page else []

unfoldable pub named : Answered → List ℕ
named a = when eqb a.verdict.number 0 then first_text (audit_call a.world) else []

-- Worked examples: each some bytes, and the text that they are. proofs/Checked.antt checks them by a single claim.
use Rattle.std.specs.Prelude.{true, false, List, [], ◌∷◌, ℕ}
use Prim.Native.String.{String}
use Rattle.house.specs.House.{no_house}
use Rattle.house.specs.Boot.{verdict}
use Rattle.house.specs.Turns.{world}
use Rattle.house.specs.Calls.{answered}
use Rattle.staleness.specs.Audit.{finding, counts}
use Rattle.audit.specs.Printed.{audited, first_text, named}

unfoldable pub texts : List (List ℕ × String)
texts =
    -- [the first stale entry] named by partition and page; nothing where none is, where the audit is refused, and where the file is
    (first_text (finding 0 true 1 2), "first stale entry: partition 1, page 2\n")
    ∷ (first_text (finding 0 true 2 1), "first stale entry: partition 2, page 1\n")
    ∷ (first_text (finding 0 true 7 1023), "first stale entry: partition 7, page 1023\n")
    ∷ (first_text (finding 0 true 0 0), "first stale entry: partition 0, page 0\n")
    ∷ (first_text (finding 0 false 0 0), "")
    ∷ (first_text (finding 9 false 0 0), "")
    ∷ (named (answered (verdict 15 24) (world no_house [])), "")
    -- [the lines of an audit] the asked ones are the same with stale entries and without
    ∷ (audited 2 (counts 0 (0 ∷ 3 ∷ 0 ∷ 0 ∷ 0 ∷ 0 ∷ 0 ∷ 0 ∷ [])), "0 0\n1 3\n")
    ∷ (audited 2 (counts 9 (0 ∷ 0 ∷ 0 ∷ 0 ∷ 0 ∷ 0 ∷ 0 ∷ 0 ∷ [])), "refused 9 0\n")
    ∷ []

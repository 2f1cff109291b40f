use Rattle.std.proofs.Common.{◌≡◌, refl, ℕ, List, [], ◌∷◌, ◌++◌, ◌<◌, ◌∙◌, length, take, drop, set, arith}
use Rattle.tickets.proofs.shift.Goals as goal

-- the first becomes 0 and goes behind the others
first_last : (l : List ℕ) → 0 < length l → drop 1 (set l 0 0) ++ take 1 (set l 0 0) ≡ drop 1 l ++ (0 ∷ [])
first_last [] h = absurd (omega arith)
first_last (x ∷ l) h = refl

pub returns : goal.returns
returns c = c.rotate_left.ensures.after ∙ first_last c.args.places.now (omega (arith, c.requires))

-- Pieces: a file cut anywhere gives the same reading.
use Rattle.std.proofs.Common.{◌≡◌, ℕ, List, [], ◌∷◌, ◌++◌, refl}
use Rattle.housefile.specs.Reader.{Read, took, fed}

pub fed_pieces : (s : Read) (xs bs : List ℕ) → fed s (xs ++ bs) ≡ fed (fed s xs) bs
unfolding fed
fed_pieces s [] bs = refl
fed_pieces s (x ∷ xs) bs = fed_pieces (took s x) xs bs

-- Two ops are one or are not.
use Rattle.std.proofs.Common.{◌≡◌, Option, Some, true, false, refl, sym, ap, ◌∙◌, eq-eqb, ne_eqb}
use Rattle.drill_script.specs.declared.commands.Op.{Op}
use Rattle.drill_script.specs.declared.commands.Op.TheVariants.{Boot, Run, Start, Stop, Empty, ReadOut, PokeMemory, SetLength, PokeHouse, FillMemory, Clear, Audit, Mend, Save, Piece, Finish, Unshadowed}
use Rattle.drill_script.specs.Commands.{◌is◌, number_of, op_of}

-- an op is the op of its number
pub numbered : (o : Op) → op_of (number_of o) ≡ Some o
unfolding op_of
numbered Boot = refl
numbered Run = refl
numbered Start = refl
numbered Stop = refl
numbered Empty = refl
numbered ReadOut = refl
numbered PokeMemory = refl
numbered SetLength = refl
numbered PokeHouse = refl
numbered FillMemory = refl
numbered Clear = refl
numbered Audit = refl
numbered Mend = refl
numbered Save = refl
numbered Piece = refl
numbered Finish = refl
numbered Unshadowed = refl

pub is_yes : (o p : Op) → o ≡ p → (o is p) ≡ true
is_yes o p e = eq-eqb (number_of o) (number_of p) (ap number_of e)

pub is_no : (o p : Op) → (o ≡ p → ⊥) → (o is p) ≡ false
is_no o p n = ne_eqb (number_of o) (number_of p) λ e. n (let z : ◌≡◌ {A = Option Op} (Some o) (Some p) = sym (numbered o) ∙ ap op_of e ∙ numbered p in cc)

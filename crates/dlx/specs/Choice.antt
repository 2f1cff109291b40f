-- The one choice that every definition is made with.
use Rattle.std.specs.Prelude.{Bool, true, false}

infixr 1 when◌then◌else◌
abbrev pub when◌then◌else◌ : {A : Type 0} → Bool → A → A → A
when◌then◌else◌ true a b = a
when◌then◌else◌ false a b = b

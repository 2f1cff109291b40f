-- A flag's byte.
use Rattle.std.proofs.Common.{◌≡◌, Bool, true, false, refl}
use mir.Val.{bool_byte}
use Rattle.dlx.specs.Choice.{when◌then◌else◌}

pub flag_byte : (b : Bool) → bool_byte b ≡ (when b then 1 else 0)
flag_byte true = refl
flag_byte false = refl

-- A partition's part of an array, as it is lent.
use Rattle.std.proofs.Common.{◌≡◌, ℕ, ◌+◌, ◌-◌, ◌*◌, ◌≤◌, List, length, take, drop, ap, ◌∙◌}
use native.Mathlib.Nat.{add-sub_cancel_left}
use Rattle.dlx.specs.Parts.{inner}
use Rattle.dlx.proofs.Parts.{inner_length}

pub lent_part : (i s : ℕ) (m : List ℕ) → take (i * s + s - i * s) (drop (i * s) m) ≡ inner (i * s) s m
unfolding inner
lent_part i s m = rw add-sub_cancel_left

pub lent_length : (i s : ℕ) (m : List ℕ) → i * s + s ≤ length m → length (take (i * s + s - i * s) (drop (i * s) m)) ≡ s
lent_length i s m l = ap length (lent_part i s m) ∙ inner_length m (i * s) s l

-- The parts of a house that the audit of one partition lends.
use mathlib.Core.Path.{◌≡◌}
use mathlib.Core.List.{List}
use Prim.Native.Nat.{ℕ, ◌+◌, ◌-◌, ◌*◌, ◌<◌}
use native.Mathlib.Nat.{add-sub_cancel_left}
use native.Mathlib.Omega.{arith}
use lib.ListN.{length, take, drop}
use Rattle.dlx.specs.Parts.{inner}
use Rattle.dlx.proofs.Parts.{inner_length}
use Rattle.addresses.specs.Walk.{entries}
use Rattle.house.specs.House.{partition}
use Rattle.house.specs.Turns.{world, stale_at}
use Rattle.house.specs.Sound.{Shaped}
use Rattle.house.specs.declared.House.{House}
use Rattle.staleness.specs.Audit.{stale_in}

module _ (h : House) (i j : ℕ) (p : j ≡ i) where
  abbrev frames : List ℕ
  frames = take (j * 256 + 256 - j * 256) (drop (j * 256) h.frames)

  abbrev shadow : List ℕ
  shadow = take (j * entries + entries - j * entries) (drop (j * entries) h.shadows)

  pub shadow_long : Shaped h → i < 8 → length shadow ≡ entries
  unfolding inner
  shadow_long s l = rw p (simp add-sub_cancel_left (inner_length h.shadows (i * entries) entries (omega (arith, s.shadows))))

  pub stale_lent : (m : List ℕ) → stale_in frames (partition h j).pages (partition h j).table m shadow ≡ stale_at (world h m) i
  unfolding inner
  stale_lent m = rw p (simp add-sub_cancel_left)

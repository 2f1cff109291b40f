-- A house with one partition's shadow emptied, part by part.
use mathlib.Core.Path.{◌≡◌, ◌∙◌}
use Prim.Native.Nat.{ℕ, ◌*◌, ◌+◌, ◌<◌, ◌≤◌}
use native.Mathlib.Omega.{arith}
use lib.ListN.{length, length-replicate}
use Rattle.addresses.specs.Walk.{entries}
use Rattle.addresses.specs.Memory.{fresh_shadow}
use Rattle.house.specs.House.{shadow_of}
use Rattle.house.specs.Calls.{emptied_house}
use Rattle.house.specs.Sound.{Shaped}
use Rattle.house.specs.declared.House.{House}
use Rattle.house.proofs.Damage.Updates.{guests_shaped}
use Rattle.dlx.proofs.Parts.{inner_outer, outer_length, parts_apart}

pub fresh_count : length fresh_shadow ≡ entries
fresh_count = length-replicate {A = ℕ} entries 0

module _ (h : House) (i : ℕ) (s : Shaped h) (small : i < 8) where
  room : i * entries + entries ≤ length h.shadows
  room = omega (arith, s.shadows)

  pub emptied_shaped : Shaped (emptied_house h i)
  unfolding emptied_house
  emptied_shaped =
      guests_shaped h s _ s.parts s.regs (outer_length h.shadows (i * entries) entries room fresh_shadow fresh_count ∙ s.shadows)

  pub emptied_own : shadow_of (emptied_house h i) i ≡ fresh_shadow
  unfolding emptied_house
  emptied_own = inner_outer h.shadows (i * entries) entries room fresh_shadow fresh_count

  pub emptied_other : (j : ℕ) → j < 8 → (j ≡ i → ⊥) → shadow_of (emptied_house h i) j ≡ shadow_of h j
  unfolding emptied_house
  emptied_other j l n = parts_apart entries h.shadows fresh_shadow i j room (omega (arith, s.shadows)) fresh_count n

-- What boot's loops have made so far, and what a boot that nothing refuses has.
use Rattle.std.specs.Prelude.{◌≡◌, List, ℕ, ◌≤◌, ltb, length, get_or}
use Rattle.dlx.specs.Choice.{when◌then◌else◌}
use Rattle.house.specs.Lists.{list_from}
use Rattle.house.specs.Boot.{sum}

-- n elements, those below i by the rule f and the others d
abbrev pub filled : {A : Type 0} → (ℕ → A) → A → ℕ → ℕ → List A
filled f d n i = list_from (λ j. when ltb j i then f j else d) 0 n

-- few partitions, and few pages each
pub record Few (ps : List ℕ) : Type 0 where
  pub count : length ps ≤ 8
  pub pages : (i : ℕ) → get_or ps i 0 ≤ 256

-- and a frame for each page
pub record Fitting (ps fr : List ℕ) : Type 0 where
  pub few : Few ps
  pub long : length fr ≡ sum ps

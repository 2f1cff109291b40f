-- What resuming is worth, as statements about the definitions that the contracts cite. proofs/Promises.antt proves each.
use Rattle.std.specs.Prelude.{◌≡◌, ℕ, ◌^◌, ◌<◌, get_or}
use Rattle.house.specs.Boot.{verdict}
use Rattle.house.specs.Turns.{World, host_steps}
use Rattle.house.specs.Calls.{answered}
use Rattle.demands.specs.Histories.{Boot, Grown}
use Rattle.save.specs.Promises.{emptied}
use Rattle.resume.specs.Resumed.{resumed}

-- One run: runs one after the other, where none is refused, leave the house and memory behind as many host steps.
abbrev pub OneRun : Type 0
OneRun = (w : World) (steps : ℕ) → let a = resumed (answered (verdict 0 0) w) steps in a.verdict.number ≡ 0 → a.world ≡ host_steps steps w

-- So a night that is cut anywhere is the same night.
abbrev pub CutNight : Type 0
CutNight = (w : World) (j k : ℕ) → let a = resumed (resumed (answered (verdict 0 0) w) j) k in a.verdict.number ≡ 0 → a.world ≡ host_steps k (host_steps j w)

-- Never stopped: a house and memory grown from a boot, saved and read back, are behind any number of steps what they would have been, but for the shadows.
abbrev pub NeverStopped : Type 0
NeverStopped = (b : Boot) → ((i : ℕ) → get_or b.memory i 0 < 2 ^ 32) → (w : World) → Grown b w → (steps : ℕ) → emptied (host_steps steps (emptied w)) ≡ emptied (host_steps steps w)

-- A refusal has a number that is not 0; and what a check of the refusals leaves of a call.
use mathlib.Core.Path.{◌≡◌, refl}
use mathlib.Core.Bool.{false}
use Prim.Native.Nat.{ℕ}
use lib.Dec.{eqb}
use Rattle.house.specs.Boot.{Verdict, verdict}
use Rattle.house.specs.Turns.{World}
use Rattle.house.specs.Calls.{answered, unless_refused}
use Rattle.house.specs.Refusals.{refusal}
use Rattle.house.specs.declared.refusal.Refusal.{Refusal}
use Rattle.house.specs.declared.refusal.Refusal.TheVariants.{PartitionCount, PageCount, TurnLength, MemorySize, ListLength, FrameOutside, FrameTwice, FrameKept, Damaged, OtherMemory, NoSuchPartition, NothingRuns, BeyondPages, ShortOutput, TooManySteps, WrongHouseFile, WrongSavedFile}

pub not_0 : (r : Refusal) → eqb (refusal r).number 0 ≡ false
not_0 PartitionCount = refl
not_0 (PageCount _) = refl
not_0 TurnLength = refl
not_0 MemorySize = refl
not_0 ListLength = refl
not_0 (FrameOutside _) = refl
not_0 (FrameTwice _) = refl
not_0 (FrameKept _) = refl
not_0 Damaged = refl
not_0 OtherMemory = refl
not_0 NoSuchPartition = refl
not_0 NothingRuns = refl
not_0 BeyondPages = refl
not_0 ShortOutput = refl
not_0 TooManySteps = refl
not_0 (WrongHouseFile _) = refl
not_0 (WrongSavedFile _) = refl

module _ {v : Verdict} (given done : World) where
  -- nothing is done where a check refuses, and all where it does not
  pub leaves_given : (r : Refusal) → refusal r ≡ v → answered (refusal r) given ≡ unless_refused v given done
  leaves_given r e = rw (← e, not_0 r) refl

  pub leaves_done : (d : ℕ) → verdict 0 d ≡ v → answered (verdict 0 d) done ≡ unless_refused v given done
  leaves_done d e = rw (← e) refl

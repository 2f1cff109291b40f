-- What an answer of the code says in the rules' numbers.
use Rattle.std.specs.Prelude.{Result, Ok, Err, List, ℕ}
use Rattle.house.specs.Boot.{Verdict, verdict}
use Rattle.house.specs.Turns.{world}
use Rattle.house.specs.Calls.{Answered, answered}
use Rattle.house.specs.declared.Done.{Done}
use Rattle.house.specs.declared.House.{House}
use Rattle.house.specs.declared.refusal.Refusal.{Refusal}
use Rattle.house.specs.declared.refusal.Refusal.TheVariants.{PartitionCount, PageCount, TurnLength, MemorySize, ListLength, FrameOutside, FrameTwice, FrameKept, Damaged, OtherMemory, NoSuchPartition, NothingRuns, BeyondPages, ShortOutput, TooManySteps, WrongHouseFile, WrongSavedFile}

-- a refusal's number and detail
abbrev pub refusal : Refusal → Verdict
refusal PartitionCount = verdict 1 0
refusal (PageCount partition) = verdict 2 partition
refusal TurnLength = verdict 3 0
refusal MemorySize = verdict 4 0
refusal ListLength = verdict 5 0
refusal (FrameOutside position) = verdict 6 position
refusal (FrameTwice position) = verdict 7 position
refusal Damaged = verdict 8 0
refusal OtherMemory = verdict 9 0
refusal NoSuchPartition = verdict 10 0
refusal NothingRuns = verdict 11 0
refusal BeyondPages = verdict 12 0
refusal ShortOutput = verdict 13 0
refusal TooManySteps = verdict 14 0
refusal (WrongHouseFile byte) = verdict 15 byte
refusal (FrameKept position) = verdict 16 position
refusal (WrongSavedFile byte) = verdict 17 byte

-- what a check of the refusals comes to, where a done call has this detail
abbrev pub verdict_of : ℕ → Result Unit Refusal → Verdict
verdict_of detail (Ok _) = verdict 0 detail
verdict_of _ (Err r) = refusal r

-- what a call of this house answers, with the memory that it leaves
abbrev pub answer_of : House → Result Done Refusal → List ℕ → Answered
answer_of _ (Ok done) memory = answered (verdict 0 done.detail) (world done.house memory)
answer_of given (Err r) memory = answered (refusal r) (world given memory)

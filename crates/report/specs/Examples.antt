-- Worked examples: each some bytes, and the text that they are. proofs/Checked.antt checks them by a single claim.
use Rattle.std.specs.Prelude.{true, List, [], ◌∷◌, ◌++◌, ℕ, ◌-◌, ◌^◌, replicate}
use Prim.Native.String.{String}
use Rattle.dlx.specs.Processor.{fresh_of, with_processor, with_counter, with_fault}
use Rattle.dlx.specs.declared.partition.Partition.{Partition}
use Rattle.house.specs.Lists.{list_from}
use Rattle.house.specs.House.{fresh_shadows, no_partition, no_house, layout, guests, turn, with_layout, with_turn, with_guests}
use Rattle.house.specs.Boot.{booted_house}
use Rattle.house.specs.Turns.{World, world, host_steps}
use Rattle.house.specs.declared.House.{House}
use Rattle.report.specs.Report.{report_of, refused_text}

unfoldable pub refusals : List (List ℕ × String)
refusals =
    (refused_text 15 0, "refused 15 0\n")
    ∷ (refused_text 2 7, "refused 2 7\n")
    ∷ (refused_text 15 (2 ^ 64 - 1), "refused 15 18446744073709551615\n")
    ∷ []

-- one partition of frame 1, which begins with 0x20010005, 0xAC010008, q 2, in a memory of 16 frames
unfoldable pub first : World
first = world (booted_house (1 ∷ []) 2 (1 ∷ []) 16384) (replicate 1024 0 ++ (0x20010005 ∷ 0xAC010008 ∷ replicate 15358 0))

-- eight partitions of 1 to 8 pages at boot
unfoldable pub eight : House
eight = booted_house (1 ∷ 2 ∷ 3 ∷ 4 ∷ 5 ∷ 6 ∷ 7 ∷ 8 ∷ []) 1 (list_from (λ k. k) 1 36) 37888

-- every number as large as it can be
abbrev largest : Partition
largest =
    with_counter
    (with_processor (with_fault (fresh_of (2 ^ 32 - 1)) (2 ^ 32 - 1))
    (record { dpc = 2 ^ 32 - 1; pc = 2 ^ 32 - 1; sr = 0; esr = 0; eca = 0; epc = 0; edpc = 0; edata = 0; mode = 2 ^ 32 - 1; emode = 0 }))
    (2 ^ 64 - 1)

-- a house made by hand, whose count names more partitions than it has
unfoldable pub by_hand : House
by_hand =
    with_guests (with_turn (with_layout no_house (layout (2 ^ 32 - 1) 0 0 (replicate 2048 0))) (replicate 8 true) (turn 0 0))
    (guests (replicate 6 no_partition ++ (largest ∷ with_fault (fresh_of 256) 5 ∷ [])) (replicate 256 0) fresh_shadows)

unfoldable pub reports : List (List ℕ × String)
reports =
    (report_of no_house, "partition pages steps mode dpc pc fault\n")
    ∷ (report_of first.house, "partition pages steps mode dpc pc fault\n0 1 0 0 0 4 0\n")
    -- the request's whole output: 3 steps
    ∷ (report_of (host_steps 3 first).house, "partition pages steps mode dpc pc fault\n0 1 3 0 0 4 0\n")
    ∷ (
      report_of eight,
      "partition pages steps mode dpc pc fault\n0 1 0 0 0 4 0\n1 2 0 0 0 4 0\n2 3 0 0 0 4 0\n3 4 0 0 0 4 0\n4 5 0 0 0 4 0\n5 6 0 0 0 4 0\n6 7 0 0 0 4 0\n7 8 0 0 0 4 0\n",
    )
    ∷ (
      report_of by_hand,
      "partition pages steps mode dpc pc fault\n0 0 0 0 0 0 0\n1 0 0 0 0 0 0\n2 0 0 0 0 0 0\n3 0 0 0 0 0 0\n4 0 0 0 0 0 0\n5 0 0 0 0 0 0\n6 4294967295 18446744073709551615 4294967295 4294967295 4294967295 4294967295\n7 256 0 0 0 4 5\n",
    )
    ∷ []

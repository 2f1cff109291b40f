-- The lines that tell of the partitions.
use Rattle.std.specs.Prelude.{ℕ, zero, suc, ◌+◌, ◌*◌, Bool, ◌&&◌, List, [], ◌∷◌, ◌++◌, length, take, ◌==◌, nat_eq, slice_index}
use Rattle.dlx.specs.Choice.{when◌then◌else◌}
use Rattle.dlx.specs.declared.partition.Partition.{Partition}
use Rattle.dlx.specs.declared.partition.Processor.{Processor}
use Rattle.dlx.specs.declared.partition.Table.{Table}
use Rattle.dlx.specs.declared.partition.Timer.{Timer}
use Rattle.addresses.specs.Walk.{entries}
use Rattle.house.specs.declared.House.{House}
use Rattle.house.specs.House.{partition, registers_of, frames_of}
use Rattle.house.specs.House.{shadow_of as entries_in}
use Rattle.house.specs.Lists.{all}
use Rattle.decimal.specs.Decimals.{decimal}
use Rattle.decimal.specs.Texts.{ascii, joined}
use Rattle.drill_text.specs.Numbers.{number_of}
use Rattle.drill_text.specs.Lines.{row_of}

-- the most bytes that tell of one partition, 388 of them in its own line
abbrev pub longest : ℕ
longest = 6460 + 42 * entries

-- from DPC to EMODE, the latest fault, and the timer
unfoldable pub specials_of : Processor → Table → ℕ → Timer → List ℕ
specials_of p t fault k =
    p.dpc ∷ p.pc ∷ p.sr ∷ p.esr ∷ p.eca ∷ p.epc ∷ p.edpc ∷ p.edata ∷ p.mode ∷ t.pto ∷ t.ptl ∷ p.emode ∷ fault ∷ k.tcount
    ∷ k.tload ∷ []

-- all of them are 0
unfoldable pub zeros_of : List ℕ → Bool
zeros_of words = all (λ i. nat_eq (slice_index words i) 0) (length words)

-- every number of the partition is 0
unfoldable pub blank_of : Partition → List ℕ → List ℕ → List ℕ → Bool
blank_of p registers frames shadow =
    (p.pages == 0)
    && p.counter == 0
    && zeros_of (specials_of p.processor p.table p.fault p.timer)
    && zeros_of registers
    && zeros_of frames
    && zeros_of shadow

-- how many of the first n words there are up to the last that is not 0
unfoldable pub listed_to : List ℕ → ℕ → ℕ
listed_to words zero = 0
listed_to words (suc n) = when slice_index words n == 0 then listed_to words n else suc n

unfoldable pub listed_of : List ℕ → ℕ
listed_of words = listed_to words (length words)

unfoldable pub own_of : ℕ → Partition → List ℕ
own_of i p =
    ascii "partition"
    ++ (number_of i ++ (number_of p.pages ++ (number_of p.counter ++ row_of [] (specials_of p.processor p.table p.fault p.timer))))

-- a shadow entry that is not 0, behind its number
unfoldable pub entry_of : ℕ → ℕ → List ℕ
entry_of px e = when e == 0 then [] else number_of px ++ (ascii ":" ++ decimal e)

unfoldable pub entries_of : List ℕ → List ℕ
entries_of shadow = joined (λ px. entry_of px (slice_index shadow px)) (length shadow)

unfoldable pub shadow_of : List ℕ → List ℕ
shadow_of shadow = ascii "shadow" ++ (entries_of shadow ++ ascii "\n")

unfoldable pub partition_of : ℕ → Partition → List ℕ → List ℕ → List ℕ → List ℕ
partition_of i p registers frames shadow =
    when blank_of p registers frames shadow then []
    else own_of i p
    ++ (row_of (ascii "registers") registers ++ (row_of (ascii "frames") (take (listed_of frames) frames) ++ shadow_of shadow))

unfoldable pub partitions_of : House → List ℕ
partitions_of h = joined (λ i. partition_of i (partition h i) (registers_of h i) (frames_of h i) (entries_in h i)) 8

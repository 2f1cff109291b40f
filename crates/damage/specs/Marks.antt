-- What the parts of the damage check find, over the house's parts; and the marks, by which each frame names its owner.
use Rattle.std.specs.Prelude.{Bool, false, not, ◌&&◌, ◌||◌, List, ℕ, zero, suc, ◌+◌, ◌*◌, ◌/◌, ◌%◌, ◌<◌, ◌≤◌, ltb, leb, eqb, get_or, replicate}
use Rattle.dlx.specs.Choice.{when◌then◌else◌}
use Rattle.dlx.specs.declared.partition.Partition.{Partition}
use Rattle.dlx.specs.declared.partition.Processor.{Processor}
use Rattle.addresses.specs.Entries.{number, valid}
use Rattle.addresses.specs.Walk.{entries}
use Rattle.dlx.specs.Parts.{inner}
use Rattle.house.specs.Lists.{any, between}
use Rattle.house.specs.House.{no_partition}
use Rattle.house.specs.Damage.{whole_frames, frame_barred, stands, entry_wrong, not_zero, partition_used}
use Rattle.marks.specs.Marked.{marked}

-- partition i's page count, and its parts of the frames and of the shadows
abbrev pub pages_at : List Partition → ℕ → ℕ
pages_at ps i = (get_or ps i no_partition).pages

abbrev pub part_at : List ℕ → ℕ → List ℕ
part_at l i = inner (i * 256) 256 l

abbrev pub entries_at : List ℕ → ℕ → List ℕ
entries_at l i = inner (i * entries) entries l

-- ---- boot's limits

abbrev pub pages_outside : List Partition → ℕ → Bool
pages_outside ps i = not (between 1 (pages_at ps i) 256)

abbrev pub barred_at : List ℕ → ℕ → ℕ → Bool
barred_at fr size k = frame_barred size (get_or fr k 0)

abbrev pub frames_barred : List Partition → List ℕ → ℕ → ℕ → Bool
frames_barred ps fr size i = any (barred_at (part_at fr i) size) (pages_at ps i)

abbrev pub outside : ℕ → ℕ → ℕ → List Partition → List ℕ → Bool
outside count q words ps fr =
    not (between 1 count 8)
    || any (pages_outside ps) count
    || not (between 1 q 10000)
    || not (whole_frames words)
    || any (frames_barred ps fr (words / 1024)) count

-- what they give
pub record Within (count : ℕ) (ps : List Partition) (fr : List ℕ) : Type 0 where
  pub few : count ≤ 8
  pub pages : (i : ℕ) → i < count → pages_at ps i ≤ 256
  pub below : (i : ℕ) → i < count → (k : ℕ) → k < pages_at ps i → get_or (part_at fr i) k 0 < 1024

-- ---- marks: 0 for a frame of no partition, else its partition's number + 1

-- the first i partitions' frames, marked
unfoldable pub owners_of : List Partition → List ℕ → ℕ → List ℕ
owners_of ps fr zero = replicate 1024 0
owners_of ps fr (suc i) = marked (part_at fr i) (suc i) (owners_of ps fr i) (pages_at ps i)

-- the k-th frame of partition i stands before it
abbrev pub twice_at : List Partition → List ℕ → ℕ → ℕ → Bool
twice_at ps fr i k =
    stands (part_at fr i) k (get_or (part_at fr i) k 0)
    || any (λ j. stands (part_at fr j) (pages_at ps j) (get_or (part_at fr i) k 0)) i

abbrev pub twice_in : List Partition → List ℕ → ℕ → Bool
twice_in ps fr i = any (twice_at ps fr i) (pages_at ps i)

-- a shadow entry that is wrong by the marks
abbrev pub entry_marked : List ℕ → ℕ → ℕ → Bool
entry_marked o tag e =
    when valid e then not (eqb (get_or o (number e) 0) tag) || not (eqb (e % 1024) 0) else not (eqb e 0)

-- one of 32 entries from base on
abbrev pub group_marked : List ℕ → ℕ → List ℕ → ℕ → Bool
group_marked o tag sh base = any (λ k. entry_marked o tag (get_or sh (base + k) 0)) 32

abbrev pub shadow_marked : List ℕ → List ℕ → ℕ → Bool
shadow_marked o sh i = any (λ px. entry_marked o (i + 1) (get_or (entries_at sh i) px 0)) entries

-- ---- turn, registers, unused places

abbrev pub turn_outside : ℕ → ℕ → ℕ → ℕ → List Bool → Bool
turn_outside count q current left running =
    when eqb left 0 then not (eqb current 0) || any (λ i. get_or running i false) 8
    else leb count current || not (get_or running current false) || ltb q left

abbrev pub processor_wrong : Processor → ℕ → ℕ → Bool
processor_wrong p first fault = not (eqb first 0) || ltb 1 p.mode || ltb 1 p.emode || ltb 7 fault

abbrev pub registers_at : List Partition → List ℕ → ℕ → Bool
registers_at ps rs i = processor_wrong (get_or ps i no_partition).processor (get_or (inner (i * 32) 32 rs) 0 0) (get_or ps i no_partition).fault

abbrev pub behind : List ℕ → ℕ → ℕ → Bool
behind fr n k = leb n k && not (eqb (get_or fr k 0) 0)

-- the room of a partition of the count or beyond it
abbrev pub room_wrong : ℕ → ℕ → Bool → Partition → List ℕ → List ℕ → List ℕ → Bool
room_wrong count i run p rs fr sh =
    when ltb i count then any (behind (part_at fr i) p.pages) 256
    else run
    || partition_used p
    || not_zero rs (i * 32) 32
    || not_zero fr (i * 256) 256
    || not_zero sh (i * entries) entries

-- ---- queues

abbrev pub count_wrong : ℕ → ℕ → ℕ → Bool
count_wrong count j n = ltb 32 n || (leb count j && not (eqb n 0))

-- queue j with n waiting
abbrev pub queue_outside : ℕ → ℕ → ℕ → List ℕ → Bool
queue_outside count j n places = count_wrong count j n || any (behind places n) 32

abbrev pub queue_at : ℕ → List ℕ → List ℕ → ℕ → Bool
queue_at count ts ns j = queue_outside count j (get_or ns j 0) (inner (j * 32) 32 ts)

-- ---- all of it but the limits and the queues

abbrev pub shadow_outside : List Partition → List ℕ → List ℕ → ℕ → Bool
shadow_outside ps fr sh i = any (λ px. entry_wrong (part_at fr i) (pages_at ps i) (get_or (entries_at sh i) px 0)) entries

abbrev pub inside : ℕ → ℕ → ℕ → ℕ → List Bool → List Partition → List ℕ → List ℕ → List ℕ → Bool
inside count q current left running ps rs fr sh =
    any (twice_in ps fr) count
    || turn_outside count q current left running
    || any (registers_at ps rs) count
    || any (shadow_outside ps fr sh) count
    || any (λ i. room_wrong count i (get_or running i false) (get_or ps i no_partition) rs fr sh) 8

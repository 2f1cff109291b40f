-- Boot: its refusals in their order, and the house that it makes.
use Rattle.std.specs.Prelude.{Bool, not, List, [], ◌∷◌, ℕ, zero, suc, ◌+◌, ◌/◌, ◌%◌, ltb, leb, eqb, length, get_or, replicate}
use Rattle.dlx.specs.Choice.{when◌then◌else◌}
use Rattle.dlx.specs.Processor.{fresh_of}
use Rattle.house.specs.Lists.{list_from, any, first_from, between}
use Rattle.house.specs.House.{fresh_shadows, no_partition, no_house, layout, guests, turn, with_layout, with_turn, with_guests}
use Rattle.house.specs.Damage.{whole_frames}
use Rattle.house.specs.declared.House.{House}

-- ---- refusals: the first condition that applies gives number and detail

pub record Verdict : Type 0 where
  pub number : ℕ
  pub detail : ℕ

abbrev pub verdict : ℕ → ℕ → Verdict
verdict n d = record { number = n; detail = d }

pub record Case : Type 0 where
  pub applies : Bool
  pub gives : Verdict

abbrev pub case : Bool → ℕ → ℕ → Case
case b n d = record { applies = b; gives = verdict n d }

unfoldable pub first_of : List Case → Verdict → Verdict
first_of [] done = done
first_of (c ∷ cs) done = when c.applies then c.gives else first_of cs done

-- ---- boot of partitions with so many pages each, turns of q steps, a frame list, and a memory of so many words

unfoldable pub sum : List ℕ → ℕ
sum [] = 0
sum (n ∷ ns) = n + sum ns

abbrev pub pages_wrong : List ℕ → ℕ → Bool
pages_wrong ps i = not (between 1 (get_or ps i 0) 256)

abbrev pub frame_outside : List ℕ → ℕ → ℕ → Bool
frame_outside fr words i = leb (words / 1024) (get_or fr i 0)

-- the frame at position i is frame 0, which the house keeps
abbrev pub frame_kept : List ℕ → ℕ → Bool
frame_kept fr i = eqb (get_or fr i 0) 0

-- the frame at position i stood earlier
abbrev pub stood_earlier : List ℕ → ℕ → Bool
stood_earlier fr i = any (λ j. eqb (get_or fr j 0) (get_or fr i 0)) i

unfoldable pub boot_verdict : List ℕ → ℕ → List ℕ → ℕ → Verdict
boot_verdict ps q fr words =
    first_of
    (case (not (between 1 (length ps) 8)) 1 0
    ∷ case (any (pages_wrong ps) (length ps)) 2 (first_from (pages_wrong ps) 0 (length ps))
    ∷ case (not (between 1 q 10000)) 3 0
    ∷ case (not (whole_frames words)) 4 0
    ∷ case (not (eqb (length fr) (sum ps))) 5 0
    ∷ case (any (frame_outside fr words) (length fr)) 6 (first_from (frame_outside fr words) 0 (length fr))
    ∷ case (any (frame_kept fr) (length fr)) 16 (first_from (frame_kept fr) 0 (length fr))
    ∷ case (any (stood_earlier fr) (length fr)) 7 (first_from (stood_earlier fr) 0 (length fr))
    ∷ [])
    (verdict 0 0)

-- where partition i's frames begin in the list
unfoldable pub offset : List ℕ → ℕ → ℕ
offset ps zero = 0
offset ps (suc i) = offset ps i + get_or ps i 0

-- what stands at place j of the house's frames: the k-th frame of partition i, where it has one
unfoldable pub laid : List ℕ → List ℕ → ℕ → ℕ
laid ps fr j =
    let i = j / 256 in
    let k = j % 256 in
    when ltb k (get_or ps i 0) then get_or fr (offset ps i + k) 0 else 0

-- all registers zero but PC = 4, every shadow empty, all running, partition 0 current with q steps left; unused places 0
unfoldable pub booted_house : List ℕ → ℕ → List ℕ → ℕ → House
booted_house ps q fr words =
    with_layout
    (with_guests
    (with_turn no_house (list_from (λ i. ltb i (length ps)) 0 8) (turn 0 q))
    (guests
    (list_from (λ i. when ltb i (length ps) then fresh_of (get_or ps i 0) else no_partition) 0 8)
    (replicate 256 0)
    fresh_shadows))
    (layout (length ps) q words (list_from (laid ps fr) 0 2048))

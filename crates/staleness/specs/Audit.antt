-- The audit of a house and its memory: which shadow entries are stale (`stale_at`), the first of them, how many there are, and the house without them. Every
-- partition's whole shadow counts: running or stopped, in either mode, below PTL or not.
use Rattle.std.specs.Prelude.{◌≡◌, Option, Some, None, MatchOption, Result, Ok, Err, Bool, true, false, not, List, [], ◌∷◌, ℕ, zero, suc, ◌+◌, ◌*◌, ◌<◌, ◌≤◌, ltb, eqb, length, get_or, replicate}
use Rattle.dlx.specs.Choice.{when◌then◌else◌}
use Rattle.dlx.specs.Parts.{outer}
use Rattle.dlx.specs.declared.partition.Table.{Table}
use Rattle.addresses.specs.Walk.{entries}
use Rattle.addresses.specs.Memory.{stale}
use Rattle.addresses.specs.Premises.{Placed}
use Rattle.house.specs.Lists.{list_from, first_from}
use Rattle.house.specs.House.{with_shadows, partition, pages_of, frames_of, shadow_of}
use Rattle.house.specs.Damage.{damaged}
use Rattle.house.specs.Boot.{Verdict, verdict, case, first_of, sum}
use Rattle.house.specs.Turns.{World, world, stale_at}
use Rattle.house.specs.Calls.{Answered, unless_refused}
use Rattle.house.specs.Refusals.{refusal}
use Rattle.house.specs.declared.refusal.Refusal.{Refusal}
use Rattle.staleness.specs.declared.Stale.{Stale}

-- what refuses the calls: 8, then 9; done, with this detail
unfoldable pub audit_verdict : World → ℕ → Verdict
audit_verdict w d =
    first_of
    (case (damaged w.house) 8 0
    ∷ case (not (eqb (length w.memory) w.house.words)) 9 0
    ∷ [])
    (verdict 0 d)

-- ---- one shadow sh: whether its entry of page px is stale, and what mending leaves of it

abbrev pub stale_in : List ℕ → ℕ → Table → List ℕ → List ℕ → ℕ → Bool
stale_in fr n t ws sh px = stale fr n t ws px (get_or sh px 0)

abbrev pub kept_in : List ℕ → ℕ → Table → List ℕ → List ℕ → ℕ → ℕ
kept_in fr n t ws sh px = when stale_in fr n t ws sh px then 0 else get_or sh px 0

-- ---- the first stale entry, by partition and then by page

-- what an audit tells in numbers: the refusal's number, or 0; and whether there is a stale entry, and where, or 0 and 0
pub record Finding : Type 0 where
  pub number : ℕ
  pub stale : Bool
  pub partition : ℕ
  pub page : ℕ

abbrev pub finding : ℕ → Bool → ℕ → ℕ → Finding
finding number stale i px = record { number = number; stale = stale; partition = i; page = px }

-- what the code found, and answers
abbrev pub found : Option Stale → Finding
found None = finding 0 false 0 0
found (Some s) = finding 0 true s.partition s.page

abbrev pub finding_of : Result (Option Stale) Refusal → Finding
finding_of (Ok s) = found s
finding_of (Err r) = finding (refusal r).number false 0 0

-- r is the first number below n of which p holds, where there is one
abbrev pub IsFirst : (ℕ → Bool) → ℕ → Option ℕ → Type 0
IsFirst p n r = MatchOption r (first_from p 0 n ≡ n) (λ k. (k < n) × (first_from p 0 n ≡ k))

-- partition i's first, or the number of its entries
abbrev pub first_page : World → ℕ → ℕ
first_page w i = first_from (stale_at w i) 0 entries

abbrev pub has_stale : World → ℕ → Bool
has_stale w i = ltb (first_page w i) entries

unfoldable pub first_stale : World → Finding
first_stale w =
    let i = first_from (has_stale w) 0 w.house.count in
    when ltb i w.house.count then finding 0 true i (first_page w i) else finding 0 false 0 0

unfoldable pub audit_call : World → Finding
audit_call w =
    let v = audit_verdict w 0 in
    when eqb v.number 0 then first_stale w else finding v.number false 0 0

-- ---- how many

-- of how many numbers below n does p hold
unfoldable pub count_of : (ℕ → Bool) → ℕ → ℕ
count_of p zero = 0
count_of p (suc n) = count_of p n + (when p n then 1 else 0)

abbrev pub stale_count : World → ℕ → ℕ
stale_count w i = count_of (stale_at w i) entries

-- for each of the eight places, 0 where no partition is
abbrev pub count_at : World → ℕ → ℕ
count_at w i = when ltb i w.house.count then stale_count w i else 0

unfoldable pub stale_counts : World → List ℕ
stale_counts w = list_from (count_at w) 0 8

-- what a count tells in numbers: the refusal's number and eight times 0, or 0 and the counts
pub record Counts : Type 0 where
  pub number : ℕ
  pub each : List ℕ

abbrev pub counts : ℕ → List ℕ → Counts
counts number each = record { number = number; each = each }

abbrev pub counts_of : Result (List ℕ) Refusal → Counts
counts_of (Ok each) = counts 0 each
counts_of (Err r) = counts (refusal r).number (replicate 8 0)

unfoldable pub counts_call : World → Counts
counts_call w =
    let v = audit_verdict w 0 in
    when eqb v.number 0 then counts 0 (stale_counts w) else counts v.number (replicate 8 0)

-- ---- mending: exactly the stale ones become empty

-- what stays of partition i's entry of page px
abbrev pub kept_at : World → ℕ → ℕ → ℕ
kept_at w i px =
    let p = partition w.house i in
    kept_in (frames_of w.house i) p.pages p.table w.memory (shadow_of w.house i) px

-- in partition i's shadow, and in those of the first n
unfoldable pub mended_one : World → ℕ → World
mended_one w i =
    world (with_shadows w.house (outer (i * entries) entries w.house.shadows (list_from (kept_at w i) 0 entries))) w.memory

unfoldable pub mended_to : ℕ → World → World
mended_to zero w = w
mended_to (suc i) w = mended_one (mended_to i w) i

unfoldable pub mended : World → World
mended w = mended_to w.house.count w

-- the detail of a done one is how many there were
unfoldable pub mend_call : World → Answered
mend_call w = unless_refused (audit_verdict w (sum (stale_counts w))) w (mended w)

-- ---- what the walks of all tables need: what the damage check and the memory's length give

pub record Walkable (w : World) : Type 0 where
  pub few : w.house.count ≤ 8
  pub each : (i : ℕ) → i < w.house.count → Placed (frames_of w.house i) (pages_of w.house i) (length w.memory)

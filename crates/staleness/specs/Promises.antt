-- What an audit is worth, as statements about the definitions that the calls' contracts cite. proofs/Promises.antt proves each.
use Rattle.std.specs.Prelude.{◌≡◌, Bool, true, false, List, [], ◌∷◌, ℕ, ◌^◌, ◌<◌, get_or, replicate}
use Rattle.addresses.specs.Walk.{entries}
use Rattle.house.specs.House.{with_shadows, shadow_of}
use Rattle.house.specs.Boot.{verdict}
use Rattle.house.specs.Turns.{World, world, stale_at, host_step, host_steps}
use Rattle.house.specs.Sound.{Shaped, Typed, Stays}
use Rattle.house.specs.Calls.{answered}
use Rattle.demands.specs.Histories.{Boot, booted, Call, after, Grown}
use Rattle.demands.specs.Demands.{StepOf, by_shadow, by_table}
use Rattle.staleness.specs.Audit.{Finding, finding, audit_call, stale_count, counts_call, counts, kept_at, mend_call}

-- nothing is refused, and nothing is found
abbrev pub Passes : World → Type 0
Passes w = audit_call w ≡ finding 0 false 0 0

-- Grown houses pass: every house and memory that the calls produce from a boot, handed on untouched. Their counts are all 0, and there is nothing to mend.
abbrev pub GrownPass : Type 0
GrownPass = (b : Boot) → ((i : ℕ) → get_or b.memory i 0 < 2 ^ 32) → (w : World) → Grown b w →
    Passes w × (counts_call w ≡ counts 0 (replicate 8 0)) × (mend_call w ≡ answered (verdict 0 0) w)

-- A house and memory may be audited, counted and mended between the calls of a history: audits and counts are given nothing to change, and what a mend
-- leaves is handed on.
pub data Use : Type 0 where
  called : Call → Use
  audited : Use
  tallied : Use
  mended_in : Use

unfoldable pub used : Use → World → World
used (called c) w = after c w
used audited w = w
used tallied w = w
used mended_in w = (mend_call w).world

unfoldable pub uses : List Use → World → World
uses [] w = w
uses (u ∷ us) w = uses us (used u w)

-- Still grown: whatever they were used for, they are grown by the calls alone, since a mend leaves them as they were. So every demand speaks of them.
abbrev pub StillGrown : Type 0
StillGrown = (b : Boot) (us : List Use) → Grown b (uses us (booted b))

-- An audit that is done names a stale entry, and the first one; it names none only where there is none. So it never calls a right entry stale, and misses none.
pub record NamesFirst (w : World) (f : Finding) : Type 0 where
  pub named : f.stale ≡ true → (f.partition < w.house.count) × (f.page < entries) × (stale_at w f.partition f.page ≡ true)
  pub before : f.stale ≡ true → (i px : ℕ) → i < f.partition → stale_at w i px ≡ false
  pub below : f.stale ≡ true → (px : ℕ) → px < f.page → stale_at w f.partition px ≡ false
  pub none : f.stale ≡ false → (i px : ℕ) → i < w.house.count → stale_at w i px ≡ false

abbrev pub Names : Type 0
Names = (w : World) → (audit_call w).number ≡ 0 → NamesFirst w (audit_call w)

-- Where every entry of every partition is right, a done audit passes.
abbrev pub PassesRight : Type 0
PassesRight = (w : World) → (audit_call w).number ≡ 0 → ((i px : ℕ) → i < w.house.count → stale_at w i px ≡ false) → Passes w

-- A partition's count is 0 exactly where none of its entries is stale.
abbrev pub CountsStale : Type 0
CountsStale = (w : World) (i : ℕ) →
    (stale_count w i ≡ 0 → (px : ℕ) → stale_at w i px ≡ false) × (((px : ℕ) → stale_at w i px ≡ false) → stale_count w i ≡ 0)

-- Mending: the stale entries are empty, every other is as it was, and so is all else. The house is as undamaged as before, and an audit passes.
pub record Mends (w w' : World) : Type 0 where
  pub each : (i px : ℕ) → i < w.house.count → px < entries → get_or (shadow_of w'.house i) px 0 ≡ kept_at w i px
  pub rest : w' ≡ world (with_shadows w.house w'.house.shadows) w.memory
  pub stays : Stays w w'
  pub passes : Passes w'

abbrev pub MendsAll : Type 0
MendsAll = (w : World) → Typed w → (mend_call w).verdict.number ≡ 0 → Mends w (mend_call w).world

abbrev pub MendRefused : Type 0
MendRefused = (w : World) → ((mend_call w).verdict.number ≡ 0 → ⊥) → (mend_call w).world ≡ w

-- A house that passes, grown from a boot or not, steps as the lone machines do: what demand 2 says of grown houses.
abbrev pub PassedSteps : Type 0
PassedSteps = (w : World) → Shaped w.house → Passes w → (w.house.left ≡ 0 → ⊥) → StepOf w (host_step w) w.house.current

-- And each of its partitions reaches what its table and its frame list give, or fails by the same fault, be one current or none.
abbrev pub PassedReach : Type 0
PassedReach = (w : World) → Shaped w.house → Passes w → (i : ℕ) → i < w.house.count → (store user : Bool) (a : ℕ) →
    by_shadow w i store user a ≡ by_table w i store user a

-- It passes again after each of its steps.
abbrev pub PassesOn : Type 0
PassesOn = (w : World) → Typed w → Passes w → (w.house.left ≡ 0 → ⊥) → (k : ℕ) → Passes (host_steps k w)

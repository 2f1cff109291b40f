-- Closed houses: one grown from a boot, and the same with entry 0 of partition 0's shadow led astray by hand, which is not damaged.
use mathlib.Core.Path.{◌≡◌, refl, sym, ap, subst, ◌∙◌}
use mathlib.Core.Bool.{Bool, true, false}
use mathlib.Core.List.{List, [], ◌∷◌}
use Prim.Native.Nat.{ℕ, ◌+◌, ◌-◌, ◌*◌, ◌%◌, ◌^◌, ◌<◌}
use native.Mathlib.Omega.{arith}
use lib.Dec.{eqb}
use lib.ListN.{get_or, replicate}
use Rattle.dlx.specs.Choice.{when◌then◌else◌}
use Rattle.dlx.specs.Machine.{Outcome, step}
use Rattle.addresses.specs.Walk.{entries}
use Rattle.addresses.specs.Memory.{Lone, lone_memory}
use Rattle.house.specs.Lists.{list_from, any}
use Rattle.house.specs.House.{partition, pages_of, shadow_of, with_shadows, turn, turn_now}
use Rattle.house.specs.Turns.{World, world, next_from, turn_of, turn_after, stale_at, host_step, host_steps}
use Rattle.house.specs.Calls.{Answered, answered}
use Rattle.house.specs.declared.Turn.{Turn}
use Rattle.house.proofs.Damage.Undamaged.{count_within}
use Rattle.house.proofs.Lists.ByRule.{first_is}
use Rattle.house.specs.Damage.{damaged}
use Rattle.house.specs.Boot.{verdict, booted_house}
use Rattle.demands.specs.Histories.{booted, run, stop, history, Grown, lone_of, lone_answer}
use Rattle.demands.specs.Demands.{StepOf, by_shadow, by_table}
use Rattle.demands.proofs.Booted.FreshHouse.{booted_whole}
use Rattle.demands.proofs.Histories.Stays.{history_stays}
use Rattle.demands.proofs.Instances.TwoGuests.{two_guests, memory_words, ready, full, grown_full, misled, misled_stays, misled_stale, misled_size}
use Rattle.staleness.specs.Audit.{Finding, finding, first_page, audit_call, stale_count, stale_counts, counts, counts_call, mend_call}
use Rattle.staleness.specs.Examples.{remaining, ours, six_stale, outgrown}
use Rattle.staleness.specs.Promises.{Passes, NamesFirst, Mends, called, audited, tallied, mended_in, used, uses}
use Rattle.staleness.proofs.Promises.{grown_pass, still_grown, names, passes_right, counts_stale, mends_all, mend_refused, passed_steps, passed_reach, passes_on}
use Rattle.staleness.proofs.Searching.{first_found}
use Rattle.staleness.proofs.SixStale.{kept_is, six_audit, six_counts, six_mend, outgrown_mend, six_typed}
use Rattle.staleness.proofs.Verdicts.{AuditDone, done_audit, audit_found}

pub full_passes : Passes full
full_passes = (grown_pass two_guests memory_words full grown_full).0

pub full_counted : counts_call full ≡ counts 0 (replicate 8 0)
full_counted = (grown_pass two_guests memory_words full grown_full).1

pub full_mended : mend_call full ≡ answered (verdict 0 0) full
full_mended = (grown_pass two_guests memory_words full grown_full).2

abbrev astray : World
astray = world misled full.memory

done : AuditDone astray
done = record { whole = misled_stays.whole; size = misled_size }

-- the first entry of all
first : first_page astray 0 ≡ 0
unfolding any
first = first_is (stale_at astray 0) entries 0 refl (omega arith) misled_stale

pub misled_found : audit_call astray ≡ finding 0 true 0 0
unfolding any
misled_found =
    audit_found astray _ refl (done_audit astray 0 done)
    ∙ first_found astray 0 refl (omega (arith, (count_within misled misled_stays.whole).0)) (omega (arith, first))
    ∙ ap (finding 0 true 0) first

pub misled_mended : Passes (mend_call astray).world
unfolding mend_call
misled_mended = (mends_all astray misled_stays.typed (done_audit astray _ done)).passes

-- ---- a history with an audit, a count and a mend in it

pub still : Grown two_guests (uses (called (run 4) ∷ audited ∷ mended_in ∷ tallied ∷ called (stop 1) ∷ mended_in ∷ []) (booted two_guests))
still = still_grown two_guests (called (run 4) ∷ audited ∷ mended_in ∷ tallied ∷ called (stop 1) ∷ mended_in ∷ [])

-- what the mend left is what went on
pub handed_on : uses (mended_in ∷ []) astray ≡ (mend_call astray).world
unfolding uses used
handed_on = refl

-- ---- a house in which none is current, after both were stopped

abbrev idle : World
idle = history (stop 0 ∷ stop 1 ∷ []) (booted two_guests)

grown_idle : Grown two_guests idle
grown_idle = (stop 0 ∷ stop 1 ∷ [], refl)

pub idle_reaches : (store user : Bool) (a : ℕ) → by_shadow idle 0 store user a ≡ by_table idle 0 store user a
idle_reaches =
    let l = history_stays (booted two_guests) ready.typed (ready_whole) (stop 0 ∷ stop 1 ∷ []) in
    passed_reach idle l.typed.shaped (grown_pass two_guests memory_words idle grown_idle).0 0 (omega (arith, l.layout.count, two))
  where
    ready_whole : damaged (booted two_guests).house ≡ false
    ready_whole = booted_whole two_guests

    two : (booted two_guests).house.count ≡ 2
    two = unfold two_guests booted_house in refl

-- ---- the house with six stale entries, of four partitions: what the audit names

named_first : NamesFirst six_stale (finding 0 true 1 2)
named_first = subst (NamesFirst six_stale) six_audit (names six_stale (ap (λ (f : Finding). f.number) six_audit))

pub named_stale : stale_at six_stale 1 2 ≡ true
named_stale = (named_first.named refl).2

pub right_before : (px : ℕ) → stale_at six_stale 0 px ≡ false
right_before px = named_first.before refl 0 px (omega arith)

pub right_below : (px : ℕ) → px < 2 → stale_at six_stale 1 px ≡ false
right_below = named_first.below refl

-- what is counted is stale, and what is right is not counted
pub uncounted_right : (px : ℕ) → stale_at six_stale 0 px ≡ false
unfolding stale_counts list_from
uncounted_right = (counts_stale six_stale 0).0 (ap (λ (l : List ℕ). get_or l 0 0) six_counts)

pub right_uncounted : stale_count six_stale 0 ≡ 0
right_uncounted = (counts_stale six_stale 0).1 right_before

-- ---- and mended

abbrev pub mended_six : World
mended_six = (mend_call six_stale).world

six_mends : Mends six_stale mended_six
six_mends = mends_all six_stale six_typed (ap (λ (a : Answered). a.verdict.number) six_mend)

pub entry_by_entry : (i px : ℕ) → i < 4 → px < entries → get_or (shadow_of mended_six.house i) px 0 ≡ remaining (i * entries + px)
entry_by_entry i px l m = six_mends.each i px l m ∙ kept_is i px l m

-- all else is as it was
counter_kept : (partition mended_six.house 0).counter ≡ 2 ^ 64 - 1
counter_kept = ap (λ (w : World). (partition w.house 0).counter) six_mends.rest

pub rest_kept : (mended_six.memory ≡ six_stale.memory) × (mended_six.house.parts ≡ ours) × (turn_now mended_six.house ≡ turn 0 1)
rest_kept = (ap (λ (w : World). w.memory) six_mends.rest, ap (λ (w : World). w.house.parts) six_mends.rest, ap (λ (w : World). turn_now w.house) six_mends.rest)

four : mended_six.house.count ≡ 4
four = ap (λ (w : World). w.house.count) six_mends.rest

number_six : (audit_call mended_six).number ≡ 0
number_six = ap (λ (f : Finding). f.number) six_mends.passes

-- nothing is named, so nothing is stale; so nothing is counted, and it passes
pub none_left : (i px : ℕ) → i < mended_six.house.count → stale_at mended_six i px ≡ false
none_left = (subst (NamesFirst mended_six) six_mends.passes (names mended_six number_six)).none refl

pub none_counted : (i : ℕ) → i < 4 → (stale_count mended_six i ≡ 0) × ((px : ℕ) → stale_at mended_six i px ≡ false)
none_counted i l =
    let z = (counts_stale mended_six i).1 (λ px. none_left i px (omega (arith, four))) in
    (z, (counts_stale mended_six i).0 z)

pub six_passes : Passes mended_six
six_passes = passes_right mended_six number_six (λ i px l. (none_counted i (omega (arith, four))).1 px)

-- its step is a lone step, with turns of 1 step, and the counter goes round; and it passes after any number of them
busy_six : mended_six.house.left ≡ 0 → ⊥
busy_six e = omega (arith, ap (λ (t : Turn). t.left) rest_kept.2)

six_steps : StepOf mended_six (host_step mended_six) mended_six.house.current
six_steps = passed_steps mended_six six_mends.stays.typed.shaped six_passes busy_six

pub goes_round : (partition (host_step mended_six).house 0).counter ≡ 0
goes_round = six_steps.counters 0 (omega (arith, four)) ∙ by_rule
  where
    by_rule : (when eqb 0 mended_six.house.current then ((partition mended_six.house 0).counter + 1) % 2 ^ 64 else (partition mended_six.house 0).counter) ≡ 0
    by_rule = simp (ap (λ (w : World). w.house.current) six_mends.rest, counter_kept)

-- whether the guest calls or not, the turn has no step left
turned : (w : World) (calls : Bool) → w ≡ world (with_shadows six_stale.house w.house.shadows) six_stale.memory → turn_after w.house 1 calls ≡ turn 2 1
turned w calls e = subst (λ (v : World). turn_after v.house 1 calls ≡ turn 2 1) (sym e) (unfold turn_of next_from in refl)

pub turn_passes : turn (host_step mended_six).house.current (host_step mended_six).house.left ≡ turn 2 1
turn_passes = six_steps.turns ∙ turned mended_six own_step.0.calls six_mends.rest
  where
    own_step : Outcome × Lone
    own_step = let i = mended_six.house.current in step (lone_memory (pages_of mended_six.house i)) (lone_answer mended_six i) (lone_of mended_six i)

pub six_go_on : (k : ℕ) → Passes (host_steps k mended_six)
six_go_on = passes_on mended_six six_mends.stays.typed six_passes busy_six

pub six_reach : (i : ℕ) → i < mended_six.house.count → (store user : Bool) (a : ℕ) → by_shadow mended_six i store user a ≡ by_table mended_six i store user a
six_reach = passed_reach mended_six six_mends.stays.typed.shaped six_passes

-- ---- refused, a mend leaves all as it was

pub outgrown_kept : (mend_call outgrown).world ≡ outgrown
outgrown_kept = mend_refused outgrown (λ z. omega (arith, sym (ap (λ (a : Answered). a.verdict.number) outgrown_mend) ∙ z))

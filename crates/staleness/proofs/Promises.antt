-- What an audit is worth: a theorem for each statement of specs/Promises.antt, in its order.
use mathlib.Core.Path.{◌≡◌, refl, sym, ap, subst, ◌∙◌}
use mathlib.Core.Bool.{false}
use mathlib.Core.List.{List, [], ◌∷◌}
use Prim.Native.Nat.{ℕ, ◌<◌, ◌≤◌}
use native.Mathlib.Omega.{arith}
use borrow.Author.Tests.{eq-eqb, ne_eqb, ltb-true}
use lib.Dec.{ltb}
use lib.ListN.{replicate}
use Rattle.dlx.proofs.Tests.{by_test, by_eq}
use Rattle.addresses.specs.Walk.{entries}
use Rattle.house.specs.Boot.{verdict, sum, booted_house}
use Rattle.house.specs.Turns.{World, stale_at, host_step, host_steps}
use Rattle.house.specs.Sound.{Shaped, Typed, Ready}
use Rattle.house.specs.Calls.{Answered, answered}
use Rattle.house.proofs.Damage.Denied.{undamaged_from}
use Rattle.house.proofs.Damage.Undamaged.{undamaged_gives, current_below, sound_partition, queues_most}
use Rattle.house.proofs.Lists.ByRule.{list_from_same, list_from_replicate}
use Rattle.house.proofs.Turns.HostStep.{step_ready}
use Rattle.house.proofs.Turns.Kept.{steps_keep}
use Rattle.demands.specs.Histories.{Boot, booted, history, Grown}
use Rattle.demands.proofs.Demands.{never_damaged}
use Rattle.demands.proofs.Histories.Grown.{standing, grown_after}
use Rattle.demands.proofs.Histories.Landings.{lands}
use Rattle.demands.proofs.Histories.Standing.{Firm, step_of, firm_step}
use Rattle.staleness.specs.Audit.{Finding, audit_verdict, first_stale, audit_call, count_at, stale_counts, counts, mended, mended_to, mend_call}
use Rattle.staleness.specs.Promises.{Passes, GrownPass, Use, called, audited, tallied, mended_in, used, uses, StillGrown, NamesFirst, Names, PassesRight, CountsStale, Mends, MendsAll, MendRefused, PassedSteps, PassedReach, PassesOn}
use Rattle.staleness.proofs.Counting.{count_none, count_some}
use Rattle.staleness.proofs.Mending.{mended_rest, mended_entry, mended_right, mended_stays, mended_same}
use Rattle.staleness.proofs.Searching.{all_right, names_first, none_named}
use Rattle.staleness.proofs.Verdicts.{AuditDone, audit_done, done_audit, done_verdict, audit_refused, audit_found, counts_found}

-- every entry of every partition is right
abbrev pub AllRight : World → Type 0
AllRight w = (i px : ℕ) → i < w.house.count → stale_at w i px ≡ false

-- ---- a done audit

module _ (w : World) where
  number_done : (audit_call w).number ≡ 0 → AuditDone w
  number_done e =
      by_eq (audit_verdict w 0).number 0
      (λ z. audit_done w 0 z)
      (λ n. absurd (n (ap (λ (f : Finding). f.number) (sym (audit_refused w _ refl n)) ∙ e)))

  done_found : AuditDone w → audit_call w ≡ first_stale w
  done_found d = audit_found w _ refl (done_audit w 0 d)

  right_passes : AuditDone w → AllRight w → Passes w
  right_passes d r = done_found d ∙ none_named w r

  -- and what a pass says
  pub passed_done : Passes w → AuditDone w
  passed_done p = number_done (ap (λ (f : Finding). f.number) p)

  pub passed_right : Passes w → AllRight w
  passed_right p = (subst (NamesFirst w) (sym (done_found (passed_done p)) ∙ p) (names_first w)).none refl

-- ---- grown houses

module _ (w : World) (s : Shaped w.house) (d : AuditDone w) (r : AllRight w) where
  few : w.house.count ≤ 8
  few = (undamaged_gives w.house d.whole).few

  no_counts : stale_counts w ≡ replicate 8 0
  unfolding stale_counts
  no_counts =
      list_from_same (count_at w) (λ _. 0) 0 8
      (λ i _. by_test (ltb i w.house.count)
      (λ t. rw t (count_none (stale_at w i) entries (λ px _. r i px (ltb-true i w.house.count t))))
      (λ t. rw t))
      ∙ list_from_replicate 0 0 8

  nothing_mended : mend_call w ≡ answered (verdict 0 0) w
  unfolding mend_call mended
  nothing_mended =
      let z : sum (stale_counts w) ≡ 0 = ap sum no_counts ∙ (unfold sum in refl) in
      rw (z, done_verdict w 0 d) (ap (answered (verdict 0 0)) (mended_same w s.shadows w.house.count few r))

pub grown_pass : GrownPass
unfolding booted_house
grown_pass b t w g =
    let st = standing b w g in
    let d : AuditDone w = record { whole = never_damaged b t w g; size = st.size ∙ sym st.layout.words } in
    let r : AllRight w = λ i px l. st.right i l px in
    (right_passes w d r, counts_found w _ refl (done_audit w 0 d) ∙ ap (counts 0) (no_counts w st.shaped d r), nothing_mended w st.shaped d r)

-- ---- what is named and counted

pub names : Names
names w e = subst (NamesFirst w) (sym (done_found w (number_done w e))) (names_first w)

pub passes_right : PassesRight
passes_right w e r = right_passes w (number_done w e) r

pub counts_stale : CountsStale
counts_stale w i = (λ z. all_right w i (count_some (stale_at w i) entries z), λ r. count_none (stale_at w i) entries (λ px _. r px))

-- ---- mending

module _ (w : World) where
  mend_done : (mend_call w).verdict.number ≡ 0 → AuditDone w
  unfolding mend_call
  mend_done e = audit_done w _ e

  mend_is : (mend_call w).verdict.number ≡ 0 → (mend_call w).world ≡ mended w
  unfolding mend_call
  mend_is e = rw (eq-eqb (audit_verdict w (sum (stale_counts w))).number 0 e)

  mended_mends : Typed w → AuditDone w → Mends w (mended w)
  unfolding mended
  mended_mends y d =
      let h = w.house in
      let u = undamaged_gives h d.whole in
      let s = mended_stays w y d in
      let c : (mended_to h.count w).house.count ≡ h.count = ap (λ (x : World). x.house.count) (mended_rest h.count w) in
      record {
        each = λ i px l m. mended_entry w y.shaped.shadows h.count i px l u.few m;
        rest = mended_rest h.count w;
        stays = s;
        passes = right_passes (mended_to h.count w) (record { whole = s.whole; size = s.size ∙ d.size ∙ sym s.layout.words })
            (λ i px l. mended_right w y.shaped.shadows h.count i px (omega (arith, c)) u.few);
      }

pub mends_all : MendsAll
mends_all w y e = subst (Mends w) (sym (mend_is w e)) (mended_mends w y (mend_done w e))

pub mend_refused : MendRefused
unfolding mend_call
mend_refused w n = rw (ne_eqb (audit_verdict w (sum (stale_counts w))).number 0 n)

-- ---- grown houses, audited, counted and mended

-- a mend that is done finds nothing, and one that is refused changes nothing
grown_mended : (b : Boot) (w : World) → Grown b w → (mend_call w).world ≡ w
grown_mended b w g =
    let st = standing b w g in
    by_eq (mend_call w).verdict.number 0
    (λ e. ap (λ (a : Answered). a.world) (nothing_mended w st.shaped (mend_done w e) (λ i px l. st.right i l px)))
    (mend_refused w)

used_grown : (b : Boot) (w : World) → Grown b w → (u : Use) → Grown b (used u w)
unfolding used
used_grown b w g (called c) = grown_after b w g c
used_grown b w g audited = g
used_grown b w g tallied = g
used_grown b w g mended_in = subst (Grown b) (sym (grown_mended b w g)) g

uses_grown : (b : Boot) (us : List Use) (w : World) → Grown b w → Grown b (uses us w)
unfolding uses
uses_grown b [] w g = g
uses_grown b (u ∷ us) w g = uses_grown b us (used u w) (used_grown b w g u)

pub still_grown : StillGrown
unfolding history
still_grown b us = uses_grown b us (booted b) ([], refl)

-- ---- steps of a house that passes

module _ (w : World) (s : Shaped w.house) (d : AuditDone w) (r : AllRight w) where
  pub firm_passed : Firm w
  firm_passed =
      let h = w.house in
      record {
        shaped = s;
        few = (undamaged_gives h d.whole).few;
        placed = λ i l. (sound_partition h d.whole w.memory s d.size i l).placed;
        apart = λ i j k l a b a' b' e. ((undamaged_gives h d.whole).once i j k l a b a' b' e).0;
        here = current_below h d.whole;
        most = queues_most h d.whole w.memory s d.size;
        right = λ i l px. r i px l;
      }

pub passed_steps : PassedSteps
passed_steps w s p _ = step_of w (firm_passed w s (passed_done w p) (passed_right w p))

pub passed_reach : PassedReach
passed_reach w s p = lands w (firm_passed w s (passed_done w p) (passed_right w p))

-- ready for a step, and right
pub record Going (w : World) : Type 0 where
  pub ready : Ready w
  pub right : AllRight w

going_done : (w : World) → Going w → AuditDone w
going_done w g = record { whole = undamaged_from w.house g.ready.whole; size = g.ready.size }

going_step : (w : World) → Going w → Going (host_step w)
going_step w g = record {
  ready = step_ready w g.ready;
  right = λ i px l. (firm_step w (firm_passed w g.ready.typed.shaped (going_done w g) g.right)).right i l px;
}

pub passes_on : PassesOn
passes_on w y p busy k =
    let d = passed_done w p in
    let g : Going w = record { ready = record { typed = y; whole = undamaged_gives w.house d.whole; size = d.size; busy = busy }; right = passed_right w p } in
    let g' = steps_keep Going going_step k w g in
    right_passes (host_steps k w) (going_done (host_steps k w) g') g'.right

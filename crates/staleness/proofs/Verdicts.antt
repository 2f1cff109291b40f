-- What the audit's verdict says, and what the calls answer by it.
use mathlib.Core.Path.{◌≡◌, refl, sym, ap, ◌∙◌}
use mathlib.Core.List.{List}
use mathlib.Core.Bool.{Bool, false, not, ◌||◌, true≢false}
use Prim.Native.Nat.{ℕ}
use native.Mathlib.Omega.{arith}
use borrow.Author.Tests.{eqb-true, not-false, ne_eqb, eq-eqb}
use lib.Dec.{eqb, ltb}
use lib.ListN.{length, replicate}
use Rattle.dlx.proofs.Kept.{either}
use Rattle.dlx.proofs.Tests.{by_eq}
use Rattle.house.specs.Lists.{first_from}
use Rattle.house.specs.Damage.{damaged}
use Rattle.house.specs.Boot.{Verdict, verdict, first_of}
use Rattle.house.specs.Turns.{World, world}
use Rattle.house.specs.Sound.{Shaped}
use Rattle.house.specs.Refusals.{refusal}
use Rattle.house.specs.declared.House.{House}
use Rattle.house.specs.declared.refusal.Refusal.{Refusal}
use Rattle.house.specs.declared.refusal.Refusal.TheVariants.{PartitionCount, PageCount, TurnLength, MemorySize, ListLength, FrameOutside, FrameTwice, FrameKept, Damaged, OtherMemory, NoSuchPartition, NothingRuns, BeyondPages, ShortOutput, TooManySteps, WrongHouseFile, WrongSavedFile}
use Rattle.house.proofs.Refusals.{not_0, leaves_given, leaves_done}
use Rattle.hypervisor.proofs.Refusals.{Told_house, shaped}
use Rattle.house.proofs.Calls.Verdicts.{passed}
use Rattle.house.proofs.Damage.Undamaged.{count_within, sound_partition}
use Rattle.staleness.specs.Audit.{audit_verdict, Finding, finding, has_stale, first_stale, audit_call, Counts, counts, stale_counts, counts_call, Walkable}

-- an audit that is done
pub record AuditDone (w : World) : Type 0 where
  pub whole : damaged w.house ≡ false
  pub size : length w.memory ≡ w.house.words

module _ (w : World) (d : ℕ) where
  pub audit_done : (audit_verdict w d).number ≡ 0 → AuditDone w
  unfolding audit_verdict
  audit_done e =
      let a = passed _ 8 _ _ _ (omega arith) e in
      let b = passed _ 9 _ _ _ (omega arith) a.1 in
      record { whole = a.0; size = eqb-true (length w.memory) w.house.words (not-false _ b.0) }

  pub done_verdict : AuditDone w → audit_verdict w d ≡ verdict 0 d
  unfolding audit_verdict first_of
  done_verdict a = simp (a.whole, eq-eqb (length w.memory) w.house.words a.size)

  pub done_audit : AuditDone w → (audit_verdict w d).number ≡ 0
  done_audit a = ap (λ (v : Verdict). v.number) (done_verdict a)

pub walkable : (w : World) → Shaped w.house → AuditDone w → Walkable w
walkable w s a = record { few = (count_within w.house a.whole).1; each = λ i l. (sound_partition w.house a.whole w.memory s a.size i l).placed }

-- ---- what the two readings answer, by the number n that the refusals come to

module _ (w : World) (n : ℕ) (e : n ≡ (audit_verdict w 0).number) where
  pub audit_refused : (n ≡ 0 → ⊥) → audit_call w ≡ finding n false 0 0
  unfolding audit_call
  audit_refused z = rw (sym e, ne_eqb n 0 z)

  pub audit_found : n ≡ 0 → audit_call w ≡ first_stale w
  unfolding audit_call
  audit_found z = rw (sym e, z)

  pub counts_refused : (n ≡ 0 → ⊥) → counts_call w ≡ counts n (replicate 8 0)
  unfolding counts_call
  counts_refused z = rw (sym e, ne_eqb n 0 z)

  pub counts_found : n ≡ 0 → counts_call w ≡ counts 0 (stale_counts w)
  unfolding counts_call
  counts_found z = rw (sym e, z)

-- ---- what refuses an audit has no detail

pub found_plain : (w : World) → (first_stale w).number ≡ 0
unfolding first_stale
found_plain w = either (λ (f : Finding). f.number ≡ 0) (ltb (first_from (has_stale w) 0 w.house.count) w.house.count) (λ _. refl) (λ _. refl)

abbrev detailed : ℕ → Bool
detailed n = eqb n 2 || eqb n 6 || eqb n 7 || eqb n 15 || eqb n 16 || eqb n 17

plain : (r : Refusal) → detailed (refusal r).number ≡ false → (refusal r).detail ≡ 0
plain PartitionCount e = refl
plain (PageCount _) e = absurd (true≢false e)
plain TurnLength e = refl
plain MemorySize e = refl
plain ListLength e = refl
plain (FrameOutside _) e = absurd (true≢false e)
plain (FrameTwice _) e = absurd (true≢false e)
plain (FrameKept _) e = absurd (true≢false e)
plain Damaged e = refl
plain OtherMemory e = refl
plain NoSuchPartition e = refl
plain NothingRuns e = refl
plain BeyondPages e = refl
plain ShortOutput e = refl
plain TooManySteps e = refl
plain (WrongHouseFile _) e = absurd (true≢false e)
plain (WrongSavedFile _) e = absurd (true≢false e)

not_detailed : (w : World) → detailed (audit_verdict w 0).number ≡ false
unfolding audit_verdict first_of
not_detailed w =
    either P (damaged w.house) (λ _. refl) λ _.
    either P (not (eqb (length w.memory) w.house.words)) (λ _. refl) (λ _. refl)
  where
    P : Verdict → Type 0
    P v = detailed v.number ≡ false

module _ (w : World) (r : Refusal) where
  numbered : (refusal r).number ≡ (audit_verdict w 0).number → (refusal r).detail ≡ 0
  numbered e = plain r (ap detailed e ∙ not_detailed w)

  not_done : {A : Type 0} → (refusal r).number ≡ 0 → A
  not_done z = absurd (true≢false (sym (eq-eqb (refusal r).number 0 z) ∙ not_0 r))

  pub audit_detail : finding (refusal r).number false 0 0 ≡ audit_call w → (refusal r).detail ≡ 0
  audit_detail e =
      by_eq (audit_verdict w 0).number 0
      (λ z. not_done (ap (λ (f : Finding). f.number) (e ∙ audit_found w _ refl z) ∙ found_plain w))
      (λ n. numbered (ap (λ (f : Finding). f.number) (e ∙ audit_refused w _ refl n)))

  pub counts_detail : counts (refusal r).number (replicate 8 0) ≡ counts_call w → (refusal r).detail ≡ 0
  counts_detail e =
      by_eq (audit_verdict w 0).number 0
      (λ z. not_done (ap (λ (c : Counts). c.number) (e ∙ counts_found w _ refl z)))
      (λ n. numbered (ap (λ (c : Counts). c.number) (e ∙ counts_refused w _ refl n)))

-- ---- what the calls' answers cite

pub walks : (h : House) (m : List ℕ) → Told_house h → verdict 0 0 ≡ audit_verdict (world h m) 0 → Walkable (world h m)
walks h m t e = walkable (world h m) (shaped h t) (audit_done (world h m) 0 (ap (λ (v : Verdict). v.number) (sym e)))

module _ (w : World) where
  pub refused_audit : (r : Refusal) → refusal r ≡ audit_verdict w 0 → finding (refusal r).number false 0 0 ≡ audit_call w
  unfolding audit_call
  refused_audit r e = rw (← e, not_0 r) refl

  pub found_audit : verdict 0 0 ≡ audit_verdict w 0 → first_stale w ≡ audit_call w
  unfolding audit_call
  found_audit e = rw (← e) refl

  pub refused_counts : (r : Refusal) → refusal r ≡ audit_verdict w 0 → counts (refusal r).number (replicate 8 0) ≡ counts_call w
  unfolding counts_call
  refused_counts r e = rw (← e, not_0 r) refl

  pub found_counts : verdict 0 0 ≡ audit_verdict w 0 → counts 0 (stale_counts w) ≡ counts_call w
  unfolding counts_call
  found_counts e = rw (← e) refl

pub ruleset of_audit = (refused_audit, found_audit)

pub ruleset of_counts = (refused_counts, found_counts)

pub ruleset of_mend = (leaves_given, leaves_done)

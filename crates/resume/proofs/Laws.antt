-- Runs put together.
use Rattle.std.specs.Prelude.{Result, Ok, Err}
use mathlib.Core.Path.{◌≡◌, refl, sym, ap, ◌∙◌}
use mathlib.Core.Bool.{true, false}
use mathlib.Core.List.{List, ◌++◌}
use Prim.Native.Nat.{ℕ, zero, suc, ◌-◌, ◌*◌, ◌/◌, ◌<◌, ◌≤◌}
use native.Mathlib.Omega.{arith}
use borrow.Author.Tests.{ne_eqb, eqb-false, ltb-true, ltb-false}
use lib.Dec.{ltb}
use lib.ListN.{length, take}
use lib.Seq.{take_at}
use Rattle.dlx.proofs.Tests.{by_test}
use Rattle.house.specs.Boot.{verdict}
use Rattle.house.specs.Turns.{World, world}
use Rattle.house.specs.Calls.{Answered, answered, run_call}
use Rattle.house.specs.declared.House.{House}
use Rattle.house.specs.Refusals.{refusal}
use Rattle.house.specs.declared.refusal.Refusal.{Refusal}
use Rattle.house.proofs.Refusals.{not_0}
use Rattle.night_run.specs.Ran.{outcome_of, after_boot, saved_file, answer_in, handed, Handed}
use Rattle.night_run.specs.declared.Ran.{Ran}
use Rattle.resume.specs.Resumed.{full_runs, resumed, resumed_file}

-- ---- one run more

pub then_refused : (a : Answered) (k : ℕ) → (a.verdict.number ≡ 0 → ⊥) → after_boot a k ≡ a
unfolding after_boot
then_refused a k z = rw (ne_eqb a.verdict.number 0 z)

then_done : (d : ℕ) (w : World) (k : ℕ) → after_boot (answered (verdict 0 d) w) k ≡ run_call w k
unfolding after_boot
then_done d w k = refl

full_refused : (n : ℕ) (a : Answered) → (a.verdict.number ≡ 0 → ⊥) → full_runs n a ≡ a
unfolding full_runs
full_refused zero a z = refl
full_refused (suc n) a z = ap (full_runs n) (then_refused a 1000000 z) ∙ full_refused n a z

pub resumed_refused : (a : Answered) (k : ℕ) → (a.verdict.number ≡ 0 → ⊥) → resumed a k ≡ a
unfolding resumed
resumed_refused a k z =
    let f = (k - 1) / 1000000 in
    ap (λ (x : Answered). after_boot x (k - f * 1000000)) (full_refused f a z) ∙ then_refused a (k - f * 1000000) z

resumed_last : (a : Answered) (k : ℕ) → k ≤ 1000000 → resumed a k ≡ after_boot a k
unfolding resumed full_runs
resumed_last a k l =
    let e : (k - 1) / 1000000 ≡ 0 = omega arith in
    let f : k - 0 * 1000000 ≡ k = omega arith in
    rw (e, f)

resumed_more : (a : Answered) (k : ℕ) → 1000000 < k → resumed a k ≡ resumed (after_boot a 1000000) (k - 1000000)
unfolding resumed full_runs
resumed_more a k l =
    let n = (k - 1000000 - 1) / 1000000 in
    let e : (k - 1) / 1000000 ≡ suc n = omega arith in
    let f : k - suc n * 1000000 ≡ k - 1000000 - n * 1000000 = omega arith in
    ap (λ (j : ℕ). after_boot (full_runs j a) (k - j * 1000000)) e ∙ ap (after_boot (full_runs n (after_boot a 1000000))) f

-- the detail that a house comes with is not told
detail_gone : (d : ℕ) (w : World) (k : ℕ) → resumed (answered (verdict 0 d) w) k ≡ resumed (answered (verdict 0 0) w) k
detail_gone d w k =
    by_test (ltb 1000000 k)
    (λ e.
    let l = ltb-true 1000000 k e in
    resumed_more (answered (verdict 0 d) w) k l
    ∙ ap (λ (x : Answered). resumed x (k - 1000000)) (then_done d w 1000000 ∙ sym (then_done 0 w 1000000))
    ∙ sym (resumed_more (answered (verdict 0 0) w) k l))
    (λ e.
    let l = ltb-false 1000000 k e in
    resumed_last (answered (verdict 0 d) w) k l ∙ then_done d w k ∙ sym (then_done 0 w k) ∙ sym (resumed_last (answered (verdict 0 0) w) k l))

abbrev pub on : World → ℕ → Answered
on w k = resumed (answered (verdict 0 0) w) k

pub on_more : (w w' : World) (d k : ℕ) → 1000000 < k → answered (verdict 0 d) w' ≡ run_call w 1000000 → on w' (k - 1000000) ≡ on w k
on_more w w' d k l e =
    sym (detail_gone d w' (k - 1000000))
    ∙ ap (λ (x : Answered). resumed x (k - 1000000)) (e ∙ sym (then_done 0 w 1000000))
    ∙ sym (resumed_more (answered (verdict 0 0) w) k l)

pub on_refused : (w w' : World) (r : Refusal) (k : ℕ) → 1000000 < k → answered (refusal r) w' ≡ run_call w 1000000 → answered (refusal r) w' ≡ on w k
on_refused w w' r k l e =
    sym (resumed_refused (answered (refusal r) w') (k - 1000000) (eqb-false _ 0 (not_0 r)))
    ∙ ap (λ (x : Answered). resumed x (k - 1000000)) (e ∙ sym (then_done 0 w 1000000))
    ∙ sym (resumed_more (answered (verdict 0 0) w) k l)

pub on_last : (w : World) (k : ℕ) → k ≤ 1000000 → run_call w k ≡ on w k
on_last w k l = sym (then_done 0 w k) ∙ sym (resumed_last (answered (verdict 0 0) w) k l)

-- ---- of a file

module _ (steps : ℕ) (x : Ran) (m : List ℕ) (h : Handed saved_file x m) where
  pub resume_failed : x.taken.failed ≡ true → Handed (resumed_file steps) x m
  resume_failed f = (h.0, h.1, λ file of. h.2 file of ∙ rw f)

  came : (file : List ℕ) → x.taken.failed ≡ false → answer_in x m ≡ handed saved_file x.taken file → answer_in x m ≡ saved_file.answer file
  came file f e = rw f at e

  pub resume_refused : x.taken.failed ≡ false → (r : Refusal) → x.outcome ≡ Err r → Handed (resumed_file steps) x m
  resume_refused f r o = (
    h.0,
    h.1,
    λ file of.
        rw f
        (sym (resumed_refused (answer_in x m) steps (λ z. eqb-false _ 0 (not_0 r) (rw o at z))) ∙ ap (λ (a : Answered). resumed a steps) (came file f (h.2 file of))),
  )

  pub resume_done : (o : Result ℕ Refusal) (g : House) (part rest : List ℕ) (detail : ℕ) → x.taken.failed ≡ false → x.outcome ≡ Ok detail → length part ≡ x.words
      → answered (outcome_of o) (world g part) ≡ on (world x.house (take x.words m)) steps
      → Handed (resumed_file steps) (record { taken = x.taken; words = x.words; house = g; outcome = o }) (part ++ rest)
  resume_done o g part rest detail f z l e = (
    h.0,
    h.1,
    λ file of.
        rw f
        (ap (λ (y : List ℕ). answered (outcome_of o) (world g y)) (take_at part rest x.words l)
        ∙ e
        ∙ sym (detail_gone detail (world x.house (take x.words m)) steps)
        ∙ ap (λ (p : Result ℕ Refusal). resumed (answered (outcome_of p) (world x.house (take x.words m))) steps) (sym z)
        ∙ ap (λ (a : Answered). resumed a steps) (came file f (h.2 file of))),
  )

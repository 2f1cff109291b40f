-- A theorem for each statement of specs/Promises.antt, in its order.
use mathlib.Core.Path.{◌≡◌, refl, sym, ap, ◌∙◌}
use mathlib.Core.List.{◌++◌}
use Prim.Native.Nat.{ℕ, zero, suc, ◌+◌, ◌-◌, ◌*◌, ◌/◌, ◌^◌, ◌<◌}
use native.Mathlib.Omega.{arith}
use borrow.Author.Tests.{eq-eqb}
use lib.ListN.{get_or}
use Rattle.dlx.proofs.Tests.{by_eq}
use Rattle.house.specs.Boot.{verdict}
use Rattle.house.specs.Turns.{World, host_steps}
use Rattle.house.specs.Calls.{Answered, answered, run_verdict, run_call}
use Rattle.house.proofs.Turns.Stretch.{steps_add}
use Rattle.demands.specs.Histories.{Boot, booted, Grown, history}
use Rattle.demands.proofs.Histories.Grown.{standing, history_then}
use Rattle.staleness.proofs.Promises.{grown_pass}
use Rattle.unshadowed.specs.Turns.{unshadowed_step, unshadowed_steps, all_empty}
use Rattle.unshadowed.proofs.Steps.{step_bare}
use Rattle.engines.proofs.Promises.{steps_alike}
use Rattle.save.specs.Saved.{file_of}
use Rattle.save.specs.Promises.{emptied, emptyings}
use Rattle.save.proofs.Lives.{restores, grown_savable, saves}
use Rattle.night_run.specs.Ran.{after_boot}
use Rattle.resume.specs.Resumed.{full_runs, resumed}
use Rattle.resume.specs.Promises.{OneRun, CutNight, NeverStopped}
use Rattle.resume.proofs.Laws.{then_refused}

-- ---- runs one after the other

run_done : (w : World) (k : ℕ) → (run_call w k).verdict.number ≡ 0 → (run_call w k).world ≡ host_steps k w
unfolding run_call
run_done w k e = rw (eq-eqb (run_verdict w k).number 0 e)

-- one more, where it is not refused, and so nothing was before
then_steps : (a : Answered) (k : ℕ) → (after_boot a k).verdict.number ≡ 0 → (a.verdict.number ≡ 0) × ((after_boot a k).world ≡ host_steps k a.world)
then_steps a k e =
    by_eq a.verdict.number 0
    (λ z.
    let is : after_boot a k ≡ run_call a.world k = unfold after_boot in rw (eq-eqb a.verdict.number 0 z) in
    (z, ap (λ (x : Answered). x.world) is ∙ run_done a.world k (sym (ap (λ (x : Answered). x.verdict.number) is) ∙ e)))
    (λ n. absurd (n (sym (ap (λ (x : Answered). x.verdict.number) (then_refused a k n)) ∙ e)))

full_steps : (n : ℕ) (a : Answered) → (full_runs n a).verdict.number ≡ 0 → (a.verdict.number ≡ 0) × ((full_runs n a).world ≡ host_steps (n * 1000000) a.world)
unfolding full_runs host_steps
full_steps zero a e = (e, refl)
full_steps (suc n) a e =
    let h = full_steps n (after_boot a 1000000) e in
    let t = then_steps a 1000000 h.0 in (
      t.0,
      h.1
          ∙ ap (host_steps (n * 1000000)) t.1
          ∙ steps_add 1000000 (n * 1000000) a.world
          ∙ ap (λ (k : ℕ). host_steps k a.world) (let s : 1000000 + n * 1000000 ≡ suc n * 1000000 = omega arith in s),
    )

pub resumed_steps : (a : Answered) (k : ℕ) → (resumed a k).verdict.number ≡ 0 → (a.verdict.number ≡ 0) × ((resumed a k).world ≡ host_steps k a.world)
unfolding resumed
resumed_steps a k e =
    let n = (k - 1) / 1000000 in
    let t = then_steps (full_runs n a) (k - n * 1000000) e in
    let h = full_steps n a t.0 in (
      h.0,
      t.1
          ∙ ap (host_steps (k - n * 1000000)) h.1
          ∙ steps_add (n * 1000000) (k - n * 1000000) a.world
          ∙ ap (λ (j : ℕ). host_steps j a.world) (let s : n * 1000000 + (k - n * 1000000) ≡ k = omega arith in s),
    )

pub one_run : OneRun
one_run w k e = (resumed_steps (answered (verdict 0 0) w) k e).1

pub cut_night : CutNight
cut_night w j k e =
    let t = resumed_steps (resumed (answered (verdict 0 0) w) j) k e in t.1 ∙ ap (host_steps k) (one_run w j t.0)

-- ---- after a restore

-- steps without shadows look at none
bare_steps : (n : ℕ) (v w : World) → all_empty v ≡ all_empty w → all_empty (unshadowed_steps n v) ≡ all_empty (unshadowed_steps n w)
unfolding unshadowed_steps
bare_steps zero v w e = e
bare_steps (suc n) v w e =
    sym (step_bare (unshadowed_steps n v))
    ∙ ap (λ (x : World). all_empty (unshadowed_step x)) (bare_steps n v w e)
    ∙ step_bare (unshadowed_steps n w)

-- what is read back is grown too
back_grown : (b : Boot) → ((i : ℕ) → get_or b.memory i 0 < 2 ^ 32) → (w : World) → Grown b w → Grown b (emptied w)
back_grown b t w g =
    let v = grown_savable b t w g in
    let k = saves w v in (
      g.0 ++ emptyings w.house.count,
      restores w (emptied w) (file_of w) v.typed k.0 k.1
          ∙ ap (history (emptyings w.house.count)) g.1
          ∙ sym (history_then g.0 (emptyings w.house.count) (booted b)),
    )

pub never_stopped : NeverStopped
never_stopped b t w g n =
    let back = back_grown b t w g in
    steps_alike (emptied w) (standing b (emptied w) back).shaped (grown_pass b t (emptied w) back).0 n
    ∙ bare_steps n (emptied w) w refl
    ∙ sym (steps_alike w (standing b w g).shaped (grown_pass b t w g).0 n)

-- What the night refuses of a file that says this.
use mathlib.Core.Path.{◌≡◌, refl, sym, ap, ◌∙◌}
use mathlib.Core.Bool.{true, false}
use mathlib.Core.List.{List}
use Prim.Native.Nat.{ℕ, ◌≤◌}
use native.Mathlib.Omega.{arith}
use borrow.Author.Tests.{eq-eqb, eqb-true}
use lib.Dec.{eqb}
use lib.ListN.{length}
use Rattle.dlx.proofs.Tests.{by_test}
use Rattle.house.specs.Boot.{Verdict, verdict, boot_verdict, booted_house}
use Rattle.house.specs.Turns.{world}
use Rattle.house.specs.Calls.{Answered, answered, boot_call, run_verdict, run_call}
use Rattle.house.specs.House.{no_house}
use Rattle.house.specs.Refusals.{refusal, verdict_of}
use Rattle.house.specs.declared.refusal.Refusal.{Refusal}
use Rattle.house.proofs.Refusals.{not_0}
use Rattle.house.specs.declared.House.{House}
use Rattle.std.specs.Prelude.{Result, Ok, Err, OnOk}
use Rattle.dlx.specs.Choice.{when◌then◌else◌}
use Rattle.housefile.specs.Records.{File, file, Reading, right}
use Rattle.night_run.specs.Ran.{after_boot, ran_of}
use Rattle.boot.proofs.Places.{fitting}
use Rattle.contents.specs.Contents.{Listed, Sayable}
use Rattle.contents.proofs.RoundTrip.{says_all}
use Rattle.noon.specs.Noon.{night_refusal, Runs}

module _ (pages frames m₀ : List ℕ) (q run : ℕ) (long : length m₀ ≡ 16384) where
  abbrev Refuses : Verdict → Type 0
  Refuses v = (m : List ℕ) → length m ≡ 16384 → v ≡ night_refusal (ran_of (right (file q run pages frames m)))

  verdict_is : (v : Verdict) (h : House) → answered v (world h m₀) ≡ boot_call pages q frames m₀ → v ≡ boot_verdict pages q frames 16384
  unfolding boot_call
  verdict_is v h e = ap (λ (a : Answered). a.verdict) e ∙ ap (boot_verdict pages q frames) long

  -- boot refuses
  pub boot_refuses : (r : Refusal) → answered (refusal r) (world no_house m₀) ≡ boot_call pages q frames m₀ → Refuses (refusal r)
  unfolding ran_of after_boot boot_call night_refusal
  boot_refuses r e m l =
      let i = verdict_is (refusal r) no_house e in
      let t : eqb (boot_verdict pages q frames 16384).number 0 ≡ false = ap (λ (v : Verdict). eqb v.number 0) (sym i) ∙ not_0 r in
      simp (l, t) i

  module _ (d : ℕ) (h : House) (e : answered (verdict 0 d) (world h m₀) ≡ boot_call pages q frames m₀) where
    booted : (boot_verdict pages q frames 16384).number ≡ 0
    booted = ap (λ (v : Verdict). v.number) (sym (verdict_is (verdict 0 d) h e))

    house_is : h ≡ booted_house pages q frames 16384
    unfolding boot_call
    house_is =
        let t : eqb (boot_verdict pages q frames 16384).number 0 ≡ true = eq-eqb (boot_verdict pages q frames 16384).number 0 booted in
        simp (long, t) at (ap (λ (a : Answered). a.world.house) e)

    -- run refuses, or nothing
    pub run_refuses : (x : Result Unit Refusal) → ((m : List ℕ) → length m ≡ 16384 → verdict_of run x ≡ run_verdict (world h m) run) → Refuses (verdict_of 0 x)
    unfolding ran_of after_boot boot_call run_call night_refusal
    run_refuses x f m l =
        let t : eqb (boot_verdict pages q frames 16384).number 0 ≡ true = eq-eqb (boot_verdict pages q frames 16384).number 0 booted in
        let v = run_verdict (world (booted_house pages q frames 16384) m) run in
        let g : verdict_of run x ≡ v = f m l ∙ ap (λ (y : House). run_verdict (world y m) run) house_is in
        simp (l, t) (told x v g)
      where
        told : (x : Result Unit Refusal) (v : Verdict) → verdict_of run x ≡ v → verdict_of 0 x ≡ (when eqb v.number 0 then verdict 0 0 else v)
        told (Ok u) v g = rw (← g) refl
        told (Err r) v g = rw (← g, not_0 r) refl

    pub boot_lists : 1 ≤ length pages → Listed pages frames
    boot_lists l =
        let b = (fitting pages q frames 16384 booted).0 in
        record { some = omega arith; few = b.few.count; pages = b.few.pages; lists = b.long }

pub listed_on : {L : Type 0} (x : Result Unit Refusal) → L → OnOk x L
listed_on (Ok u) l = l
listed_on (Err r) l = tt

-- ---- where nothing is refused, the night runs what is written

runs_of : (a : Answered) → night_refusal a ≡ verdict 0 0 → a.verdict.number ≡ 0
unfolding night_refusal
runs_of a e =
    by_test (eqb a.verdict.number 0)
    (λ t. eqb-true a.verdict.number 0 t)
    (λ t. simp t at (ap (λ (v : Verdict). v.number) e))

pub night_runs : (f : File) → Sayable f → night_refusal (ran_of (right f)) ≡ verdict 0 0 → Runs f
night_runs f s e = ap (λ (r : Reading). (ran_of r).verdict.number) (says_all.whole f s) ∙ runs_of (ran_of (right f)) e

-- The promises used on a closed night: three partitions, of which 1 is stopped, and 0 has a shadow that is filled and a store to its table before it. The house is
-- saved, read back, and goes on for three steps.
use mathlib.Core.Path.{◌≡◌, ap, ◌∙◌}
use native.Mathlib.Omega.{arith}
use lib.ListN.{get_or}
use Rattle.addresses.specs.Entries.{entry_of}
use Rattle.house.specs.House.{partition, shadow_of}
use Rattle.house.specs.Boot.{verdict}
use Rattle.house.specs.Turns.{World, host_steps}
use Rattle.house.specs.Calls.{answered, run_call}
use Rattle.demands.specs.Histories.{history}
use Rattle.demands.proofs.Instances.ClosedCalls.{run_verdict_lem}
use Rattle.demands.proofs.Histories.Grown.{standing}
use Rattle.staleness.proofs.Promises.{grown_pass}
use Rattle.engines.proofs.Promises.{steps_alike}
use Rattle.engines.proofs.Instances.{three, three_words, third, ended, grown_third, fit_of, third_left, filled_then_changed, mixed_counters}
use Rattle.save.specs.Saved.{file_of}
use Rattle.save.specs.Promises.{emptied, emptyings}
use Rattle.save.proofs.Lives.{restores, grown_savable, saves}
use Rattle.night_run.specs.Ran.{after_boot}
use Rattle.resume.specs.Resumed.{full_runs, resumed}
use Rattle.resume.proofs.Promises.{one_run, never_stopped}

-- what is read back: an emptying of each of the three
pub read_back : emptied third ≡ history (emptyings third.house.count) third
read_back =
    let v = grown_savable three three_words third grown_third in
    let k = saves third v in
    restores third (emptied third) (file_of third) v.typed k.0 k.1

-- ---- it goes on as if it had never stopped

goes_on : emptied (host_steps 3 (emptied third)) ≡ ended
goes_on =
    never_stopped three three_words third grown_third 3
    ∙ steps_alike third (standing three third grown_third).shaped (grown_pass three three_words third grown_third).0 3

-- by the page table, which its store made another, though the shadow that was not saved had the old entry
pub stored : (get_or (shadow_of third.house 0) 1 0 ≡ entry_of 1 0) × (get_or (host_steps 3 (emptied third)).memory 1025 0 ≡ 0x800)
stored = (filled_then_changed.0, ap (λ (w : World). get_or w.memory 1025 0) goes_on ∙ filled_then_changed.1)

-- and each of the three has made as many steps
pub counters :
    let h = (host_steps 3 (emptied third)).house in
    ((partition h 0).counter ≡ 8) × ((partition h 1).counter ≡ 3) × ((partition h 2).counter ≡ 6)
counters = (
  ap (λ (w : World). (partition w.house 0).counter) goes_on ∙ mixed_counters.0,
  ap (λ (w : World). (partition w.house 1).counter) goes_on ∙ mixed_counters.1,
  ap (λ (w : World). (partition w.house 2).counter) goes_on ∙ mixed_counters.2,
)

-- ---- the runs that make them

three_run : (resumed (answered (verdict 0 0) third) 3).verdict.number ≡ 0
unfolding resumed full_runs after_boot run_call
three_run = rw (run_verdict_lem third (fit_of third grown_third) 3 (omega arith) (λ z. omega (arith, third_left)))

pub in_one : (resumed (answered (verdict 0 0) third) 3).world ≡ host_steps 3 third
in_one = one_run third 3 three_run

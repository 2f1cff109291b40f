-- The examples hold: the single claim about the audit.
use mathlib.Core.Path.{◌≡◌, refl}
use mathlib.Core.Bool.{Bool, true, false}
use mathlib.Core.List.{List, [], ◌∷◌, ◌++◌}
use Prim.Native.Nat.{ℕ}
use Rattle.dlx.specs.Examples.{all, same}
use Rattle.dlx.specs.Parts.{inner, outer}
use Rattle.addresses.specs.Entries.{judged}
use Rattle.addresses.specs.Walk.{walked}
use Rattle.addresses.specs.Memory.{hosted, given, stale}
use Rattle.house.specs.Lists.{list_from, any, first_from}
use Rattle.house.specs.House.{fresh_shadows}
use Rattle.house.specs.Damage.{outside_limits, frame_twice, turn_wrong, registers_wrong, shadow_wrong, unused_wrong, partition_used, queues_wrong, damaged}
use Rattle.house.specs.Boot.{first_of, sum}
use Rattle.staleness.specs.Audit.{audit_verdict, first_stale, audit_call, count_of, stale_counts, counts_call, mended_one, mended_to, mended, mend_call}
use Rattle.staleness.specs.Examples.{finds, passes, finding, leaves, tells, mends_to, audits, partitions, mendings, refusals, several}
use Rattle.staleness.proofs.SixStale.{entered_so, six_audit, six_count, six_mend, six_left, outgrown_audit, outgrown_count, outgrown_mend}

joined : (a b : List Bool) → all a ≡ true → all b ≡ true → all (a ++ b) ≡ true
unfolding all
joined [] b e f = f
joined (true ∷ a) b e f = joined a b e f
joined (false ∷ a) b e f = cc

-- all that the examples compute with
computing : ℕ
unfolding all same inner outer judged walked hosted given stale list_from any first_from fresh_shadows outside_limits frame_twice turn_wrong registers_wrong shadow_wrong unused_wrong partition_used queues_wrong damaged first_of sum audit_verdict first_stale audit_call count_of stale_counts counts_call mended_one mended_to mended mend_call finds passes finding leaves tells audits partitions mendings refusals
computing = 0

pub checked : all (audits ++ (partitions ++ (mendings ++ (refusals ++ several)))) ≡ true
checked = joined audits _ of_audits (joined partitions _ of_partitions (joined mendings _ of_mendings (joined refusals several of_refusals of_several)))
  where
    of_audits : all audits ≡ true
    of_audits = unfold computing in refl

    of_partitions : all partitions ≡ true
    of_partitions = unfold computing in refl

    of_mendings : all mendings ≡ true
    of_mendings = unfold computing in refl

    of_refusals : all refusals ≡ true
    of_refusals = unfold computing in refl

    -- what is computed of its house stands in SixStale
    of_several : all several ≡ true
    of_several =
        unfold several finds tells mends_to in
        simp (six_audit, six_count, six_mend, six_left, outgrown_audit, outgrown_count, outgrown_mend, entered_so) (unfold all same in refl)

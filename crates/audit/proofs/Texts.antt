-- Which text an answer gives.
use mathlib.Core.Path.{◌≡◌, refl, sym, ap, ◌∙◌}
use mathlib.Core.Bool.{true, true≢false}
use mathlib.Core.List.{List}
use Prim.Native.Nat.{ℕ, ◌≤◌}
use borrow.Author.Tests.{eq-eqb}
use lib.ListN.{replicate}
use Rattle.dlx.proofs.Tests.{by_eq}
use Rattle.house.specs.Boot.{verdict}
use Rattle.house.specs.Turns.{World}
use Rattle.house.specs.Calls.{answered}
use Rattle.house.specs.Refusals.{refusal}
use Rattle.house.specs.declared.refusal.Refusal.{Refusal}
use Rattle.house.proofs.Refusals.{not_0}
use Rattle.house.proofs.Damage.Undamaged.{count_within}
use Rattle.report.specs.Report.{refusal as refusal_text}
use Rattle.staleness.specs.Audit.{audit_verdict, finding, audit_call, Counts, counts, counts_call}
use Rattle.staleness.specs.declared.Stale.{Stale}
use Rattle.staleness.proofs.Verdicts.{audit_done, counts_refused, counts_detail}
use Rattle.audit.specs.Printed.{lines_to, audited, printed, first_line, first_text, named}

-- ---- the text of an answer

pub text_refused : (r : Refusal) (w : World) → refusal_text (refusal r) ≡ printed (answered (refusal r) w)
unfolding printed
text_refused r w = rw (not_0 r) refl

module _ (d : ℕ) (w : World) where
  pub text_unaudited : (r : Refusal) → counts (refusal r).number (replicate 8 0) ≡ counts_call w → refusal_text (refusal r) ≡ printed (answered (verdict 0 d) w)
  unfolding printed audited
  text_unaudited r e = rw (← e, not_0 r, counts_detail w r e) refl

  pub text_audited : (each : List ℕ) → counts 0 each ≡ counts_call w → lines_to each w.house.count ≡ printed (answered (verdict 0 d) w)
  unfolding printed audited
  text_audited each e = rw (← e) refl

  pub named_first : (entry : Stale) → finding 0 true entry.partition entry.page ≡ audit_call w → first_line entry.partition entry.page ≡ named (answered (verdict 0 d) w)
  unfolding named first_text
  named_first entry e = rw (← e) refl

-- an audit that is done counted the entries of at most 8 partitions
pub few : (w : World) (each : List ℕ) → counts 0 each ≡ counts_call w → w.house.count ≤ 8
few w each e =
    by_eq (audit_verdict w 0).number 0
    (λ y. (count_within w.house (audit_done w 0 y).whole).1)
    (λ y. absurd (y (ap (λ (x : Counts). x.number) (sym (counts_refused w _ refl y) ∙ sym e))))

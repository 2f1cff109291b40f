-- The words shown of a read-out's output are words of it; and the text of an audit.
use Rattle.std.proofs.Common.{◌≡◌, ℕ, ◌≤◌, not, eqb, ltb, leb, List, length, refl, sym, ap, subst, append-nil, arith, ltb-false, eqb-true, leb-true}
use Rattle.std.specs.Prelude.{Option, None, Some, Result, Ok, Err, false}
use Rattle.std.specs.Option.{option_map, MatchOption, IsSomeAnd}
use Rattle.dlx.proofs.Kept.{either}
use Rattle.house.specs.House.{pages_of}
use Rattle.house.specs.Damage.{damaged}
use Rattle.house.specs.Boot.{Verdict, verdict, first_of}
use Rattle.house.specs.Turns.{World, world}
use Rattle.house.specs.declared.House.{House}
use Rattle.house.specs.Calls.{Answered, answered, Read, beyond_of, read_verdict, read_call}
use Rattle.house.specs.Refusals.{refusal, answer_of}
use Rattle.house.specs.declared.Done.{Done}
use Rattle.house.specs.declared.refusal.Refusal.{Refusal}
use Rattle.house.proofs.Refusals.{not_0}
use Rattle.house.specs.Lists.{list_from}
use Rattle.house.proofs.Lists.ByRule.{length_list_from}
use Rattle.drill_script.specs.declared.commands.Command.{Command}
use Rattle.drill_script.specs.Commands.{number_of}
use Rattle.drill_script.specs.Words.{marked_of}
use Rattle.drill_text.specs.Lines.{stale_of}
use Rattle.staleness.specs.Audit.{finding, found, audit_call}
use Rattle.staleness.specs.declared.Stale.{Stale}
use Rattle.staleness.proofs.Verdicts.{audit_detail}
use Rattle.drill.specs.Told.{most_told, most_read, told_of, answer_told, shown_of, shown_by}
use Rattle.decimal.specs.Texts.{Puts}
use Rattle.decimal.proofs.Texts.{◌then◌, roomy}
use Rattle.drill.specs.Player.{read_left, read_out_of, read_text_of, audit_text_of}

-- a read-out that is done has room for its words
abbrev Roomy : List ℕ → Verdict → Type 0
Roomy out v = v.number ≡ 0 → v.detail ≤ length out

done_roomy : (w : World) (i a count : ℕ) (out : List ℕ) → Roomy out (read_verdict w i a count out)
unfolding read_verdict first_of
done_roomy w i a count out =
    either (Roomy out) (damaged w.house) (λ _ e. absurd (omega arith)) λ _.
    either (Roomy out) (not (eqb (length w.memory) w.house.words)) (λ _ e. absurd (omega arith)) λ _.
    either (Roomy out) (leb w.house.count i) (λ _ e. absurd (omega arith)) λ _.
    either (Roomy out) (beyond_of (pages_of w.house i) a count) (λ _ e. absurd (omega arith)) λ _.
    either (Roomy out) (ltb (length out) count) (λ _ e. absurd (omega arith)) λ t e.
    ltb-false (length out) count t

pub shown_few : (n d : ℕ) → shown_of n d ≤ 8
unfolding shown_of
shown_few n d =
    either (λ x. x ≤ 8) (eqb n 0)
    (λ _. either (λ x. x ≤ 8) (leb d 8) (λ t. leb-true d 8 t) (λ _. omega arith))
    (λ _. omega arith)

shown_within : (out : List ℕ) (n d : ℕ) → Roomy out (verdict n d) → shown_of n d ≤ length out
unfolding shown_of
shown_within out n d h =
    either (λ x. x ≤ length out) (eqb n 0)
    (λ e. either (λ x. x ≤ length out) (leb d 8) (λ _. h (eqb-true n 0 e)) (λ _. omega arith))
    (λ _. omega arith)

pub shown_in : (c : Command) (more : List ℕ) (h : House) (m o : List ℕ) (words : ℕ) (a : Answered) → read_left a o ≡ read_out_of c more h m words → shown_by a.verdict ≤ words
unfolding read_out_of read_call
shown_in c more h m o words a e =
    let out = list_from marked_of 0 words in
    let v : Roomy out a.verdict = subst (λ (r : Read). Roomy out r.verdict) (sym e) (done_roomy _ _ _ _ out) in
    omega (arith, shown_within out a.verdict.number a.verdict.detail v, length_list_from marked_of 0 words)

-- an answer has the memory that it left
pub memory_left : (g : House) (a : Result Done Refusal) (m : List ℕ) → (answer_of g a m).world.memory ≡ m
memory_left g (Ok done) m = refl
memory_left g (Err r) m = refl

-- an output of as many words
pub as_many : {s t : List ℕ} {u v : ℕ} (c : Command) (more : List ℕ) (h : House) (m : List ℕ) {k l q : ℕ} → k ≡ l → Puts s u t v (read_text_of c more h m k) q → Puts s u t v (read_text_of c more h m l) q
as_many {s} {t} {u} {v} c more h m {k} {l} {q} e p = subst (λ (x : ℕ). Puts s u t v (read_text_of c more h m x) q) e p

-- ---- an audit's text: refused, and done

abbrev pub pair_of : Option Stale → Option (ℕ × ℕ)
pair_of first = option_map (λ (s : Stale). (s.partition, s.page)) first

pub pair_is : (first : Option Stale) (o : Option (ℕ × ℕ)) (P : Stale → ℕ × ℕ → Type 0) → MatchOption first (o ≡ None) (λ s. IsSomeAnd o (P s)) → ((s : Stale) (p : ℕ × ℕ) → P s p → p ≡ (s.partition, s.page)) → o ≡ pair_of first
pair_is None o P e f = e
pair_is (Some s) None P e f = elim e [ ]
pair_is (Some s) (Some p) P e f = ap (λ (x : ℕ × ℕ). Some x) (f s p e)

module _ {s t : List ℕ} {u v : ℕ} (c : Command) (h : House) (m : List ℕ) where
  pub audit_refused : (r : Refusal) → finding (refusal r).number false 0 0 ≡ audit_call (world h m) → Puts s u t v (answer_told (number_of c.op) (answered (refusal r) (world h m)) m) most_told → Puts s u t v (audit_text_of c h m) most_read
  unfolding audit_text_of
  audit_refused r e p =
      let z = audit_detail (world h m) r e in
      rw (← e, not_0 r, append-nil (told_of (number_of c.op) (refusal r).number 0 h m)) (roomy most_read (rw z at p) (omega arith))

  pub audit_told : {x : List ℕ} {w : ℕ} (first : Option Stale) → found first ≡ audit_call (world h m) → Puts s u t v (told_of (number_of c.op) 0 0 h m) most_told → Puts t v x w (stale_of (pair_of first)) 48
      → Puts s u x w (audit_text_of c h m) most_read
  unfolding audit_text_of
  audit_told None e p q = rw (← e) (roomy most_read (p then q) (omega arith))
  audit_told (Some s) e p q = rw (← e) (roomy most_read (p then q) (omega arith))

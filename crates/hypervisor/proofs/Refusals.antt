-- What the types say of a house, a run of no steps, and what a read-out leaves.
use Rattle.std.proofs.Common.{◌≡◌, ℕ, ◌<◌, ◌≤◌, List, [], ◌∷◌, map, length, sym, ap, refl, ◌∙◌, rules}
use denote.Laws.{Is}
use denote.Struct.Declared.{row}
use denote.Struct.Laws.{val}
use lib.ListN.{length-map}
use Rattle.house.specs.contracts.House.{the_type}
use Rattle.house.proofs.House.TheLaws.{the_laws}
use Rattle.house.specs.Boot.{Verdict, verdict}
use Rattle.house.specs.Turns.{World, host_steps}
use Rattle.house.specs.Sound.{Shaped}
use Rattle.house.specs.Calls.{answered, read, run_verdict, one_verdict, read_verdict, run_call, read_out, read_call}
use Rattle.house.specs.declared.House.{House}
use Rattle.house.specs.Refusals.{refusal}
use Rattle.house.specs.declared.refusal.Refusal.{Refusal}
use Rattle.house.proofs.Refusals.{not_0, leaves_given, leaves_done}
use Rattle.house.proofs.Damage.Undamaged.{count_within}
use Rattle.house.proofs.Calls.Verdicts.{one_done}

-- the length of an array of structs
unmapped : {A B : Type 0} (f : A → B) (l : List A) (n : ℕ) → length (map f l) ≡ n → length l ≡ n
unmapped f l n e = sym (length-map l f) ∙ e

-- what a function is told of a parameter h
abbrev pub Told_house : House → Type 0
Told_house h = Is (row the_type) h (val the_type the_laws h ∷ [])

pub shaped : (h : House) → Told_house h → Shaped h
shaped h g = record { running = search (rules, g); parts = search (rules, unmapped, g); regs = search (rules, g); frames = search (rules, g); shadows = search (rules, g); tickets = search (rules, g); waiting = search (rules, g) }

stays : (w : World) (k : ℕ) → k ≡ 0 → w ≡ host_steps k w
unfolding host_steps
stays w k z = rw z refl

pub no_steps : (w : World) (k : ℕ) → k ≡ 0 → verdict 0 k ≡ run_verdict w k → answered (verdict 0 k) w ≡ run_call w k
unfolding run_call
no_steps w k z e = ap (answered (verdict 0 k)) (stays w k z) ∙ leaves_done w (host_steps k w) k e

-- the partition that a start, stop or empty finds
pub there : (h : House) (i : ℕ) → verdict 0 0 ≡ one_verdict h i → i < h.count
there h i e = (one_done h i (ap (λ (v : Verdict). v.number) (sym e))).there

pub few : (h : House) (i : ℕ) → verdict 0 0 ≡ one_verdict h i → h.count ≤ 8
few h i e = (count_within h (one_done h i (ap (λ (v : Verdict). v.number) (sym e))).whole).1

-- what a read-out leaves
module _ (w : World) (i a k : ℕ) (out : List ℕ) where
  pub output_given : (r : Refusal) → refusal r ≡ read_verdict w i a k out → read (refusal r) w.house out ≡ read_call w i a k out
  unfolding read_call
  output_given r e = rw (← e, not_0 r) refl

  pub output_done : verdict 0 k ≡ read_verdict w i a k out → read (verdict 0 k) w.house (read_out w i a k out) ≡ read_call w i a k out
  unfolding read_call
  output_done e = rw (← e) refl

-- what the calls' answers cite
pub ruleset of_run = (leaves_given, leaves_done, no_steps)

pub ruleset of_one = (leaves_given, leaves_done, there, few)

pub ruleset of_read = (output_given, output_done)

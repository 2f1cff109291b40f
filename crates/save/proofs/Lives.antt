-- Histories with saves and restores.
use mathlib.Core.Path.{◌≡◌, refl, sym, ap, subst, ◌∙◌}
use mathlib.Core.Bool.{true, not, ◌&&◌}
use mathlib.Core.List.{List, [], ◌∷◌, ◌++◌, append_assoc, append-nil}
use Prim.Native.Nat.{ℕ, zero, suc, ◌+◌, ◌≤◌}
use native.Mathlib.Omega.{arith}
use borrow.Author.Tests.{eqb-true, eqb-false, eq-eqb, ne_eqb}
use lib.Dec.{eqb}
use lib.ListN.{length, take, drop, replicate, length-append, length-drop}
use lib.Seq.{length-take-le, take-length}
use Rattle.dlx.proofs.Tests.{by_test}
use Rattle.house.specs.House.{no_house}
use Rattle.house.specs.Boot.{verdict, first_of, booted_house}
use Rattle.house.specs.Turns.{World, world}
use Rattle.house.specs.Calls.{Answered, answered, one_verdict, empty_call, emptied_house}
use Rattle.house.specs.Sound.{Typed}
use Rattle.demands.specs.Histories.{Boot, booted, Call, empty, after, history, turns_in, steps_of, turns_made, steps_made, lone_of, log_in, log_of}
use Rattle.demands.proofs.Booted.FreshHouse.{booted_ready, booted_whole}
use Rattle.demands.proofs.Histories.Grown.{history_then}
use Rattle.demands.proofs.Histories.Stays.{history_stays}
use Rattle.save.specs.Saved.{record_of, turn_words, file_of}
use Rattle.save.specs.Reading.{Progress, Reading, reading, begun, refused_by, over, may_come, content_right, taken, fed, lent}
use Rattle.save.specs.Calls.{piece_length, save_verdict, save_call, read_piece, read_verdict, finished}
use Rattle.save.specs.Promises.{Savable, emptied, whole, pieces_read, SaveOf, RestoreOf, emptyings, Restores, Life, begins, calls, resumes, LivesGrown, EmptyingsCountNothing, Refused, brought, Saves, GrownSavable}
use Rattle.save.proofs.Machine.{stuck, take_record}
use Rattle.save.proofs.Emptied.{all_emptied}
use Rattle.save.proofs.RoundTrip.{turn_below, reads_back}
use Rattle.save.proofs.Promises.{cut_anywhere, read_back, file_bytes, save_done, SaveDone, save_count, save_output, brought_is, saved_file_lem}

-- ---- a memory of another size is refused as soon as kind 5 is read

module _ (w : World) (s : Savable w) (m : List ℕ) where
  turn_first : (rest : List ℕ) → fed (begun m) (record_of 5 (turn_words w.house) ++ rest) ≡ fed (reading (taken (begun m).progress 5 (turn_words w.house)) []) rest
  unfolding may_come content_right turn_words
  turn_first rest =
      take_record (begun m).progress (record { right = refl; more = refl }) 5 (turn_words w.house) rest (omega arith) (omega arith)
      (turn_below w s.typed s.whole s.size w.memory s.size) refl refl

  wrong_size : (length m ≡ w.house.words → ⊥) → (finished (fed (begun m) (file_of w))).verdict.number ≡ 9
  unfolding file_of finished read_verdict first_of taken turn_words
  wrong_size n =
      let e = ne_eqb (length m) w.house.words n in
      let r : (taken (begun m).progress 5 (turn_words w.house)).refusal ≡ 9 = simp e in
      ap (λ (x : Reading). (finished x).verdict.number)
      (turn_first _ ∙ stuck (reading (taken (begun m).progress 5 (turn_words w.house)) []) _ (λ z. absurd (omega (arith, r))))
      ∙ simp e

  right_size : (w' : World) → finished (fed (begun m) (file_of w)) ≡ answered (verdict 0 0) w' → length m ≡ w.house.words
  right_size w' e =
      by_test (eqb (length m) w.house.words)
      (λ t. eqb-true (length m) w.house.words t)
      (λ t. absurd (let z = wrong_size (eqb-false (length m) w.house.words t) in let y : (finished (fed (begun m) (file_of w))).verdict.number ≡ 0 = ap (λ (a : Answered). a.verdict.number) e in omega arith))

-- ---- a restore that counts

pub restores : Restores
restores w w' f typed s r =
    let d = save_done w 0 [] s.done in
    let v : Savable w = record { typed = typed; whole = d.whole; size = d.size } in
    let m = r.memory in
    let e : fed (begun m) (file_of w) ≡ pieces_read (begun m) r.pieces =
    ap (fed (begun m)) (sym (saved_file_lem w f s) ∙ sym r.same) ∙ sym (cut_anywhere m r.pieces (rw (r.same ∙ saved_file_lem w f s) (file_bytes w))) in
    let done : finished (fed (begun m) (file_of w)) ≡ answered (verdict 0 0) w' = ap finished e ∙ r.done in
    let back = reads_back w typed d.whole d.size m (right_size w v m w' done) in
    ap (λ (a : Answered). a.world) (sym done ∙ back) ∙ sym (all_emptied w typed d.whole)

pub lives_grown : LivesGrown
unfolding history
lives_grown b t cs w begins = refl
lives_grown b t cs w (calls {cs = ds} {w = v} l c) = ap (after c) (lives_grown b t ds v l) ∙ sym (history_then ds (c ∷ []) (booted b))
lives_grown b t cs w (resumes {cs = ds} {w = v} {w' = v'} {f = f} l s r) =
    let e = lives_grown b t ds v l in
    let y : Typed v = subst Typed (sym e) (history_stays (booted b) (booted_ready b t).typed (booted_whole b) ds).typed in
    restores v v' f y s r ∙ ap (history (emptyings v.house.count)) e ∙ sym (history_then ds (emptyings v.house.count) (booted b))

-- every history is a life, and whatever a life comes to may be saved
pub lives_on : (b : Boot) (cs ds : List Call) (w : World) → Life b ds w → Life b (ds ++ cs) (history cs w)
unfolding history
lives_on b [] ds w l = subst (λ (x : List Call). Life b x w) (sym (append-nil ds)) l
lives_on b (c ∷ cs) ds w l = subst (λ (x : List Call). Life b x (history cs (after c w))) (append_assoc ds (c ∷ []) cs) (lives_on b cs (ds ++ (c ∷ [])) (after c w) (calls l c))

booted_size : (b : Boot) → length (booted b).memory ≡ (booted b).house.words
unfolding booted_house
booted_size b = refl

pub grown_savable : GrownSavable
grown_savable b t w g =
    let s = history_stays (booted b) (booted_ready b t).typed (booted_whole b) g.0 in
    subst Savable (sym g.1) (record { typed = s.typed; whole = s.whole; size = s.size ∙ booted_size b ∙ sym s.layout.words })

-- ---- emptyings count for nothing

pub steps_then : (cs ds : List Call) (w : World) → steps_made (cs ++ ds) w ≡ steps_made cs w + steps_made ds (history cs w)
unfolding steps_made history
steps_then [] ds w = omega arith
steps_then (c ∷ cs) ds w = omega (arith, steps_then cs ds (after c w))

pub turns_then : (cs ds : List Call) (w : World) (i : ℕ) → turns_made (cs ++ ds) w i ≡ turns_made cs w i + turns_made ds (history cs w) i
unfolding turns_made history
turns_then [] ds w i = omega arith
turns_then (c ∷ cs) ds w i = omega (arith, turns_then cs ds (after c w) i)

pub log_then : (cs ds : List Call) (w : World) → log_of (cs ++ ds) w ≡ log_of cs w ++ log_of ds (history cs w)
unfolding log_of history
log_then [] ds w = refl
log_then (c ∷ cs) ds w = ap (λ l. log_in (steps_of c w) w ++ l) (log_then cs ds (after c w)) ∙ sym (append_assoc (log_in (steps_of c w) w) (log_of cs (after c w)) (log_of ds (history cs (after c w))))

empty_lone : (w : World) (k i : ℕ) → lone_of (after (empty k) w) i ≡ lone_of w i
unfolding after empty_call lone_of emptied_house
empty_lone w k i = by_test (eqb (one_verdict w.house k).number 0) (λ t. rw t) (λ t. rw t)

pub emptyings_nothing : EmptyingsCountNothing
unfolding emptyings history steps_made turns_made log_of steps_of turns_in log_in
emptyings_nothing zero w = record { steps = refl; turns = λ i. refl; log = refl; lone = λ i. refl }
emptyings_nothing (suc n) w =
    let x = emptyings_nothing n w in
    let v = history (emptyings n) w in
    record {
      steps = steps_then (emptyings n) (empty n ∷ []) w ∙ omega (arith, x.steps);
      turns = λ i. turns_then (emptyings n) (empty n ∷ []) w i ∙ omega (arith, x.turns i);
      log = log_then (emptyings n) (empty n ∷ []) w ∙ rw x.log;
      lone = λ i. ap (λ (z : World). lone_of z i) (history_then (emptyings n) (empty n ∷ []) w) ∙ empty_lone v n i ∙ x.lone i;
    }

-- ---- refusals

refused_back : (s : Reading) → ((finished s).verdict.number ≡ 0 → ⊥) → (finished s).world ≡ world no_house s.progress.memory
unfolding finished
refused_back s n = rw (ne_eqb (read_verdict s.progress).number 0 n)

nine : (p : Progress) → p.refusal ≡ 9 → finished (reading p []) ≡ answered (verdict 9 0) (world no_house p.memory)
unfolding finished read_verdict first_of
nine p e = rw (eq-eqb p.refusal 9 e)

other_size_lem : (s : Reading) (m piece : List ℕ) → s.progress.refusal ≡ 0 → s.progress.opened ≡ true → (length m ≡ s.progress.house.words → ⊥) →
    finished (read_piece s m piece) ≡ answered (verdict 9 0) (world no_house m)
unfolding read_piece lent
other_size_lem s m piece r o n =
    let p = s.progress in
    let q = refused_by 9 (over p m) in
    let t : (eqb p.refusal 0 && p.opened && not (eqb (length m) p.house.words)) ≡ true = simp (r, o, ne_eqb (length m) p.house.words n) in
    let l : lent s m ≡ reading q [] = rw t in
    ap (λ (x : Reading). finished (fed x piece)) l
    ∙ ap finished (stuck (reading q []) piece (λ z. absurd (omega arith)))
    ∙ nine q refl

save_none : (w : World) (at : ℕ) (out : List ℕ) → ((save_call w at out).verdict.number ≡ 0 → ⊥) →
    ((save_call w at out).count ≡ 0) × ((save_call w at out).house ≡ w.house) × ((save_call w at out).output ≡ out)
unfolding save_call
save_none w at out n = let e = ne_eqb (save_verdict w).number 0 n in (rw e, refl, rw e)

pub refused : Refused
refused = record { reading = refused_back; sizes = other_size_lem; saving = save_none }

-- ---- every savable house

module _ (w : World) (s : Savable w) where
  done_here : (save_call w 0 []).verdict.number ≡ 0
  unfolding save_call save_verdict first_of
  done_here = simp (s.whole, eq-eqb (length w.memory) w.house.words s.size)

  d : SaveDone w
  d = record { whole = s.whole; size = s.size }

  -- byte by byte
  bytewise : (k at : ℕ) → at + k ≤ length (file_of w) → length (brought w at (replicate k (0 ∷ []))) ≡ k
  unfolding brought
  bytewise zero at l = refl
  bytewise (suc k) at l =
      let n : (save_call w at (0 ∷ [])).count ≡ 1 = save_count w d at (0 ∷ []) ∙ omega arith in
      let e : length (take 1 (save_call w at (0 ∷ [])).output) ≡ 1 =
      ap (λ (x : List ℕ). length (take 1 x)) (save_output w d at (0 ∷ [])) ∙ one (take (piece_length w at 1) (drop at (file_of w))) (drop (piece_length w at 1) (0 ∷ [])) (length-take-le (piece_length w at 1) (drop at (file_of w)) (omega (arith, length-drop at (file_of w))) ∙ omega arith) in
      rw n (length-append (take 1 (save_call w at (0 ∷ [])).output) (brought w (at + 1) (replicate k (0 ∷ []))) ∙ omega (arith, e, bytewise k (at + 1) (omega arith)))
    where
      one : (a b : List ℕ) → length a ≡ 1 → length (take 1 (a ++ b)) ≡ 1
      one [] b q = absurd (omega arith)
      one (x ∷ a) b q = refl

  save_of : SaveOf w (file_of w)
  save_of =
      let F = file_of w in
      let outs : List (List ℕ) = replicate (length F) (0 ∷ []) in
      let k = bytewise (length F) 0 (omega arith) in
      record {
        outputs = outs;
        done = done_here;
        pieces = sym (brought_is w d outs 0 ∙ ap (λ (x : ℕ). take x F) k ∙ take-length F);
        last = save_count w d (length F) _ ∙ omega arith;
      }

  restore_of : RestoreOf (file_of w) (emptied w)
  unfolding whole
  restore_of = record {
    memory = w.memory;
    pieces = file_of w ∷ [];
    same = append-nil (file_of w);
    done = read_back w s w.memory s.size (file_of w ∷ []) (append-nil (file_of w));
  }

pub saves : Saves
saves w s = (save_of w s, restore_of w s)

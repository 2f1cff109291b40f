-- What a saved file is worth: the theorems.
use mathlib.Core.Path.{◌≡◌, refl, sym, ap, subst, ◌∙◌}
use mathlib.Core.Bool.{true, false, not, ◌&&◌}
use mathlib.Core.List.{List, [], ◌∷◌, ◌++◌, append_assoc, append-nil}
use Prim.Native.Nat.{ℕ, ◌+◌, ◌/◌}
use native.Mathlib.Omega.{arith}
use borrow.Author.Tests.{eqb-true, eq-eqb}
use lib.Dec.{eqb}
use lib.ListN.{length, get_or, take, drop, length-append, length-drop}
use lib.Seq.{take_at, take-add, drop-drop, take_all, length-take-le}
use Rattle.dlx.specs.Choice.{when◌then◌else◌}
use Rattle.dlx.proofs.Tests.{by_test}
use Rattle.house.specs.House.{no_house}
use Rattle.house.specs.Damage.{damaged}
use Rattle.house.specs.Boot.{verdict, first_of}
use Rattle.house.specs.Turns.{World, world}
use Rattle.house.specs.Calls.{Answered, answered}
use Rattle.housefile.specs.Records.{words_of}
use Rattle.save.specs.Saved.{little, record_of, records, turn_words, guest_words, ticket_words, frame_words, file_of}
use Rattle.save.specs.Reading.{Progress, Reading, begun, fed, lent}
use Rattle.save.specs.Calls.{piece_length, save_verdict, save_call, read_piece, read_verdict, finished}
use Rattle.save.specs.Promises.{Savable, Bytes, whole, pieces_read, ReadBack, OneFile, GivesWhole, OneHouse, CutAnywhere, right_records, RightAlone, brought, SaveOf}
use Rattle.save.proofs.Machine.{fed_pieces}
use Rattle.save.proofs.Bytes.{below_left, below_append, words_bytes, record_below, records_below}
use Rattle.save.proofs.Exact.{Good}
use Rattle.save.proofs.Bytewise.{Exact, exact_fed, exact_begun}
use Rattle.save.proofs.RoundTrip.{turn_below, reads_back}

-- ---- pieces

lent_right : (m₀ : List ℕ) (p : Progress) → Good m₀ p → (eqb p.refusal 0 && p.opened && not (eqb (length p.memory) p.house.words)) ≡ false
lent_right m₀ p g =
    by_test (eqb p.refusal 0)
    (λ r. by_test p.opened
    (λ o. let e = eq-eqb (length p.memory) p.house.words (g.sized (eqb-true p.refusal 0 r) o) in simp (r, o, e))
    (λ o. simp (r, o)))
    (λ r. simp r)

lent_same : (m₀ : List ℕ) (s : Reading) → Good m₀ s.progress → lent s s.progress.memory ≡ s
unfolding lent
lent_same m₀ s g = rw (lent_right m₀ s.progress g)

pieces_fed : (m₀ : List ℕ) (xs : List (List ℕ)) (come : List ℕ) (s : Reading) → Exact m₀ come s → Bytes (come ++ whole xs) → pieces_read s xs ≡ fed s (whole xs)
unfolding pieces_read whole fed read_piece
pieces_fed m₀ [] come s x g = refl
pieces_fed m₀ (y ∷ ys) come s x g =
    let e : come ++ y ++ whole ys ≡ come ++ (y ++ whole ys) = append_assoc come y (whole ys) in
    let g' : Bytes (come ++ y ++ whole ys) = rw e g in
    ap (λ (t : Reading). pieces_read (fed t y) ys) (lent_same m₀ s x.good)
    ∙ pieces_fed m₀ ys (come ++ y) (fed s y) (exact_fed m₀ y come s x (below_left 256 (come ++ y) (whole ys) (omega arith) g')) g'
    ∙ sym (fed_pieces s y (whole ys))

pub cut_anywhere : CutAnywhere
cut_anywhere m xs g = pieces_fed m xs [] (begun m) (exact_begun m) g

pub file_bytes : (w : World) → Bytes (file_of w)
unfolding file_of
file_bytes w =
    let h = w.house in
    below_append 256 (record_of 5 (turn_words h)) _ (record_below 5 (turn_words h))
    (below_append 256 (records 6 (guest_words h) h.count) _ (records_below 6 (guest_words h) h.count)
    (below_append 256 (records 7 (ticket_words h) h.count) _ (records_below 7 (ticket_words h) h.count)
    (below_append 256 (records 3 (frame_words w.memory) (h.words / 1024)) _ (records_below 3 (frame_words w.memory) (h.words / 1024))
    (record_below 4 []))))

pub read_back : ReadBack
read_back w s m l xs e = ap finished (cut_anywhere m xs (rw e (file_bytes w)) ∙ ap (fed (begun m)) e) ∙ reads_back w s.typed s.whole s.size m l

-- ---- right records alone

pub right_alone : RightAlone
right_alone m f g l =
    let x = exact_fed m f [] (begun m) (exact_begun m) g in
    let p = (fed (begun m) f).progress in
    record {
      rest = x.rest;
      split = x.split;
      start = x.good.start ∙ omega (arith, ap length x.split, length-append (right_records p) x.rest);
      long = x.good.long;
      kept = λ i l. x.good.kept i (omega arith);
    }

-- ---- a reading that is done

pub record ReadDone (p : Progress) : Type 0 where
  pub right : p.refusal ≡ 0
  pub ended : p.ended ≡ true
  pub whole : damaged p.house ≡ false

read_done : (p : Progress) → (read_verdict p).number ≡ 0 → ReadDone p
unfolding read_verdict first_of
read_done p e =
    by_test (eqb p.refusal 9)
    (λ t. absurd (let z : ◌≡◌ {A = ℕ} 9 0 = simp t at e in omega arith))
    λ t. by_test (eqb p.refusal 0)
    (λ r. by_test p.ended
    (λ d. by_test (damaged p.house)
    (λ h. absurd (let z : ◌≡◌ {A = ℕ} 17 0 = simp (t, r, d, h) at e in omega arith))
    (λ h. record { right = eqb-true p.refusal 0 r; ended = d; whole = h }))
    (λ d. absurd (let z : ◌≡◌ {A = ℕ} 17 0 = simp (t, r, d) at e in omega arith)))
    (λ r. absurd (let z : ◌≡◌ {A = ℕ} 17 0 = simp (t, r) at e in omega arith))

-- the world that it gives
abbrev pub given : Progress → World
given p = world p.house p.memory

done_given : (s : Reading) (w : World) → finished s ≡ answered (verdict 0 0) w → ReadDone s.progress × (given s.progress ≡ w)
unfolding finished
done_given s w e =
    let p = s.progress in
    let z : (read_verdict p).number ≡ 0 = ap (λ (a : Answered). a.verdict.number) e in
    (read_done p z, (let y : world (when eqb (read_verdict p).number 0 then p.house else no_house) p.memory ≡ w = ap (λ (a : Answered). a.world) e in rw (eq-eqb (read_verdict p).number 0 z) at y))

-- all records have come
records_file : (m₀ : List ℕ) (p : Progress) → Good m₀ p → p.ended ≡ true → right_records p ≡ file_of (given p)
unfolding right_records file_of
records_file m₀ p g d =
    let c = g.closed d in
    let o : p.opened ≡ true = by_test p.opened (λ o. o) (λ o. absurd (c.0.some (g.fresh o).0)) in
    simp (o, d, c.0.queues, c.1)

pub one_file : OneFile
one_file m f w g e =
    let s = fed (begun m) f in
    let p = s.progress in
    let x = exact_fed m f [] (begun m) (exact_begun m) g in
    let d = done_given s w e in
    ap file_of (sym d.1)
    ∙ sym (records_file m p x.good d.0.ended)
    ∙ sym (append-nil (right_records p))
    ∙ ap (λ (l : List ℕ). right_records p ++ l) (sym (x.held d.0.right ∙ x.done d.0.ended))
    ∙ sym x.split

pub gives_whole : GivesWhole
gives_whole m f w g e =
    let s = fed (begun m) f in
    let p = s.progress in
    let x = exact_fed m f [] (begun m) (exact_begun m) g in
    let d = done_given s w e in
    let c = x.good.closed d.0.ended in
    let o : p.opened ≡ true = by_test p.opened (λ o. o) (λ o. absurd (c.0.some (x.good.fresh o).0)) in
    subst (λ (v : World). (damaged v.house ≡ false) × (length v.memory ≡ v.house.words) × (length v.memory ≡ length m)) d.1
    (d.0.whole, x.good.sized d.0.right o, x.good.long)

-- ---- one house

words_read : (w : World) → Savable w → words_of 4 (drop 6 (file_of w)) ≡ turn_words w.house
unfolding file_of record_of little turn_words
words_read w s =
    let t = turn_words w.house in
    words_bytes t _ (turn_below w s.typed s.whole s.size w.memory s.size)

pub one_house : OneHouse
unfolding turn_words
one_house w w' s s' e =
    let m = w.memory in
    let t : turn_words w.house ≡ turn_words w'.house = sym (words_read w s) ∙ ap (λ (l : List ℕ). words_of 4 (drop 6 l)) e ∙ words_read w' s' in
    let l : length m ≡ w'.house.words = s.size ∙ ap (λ (l : List ℕ). get_or l 1 0) t in
    ap (λ (a : Answered). a.world)
    (sym (reads_back w s.typed s.whole s.size m s.size) ∙ ap (λ (f : List ℕ). finished (fed (begun m) f)) e ∙ reads_back w' s'.typed s'.whole s'.size m l)

-- ---- saves

pub record SaveDone (w : World) : Type 0 where
  pub whole : damaged w.house ≡ false
  pub size : length w.memory ≡ w.house.words

pub save_done : (w : World) (at : ℕ) (out : List ℕ) → (save_call w at out).verdict.number ≡ 0 → SaveDone w
unfolding save_call save_verdict first_of
save_done w at out e =
    by_test (damaged w.house)
    (λ h. absurd (let z : ◌≡◌ {A = ℕ} 8 0 = simp h at e in omega arith))
    λ h. by_test (eqb (length w.memory) w.house.words)
    (λ t. record { whole = h; size = eqb-true (length w.memory) w.house.words t })
    (λ t. absurd (let z : ◌≡◌ {A = ℕ} 9 0 = simp (h, t) at e in omega arith))

module _ (w : World) (d : SaveDone w) where
  pub save_count : (at : ℕ) (out : List ℕ) → (save_call w at out).count ≡ piece_length w at (length out)
  unfolding save_call save_verdict first_of
  save_count at out = simp (d.whole, eq-eqb (length w.memory) w.house.words d.size)

  pub save_output : (at : ℕ) (out : List ℕ) → (save_call w at out).output ≡ take (piece_length w at (length out)) (drop at (file_of w)) ++ drop (piece_length w at (length out)) out
  unfolding save_call save_verdict first_of
  save_output at out = simp (d.whole, eq-eqb (length w.memory) w.house.words d.size)

  piece_is : (at : ℕ) (out : List ℕ) → let n = piece_length w at (length out) in take n (save_call w at out).output ≡ take n (drop at (file_of w))
  piece_is at out =
      let n = piece_length w at (length out) in
      ap (take n) (save_output at out)
      ∙ take_at (take n (drop at (file_of w))) (drop n out) n (length-take-le n (drop at (file_of w)) (omega (arith, length-drop at (file_of w))))

  pub brought_is : (outs : List (List ℕ)) (at : ℕ) → brought w at outs ≡ take (length (brought w at outs)) (drop at (file_of w))
  unfolding brought
  brought_is [] at = refl
  brought_is (out ∷ outs) at =
      let F = file_of w in
      let n = piece_length w at (length out) in
      let e : brought w at (out ∷ outs) ≡ take n (drop at F) ++ brought w (at + n) outs = rw (save_count at out, piece_is at out) in
      let L = length (brought w (at + n) outs) in
      let f : length (brought w at (out ∷ outs)) ≡ n + L =
      ap length e ∙ length-append (take n (drop at F)) (brought w (at + n) outs) ∙ ap (λ (x : ℕ). x + L) (length-take-le n (drop at F) (omega (arith, length-drop at F))) in
      e
      ∙ ap (λ (x : List ℕ). take n (drop at F) ++ x) (brought_is outs (at + n) ∙ ap (take L) (sym (drop-drop n at F)))
      ∙ sym (take-add n L (drop at F))
      ∙ ap (λ (x : ℕ). take x (drop at F)) (sym f)

pub saved_file_lem : (w : World) (f : List ℕ) → SaveOf w f → f ≡ file_of w
saved_file_lem w f s =
    let d = save_done w 0 [] s.done in
    let F = file_of w in
    let e : f ≡ take (length f) F = s.pieces ∙ brought_is w d s.outputs 0 ∙ ap (λ (x : List ℕ). take (length x) F) (sym s.pieces) in
    let z = sym (save_count w d (length f) _) ∙ s.last in
    e ∙ take_all (length f) F (omega (arith, z))

-- The bytes of a file, by their places.
use mathlib.Core.Path.{◌≡◌, refl, sym, ap, ◌∙◌}
use mathlib.Core.Bool.{false}
use mathlib.Core.List.{List, [], ◌∷◌, ◌++◌, append_assoc}
use Prim.Native.Nat.{ℕ, zero, suc, ◌+◌, ◌-◌, ◌*◌, ◌/◌, ◌%◌, ◌<◌, ◌≤◌, min}
use native.Mathlib.Numerals.{add-one}
use native.Mathlib.Omega.{arith}
use borrow.Author.Tests.{ltb-true, ltb-false, eq-eqb}
use lib.Dec.{ltb}
use lib.ListN.{length, get_or, set, take, drop, length-append, length-drop, get_or-append}
use lib.Seq.{get_or-append-add, get_or-take, get_or-drop, length-take-le, take_at}
use Rattle.dlx.proofs.Tests.{by_test}
use Rattle.dlx.proofs.Parts.{inner_length, part_at}
use Rattle.tickets.specs.Queues.{queue_of}
use Rattle.house.specs.declared.House.{House}
use Rattle.house.specs.Damage.{damaged}
use Rattle.house.specs.Boot.{verdict, first_of}
use Rattle.house.specs.Turns.{world}
use Rattle.house.proofs.Damage.Undamaged.{undamaged_gives}
use Rattle.save.specs.Calls.{written, piece_length, save_verdict, save_call}
use Rattle.decimal.specs.Texts.{Puts, joined as parts}
use Rattle.decimal.proofs.Texts.{whole, roomy, ◌then◌}
use Rattle.save.specs.Saved.{little, all_bytes, record_of, records, turn_words, guest_words, ticket_words, frame_words, file_of}
use Rattle.save.proofs.Bytes.{record_length}
use Rattle.save.proofs.Joined.{joined_set}
use Rattle.saver.specs.Heads.{guest_at, guest_record, queue_at, queue_record, head_of, HeadFits, tail_of, PieceFits}

-- ---- a word's bytes, and words' bytes

little_long : (w : ℕ) → length (little 4 w) ≡ 4
unfolding little
little_long w = refl

bytes_at : (ws : List ℕ) (k : ℕ) → k < 4 * length ws → get_or (all_bytes ws) k 0 ≡ get_or (little 4 (get_or ws (k / 4) 0)) (k % 4) 0
unfolding all_bytes
bytes_at [] k l = absurd (omega arith)
bytes_at (w ∷ ws) k l =
    by_test (ltb k 4)
    (λ t.
    let b = ltb-true k 4 t in
    let q : k / 4 ≡ 0 = omega arith in
    let r : k % 4 ≡ k = omega arith in
    get_or-append (little 4 w) (all_bytes ws) 0 k (omega (arith, little_long w)) ∙ rw (q, r))
    (λ t.
    let b = ltb-false k 4 t in
    let j = k - 4 in
    let e : k ≡ 4 + j = omega arith in
    let q : k / 4 ≡ suc (j / 4) = omega arith in
    let r : k % 4 ≡ j % 4 = omega arith in
    ap (λ (x : ℕ). get_or (little 4 w ++ all_bytes ws) x 0) e
    ∙ ap (λ (x : ℕ). get_or (little 4 w ++ all_bytes ws) (x + j) 0) (sym (little_long w))
    ∙ get_or-append-add (little 4 w) (all_bytes ws) j 0
    ∙ bytes_at ws j (omega arith)
    ∙ rw (q, r))

-- ---- a frame's record

module _ (m : List ℕ) (f : ℕ) (inside : f * 1024 + 1024 ≤ length m) where
  pub frame_long : length (frame_words m f) ≡ 1025
  unfolding frame_words
  frame_long = ap suc (inner_length m (f * 1024) 1024 inside)

  pub frame_word_at : (j : ℕ) → (j ≡ 0 → ⊥) → j < 1025 → get_or m (f * 1024 + (j - 1)) 0 ≡ get_or (frame_words m f) j 0
  unfolding frame_words
  frame_word_at zero n l = absurd (n refl)
  frame_word_at (suc i) n l =
      let e : suc i - 1 ≡ i = omega arith in
      rw e (sym (part_at m (f * 1024) 1024 i (omega arith)))

  pub frame_front : (k : ℕ) → k < 4 → get_or (little 4 4100) k 0 ≡ get_or (record_of 3 (frame_words m f)) k 0
  unfolding record_of
  frame_front k l =
      let e : 4 * length (frame_words m f) ≡ 4100 = omega (arith, frame_long) in
      sym (rw e (get_or-append (little 4 4100) (little 2 3 ++ all_bytes (frame_words m f)) 0 k (omega (arith, little_long 4100))))

  pub frame_kind : (k : ℕ) → k ≡ 4 → 3 ≡ get_or (record_of 3 (frame_words m f)) k 0
  unfolding record_of little
  frame_kind k e = rw e

  pub frame_zero : (k : ℕ) → k ≡ 5 → 0 ≡ get_or (record_of 3 (frame_words m f)) k 0
  unfolding record_of little
  frame_zero k e = rw e

  pub frame_body : (k w : ℕ) → 6 ≤ k → k < 4106 → w ≡ get_or (frame_words m f) ((k - 6) / 4) 0 → get_or (little 4 w) ((k - 6) % 4) 0 ≡ get_or (record_of 3 (frame_words m f)) k 0
  frame_body k w a b e =
      let j = k - 6 in
      let z : k ≡ 6 + j = omega arith in
      ap (λ (x : ℕ). get_or (little 4 x) (j % 4) 0) e
      ∙ sym (bytes_at (frame_words m f) j (omega (arith, frame_long)))
      ∙ sym (ap (λ (x : ℕ). get_or (record_of 3 (frame_words m f)) x 0) z ∙ behind j)
    where
      behind : (i : ℕ) → get_or (record_of 3 (frame_words m f)) (6 + i) 0 ≡ get_or (all_bytes (frame_words m f)) i 0
      behind i = unfold record_of little in (let q : 6 + i ≡ suc (suc (suc (suc (suc (suc i))))) = omega arith in rw q)

-- ---- the frames

module _ (m : List ℕ) where
  frames_long : (n : ℕ) → n * 1024 ≤ length m → length (records 3 (frame_words m) n) ≡ n * 4106
  unfolding records
  frames_long zero l = refl
  frames_long (suc n) l =
      length-append (records 3 (frame_words m) n) (record_of 3 (frame_words m n))
      ∙ omega (arith, frames_long n (omega arith), record_length 3 (frame_words m n) (omega arith) (omega (arith, frame_long m n (omega arith))), frame_long m n (omega arith))

  frames_at : (n o : ℕ) → n * 1024 ≤ length m → o < n * 4106 → get_or (records 3 (frame_words m) n) o 0 ≡ get_or (record_of 3 (frame_words m (o / 4106))) (o % 4106) 0
  unfolding records
  frames_at zero o l b = absurd (omega arith)
  frames_at (suc n) o l b =
      let R = records 3 (frame_words m) n in
      let e = frames_long n (omega arith) in
      by_test (ltb o (n * 4106))
      (λ t. let c = ltb-true o (n * 4106) t in get_or-append R (record_of 3 (frame_words m n)) 0 o (omega arith) ∙ frames_at n o (omega arith) c)
      (λ t.
      let c = ltb-false o (n * 4106) t in
      let r = o - n * 4106 in
      let z : o ≡ n * 4106 + r = omega arith in
      let q : o / 4106 ≡ n = omega arith in
      let s : o % 4106 ≡ r = omega arith in
      ap (λ (x : ℕ). get_or (R ++ record_of 3 (frame_words m n)) x 0) (z ∙ ap (λ (x : ℕ). x + r) (sym e))
      ∙ get_or-append-add R (record_of 3 (frame_words m n)) r 0
      ∙ rw (q, s))

  tail_frame : (n o : ℕ) → n * 1024 ≤ length m → o < n * 4106 → get_or (tail_of m n) o 0 ≡ get_or (record_of 3 (frame_words m (o / 4106))) (o % 4106) 0
  unfolding tail_of
  tail_frame n o l b = get_or-append (records 3 (frame_words m) n) (record_of 4 []) 0 o (omega (arith, frames_long n l)) ∙ frames_at n o l b

  tail_end : (n r : ℕ) → n * 1024 ≤ length m → get_or (tail_of m n) (n * 4106 + r) 0 ≡ get_or (record_of 4 []) r 0
  unfolding tail_of
  tail_end n r l =
      ap (λ (x : ℕ). get_or (records 3 (frame_words m) n ++ record_of 4 []) (x + r) 0) (sym (frames_long n l))
      ∙ get_or-append-add (records 3 (frame_words m) n) (record_of 4 []) r 0

  pub tail_long : (n : ℕ) → n * 1024 ≤ length m → length (tail_of m n) ≡ n * 4106 + 6
  unfolding tail_of record_of little all_bytes
  tail_long n l = length-append (records 3 (frame_words m) n) (record_of 4 []) ∙ omega (arith, frames_long n l)

end_at : (r : ℕ) → r < 6 → (r ≡ 4 → ⊥) → get_or (record_of 4 []) r 0 ≡ 0
unfolding record_of little all_bytes
end_at zero l n = refl
end_at (suc zero) l n = refl
end_at (suc (suc zero)) l n = refl
end_at (suc (suc (suc zero))) l n = refl
end_at (suc (suc (suc (suc zero)))) l n = absurd (n refl)
end_at (suc (suc (suc (suc (suc zero))))) l n = refl
end_at (suc (suc (suc (suc (suc (suc r)))))) l n = absurd (omega arith)

end_four : get_or (record_of 4 []) 4 0 ≡ 4
unfolding record_of little all_bytes
end_four = refl

-- ---- the file: a head of n bytes, and what stands behind

module _ (head : List ℕ) (n : ℕ) (m : List ℕ) (frames : ℕ) (fits : PieceFits head n m frames) where
  abbrev file : List ℕ
  file = take n head ++ tail_of m frames

  head_long : length (take n head) ≡ n
  head_long = length-take-le n head fits.within

  pub file_long : length file ≡ n + (frames * 4106 + 6)
  file_long = length-append (take n head) (tail_of m frames) ∙ omega (arith, head_long, tail_long m frames fits.inside)

  pub file_head : (k : ℕ) → k < n → get_or head k 0 ≡ get_or file k 0
  file_head k l = sym (get_or-append (take n head) (tail_of m frames) 0 k (omega (arith, head_long)) ∙ get_or-take n head k 0 l)

  file_tail : (k : ℕ) → n ≤ k → get_or file k 0 ≡ get_or (tail_of m frames) (k - n) 0
  file_tail k l =
      let z : k ≡ length (take n head) + (k - n) = omega (arith, head_long) in
      ap (λ (x : ℕ). get_or file x 0) z ∙ get_or-append-add (take n head) (tail_of m frames) (k - n) 0

  pub file_frame : (k x : ℕ) → n ≤ k → k - n < frames * 4106 → x ≡ get_or (record_of 3 (frame_words m ((k - n) / 4106))) ((k - n) % 4106) 0 → x ≡ get_or file k 0
  file_frame k x l b e = e ∙ sym (file_tail k l ∙ tail_frame m frames (k - n) fits.inside b)

  pub file_four : (k : ℕ) → n ≤ k → k - n ≡ frames * 4106 + 4 → 4 ≡ get_or file k 0
  file_four k l e = sym (file_tail k l ∙ rw e (tail_end m frames 4 fits.inside ∙ end_four))

  pub file_rest : (k : ℕ) → n ≤ k → frames * 4106 ≤ k - n → (k - n ≡ frames * 4106 + 4 → ⊥) → k < n + (frames * 4106 + 6) → 0 ≡ get_or file k 0
  file_rest k l a d b =
      let r = k - n - frames * 4106 in
      let z : k - n ≡ frames * 4106 + r = omega arith in
      sym (file_tail k l ∙ ap (λ (x : ℕ). get_or (tail_of m frames) x 0) z ∙ tail_end m frames r fits.inside ∙ end_at r (omega arith) (λ q. d (omega arith)))

  -- one byte more
  pub piece_on : (out₀ out : List ℕ) (at count i b : ℕ) → i < count → count ≤ length out₀ → at + count ≤ n + (frames * 4106 + 6) → out ≡ take i (drop at file) ++ drop i out₀ → b ≡ get_or file (at + i) 0
      → set out i b ≡ take (i + 1) (drop at file) ++ drop (i + 1) out₀
  piece_on out₀ out at count i b l c a e q =
      rw (add-one i, e, q, ← get_or-drop at file i 0)
      (joined_set i (drop at file) out₀ 0 (omega (arith, length-drop at file, file_long)) (omega arith))

-- ---- the head

pub joined_records : (k : ℕ) (f : ℕ → List ℕ) (g : ℕ → List ℕ) (n : ℕ) → ((i : ℕ) → g i ≡ record_of k (f i)) → parts g n ≡ records k f n
unfolding parts records
joined_records k f g zero h = refl
joined_records k f g (suc n) h = rw (joined_records k f g n h, h n)

guest_is : (h : House) (i : ℕ) → guest_record h.parts h.running h.regs h.frames i ≡ record_of 6 (guest_words h i)
unfolding guest_at guest_words
guest_is h i = refl

queue_is : (h : House) (j : ℕ) → queue_record h.tickets h.waiting j ≡ record_of 7 (ticket_words h j)
unfolding queue_at ticket_words queue_of
queue_is h j = refl

pub head_put : {out o a₁ a₂ : List ℕ} {r b₁ b₂ : ℕ} (h : House) → h.count ≤ 8 → length out ≡ 10934
    → Puts out 0 a₁ b₁ (record_of 5 (h.q ∷ h.words ∷ h.current ∷ h.left ∷ [])) (6 + 4 * 4)
    → Puts a₁ b₁ a₂ b₂ (parts (guest_record h.parts h.running h.regs h.frames) h.count) (1230 * h.count)
    → Puts a₂ b₂ o r (parts (queue_record h.tickets h.waiting) h.count) (134 * h.count)
    → (r ≡ length (head_of h)) × (take r o ≡ head_of h) × (r ≤ 10934) × (length o ≡ 10934)
unfolding head_of turn_words
head_put {out} {o} {a₁} {a₂} {r} h few room p₅ p₆ p₇ =
    let G = guest_record h.parts h.running h.regs h.frames in
    let Q = queue_record h.tickets h.waiting in
    let T = record_of 5 (h.q ∷ h.words ∷ h.current ∷ h.left ∷ []) in
    let bs = T ++ (parts G h.count ++ parts Q h.count) in
    let e : bs ≡ T ++ (records 6 (guest_words h) h.count ++ records 7 (ticket_words h) h.count) =
    rw (joined_records 6 (guest_words h) G h.count (guest_is h), joined_records 7 (ticket_words h) Q h.count (queue_is h)) in
    let p = roomy 10934 (p₅ then p₆ then p₇) (omega arith) in
    let w = whole p (omega arith) in
    let z : r ≡ length bs = w.0 ∙ omega arith in
    let n : length o ≡ 10934 = ap length w.1 ∙ length-append bs (drop (0 + length bs) out) ∙ omega (arith, length-drop (0 + length bs) out, p.short) in
    (z ∙ ap length e, ap (take r) w.1 ∙ take_at bs (drop (0 + length bs) out) r (sym z) ∙ e, omega (arith, p.short), n)

-- ---- the file of a house

pub file_is : (h : House) (m : List ℕ) → head_of h ++ tail_of m (h.words / 1024) ≡ file_of (world h m)
unfolding head_of tail_of file_of
file_is h m = simp append_assoc

-- ---- a save

pub head_fits : (h : House) → damaged h ≡ false → HeadFits h
head_fits h e =
    let u = undamaged_gives h e in
    record { few = u.few; pages = λ i l. (u.pages i l).1; most = λ j l. (u.queued j (omega (arith, u.few))).most }

module _ (h : House) (m : List ℕ) (at : ℕ) (out : List ℕ) where
  module _ (e : damaged h ≡ false) where
    module _ (l : length m ≡ h.words) where
      pub few_frames : length m / 1024 ≤ 1024
      few_frames = omega (arith, (undamaged_gives h e).size)

      save_is : (count : ℕ) (out' : List ℕ) → count ≡ piece_length (world h m) at (length out) → out' ≡ take count (drop at (file_of (world h m))) ++ drop count out
          → written (verdict 0 0) count h out' ≡ save_call (world h m) at out
      unfolding save_call save_verdict first_of
      save_is count out' c o = simp (e, eq-eqb (length m) h.words l, o, c)

      module _ (head : List ℕ) (n : ℕ) (long : length head ≡ 10934) (a : n ≡ length (head_of h)) (b : take n head ≡ head_of h) (within : n ≤ 10934) where
        pub piece_fits : PieceFits head n m (length m / 1024)
        piece_fits = record { within = omega arith; short = omega arith; inside = omega arith; few = few_frames }

        file_so : take n head ++ tail_of m (length m / 1024) ≡ file_of (world h m)
        file_so =
            let f : length m / 1024 ≡ h.words / 1024 = ap (λ (x : ℕ). x / 1024) l in
            ap (λ (x : List ℕ). x ++ tail_of m (length m / 1024)) b ∙ ap (λ (x : ℕ). head_of h ++ tail_of m x) f ∙ file_is h m

        size_so : length (file_of (world h m)) ≡ n + (length m / 1024 * 4106 + 6)
        size_so = ap length (sym file_so) ∙ file_long head n m (length m / 1024) piece_fits

        module _ (count : ℕ) (c : count ≡ min (min (length out) 65536) (n + (length m / 1024 * 4106 + 6) - at)) where
          count_so : count ≡ piece_length (world h m) at (length out)
          count_so = c ∙ ap (λ (x : ℕ). min (min (length out) 65536) (x - at)) (sym size_so)

          pub save_none : count ≡ 0 → written (verdict 0 0) 0 h out ≡ save_call (world h m) at out
          save_none z =
              let y : 0 ≡ piece_length (world h m) at (length out) = sym z ∙ count_so in
              save_is 0 out y refl

          pub save_some : (out' : List ℕ) → out' ≡ take count (drop at (take n head ++ tail_of m (length m / 1024))) ++ drop count out → written (verdict 0 0) count h out' ≡ save_call (world h m) at out
          save_some out' o = save_is count out' count_so (o ∙ ap (λ (x : List ℕ). take count (drop at x) ++ drop count out) file_so)

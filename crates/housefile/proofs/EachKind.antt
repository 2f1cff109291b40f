-- A record of each kind, whole or wrong, from its first byte on.
use Rattle.std.proofs.Common.{◌≡◌, ℕ, zero, suc, ◌+◌, ◌-◌, ◌*◌, ◌/◌, ◌%◌, ◌^◌, ◌<◌, ◌≤◌, true, false, eqb, List, length, take, drop, set, sym, refl, ap, ◌∙◌, arith, length-drop, drop-drop, le-ltb, eq-eqb, ne_eqb, le-leb}
use mathlib.Core.Bool.{and-false}
use Prim.{Unit, tt}
use borrow.Author.Tests.{lt-leb}
use lib.Seq.{sets}
use Rattle.housefile.specs.Records.{wrong, number, words_of, size, kind, may_come}
use Rattle.housefile.specs.Reader.{Read, read, no_record, within, spoils, placed, settled, fed, answer_of}
use Rattle.housefile.specs.declared.Record.{Record}
use Rattle.housefile.specs.declared.Reader.{Reader}
use Rattle.housefile.proofs.Steps.{Bytes, drop_bytes, on, of, Open, through, spoils_wrong}
use Rattle.housefile.proofs.Words.{headed, header, four}
use Rattle.housefile.proofs.InBody.{behind, beside, word_lt, settled_within, settled_whole, short, body_fed}

module _ (s : Read) (o : Open s.reader) (bs : List ℕ) (g : Bytes bs) (l : 6 ≤ length bs) where
  -- ---- the header

  pub header_wrong : may_come s.reader.last s.reader.lists (kind bs) (size bs) ≡ false → answer_of (fed (on s no_record) bs) ≡ wrong s.reader.start
  unfolding spoils
  header_wrong e =
      let x = header s o bs l g in
      ap answer_of x.1 ∙ spoils_wrong s o x.0 (headed bs) (drop 6 bs) (rw e)

  module _ (comes : may_come s.reader.last s.reader.lists (kind bs) (size bs) ≡ true) where
    fine : (n : Record) → spoils (within s.reader n) (headed bs) ≡ false
    unfolding spoils
    fine n = rw comes

    pub header_within : (size bs ≡ 0 → ⊥) → fed (on s no_record) bs ≡ fed (on s (headed bs)) (drop 6 bs)
    unfolding placed
    header_within z =
        through s (on s (headed bs)) _ (headed bs) (drop 6 bs) (header s o bs l g)
        (λ n. settled_within s n (headed bs) (fine n) (rw (ne_eqb 6 (6 + size bs) (omega arith))))

    pub header_whole : size bs ≡ 0 → fed (on s no_record) bs ≡ fed (behind s.reader (size bs) (kind bs) s) (drop 6 bs)
    unfolding placed behind
    header_whole z =
        through s (behind s.reader (size bs) (kind bs) s) _ (headed bs) (drop 6 bs) (header s o bs l g)
        (λ n. settled_whole s n (headed bs) (fine n) (rw (eq-eqb 6 (6 + size bs) (omega arith))))

    -- ---- a body cut short

    pub cut_short : length bs < 6 + size bs → size bs < 2 ^ 20 → answer_of (fed (on s no_record) bs) ≡ wrong s.reader.start
    cut_short h b =
        ap answer_of (header_within (omega arith))
        ∙ short s.reader o (drop 6 bs) s (headed bs) (omega arith) (rw (length-drop 6 bs) (omega arith)) b

-- ---- where the words of each kind go

module _ (r : Reader) (q : Read) (size frame w j : ℕ) where
  placed_turn : placed r (of (10 + 4 * j) size 1 frame w) q ≡ read q.reader (set q.turns j w) q.pages q.frames q.memory
  unfolding placed
  placed_turn =
      let z : (10 + 4 * j) / 4 - 2 ≡ j = omega arith in
      simp (le-ltb (10 + 4 * j) 10 (omega arith), eq-eqb ((10 + 4 * j) % 4) 2 (omega arith), z)

  placed_frame : placed r (of (10 + 4 * j) size 2 frame w) q ≡ read q.reader q.turns q.pages (set q.frames (r.total + j) w) q.memory
  unfolding placed
  placed_frame =
      let z : (10 + 4 * j) / 4 - 2 ≡ j = omega arith in
      simp (le-ltb (10 + 4 * j) 10 (omega arith), eq-eqb ((10 + 4 * j) % 4) 2 (omega arith), z)

  placed_word : 1 ≤ j
      → placed r (of (10 + 4 * j) size 3 frame w) q ≡ read q.reader q.turns q.pages q.frames (set q.memory (frame * 1024 + (j - 1)) w)
  unfolding placed
  placed_word l =
      let z : (10 + 4 * j) / 4 - 2 ≡ j = omega arith in
      simp (le-ltb (10 + 4 * j) 10 (omega arith), eq-eqb ((10 + 4 * j) % 4) 2 (omega arith), z, ne_eqb j 0 (omega arith))

  -- no frame number that could be wrong, or one that was tested
  fine_other : (k : ℕ) → eqb k 3 ≡ false → spoils r (of (10 + 4 * j) size k frame w) ≡ false
  unfolding spoils
  fine_other k e = simp (ne_eqb (10 + 4 * j) 6 (omega arith), e, and-false)

  fine_later : 1 ≤ j → spoils r (of (10 + 4 * j) size 3 frame w) ≡ false
  unfolding spoils
  fine_later l = simp (ne_eqb (10 + 4 * j) 6 (omega arith), ne_eqb (10 + 4 * j) 10 (omega arith))

-- ---- whole records

-- the last four bytes of the header
tail : List ℕ → ℕ
tail bs = number (take 4 (drop 2 bs))

tail_lt : (bs : List ℕ) → Bytes bs → tail bs < 2 ^ 32
unfolding tail
tail_lt bs g = word_lt (drop 2 bs) (drop_bytes 2 bs g)

module _ (s : Read) (o : Open s.reader) (bs : List ℕ) (g : Bytes bs) (comes : may_come s.reader.last s.reader.lists (kind bs) (size bs) ≡ true) where
  module _ (k z : ℕ) (ek : kind bs ≡ k) (ez : size bs ≡ z) (h : 6 + z ≤ length bs) where
    opened : (z ≡ 0 → ⊥) → fed (on s no_record) bs ≡ fed (on s (of 6 z k 0 (tail bs))) (drop 6 bs)
    unfolding tail
    opened ne =
        header_within s o bs g (omega arith) comes (λ e. ne (sym ez ∙ e))
        ∙ ap (λ (x : ℕ). fed (on s (of 6 x (kind bs) 0 (tail bs))) (drop 6 bs)) ez
        ∙ ap (λ (x : ℕ). fed (on s (of 6 z x 0 (tail bs))) (drop 6 bs)) ek

    pub empty_fed : z ≡ 0 → fed (on s no_record) bs ≡ fed (behind s.reader z k s) (drop (6 + z) bs)
    empty_fed e =
        header_whole s o bs g (omega arith) comes (ez ∙ e)
        ∙ ap (λ (x : ℕ). fed (behind s.reader x (kind bs) s) (drop 6 bs)) ez
        ∙ ap (λ (x : ℕ). fed (behind s.reader z x s) (drop 6 bs)) ek
        ∙ ap (λ (x : ℕ). fed (behind s.reader z k s) (drop (6 + x) bs)) (sym e)

  pub turns_fed : kind bs ≡ 1 → size bs ≡ 8 → 14 ≤ length bs
      → fed (on s no_record) bs
      ≡ fed (behind s.reader 8 1 (read s.reader (sets s.turns 0 (words_of 2 (drop 6 bs))) s.pages s.frames s.memory)) (drop 14 bs)
  turns_fed ek ez h =
      let into : List ℕ → Read = λ x. read s.reader x s.pages s.frames s.memory in
      opened 1 8 ek ez h (omega arith)
      ∙ body_fed s.reader o 8 1 into (λ j. j) 0 (λ _. Unit) (λ j _. refl) (λ j frame w _ _. tt)
      (λ n j frame w _ _. fine_other (within s.reader n) s 8 frame w j 1 refl)
      (λ n j frame w x _ _. placed_turn (within s.reader n) (beside (within s.reader n) (into x)) 8 frame w j)
      refl (omega arith)
      1 0 0 (tail bs) s.turns (drop 6 bs) (omega arith) refl (tail_lt bs g) tt (omega (arith, length-drop 6 bs)) (drop_bytes 6 bs g)
      ∙ ap (fed (behind s.reader 8 1 (into (sets s.turns 0 (words_of 2 (drop 6 bs)))))) (drop-drop 8 6 bs)

  pub frames_fed : (n : ℕ) → kind bs ≡ 2 → size bs ≡ 4 * n → 6 + 4 * n ≤ length bs → n ≤ 256
      → fed (on s no_record) bs
      ≡ fed (behind s.reader (4 * n) 2 (read s.reader s.turns s.pages (sets s.frames s.reader.total (words_of n (drop 6 bs))) s.memory))
      (drop (6 + 4 * n) bs)
  unfolding words_of
  frames_fed zero ek ez h b = empty_fed 2 0 ek ez h refl
  frames_fed (suc n) ek ez h b =
      let z = 4 * suc n in
      let total = s.reader.total in
      let into : List ℕ → Read = λ x. read s.reader s.turns s.pages x s.memory in
      let zero_on : total + 0 ≡ total = omega arith in
      opened 2 z ek ez h (omega arith)
      ∙ body_fed s.reader o z 2 into (λ j. total + j) 0 (λ _. Unit) (λ j _. omega arith) (λ j frame w _ _. tt)
      (λ r j frame w _ _. fine_other (within s.reader r) s z frame w j 2 refl)
      (λ r j frame w x _ _. placed_frame (within s.reader r) (beside (within s.reader r) (into x)) z frame w j)
      (omega arith) (omega arith)
      n 0 0 (tail bs) s.frames (drop 6 bs) (omega arith) (omega arith) (tail_lt bs g) tt (omega (arith, length-drop 6 bs)) (drop_bytes 6 bs g)
      ∙ ap (λ (i : ℕ). fed (behind s.reader z 2 (into (sets s.frames i (words_of (suc n) (drop 6 bs))))) (drop z (drop 6 bs))) zero_on
      ∙ ap (fed (behind s.reader z 2 (into (sets s.frames total (words_of (suc n) (drop 6 bs)))))) (drop-drop z 6 bs)

  -- a kind 3: the frame number in front
  module _ (ek : kind bs ≡ 3) (ez : size bs ≡ 4100) (h : 4106 ≤ length bs) where
    numbered : (n : Record) × (fed (on s no_record) bs
        ≡ fed (settled (on s n) (of 10 4100 3 (number (take 4 (drop 6 bs))) (number (take 4 (drop 6 bs))))) (drop 10 bs))
    numbered =
        let x = four s o 4100 3 0 0 (tail bs) (drop 6 bs) (omega arith) (omega arith) refl (tail_lt bs g) (omega (arith, length-drop 6 bs)) (drop_bytes 6 bs g) in
        let v = number (take 4 (drop 6 bs)) in
        (x.0, opened 3 4100 ek ez h (omega arith) ∙ x.1 ∙ ap (fed (settled (on s x.0) (of 10 4100 3 v v))) (drop-drop 4 6 bs))

    pub frame_wrong : 16 ≤ number (take 4 (drop 6 bs)) → answer_of (fed (on s no_record) bs) ≡ wrong s.reader.start
    unfolding spoils
    frame_wrong l =
        let v = number (take 4 (drop 6 bs)) in
        ap answer_of numbered.1 ∙ spoils_wrong s o numbered.0 (of 10 4100 3 v v) (drop 10 bs) (le-leb 16 v l)

    pub memory_fed : number (take 4 (drop 6 bs)) < 16
        → fed (on s no_record) bs
        ≡ fed
        (behind s.reader 4100 3
        (read s.reader s.turns s.pages s.frames (sets s.memory (number (take 4 (drop 6 bs)) * 1024) (words_of 1024 (drop 10 bs)))))
        (drop 4106 bs)
    unfolding spoils placed
    memory_fed l =
        let v = number (take 4 (drop 6 bs)) in
        let into : List ℕ → Read = λ x. read s.reader s.turns s.pages s.frames x in
        let zero_on : v * 1024 + 0 ≡ v * 1024 = omega arith in
        through s (on s (of 10 4100 3 v v)) _ (of 10 4100 3 v v) (drop 10 bs) numbered (λ n. settled_within s n (of 10 4100 3 v v) (lt-leb 16 v l) refl)
        ∙ body_fed s.reader o 4100 3 into (λ j. v * 1024 + (j - 1)) 1 (λ x. x ≡ v) (λ j f. omega arith)
        (λ j frame w f e. rw (ne_eqb (9 + 4 * j) 9 (omega arith)) e)
        (λ r j frame w f _. fine_later (within s.reader r) s 4100 frame w j f)
        (λ r j frame w x f e. placed_word (within s.reader r) (beside (within s.reader r) (into x)) 4100 frame w j f ∙ rw e)
        refl (omega arith)
        1023 1 v v s.memory (drop 10 bs) (omega arith) refl (word_lt (drop 6 bs) (drop_bytes 6 bs g)) refl (omega (arith, length-drop 10 bs)) (drop_bytes 10 bs g)
        ∙ ap (λ (i : ℕ). fed (behind s.reader 4100 3 (into (sets s.memory i (words_of 1024 (drop 10 bs))))) (drop 4096 (drop 10 bs))) zero_on
        ∙ ap (fed (behind s.reader 4100 3 (into (sets s.memory (v * 1024) (words_of 1024 (drop 10 bs)))))) (drop-drop 4096 10 bs)

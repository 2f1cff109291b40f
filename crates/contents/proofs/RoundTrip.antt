-- What a reading of the file of contents gives: these contents.
use mathlib.Core.Path.{◌≡◌, refl, sym, ap, subst, ◌∙◌}
use mathlib.Core.Bool.{true, false, not, ◌||◌}
use mathlib.Core.List.{List, [], ◌∷◌, ◌++◌, append-nil, append_assoc}
use Prim.Native.Nat.{ℕ, zero, suc, ◌+◌, ◌-◌, ◌*◌, ◌/◌, ◌%◌, ◌^◌, ◌<◌, ◌≤◌}
use native.Mathlib.Omega.{arith}
use borrow.Author.Tests.{lt-ltb, le-leb, eq-eqb}
use lib.Dec.{eqb, ltb}
use lib.ListN.{length, get_or, take, drop, replicate, length-append, length-replicate, drop_of_length-le}
use lib.Seq.{take_at, drop_at, take_all, take-suc, take-add, length-take-le}
use Rattle.dlx.specs.Parts.{inner, outer}
use Rattle.dlx.proofs.Parts.{inner_length, part_each}
use Rattle.house.specs.Boot.{offset}
use Rattle.house.proofs.Boot.Offsets.{offset_sum, offset_in}
use Rattle.housefile.specs.Records.{number, words_of, size, kind, may_come, record_right, File, file, no_file, with_record, Reading, right, read_from, reading_of}
use Rattle.housefile.specs.Reader.{no_read, fed, answer_of}
use Rattle.housefile.proofs.WholeFile.{cut_anywhere}
use Rattle.save.specs.Saved.{little, all_bytes, record_of, records, frame_words}
use Rattle.save.proofs.Bytes.{Below, below_append, number_bytes, record_size, record_kind, record_length, length_bytes, words_bytes, record_below, records_below}
use Rattle.save.proofs.Machine.{head_size, head_kind}
use Rattle.save.proofs.Joined.{joined, joined_outer}
use Rattle.save.proofs.RoundTrip.{below_cons}
use Rattle.contents.specs.Contents.{list_words, before_frames, contents_file, Sayable, SaysAll}

-- ---- a record of words at the head of the bytes

module _ (k : ℕ) (ws rest : List ℕ) (small : k < 65536) (few : length ws < 2 ^ 30) where
  abbrev bs : List ℕ
  bs = record_of k ws ++ rest

  long : 6 ≤ length (record_of k ws)
  long = omega (arith, record_length k ws small few)

  size_is : size bs ≡ 4 * length ws
  size_is = head_size (record_of k ws) rest long ∙ record_size k ws small few

  kind_is : kind bs ≡ k
  kind_is = head_kind (record_of k ws) rest long ∙ record_kind k ws small few

  behind_head : drop 6 bs ≡ all_bytes ws ++ rest
  unfolding record_of little
  behind_head = refl

  body_is : take (4 * length ws) (drop 6 bs) ≡ all_bytes ws
  body_is = ap (take (4 * length ws)) behind_head ∙ take_at (all_bytes ws) rest (4 * length ws) (length_bytes ws)

  rest_is : drop (6 + size bs) bs ≡ rest
  rest_is =
      ap (λ (n : ℕ). drop (6 + n) bs) size_is
      ∙ drop_at (record_of k ws) rest (6 + 4 * length ws) (record_length k ws small few)

  -- it is right: read on behind it
  read_record : (n : ℕ) (f : File) (last at : ℕ) → eqb last 4 ≡ false → may_come last (length f.pages) k (4 * length ws) ≡ true
      → (not (eqb k 3) || ltb (number (take 4 (all_bytes ws))) 16) ≡ true
      → read_from (suc n) f last at bs ≡ read_from n (with_record f k (all_bytes ws)) k (at + (6 + 4 * length ws)) rest
  unfolding read_from record_right
  read_record n f last at more may frame =
      let enough : 6 + 4 * length ws ≤ length bs = omega (arith, length-append (record_of k ws) rest, record_length k ws small few) in
      simp (more, size_is, kind_is, body_is, le-leb 6 (length bs) (omega arith), may, le-leb (6 + 4 * length ws) (length bs) enough, frame)
      (ap (read_from n (with_record f k (all_bytes ws)) k (at + (6 + 4 * length ws))) (ap (λ (m : ℕ). drop (6 + m) bs) (sym size_is) ∙ rest_is))

-- the kind of the last record, behind n of kind k
unfoldable behind : ℕ → ℕ → ℕ → ℕ
behind last k zero = last
behind last k (suc n) = k

-- a list may come behind kind 1 and other lists, a frame behind a list and other frames
last_list : (i : ℕ) → (eqb (behind 1 2 i) 1 || eqb (behind 1 2 i) 2) ≡ true
unfolding behind
last_list zero = refl
last_list (suc i) = refl

last_frame : (i : ℕ) → (eqb (behind 2 3 i) 2 || eqb (behind 2 3 i) 3) ≡ true
unfolding behind
last_frame zero = refl
last_frame (suc i) = refl

last_two : (a b n : ℕ) → 0 < n → behind a b n ≡ b
unfolding behind
last_two a b zero l = absurd (omega arith)
last_two a b (suc n) l = refl

more_lists : (i : ℕ) → eqb (behind 1 2 i) 4 ≡ false
unfolding behind
more_lists zero = refl
more_lists (suc i) = refl

more_frames : (i : ℕ) → eqb (behind 2 3 i) 4 ≡ false
unfolding behind
more_frames zero = refl
more_frames (suc i) = refl

-- records of one kind, from contents to contents
read_records : (P : ℕ → File) (k : ℕ) (f : ℕ → List ℕ) (last n : ℕ) (rest : List ℕ) (r : Reading) (m : ℕ) → k < 65536
    → ((i : ℕ) → i < n → (eqb (behind last k i) 4 ≡ false) × (length (f i) < 2 ^ 30) × (may_come (behind last k i) (length (P i).pages) k (4 * length (f i)) ≡ true) × ((not (eqb k 3) || ltb (number (take 4 (all_bytes (f i)))) 16) ≡ true) × (with_record (P i) k (all_bytes (f i)) ≡ P (suc i)))
    → ((at : ℕ) → read_from m (P n) (behind last k n) at rest ≡ r)
    → (at : ℕ) → read_from (n + m) (P 0) last at (records k f n ++ rest) ≡ r
unfolding records behind
read_records P k f last zero rest r m small h g at = let e : 0 + m ≡ m = omega arith in ap (λ (y : ℕ). read_from y (P 0) last at rest) e ∙ g at
read_records P k f last (suc n) rest r m small h g at =
    let x = h n (omega arith) in
    let e : suc n + m ≡ n + suc m = omega arith in
    ap (λ (y : ℕ). read_from y (P 0) last at (records k f (suc n) ++ rest)) e
    ∙ ap (read_from (n + suc m) (P 0) last at) (append_assoc (records k f n) (record_of k (f n)) rest)
    ∙ read_records P k f last n (record_of k (f n) ++ rest) r (suc m) small (λ i l. h i (omega arith))
    (λ at. read_record k (f n) rest small x.1 m (P n) (behind last k n) at x.0 x.2 x.3
    ∙ ap (λ (y : File). read_from m y k (at + (6 + 4 * length (f n))) rest) x.4
    ∙ g (at + (6 + 4 * length (f n))))
    at

-- ---- the contents, record by record

module _ (f : File) (s : Sayable f) where
  abbrev c : ℕ
  c = length f.pages

  unfoldable zeros : List ℕ
  zeros = replicate 16384 0

  zeros_length : length zeros ≡ 16384
  unfolding zeros
  zeros_length = length-replicate {A = ℕ} 16384 0

  abbrev P2 : ℕ → File
  P2 i = file f.q f.run (take i f.pages) (take (offset f.pages i) f.frames) zeros

  abbrev P3 : ℕ → File
  P3 i = file f.q f.run f.pages f.frames (joined (i * 1024) f.memory zeros)

  turn_below : Below (2 ^ 32) (f.q ∷ f.run ∷ [])
  turn_below = below_cons (2 ^ 32) f.q (f.run ∷ []) s.q (below_cons (2 ^ 32) f.run [] s.run (λ i. omega arith))

  part_below : (l : List ℕ) (a n : ℕ) → Below (2 ^ 32) l → Below (2 ^ 32) (inner a n l)
  part_below l a n g = part_each (λ (x : ℕ). x < 2 ^ 32) l a n (omega arith) g

  list_length : (i : ℕ) → length (list_words f.pages f.frames i) ≡ get_or f.pages i 0
  unfolding list_words
  list_length i = inner_length f.frames (offset f.pages i) (get_or f.pages i 0) (omega (arith, offset_in f.pages i, s.listed.lists))

  list_below : (i : ℕ) → Below (2 ^ 32) (list_words f.pages f.frames i)
  unfolding list_words
  list_below i = part_below f.frames (offset f.pages i) (get_or f.pages i 0) s.frames

  list_more : (i : ℕ) → take (offset f.pages i) f.frames ++ list_words f.pages f.frames i ≡ take (offset f.pages i + get_or f.pages i 0) f.frames
  unfolding list_words inner
  list_more i = sym (take-add (offset f.pages i) (get_or f.pages i 0) f.frames)

  frame_length : (i : ℕ) → i < 16 → length (inner (i * 1024) 1024 f.memory) ≡ 1024
  frame_length i l = inner_length f.memory (i * 1024) 1024 (omega (arith, s.size))

  turns_taken : with_record no_file 1 (all_bytes (f.q ∷ f.run ∷ [])) ≡ P2 0
  unfolding with_record all_bytes little offset zeros
  turns_taken = rw (number_bytes f.q s.q, number_bytes f.run s.run)

  list_taken : (i : ℕ) → i < c → with_record (P2 i) 2 (all_bytes (list_words f.pages f.frames i)) ≡ P2 (suc i)
  unfolding with_record offset
  list_taken i l =
      let ws = list_words f.pages f.frames i in
      let n : length (all_bytes ws) / 4 ≡ get_or f.pages i 0 = omega (arith, length_bytes ws, list_length i) in
      let back : words_of (get_or f.pages i 0) (all_bytes ws) ≡ ws =
      ap (λ (k : ℕ). words_of k (all_bytes ws)) (sym (list_length i)) ∙ ap (words_of (length ws)) (sym (append-nil (all_bytes ws))) ∙ words_bytes ws [] (list_below i) in
      ap (λ (k : ℕ). file f.q f.run (take i f.pages ++ (k ∷ [])) (take (offset f.pages i) f.frames ++ words_of k (all_bytes ws)) zeros) n
      ∙ ap (λ (x : List ℕ). file f.q f.run (take i f.pages ++ (get_or f.pages i 0 ∷ [])) (take (offset f.pages i) f.frames ++ x) zeros) back
      ∙ ap (λ (x : List ℕ). file f.q f.run x (take (offset f.pages i) f.frames ++ ws) zeros) (sym (take-suc f.pages i 0 l))
      ∙ ap (λ (x : List ℕ). file f.q f.run (take (suc i) f.pages) x zeros) (list_more i)

  frame_taken : (i : ℕ) → i < 16 → with_record (P3 i) 3 (all_bytes (frame_words f.memory i)) ≡ P3 (suc i)
  unfolding with_record all_bytes little frame_words
  frame_taken i l =
      let ws = inner (i * 1024) 1024 f.memory in
      let back : words_of 1024 (all_bytes ws) ≡ ws =
      ap (λ (k : ℕ). words_of k (all_bytes ws)) (sym (frame_length i l)) ∙ ap (words_of (length ws)) (sym (append-nil (all_bytes ws)))
      ∙ words_bytes ws [] (part_below f.memory (i * 1024) 1024 s.memory) in
      ap (λ (k : ℕ). file f.q f.run f.pages f.frames (outer (k * 1024) 1024 (joined (i * 1024) f.memory zeros) (words_of 1024 (all_bytes ws)))) (number_bytes i (omega arith))
      ∙ ap (λ (x : List ℕ). file f.q f.run f.pages f.frames (outer (i * 1024) 1024 (joined (i * 1024) f.memory zeros) x)) back
      ∙ ap (λ (x : List ℕ). file f.q f.run f.pages f.frames x)
      (joined_outer (i * 1024) 1024 (suc i * 1024) f.memory zeros (omega arith) (omega (arith, s.size)) (omega (arith, zeros_length)))

  -- ---- that it may come

  turns_come : may_come 0 0 1 (4 * length (f.q ∷ f.run ∷ [])) ≡ true
  unfolding may_come
  turns_come = refl

  list_comes : (i : ℕ) → i < c → may_come (behind 1 2 i) (length (take i f.pages)) 2 (4 * length (list_words f.pages f.frames i)) ≡ true
  unfolding may_come
  list_comes i l =
      let n = list_length i in
      simp (
        last_list i,
        lt-ltb (length (take i f.pages)) 8 (omega (arith, length-take-le i f.pages (omega arith), s.listed.few)),
        eq-eqb (4 * length (list_words f.pages f.frames i) % 4) 0 (omega arith),
        le-leb (4 * length (list_words f.pages f.frames i)) 1024 (omega (arith, s.listed.pages i)),
      )

  frame_comes : (i last : ℕ) → i < 16 → (eqb last 2 || eqb last 3) ≡ true → (n : ℕ) → may_come last n 3 (4 * length (frame_words f.memory i)) ≡ true
  unfolding may_come frame_words
  frame_comes i last l e n =
      let z : 4 * suc (length (inner (i * 1024) 1024 f.memory)) ≡ 4100 = omega (arith, frame_length i l) in
      simp (z, e)

  frame_count : (i : ℕ) → i < 16 → length (frame_words f.memory i) ≡ 1025
  unfolding frame_words
  frame_count i l = omega (arith, frame_length i l)

  frame_few : (i : ℕ) → i < 16 → length (frame_words f.memory i) < 2 ^ 30
  frame_few i l = omega (arith, frame_count i l)

  frame_small : (i : ℕ) → i < 16 → ltb (number (take 4 (all_bytes (frame_words f.memory i)))) 16 ≡ true
  unfolding all_bytes little frame_words
  frame_small i l = ap (λ (k : ℕ). ltb k 16) (number_bytes i (omega arith)) ∙ lt-ltb i 16 l

  -- ---- all of them

  abbrev r2 : List ℕ
  r2 = records 2 (list_words f.pages f.frames) c

  abbrev r3 : List ℕ
  r3 = records 3 (frame_words f.memory) 16

  abbrev r4 : List ℕ
  r4 = record_of 4 []

  between : P2 c ≡ P3 0
  between =
      let a : take c f.pages ≡ f.pages = take_all c f.pages (omega arith) in
      let b : take (offset f.pages c) f.frames ≡ f.frames = take_all (offset f.pages c) f.frames (omega (arith, offset_sum f.pages, s.listed.lists)) in
      ap (λ (x : List ℕ). file f.q f.run x (take (offset f.pages c) f.frames) zeros) a
      ∙ ap (λ (x : List ℕ). file f.q f.run f.pages x zeros) b

  at_end : P3 16 ≡ f
  at_end =
      let a : take (16 * 1024) f.memory ≡ f.memory = take_all (16 * 1024) f.memory (omega (arith, s.size)) in
      let b : drop (16 * 1024) zeros ≡ [] = drop_of_length-le zeros {i = 16 * 1024} (omega (arith, zeros_length)) in
      ap (λ (x : List ℕ). file f.q f.run f.pages f.frames (x ++ drop (16 * 1024) zeros)) a
      ∙ ap (λ (x : List ℕ). file f.q f.run f.pages f.frames (f.memory ++ x)) b
      ∙ ap (λ (x : List ℕ). file f.q f.run f.pages f.frames x) (append-nil f.memory)

  end_read : (m at : ℕ) → read_from (suc (suc m)) (P3 16) 3 at r4 ≡ right f
  unfolding may_come with_record all_bytes read_from
  end_read m at =
      ap (read_from (suc (suc m)) (P3 16) 3 at) (sym (append-nil r4))
      ∙ read_record 4 [] [] (omega arith) (omega arith) (suc m) (P3 16) 3 at refl refl refl
      ∙ ap right at_end

  frames_read : (m at : ℕ) → read_from (16 + suc (suc m)) (P3 0) (behind 1 2 c) at (r3 ++ r4) ≡ right f
  frames_read m at =
      ap (λ (y : ℕ). read_from (16 + suc (suc m)) (P3 0) y at (r3 ++ r4)) (last_two 1 2 c s.listed.some)
      ∙ read_records P3 3 (frame_words f.memory) 2 16 r4 (right f) (suc (suc m)) (omega arith)
      (λ i l. (more_frames i, frame_few i l, frame_comes i (behind 2 3 i) l (last_frame i) (length f.pages), frame_small i l, frame_taken i l))
      (λ at. ap (λ (y : ℕ). read_from (suc (suc m)) (P3 16) y at r4) (last_two 2 3 16 (omega arith)) ∙ end_read m at)
      at

  lists_read : (m at : ℕ) → read_from (c + (16 + suc (suc m))) (P2 0) 1 at (r2 ++ (r3 ++ r4)) ≡ right f
  lists_read m =
      read_records P2 2 (list_words f.pages f.frames) 1 c (r3 ++ r4) (right f) (16 + suc (suc m)) (omega arith)
      (λ i l. (more_lists i, omega (arith, list_length i, s.listed.pages i), list_comes i l, refl, list_taken i l))
      (λ at. ap (λ (y : File). read_from (16 + suc (suc m)) y (behind 1 2 c) at (r3 ++ r4)) between ∙ frames_read m at)

  all_read : (m : ℕ) → read_from (suc (c + (16 + suc (suc m)))) no_file 0 0 (record_of 1 (f.q ∷ f.run ∷ []) ++ (r2 ++ (r3 ++ r4))) ≡ right f
  all_read m =
      read_record 1 (f.q ∷ f.run ∷ []) (r2 ++ (r3 ++ r4)) (omega arith) (omega arith) (c + (16 + suc (suc m))) no_file 0 0 refl turns_come refl
      ∙ ap (λ (y : File). read_from (c + (16 + suc (suc m))) y 1 14 (r2 ++ (r3 ++ r4))) turns_taken
      ∙ lists_read m 14

  -- ---- how long it is, and that it is bytes

  records_least : (k : ℕ) (g : ℕ → List ℕ) (n : ℕ) → n ≤ length (records k g n)
  unfolding records record_of little
  records_least k g zero = omega arith
  records_least k g (suc n) = omega (arith, records_least k g n, length-append (records k g n) (record_of k (g n)))

  records_most : (k : ℕ) (g : ℕ → List ℕ) (b n : ℕ) → ((i : ℕ) → i < n → length (record_of k (g i)) ≤ b) → length (records k g n) ≤ n * b
  unfolding records
  records_most k g b zero h = omega arith
  records_most k g b (suc n) h =
      let e : suc n * b ≡ n * b + b = omega arith in
      omega (arith, records_most k g b n (λ i l. h i (omega arith)), h n (omega arith), length-append (records k g n) (record_of k (g n)), e)

  abbrev all : List ℕ
  all = record_of 1 (f.q ∷ f.run ∷ []) ++ (r2 ++ (r3 ++ r4))

  whole_is : contents_file f ≡ all
  unfolding contents_file before_frames
  whole_is = append_assoc (record_of 1 (f.q ∷ f.run ∷ [])) r2 (r3 ++ r4)

  all_length : length all ≡ length (record_of 1 (f.q ∷ f.run ∷ [])) + (length r2 + (length r3 + length r4))
  all_length =
      omega (arith, length-append (record_of 1 (f.q ∷ f.run ∷ [])) (r2 ++ (r3 ++ r4)), length-append r2 (r3 ++ r4), length-append r3 r4)

  first_length : length (record_of 1 (f.q ∷ f.run ∷ [])) ≡ 14
  first_length = record_length 1 (f.q ∷ f.run ∷ []) (omega arith) (omega arith)

  last_length : length r4 ≡ 6
  last_length = record_length 4 [] (omega arith) (omega arith)

  pub says_whole : reading_of (contents_file f) ≡ right f
  unfolding reading_of
  says_whole =
      let m = length all - (c + 18) in
      let least = records_least 2 (list_words f.pages f.frames) c in
      let e : length all ≡ c + (16 + suc (suc m)) = omega (arith, all_length, first_length, least, records_least 3 (frame_words f.memory) 16) in
      ap reading_of whole_is ∙ ap (λ (n : ℕ). read_from (suc n) no_file 0 0 all) e ∙ all_read m

  pub fits : length (contents_file f) ≤ 73956
  fits =
      let lists = records_most 2 (list_words f.pages f.frames) 1030 c λ i l.
      omega (arith, record_length 2 (list_words f.pages f.frames i) (omega arith) (omega (arith, list_length i, s.listed.pages i)), list_length i, s.listed.pages i) in
      let frames = records_most 3 (frame_words f.memory) 4106 16 λ i l.
      omega (arith, record_length 3 (frame_words f.memory i) (omega arith) (frame_few i l), frame_count i l) in
      omega (arith, ap length whole_is, all_length, first_length, last_length, lists, frames, s.listed.few)

  bytes : Below 256 (contents_file f)
  unfolding contents_file before_frames
  bytes =
      below_append 256 (record_of 1 (f.q ∷ f.run ∷ []) ++ r2) (r3 ++ r4)
      (below_append 256 (record_of 1 (f.q ∷ f.run ∷ [])) r2 (record_below 1 (f.q ∷ f.run ∷ [])) (records_below 2 (list_words f.pages f.frames) c))
      (below_append 256 r3 r4 (records_below 3 (frame_words f.memory) 16) (record_below 4 []))

  pub says_cut : (xs bs : List ℕ) → xs ++ bs ≡ contents_file f → answer_of (fed (fed no_read xs) bs) ≡ right f
  says_cut xs bs e =
      cut_anywhere xs bs (λ i. subst (λ (x : List ℕ). get_or x i 0 < 256) (sym e) (bytes i)) (omega (arith, ap length e, fits)) ∙ ap reading_of e ∙ says_whole

pub says_all : SaysAll
says_all = record { whole = says_whole; cut = says_cut }

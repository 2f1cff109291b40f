-- The bytes taken one by one, in whatever pieces, give what the whole file says.
use Rattle.std.proofs.Common.{◌≡◌, ℕ, zero, suc, ◌+◌, ◌*◌, ◌/◌, ◌%◌, ◌^◌, ◌<◌, ◌≤◌, true, false, not, ◌&&◌, ◌||◌, eqb, ltb, leb, List, [], ◌∷◌, ◌++◌, length, get_or, take, drop, set, replicate, sym, refl, ap, ◌∙◌, subst, arith, length-append, length-drop, length-set, take-take, drop-drop, take-suc-set, take_at, ltb-false, ltb-true, eq-eqb, ne_eqb, eqb-true, leb-false, leb-true}
use lib.ListN.{length-replicate}
use lib.Seq.{sets, sets-eq, length-sets}
use Rattle.dlx.specs.Choice.{when◌then◌else◌}
use Rattle.dlx.proofs.Tests.{by_test, and_left}
use Rattle.house.proofs.Lists.Bounded.{and_right, one_way}
use Rattle.housefile.specs.Records.{number, words_of, size, kind, body, may_come, record_right, File, no_file, with_record, wrong, right, read_from, reading_of}
use Rattle.housefile.specs.Reader.{Read, read, no_record, no_read, completed, took, fed, answer_of}
use Rattle.housefile.specs.declared.Reader.{Reader}
use Rattle.housefile.proofs.Machine.{fed_pieces}
use Rattle.housefile.proofs.Steps.{Bytes, drop_bytes, Open, stuck, wrong_answer}
use Rattle.housefile.proofs.Words.{few}
use Rattle.housefile.proofs.InBody.{behind}
use Rattle.housefile.proofs.EachKind.{header_wrong, cut_short, empty_fed, turns_fed, frames_fed, frame_wrong, memory_fed}
use Rattle.housefile.proofs.Contents.{by_kind, loads, length_words, with_turns_lem, with_frames_lem, with_memory, with_none}

-- ---- a state between two records, and the file so far

pub record Holds (f : File) (pages frames : List ℕ) : Type 0 where
  pub counts : take (length f.pages) pages ≡ f.pages
  pub numbers : take (length f.frames) frames ≡ f.frames
  pub eight : length pages ≡ 8
  pub room : length frames ≡ 2048
  pub words : length f.memory ≡ 16384
  pub lists : length f.pages ≤ 8
  pub total : length f.frames ≤ 256 * length f.pages

abbrev pub stands : File → ℕ → ℕ → List ℕ → List ℕ → Read
stands f last start pages frames =
    let r : Reader = record { wrong = false; start = start; last = last; lists = length f.pages; total = length f.frames; at = no_record } in
    read r (f.q ∷ f.run ∷ []) pages frames f.memory

-- ---- at the end, and behind it

ended : (f : File) (last start : ℕ) (pages frames bs : List ℕ) → Holds f pages frames → eqb last 4 ≡ true
    → answer_of (fed (stands f last start pages frames) bs) ≡ (when eqb (length bs) 0 then right f else wrong start)
unfolding fed took answer_of
ended f last start pages frames [] h e = simp (e, h.counts, h.numbers)
ended f last start pages frames (b ∷ bs) h e =
    simp (e, ne_eqb (suc (length bs)) 0 (omega arith)) (wrong_answer _ bs refl)

-- ---- one record

-- the number in front of a body
front : (bs : List ℕ) → 4 ≤ size bs → number (take 4 (body bs)) ≡ number (take 4 (drop 6 bs))
front bs l = ap number (take-take 4 (size bs) (drop 6 bs) l)

module _ (f : File) (last start : ℕ) (pages frames bs : List ℕ) (h : Holds f pages frames) (g : Bytes bs) (more : eqb last 4 ≡ false) where
  opens : Open (stands f last start pages frames).reader
  opens = record { not_wrong = refl; not_last = more }

  record_wrong : record_right last (length f.pages) bs ≡ false → answer_of (fed (stands f last start pages frames) bs) ≡ wrong start
  unfolding record_right
  record_wrong w =
      let s = stands f last start pages frames in
      by_test (leb 6 (length bs))
      (λ e₁. let l = leb-true 6 (length bs) e₁ in
      by_test (may_come last (length f.pages) (kind bs) (size bs))
      (λ e₂. by_test (leb (6 + size bs) (length bs))
      (λ e₃. by_test (eqb (kind bs) 3)
      (λ e₄.
      let z : size bs ≡ 4100 = loads last (length f.pages) (kind bs) (size bs) e₂ (eqb-true (kind bs) 3 e₄) in
      by_test (ltb (number (take 4 (body bs))) 16)
      (λ e₅. one_way (record_right last (length f.pages) bs) (simp (e₁, e₂, e₃, e₄, e₅)) w)
      (λ e₅. frame_wrong s opens bs g e₂ (eqb-true (kind bs) 3 e₄) z (omega (arith, leb-true (6 + size bs) (length bs) e₃))
      (omega (arith, front bs (omega arith), ltb-false (number (take 4 (body bs))) 16 e₅))))
      (λ e₄. one_way (record_right last (length f.pages) bs) (simp (e₁, e₂, e₃, e₄)) w))
      (λ e₃. cut_short s opens bs g l e₂ (leb-false (6 + size bs) (length bs) e₃)
      (by_kind last (length f.pages) (kind bs) (size bs) e₂ (λ _ z. omega arith) (λ _ _ _ z. omega arith) (λ _ z. omega arith) (λ _ z. omega arith))))
      (λ e₂. header_wrong s opens bs g l e₂))
      (λ e₁. few s opens no_record bs (omega (arith, leb-false 6 (length bs) e₁)))

  -- the state behind the record, for a kind and a body length
  abbrev Next : ℕ → ℕ → Type 0
  Next k z =
      (pages' : List ℕ) × (frames' : List ℕ) × Holds (with_record f k (take z (drop 6 bs))) pages' frames'
      × (fed (stands f last start pages frames) bs
      ≡ fed (stands (with_record f k (take z (drop 6 bs))) k (start + (6 + z)) pages' frames') (drop (6 + z) bs))

  here : (k z : ℕ) → kind bs ≡ k → size bs ≡ z → Next k z → Next (kind bs) (size bs)
  here k z ek ez x = subst (λ (i : ℕ). Next i (size bs)) (sym ek) (subst (λ (i : ℕ). Next k i) (sym ez) x)

  module _ (comes : may_come last (length f.pages) (kind bs) (size bs) ≡ true) (fits : start + length bs < 2 ^ 64) where
    turns_next : kind bs ≡ 1 → size bs ≡ 8 → 14 ≤ length bs → Next 1 8
    unfolding words_of behind completed
    turns_next ek ez l =
        let s = stands f last start pages frames in
        let e = with_turns_lem f (drop 6 bs) in
        let at : (start + 14) % 2 ^ 64 ≡ start + 14 = omega arith in (
          pages,
          frames,
          rw e (record {
            counts = h.counts;
            numbers = h.numbers;
            eight = h.eight;
            room = h.room;
            words = h.words;
            lists = h.lists;
            total = h.total;
          }),
          turns_fed s opens bs g comes ek ez l ∙ rw (e, at),
        )

    frames_next : (n : ℕ) → kind bs ≡ 2 → size bs ≡ 4 * n → 6 + 4 * n ≤ length bs → n ≤ 256 → length f.pages < 8 → Next 2 (4 * n)
    unfolding behind completed
    frames_next n ek ez l b m =
        let s = stands f last start pages frames in
        let L = length f.pages in
        let T = length f.frames in
        let ws = words_of n (drop 6 bs) in
        let e = with_frames_lem f (drop 6 bs) n (omega (arith, length-drop 6 bs)) in
        let at : (start + (6 + 4 * n)) % 2 ^ 64 ≡ start + (6 + 4 * n) = omega arith in
        let quarter : 4 * n / 4 ≡ n = omega arith in
        let count : length ws ≡ n = length_words n (drop 6 bs) in
        let longer : length (f.pages ++ (n ∷ [])) ≡ suc L = length-append f.pages (n ∷ []) ∙ omega arith in
        let all : length (f.frames ++ ws) ≡ T + n = length-append f.frames ws ∙ ap (λ (i : ℕ). T + i) count in
        let one : (L + 1) % 2 ^ 32 ≡ length (f.pages ++ (n ∷ [])) = omega (arith, longer) in
        let sum : (T + n) % 2 ^ 32 ≡ length (f.frames ++ ws) = omega (arith, all, h.total) in (
          set pages L n,
          sets frames T ws,
          rw e (record {
            counts = ap (λ (i : ℕ). take i (set pages L n)) longer
                ∙ take-suc-set pages L n (omega (arith, h.eight))
                ∙ ap (λ (x : List ℕ). x ++ (n ∷ [])) h.counts;
            numbers = ap (take (length (f.frames ++ ws)))
                (sets-eq ws frames T (omega (arith, count, h.total, h.room)) ∙ ap (λ (x : List ℕ). x ++ ws ++ drop (T + length ws) frames) h.numbers)
                ∙ take_at (f.frames ++ ws) (drop (T + length ws) frames) (length (f.frames ++ ws)) refl;
            eight = length-set pages L n ∙ h.eight;
            room = length-sets frames T ws ∙ h.room;
            words = h.words;
            lists = omega (arith, longer);
            total = omega (arith, longer, all, h.total);
          }),
          frames_fed s opens bs g comes n ek ez l b ∙ rw (e, at, quarter, one, sum),
        )

    memory_next : kind bs ≡ 3 → size bs ≡ 4100 → 4106 ≤ length bs → number (take 4 (drop 6 bs)) < 16 → Next 3 4100
    unfolding behind completed
    memory_next ek ez l b =
        let s = stands f last start pages frames in
        let v = number (take 4 (drop 6 bs)) in
        let ws = words_of 1024 (drop 4 (drop 6 bs)) in
        let e = with_memory f (drop 6 bs) (omega (arith, h.words)) in
        let at : (start + 4106) % 2 ^ 64 ≡ start + 4106 = omega arith in (
          pages,
          frames,
          rw e (record {
            counts = h.counts;
            numbers = h.numbers;
            eight = h.eight;
            room = h.room;
            words = length-sets f.memory (v * 1024) ws ∙ h.words;
            lists = h.lists;
            total = h.total;
          }),
          memory_fed s opens bs g comes ek ez l b ∙ rw (e, at, drop-drop 4 6 bs),
        )

    end_next : kind bs ≡ 4 → size bs ≡ 0 → 6 ≤ length bs → Next 4 0
    unfolding behind completed
    end_next ek ez l =
        let s = stands f last start pages frames in
        let e = with_none f (drop 6 bs) in
        let at : (start + 6) % 2 ^ 64 ≡ start + 6 = omega arith in
        (pages, frames, rw e h, empty_fed s opens bs g comes 4 0 ek ez l refl ∙ rw (e, at))

  record_next : start + length bs < 2 ^ 64 → record_right last (length f.pages) bs ≡ true → (6 + size bs ≤ length bs) × Next (kind bs) (size bs)
  unfolding record_right
  record_next fits e =
      let L = length f.pages in
      let a = leb 6 (length bs) in
      let b = may_come last L (kind bs) (size bs) in
      let c = leb (6 + size bs) (length bs) in
      let d = not (eqb (kind bs) 3) || ltb (number (take 4 (body bs))) 16 in
      let whole = and_left (a && b && c) d e in
      let comes = and_right a b (and_left (a && b) c whole) in
      let l = leb-true (6 + size bs) (length bs) (and_right (a && b) c whole) in (
        l,
        by_kind last L (kind bs) (size bs) comes
            (λ ek ez. here 1 8 ek ez (turns_next comes fits ek ez (omega arith)))
            (λ ek m four b.
            let n = size bs / 4 in
            let ez : size bs ≡ 4 * n = omega arith in
            here 2 (4 * n) ek ez (frames_next comes fits n ek ez (omega arith) (omega arith) m))
            (λ ek ez.
            let three : ltb (number (take 4 (body bs))) 16 ≡ true = rw (eq-eqb (kind bs) 3 ek) at (and_right (a && b && c) d e) in
            here 3 4100 ek ez (memory_next comes fits ek ez (omega arith) (omega (arith, front bs (omega arith), ltb-true (number (take 4 (body bs))) 16 three))))
            (λ ek ez. here 4 0 ek ez (end_next comes fits ek ez (omega arith))),
      )

-- ---- the file

reads_from : (n : ℕ) (f : File) (last start : ℕ) (pages frames bs : List ℕ) → Holds f pages frames → Bytes bs → length bs < n → start + length bs < 2 ^ 64
    → answer_of (fed (stands f last start pages frames) bs) ≡ read_from n f last start bs
unfolding read_from
reads_from zero f last start pages frames bs h g l fits = absurd (omega arith)
reads_from (suc n) f last start pages frames bs h g l fits =
    by_test (eqb last 4)
    (λ e. ended f last start pages frames bs h e ∙ rw e)
    λ e. by_test (record_right last (length f.pages) bs)
    (λ q.
    let x = record_next f last start pages frames bs h g e fits q in
    let d = length-drop (6 + size bs) bs in
    ap answer_of x.1.3
    ∙ reads_from n (with_record f (kind bs) (body bs)) (kind bs) (start + (6 + size bs)) x.1.0 x.1.1 (drop (6 + size bs) bs) x.1.2
    (drop_bytes (6 + size bs) bs g) (omega (arith, d, x.0)) (omega (arith, d, x.0))
    ∙ rw (e, q))
    (λ q. record_wrong f last start pages frames bs h g e q ∙ rw (e, q))

-- the machine's answer at the end is what the file says
pub reads : (bs : List ℕ) → ((i : ℕ) → get_or bs i 0 < 256) → length bs < 2 ^ 64 → answer_of (fed no_read bs) ≡ reading_of bs
unfolding reading_of
reads bs g l =
    reads_from (suc (length bs)) no_file 0 0 (replicate 8 0) (replicate 2048 0) bs
    (record {
      counts = refl;
      numbers = refl;
      eight = length-replicate {A = ℕ} 8 0;
      room = length-replicate {A = ℕ} 2048 0;
      words = length-replicate {A = ℕ} 16384 0;
      lists = omega arith;
      total = omega arith;
    })
    g (omega arith) (omega arith)

-- in two pieces, cut anywhere
pub cut_anywhere : (xs bs : List ℕ) → ((i : ℕ) → get_or (xs ++ bs) i 0 < 256) → length (xs ++ bs) < 2 ^ 64
    → answer_of (fed (fed no_read xs) bs) ≡ reading_of (xs ++ bs)
cut_anywhere xs bs g l = ap answer_of (sym (fed_pieces no_read xs bs)) ∙ reads (xs ++ bs) g l

-- once a record is wrong, the answer is fixed, however the file goes on
pub wrong_fixed : (bs more : List ℕ) → ((i : ℕ) → get_or bs i 0 < 256) → ((i : ℕ) → get_or (bs ++ more) i 0 < 256) → length (bs ++ more) < 2 ^ 64
    → (fed no_read bs).reader.wrong ≡ true → reading_of (bs ++ more) ≡ reading_of bs
wrong_fixed bs more g h l w =
    sym (cut_anywhere bs more h l) ∙ ap answer_of (stuck (fed no_read bs) more w) ∙ reads bs g (omega (arith, length-append bs more))

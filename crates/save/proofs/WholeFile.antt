-- The bytes taken one by one come to what the whole file says.
use mathlib.Core.Path.{◌≡◌, refl, sym, ap, subst, ◌∙◌}
use mathlib.Core.Bool.{true, false, not, ◌&&◌}
use mathlib.Core.List.{List, [], ◌∷◌, ◌++◌, append_assoc, append-nil}
use Prim.Native.Nat.{ℕ, zero, suc, ◌+◌, ◌-◌, ◌/◌, ◌%◌, ◌^◌, ◌<◌, ◌≤◌}
use native.Mathlib.Omega.{arith}
use borrow.Author.Tests.{eqb-true, ltb-true, ltb-false, leb-true, leb-false, eq-eqb, ne_eqb}
use lib.Dec.{eqb, ltb, leb}
use lib.ListN.{length, get_or, take, drop, length-append, length-drop, take-append-drop}
use lib.Seq.{length-take-le}
use Rattle.dlx.specs.Choice.{when◌then◌else◌}
use Rattle.dlx.proofs.Tests.{by_test, and_left}
use Rattle.house.proofs.Lists.Bounded.{and_right, one_way}
use Rattle.house.specs.House.{no_house}
use Rattle.house.specs.Damage.{damaged}
use Rattle.house.specs.Boot.{verdict, first_of}
use Rattle.house.specs.Turns.{world}
use Rattle.house.specs.Calls.{answered}
use Rattle.housefile.specs.Records.{words_of, size, kind}
use Rattle.save.specs.Reading.{Progress, Reading, reading, begun, refused_by, may_come, content_right, behind, taken, settled, took, fed}
use Rattle.save.specs.Calls.{read_verdict, finished}
use Rattle.save.specs.Whole.{body_of, record_right, Says, other_size, wrong, right, says_from, says_of, answer_to}
use Rattle.save.specs.Promises.{WholeFile}
use Rattle.save.proofs.Bytes.{length_words, words_there}
use Rattle.save.proofs.Machine.{Open, stuck, head_size, head_kind, took_early, took_within, took_wrong, take_whole}
use Rattle.save.proofs.Exact.{by_kind}

-- ---- how a reading ends

ends_wrong : (p : Progress) (xs : List ℕ) → (p.refusal ≡ 0 → p.ended ≡ false) → (p.refusal ≡ 9 → ⊥) → finished (reading p xs) ≡ answered (verdict 17 p.start) (world no_house p.memory)
unfolding finished read_verdict first_of
ends_wrong p xs e n =
    by_test (eqb p.refusal 0)
    (λ t. let r = eqb-true p.refusal 0 t in simp (r, e r))
    (λ t. simp (t, ne_eqb p.refusal 9 n))

ends_9 : (p : Progress) (xs : List ℕ) → p.refusal ≡ 9 → finished (reading p xs) ≡ answer_to (other_size p.memory)
unfolding finished read_verdict first_of answer_to
ends_9 p xs e = rw (eq-eqb p.refusal 9 e)

ends_right : (p : Progress) (xs : List ℕ) → p.refusal ≡ 0 → p.ended ≡ true → finished (reading p xs) ≡ answer_to (right (p.start - 6) (world p.house p.memory))
unfolding finished read_verdict first_of answer_to
ends_right p xs r d = by_test (damaged p.house) (λ t. simp (r, d, t)) (λ t. simp (r, d, t))

-- a reading that is refused at the record at hand
ends_at : (p : Progress) (bs : List ℕ) → finished (fed (reading (refused_by 17 p) []) bs) ≡ answer_to (wrong p.start p.memory)
unfolding answer_to
ends_at p bs =
    let q = refused_by 17 p in
    ap finished (stuck (reading q []) bs (λ z. absurd (omega arith))) ∙ ends_wrong q [] (λ z. absurd (omega arith)) (λ z. absurd (omega arith))

-- ---- a record

module _ (p : Progress) (o : Open p) where
  -- bytes that make no whole record
  held_all : (ys xs : List ℕ) → (6 ≤ length (xs ++ ys) → (may_come p (kind (xs ++ ys)) (size (xs ++ ys)) ≡ true) × (length (xs ++ ys) < 6 + size (xs ++ ys)))
      → fed (reading p xs) ys ≡ reading p (xs ++ ys)
  unfolding fed
  held_all [] xs h = ap (reading p) (sym (append-nil xs))
  held_all (y ∷ ys) xs h =
      let n = xs ++ (y ∷ []) in
      let e : n ++ ys ≡ xs ++ (y ∷ ys) = append_assoc xs (y ∷ []) ys in
      let h' : 6 ≤ length (n ++ ys) → (may_come p (kind (n ++ ys)) (size (n ++ ys)) ≡ true) × (length (n ++ ys) < 6 + size (n ++ ys)) =
      subst (λ (l : List ℕ). 6 ≤ length l → (may_come p (kind l) (size l) ≡ true) × (length l < 6 + size l)) (sym e) h in
      ap (λ (x : Reading). fed x ys) (first ys n h' xs y refl) ∙ held_all ys n h' ∙ ap (reading p) e
    where
      first : (ys n : List ℕ) → (6 ≤ length (n ++ ys) → (may_come p (kind (n ++ ys)) (size (n ++ ys)) ≡ true) × (length (n ++ ys) < 6 + size (n ++ ys)))
          → (xs : List ℕ) (y : ℕ) → n ≡ xs ++ (y ∷ []) → took (reading p xs) y ≡ reading p (xs ++ (y ∷ []))
      first ys n h xs y e =
          let l = length-append n ys in
          by_test (ltb (length n) 6)
          (λ t. took_early p o xs y (rw e at (ltb-true (length n) 6 t)))
          (λ t.
          let six = ltb-false (length n) 6 t in
          let x = h (omega arith) in
          let ez = head_size n ys six in
          let ek = head_kind n ys six in
          let m : may_come p (kind n) (size n) ≡ true = ap (λ (k : ℕ). may_come p k (size n)) (sym ek) ∙ ap (may_come p (kind (n ++ ys))) (sym ez) ∙ x.0 in
          let b : length n < 6 + size n = omega (arith, x.1) in
          took_within p o xs y (rw e at six) (rw e at m) (rw e at b))

  -- a head that may not come
  head_refused : (ys xs : List ℕ) → length xs < 6 → 6 ≤ length (xs ++ ys) → may_come p (kind (xs ++ ys)) (size (xs ++ ys)) ≡ false
      → (b : List ℕ) × (fed (reading p xs) ys ≡ fed (reading (refused_by 17 p) []) b)
  unfolding fed
  head_refused [] xs l six m = absurd (omega (arith, length-append xs []))
  head_refused (y ∷ ys) xs l six m =
      let n = xs ++ (y ∷ []) in
      let e : n ++ ys ≡ xs ++ (y ∷ ys) = append_assoc xs (y ∷ []) ys in
      by_test (ltb (length n) 6)
      (λ t.
      let b = ltb-true (length n) 6 t in
      let x = head_refused ys n b (rw e six) (rw e m) in
      (x.0, ap (λ (r : Reading). fed r ys) (took_early p o xs y b) ∙ x.1))
      (λ t.
      let b = ltb-false (length n) 6 t in
      let m' : may_come p (kind n) (size n) ≡ false =
      ap (λ (k : ℕ). may_come p k (size n)) (sym (head_kind n ys b)) ∙ ap (may_come p (kind (n ++ ys))) (sym (head_size n ys b)) ∙ rw e m in
      (ys, ap (λ (r : Reading). fed r ys) (took_wrong p o xs y b m')))

  module _ (bs : List ℕ) (six : 6 ≤ length bs) (may : may_come p (kind bs) (size bs) ≡ true) (there : 6 + size bs ≤ length bs) where
    abbrev rec : List ℕ
    rec = take (6 + size bs) bs

    rec_long : length rec ≡ 6 + size bs
    rec_long = length-take-le (6 + size bs) bs there

    whole_bs : rec ++ drop (6 + size bs) bs ≡ bs
    whole_bs = take-append-drop (6 + size bs) bs

    rec_size : size rec ≡ size bs
    rec_size = sym (head_size rec (drop (6 + size bs) bs) (omega (arith, rec_long))) ∙ ap size whole_bs

    rec_kind : kind rec ≡ kind bs
    rec_kind = sym (head_kind rec (drop (6 + size bs) bs) (omega (arith, rec_long))) ∙ ap kind whole_bs

    rec_words : body_of rec ≡ body_of bs
    rec_words = ap (λ (x : ℕ). words_of (x / 4) (drop 6 rec)) rec_size ∙ words_there (6 + size bs) (size bs / 4) bs (omega arith)

    settles : fed (reading p []) bs ≡ fed (reading (settled p (kind bs) (body_of bs)) []) (drop (6 + size bs) bs)
    settles =
        let m : may_come p (kind rec) (size rec) ≡ true = ap (λ (k : ℕ). may_come p k (size rec)) rec_kind ∙ ap (may_come p (kind bs)) rec_size ∙ may in
        ap (fed (reading p [])) (sym whole_bs)
        ∙ take_whole p o rec m (omega (arith, rec_long, rec_size)) (drop (6 + size bs) bs)
        ∙ ap (λ (k : ℕ). fed (reading (settled p k (body_of rec)) []) (drop (6 + size bs) bs)) rec_kind
        ∙ ap (λ (w : List ℕ). fed (reading (settled p (kind bs) w) []) (drop (6 + size bs) bs)) rec_words

    quarters : size bs % 4 ≡ 0
    quarters = by_kind p (kind bs) (size bs) may (λ _ _ z. omega arith) (λ _ _ _ _ _ _ _ z. z) (λ _ _ _ _ _ _ z. z) (λ _ _ _ _ z. omega arith) (λ _ _ _ _ z. omega arith)

  record_wrong : (bs : List ℕ) → record_right p bs ≡ false → finished (fed (reading p []) bs) ≡ answer_to (wrong p.start p.memory)
  unfolding record_right settled answer_to
  record_wrong bs w =
      by_test (leb 6 (length bs))
      (λ e₁. let six = leb-true 6 (length bs) e₁ in
      by_test (may_come p (kind bs) (size bs))
      (λ e₂. by_test (leb (6 + size bs) (length bs))
      (λ e₃. by_test (content_right p (kind bs) (body_of bs))
      (λ e₄. one_way (record_right p bs) (simp (e₁, e₂, e₃, e₄)) w)
      (λ e₄. ap finished (settles bs six e₂ (leb-true (6 + size bs) (length bs) e₃)) ∙ rw e₄ (ends_at p (drop (6 + size bs) bs))))
      (λ e₃. let b = leb-false (6 + size bs) (length bs) e₃ in ap finished (held_all bs [] (λ _. (e₂, b))) ∙ open_end bs))
      (λ e₂. let x = head_refused bs [] (omega arith) six e₂ in ap finished x.1 ∙ ends_at p x.0))
      (λ e₁. let b = leb-false 6 (length bs) e₁ in ap finished (held_all bs [] (λ l. absurd (omega arith))) ∙ open_end bs)
    where
      open_end : (xs : List ℕ) → finished (reading p xs) ≡ answered (verdict 17 p.start) (world no_house p.memory)
      open_end xs = ends_wrong p xs (λ _. o.more) (λ z. absurd (omega (arith, o.right)))

-- ---- the file

taken_refusal : (p : Progress) (k : ℕ) (ws : List ℕ) → eqb (taken p k ws).refusal 9 ≡ false → (taken p k ws).refusal ≡ 0
unfolding taken
taken_refusal p k ws e = by_test (eqb k 5 && not (eqb (length p.memory) (get_or ws 1 0))) (λ t. one_way true refl (rw t at e)) (λ t. rw t)

taken_start : (p : Progress) (k : ℕ) (ws : List ℕ) → (taken p k ws).start ≡ behind p ws
unfolding taken
taken_start p k ws = refl

settled_right : (p : Progress) (k : ℕ) (ws : List ℕ) → content_right p k ws ≡ true → settled p k ws ≡ taken p k ws
unfolding settled
settled_right p k ws e = rw e

behind_end : (p : Progress) (at : ℕ) (bs : List ℕ) → p.start ≡ at → p.refusal ≡ 0 → p.ended ≡ true
    → finished (fed (reading p []) bs) ≡ answer_to (when eqb (length bs) 0 then right (at - 6) (world p.house p.memory) else wrong at p.memory)
unfolding fed took
behind_end p at [] e r d = ends_right p [] r d ∙ ap (λ (x : ℕ). answer_to (right (x - 6) (world p.house p.memory))) e
behind_end p at (y ∷ ys) e r d =
    let q : took (reading p []) y ≡ reading (refused_by 17 p) [] = simp (r, d) in
    let z : eqb (length (y ∷ ys)) 0 ≡ false = ne_eqb (length (y ∷ ys)) 0 (λ x. absurd (omega arith)) in
    rw z (ap (λ (x : Reading). finished (fed x ys)) q ∙ ends_at p ys ∙ ap (λ (x : ℕ). answer_to (wrong x p.memory)) e)

module _ (n : ℕ) (p : Progress) (at : ℕ) (bs : List ℕ) where
  abbrev Behind : Says
  Behind = says_from n (taken p (kind bs) (body_of bs)) (at + (6 + size bs)) (drop (6 + size bs) bs)

  says_9 : eqb p.refusal 9 ≡ true → says_from (suc n) p at bs ≡ other_size p.memory
  unfolding says_from
  says_9 t = rw t

  module _ (t : eqb p.refusal 9 ≡ false) where
    says_end : p.ended ≡ true → says_from (suc n) p at bs ≡ (when eqb (length bs) 0 then right (at - 6) (world p.house p.memory) else wrong at p.memory)
    unfolding says_from
    says_end d = rw (t, d)

    says_on : p.ended ≡ false → record_right p bs ≡ true → says_from (suc n) p at bs ≡ Behind
    unfolding says_from
    says_on d w = rw (w, t, d)

    says_wrong : p.ended ≡ false → record_right p bs ≡ false → says_from (suc n) p at bs ≡ wrong at p.memory
    unfolding says_from
    says_wrong d w = rw (w, t, d)

  -- behind a right record
  on : Open p → record_right p bs ≡ true → p.start ≡ at → at + length bs < 2 ^ 64 → length bs < suc n
      → ((taken p (kind bs) (body_of bs)).start ≡ at + (6 + size bs) → at + (6 + size bs) + length (drop (6 + size bs) bs) < 2 ^ 64 → length (drop (6 + size bs) bs) < n
      → finished (fed (reading (taken p (kind bs) (body_of bs)) []) (drop (6 + size bs) bs)) ≡ answer_to Behind)
      → finished (fed (reading p []) bs) ≡ answer_to Behind
  unfolding record_right
  on o w e l b rest =
      let a = leb 6 (length bs) in
      let m = may_come p (kind bs) (size bs) in
      let f = leb (6 + size bs) (length bs) in
      let k = content_right p (kind bs) (body_of bs) in
      let y₃ = and_left (a && m && f) k w in
      let y₂ = and_left (a && m) f y₃ in
      let six = leb-true 6 (length bs) (and_left a m y₂) in
      let may = and_right a m y₂ in
      let there = leb-true (6 + size bs) (length bs) (and_right (a && m) f y₃) in
      let long : length (body_of bs) ≡ size bs / 4 = length_words (size bs / 4) (drop 6 bs) in
      let four = quarters p o bs six may there in
      let left = length-drop (6 + size bs) bs in
      let start : (taken p (kind bs) (body_of bs)).start ≡ at + (6 + size bs) = taken_start p (kind bs) (body_of bs) ∙ omega arith in
      ap finished (settles p o bs six may there ∙ ap (λ (x : Progress). fed (reading x []) (drop (6 + size bs) bs)) (settled_right p (kind bs) (body_of bs) (and_right (a && m && f) k w)))
      ∙ rest start (omega arith) (omega arith)

says : (n : ℕ) (p : Progress) (at : ℕ) (bs : List ℕ) → (eqb p.refusal 9 ≡ false → p.refusal ≡ 0) → p.start ≡ at → at + length bs < 2 ^ 64 → length bs < n
    → finished (fed (reading p []) bs) ≡ answer_to (says_from n p at bs)
says zero p at bs c e l b = absurd (omega arith)
says (suc n) p at bs c e l b =
    by_test (eqb p.refusal 9)
    (λ t. ap finished (stuck (reading p []) bs (λ z. absurd (omega (arith, eqb-true p.refusal 9 t)))) ∙ ends_9 p [] (eqb-true p.refusal 9 t) ∙ ap answer_to (sym (says_9 n p at bs t)))
    (λ t. by_test p.ended
    (λ d. behind_end p at bs e (c t) d ∙ ap answer_to (sym (says_end n p at bs t d)))
    (λ d.
    let o : Open p = record { right = c t; more = d } in
    by_test (record_right p bs)
    (λ w.
    on n p at bs o w e l b (says n (taken p (kind bs) (body_of bs)) (at + (6 + size bs)) (drop (6 + size bs) bs) (taken_refusal p (kind bs) (body_of bs)))
    ∙ ap answer_to (sym (says_on n p at bs t d w)))
    (λ w. record_wrong p o bs w ∙ ap (λ (x : ℕ). answer_to (wrong x p.memory)) e ∙ ap answer_to (sym (says_wrong n p at bs t d w)))))

pub whole_file : WholeFile
unfolding says_of
whole_file m f l = says (suc (length f)) (begun m).progress 0 f (λ _. refl) refl (omega arith) (omega arith)

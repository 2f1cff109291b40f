-- The record at hand in its buffer.
use Rattle.std.proofs.Common.{◌≡◌, ℕ, suc, ◌+◌, ◌-◌, ◌*◌, ◌/◌, ◌<◌, ◌≤◌, min, Bool, true, false, not, eqb, List, [], ◌∷◌, ◌++◌, length, get_or, take, drop, set, sym, refl, ap, ◌∙◌, subst, append_assoc, add-one, arith, length-append, length-drop, length-set, take-append-drop, take_at, length-take-le, drop-cons, take-take, drop-drop, take-suc-set, lt-ltb, ne_eqb, eqb-true}
use borrow.Author.Tests.{eqb-false}
use Rattle.dlx.specs.Choice.{when◌then◌else◌}
use Rattle.house.proofs.Lists.Bounded.{one_way}
use Rattle.house.specs.declared.House.{House}
use Rattle.housefile.specs.Records.{number, words_of, size, kind}
use Rattle.save.specs.Reading.{Progress, Reading, reading, refused_by, may_come, settled, took, fed}
use Rattle.house.specs.House.{no_house, layout, with_layout}
use Rattle.save.proofs.Exact.{by_kind}
use Rattle.save.proofs.Bytes.{drop_take, words_there}
use Rattle.save.proofs.Machine.{Open, fed_pieces, head_size, head_kind, took_within, took_last, took_wrong, take_within, take_to_end}
use Rattle.restore.specs.Standing.{number_of, held_to, wrong_at, progress_at, reading_at, stepped, Comes, SteppedTo, Rested, Kept}
use Rattle.restore.specs.declared.Reader.{Reader}
use Rattle.restore.specs.declared.records.Kind.{Kind}
use Rattle.restore.specs.declared.records.Kind.TheVariants.{Frame, End, Turn, Guest, Tickets}

-- ---- the head of a buffer

two_at : (l : List ℕ) (at : ℕ) → at + 2 ≤ length l → number (take 2 (drop at l)) ≡ get_or l at 0 + 256 * get_or l (at + 1) 0
unfolding number
two_at l at h =
    let e : drop at l ≡ get_or l at 0 ∷ get_or l (suc at) 0 ∷ drop (suc (suc at)) l = drop-cons l at 0 (omega arith) ∙ ap (λ (x : List ℕ). get_or l at 0 ∷ x) (drop-cons l (suc at) 0 (omega arith)) in
    ap (λ (x : List ℕ). number (take 2 x)) e ∙ rw (add-one at) (omega arith)

pub kind_at : (l : List ℕ) → length l ≡ 4106 → kind l ≡ get_or l 4 0 + 256 * get_or l 5 0
kind_at l e = two_at l 4 (omega arith)

pub four_at : (l : List ℕ) (at : ℕ) → at + 4 ≤ length l
    → number (take 4 (drop at l)) ≡ get_or l at 0 + 256 * get_or l (at + 1) 0 + 65536 * (get_or l (at + 2) 0 + 256 * get_or l (at + 3) 0)
unfolding number
four_at l at h =
    let a₁ : at + 1 ≡ suc at = omega arith in
    let a₂ : at + 2 ≡ suc (suc at) = omega arith in
    let a₃ : at + 3 ≡ suc (suc (suc at)) = omega arith in
    let e : drop at l ≡ get_or l at 0 ∷ get_or l (suc at) 0 ∷ get_or l (suc (suc at)) 0 ∷ get_or l (suc (suc (suc at))) 0 ∷ drop (suc (suc (suc (suc at)))) l =
    drop-cons l at 0 (omega arith)
    ∙ ap (λ (x : List ℕ). get_or l at 0 ∷ x) (drop-cons l (suc at) 0 (omega arith)
    ∙ ap (λ (x : List ℕ). get_or l (suc at) 0 ∷ x) (drop-cons l (suc (suc at)) 0 (omega arith)
    ∙ ap (λ (x : List ℕ). get_or l (suc (suc at)) 0 ∷ x) (drop-cons l (suc (suc (suc at))) 0 (omega arith)))) in
    ap (λ (x : List ℕ). number (take 4 x)) e ∙ rw (a₁, a₂, a₃) (omega arith)

-- of its first n bytes, at least 6
module _ (n : ℕ) (l : List ℕ) (h : 6 ≤ n) where
  pub size_front : size (take n l) ≡ size l
  size_front = ap number (take-take 4 n l (omega arith))

  pub kind_front : kind (take n l) ≡ kind l
  kind_front =
      let e : n ≡ 4 + (n - 4) = omega arith in
      ap (λ (x : ℕ). number (take 2 (drop 4 (take x l)))) e
      ∙ ap (λ (x : List ℕ). number (take 2 x)) (drop_take 4 (n - 4) l)
      ∙ ap number (take-take 2 (n - 4) (drop 4 l) (omega arith))

-- ---- a byte's ways

module _ (r : Reader) (b : ℕ) (held : List ℕ) (fits : r.held ≤ 4105) (long : length held ≡ 4106) (h : House) (m : List ℕ) where
  abbrev p : Progress
  p = progress_at r h m

  abbrev n : ℕ
  n = r.held + 1

  abbrev held' : List ℕ
  held' = set held r.held b

  here : min r.held 4105 ≡ r.held
  here = omega arith

  -- the bytes of the record at hand
  bytes_now : take (min r.held 4105) held ++ (b ∷ []) ≡ take n held'
  bytes_now = rw (here, add-one r.held) (sym (take-suc-set held r.held b (omega arith)))

  bytes_long : length (take n held') ≡ n
  bytes_long = length-take-le n held' (omega (arith, length-set held r.held b))

  pub byte_refused : (r.refusal ≡ 0 → ⊥) → reading_at r h held m ≡ took (reading_at r h held m) b
  unfolding took
  byte_refused e = sym (simp (ne_eqb r.refusal 0 e))

  module _ (right : r.refusal ≡ 0) where
    pub byte_ended : r.ended ≡ true → reading (refused_by 17 p) [] ≡ took (reading_at r h held m) b
    unfolding took
    byte_ended e = sym (simp (right, e))

    module _ (more : r.ended ≡ false) where
      pub byte_early : n < 6 → reading p (take n held') ≡ took (reading_at r h held m) b
      unfolding took
      byte_early l = sym (simp (right, more, bytes_now, bytes_long, lt-ltb n 6 l))

      opens : Open p
      opens = record { right = right; more = more }

      abbrev xs : List ℕ
      xs = take (min r.held 4105) held

      module _ (six : 6 ≤ n) where
        size_now : size (xs ++ (b ∷ [])) ≡ size held'
        size_now = ap size bytes_now ∙ size_front n held' six

        kind_now : kind (xs ++ (b ∷ [])) ≡ kind held'
        kind_now = ap kind bytes_now ∙ kind_front n held' six

        long_now : length (xs ++ (b ∷ [])) ≡ n
        long_now = ap length bytes_now ∙ bytes_long

        may_now : (t : Bool) → may_come p (kind held') (size held') ≡ t → may_come p (kind (xs ++ (b ∷ []))) (size (xs ++ (b ∷ []))) ≡ t
        may_now t e = ap (λ (x : ℕ). may_come p x (size (xs ++ (b ∷ [])))) kind_now ∙ ap (may_come p (kind held')) size_now ∙ e

        pub byte_wrong : may_come p (kind held') (size held') ≡ false → reading (refused_by 17 p) [] ≡ took (reading_at r h held m) b
        byte_wrong e = sym (took_wrong p opens xs b (omega (arith, long_now)) (may_now false e))

        module _ (may : may_come p (kind held') (size held') ≡ true) where
          pub byte_within : n < 6 + size held' → reading p (take n held') ≡ took (reading_at r h held m) b
          byte_within l =
              sym (took_within p opens xs b (omega (arith, long_now)) (may_now true may) (omega (arith, long_now, size_now)) ∙ ap (reading p) bytes_now)

          pub byte_whole : 6 + size held' ≤ n → reading (settled p (kind held') (words_of (size held' / 4) (drop 6 held'))) [] ≡ took (reading_at r h held m) b
          byte_whole l =
              let q : words_of (size (xs ++ (b ∷ [])) / 4) (drop 6 (xs ++ (b ∷ []))) ≡ words_of (size held' / 4) (drop 6 held') =
              ap (λ (x : ℕ). words_of (x / 4) (drop 6 (xs ++ (b ∷ [])))) size_now
              ∙ ap (λ (x : List ℕ). words_of (size held' / 4) (drop 6 x)) bytes_now
              ∙ words_there n (size held' / 4) held' (omega arith) in
              sym (took_last p opens xs b (omega (arith, long_now)) (may_now true may) (omega (arith, long_now, size_now))
              ∙ ap (λ (x : ℕ). reading (settled p x (words_of (size (xs ++ (b ∷ [])) / 4) (drop 6 (xs ++ (b ∷ []))))) []) kind_now
              ∙ ap (λ (x : List ℕ). reading (settled p (kind held') x) []) q)

-- ---- a number that is no kind's

pub may_none : (p : Progress) (k z : ℕ) → ((j : Kind) → number_of j ≡ k → ⊥) → false ≡ may_come p k z
unfolding may_come
may_none p k z n =
    sym (simp (ne_eqb k 3 (λ e. n Frame (sym e)), ne_eqb k 4 (λ e. n End (sym e)), ne_eqb k 5 (λ e. n Turn (sym e)), ne_eqb k 6 (λ e. n Guest (sym e)), ne_eqb k 7 (λ e. n Tickets (sym e)), neither))
  where
    neither : (b : Bool) → (when b then false else false) ≡ false
    neither true = refl
    neither false = refl

-- ---- the bytes behind a head

-- copied behind the first of them
pub copied : (held piece xs behind : List ℕ) (at at' from n : ℕ) → at ≡ at' → xs ≡ take (from + n - from) (drop from piece) → at + n ≤ length held → from + n ≤ length piece
    → take (at' + n) (take at held ++ (xs ++ behind)) ≡ take at' held ++ take n (drop from piece)
copied held piece xs behind at at' from n ea ex h p =
    let ys = take n (drop from piece) in
    let z : from + n - from ≡ n = omega arith in
    let e : xs ≡ ys = ex ∙ ap (λ (k : ℕ). take k (drop from piece)) z in
    let long : length (take at held ++ ys) ≡ at + n =
    length-append (take at held) ys ∙ omega (arith, length-take-le at held (omega arith), length-take-le n (drop from piece) (omega (arith, length-drop from piece))) in
    rw (← ea, e, ← append_assoc (take at held) ys behind) (take_at (take at held ++ ys) behind (at + n) long)

module _ (r : Reader) (held held' piece : List ℕ) (from k : ℕ) (six : 6 ≤ r.held) (fits : r.held ≤ 4105) (long : length held ≡ 4106)
    (put : take (r.held + k) held' ≡ take r.held held ++ take k (drop from piece)) where
  abbrev front : List ℕ
  front = take r.held held

  abbrev rest : List ℕ
  rest = take k (drop from piece)

  front_long : length front ≡ r.held
  front_long = length-take-le r.held held (omega arith)

  pub rest_size : size held' ≡ size held
  rest_size =
      sym (size_front (r.held + k) held' (omega arith)) ∙ ap size put ∙ head_size front rest (omega (arith, front_long)) ∙ size_front r.held held six

  pub rest_kind : kind held' ≡ kind held
  rest_kind =
      sym (kind_front (r.held + k) held' (omega arith)) ∙ ap kind put ∙ head_kind front rest (omega (arith, front_long)) ∙ kind_front r.held held six

  module _ (right : r.refusal ≡ 0) (more : r.ended ≡ false) (few : size held ≤ 4100) (inside : from + k ≤ length piece) (h : House) (m : List ℕ)
      (may : may_come (progress_at r h m) (kind held) (size held) ≡ true) where
    abbrev P : Progress
    P = progress_at r h m

    open_here : Open P
    open_here = record { right = right; more = more }

    rest_long : length rest ≡ k
    rest_long = length-take-le k (drop from piece) (omega (arith, length-drop from piece))

    begins : fed (reading_at r h held m) (drop from piece) ≡ fed (reading P front) (rest ++ drop (from + k) piece)
    begins =
        let e : min r.held 4105 ≡ r.held = omega arith in
        ap (λ (x : ℕ). fed (reading P (take x held)) (drop from piece)) e
        ∙ ap (fed (reading P front)) (sym (take-append-drop k (drop from piece)) ∙ ap (λ (x : List ℕ). rest ++ x) (drop-drop k from piece))

    may_front : may_come P (kind front) (size front) ≡ true
    may_front = ap (λ (x : ℕ). may_come P x (size front)) (kind_front r.held held six) ∙ ap (may_come P (kind held)) (size_front r.held held six) ∙ may

    pub rest_within : r.held + k < 6 + size held → fed (reading_at (held_to r (r.held + k)) h held' m) (drop (from + k) piece) ≡ fed (reading_at r h held m) (drop from piece)
    rest_within l =
        let e : min (r.held + k) 4105 ≡ r.held + k = omega arith in
        ap (λ (x : ℕ). fed (reading P (take x held')) (drop (from + k) piece)) e
        ∙ ap (λ (x : List ℕ). fed (reading P x) (drop (from + k) piece)) put
        ∙ ap (λ (x : Reading). fed x (drop (from + k) piece)) (sym (take_within P open_here rest front (omega (arith, front_long)) may_front (omega (arith, front_long, rest_long, size_front r.held held six))))
        ∙ sym (fed_pieces (reading P front) rest (drop (from + k) piece))
        ∙ sym begins

    -- the record in its buffer
    abbrev bs : List ℕ
    bs = front ++ rest

    bs_size : size bs ≡ size held'
    bs_size = ap size (sym put) ∙ size_front (r.held + k) held' (omega arith)

    bs_kind : kind bs ≡ kind held'
    bs_kind = ap kind (sym put) ∙ kind_front (r.held + k) held' (omega arith)

    bs_long : length bs ≡ r.held + k
    bs_long = length-append front rest ∙ omega (arith, front_long, rest_long)

    pub rest_may : may_come P (kind held') (size held') ≡ true
    rest_may = ap (λ (x : ℕ). may_come P x (size held')) rest_kind ∙ ap (may_come P (kind held)) rest_size ∙ may

    pub rest_whole : r.held + k ≡ 6 + size held → r.held < 6 + size held
        → fed (reading (settled P (kind held') (words_of (size held' / 4) (drop 6 held'))) []) (drop (from + k) piece) ≡ fed (reading_at r h held m) (drop from piece)
    rest_whole l b =
        let q : words_of (size bs / 4) (drop 6 bs) ≡ words_of (size held' / 4) (drop 6 held') =
        ap (λ (x : ℕ). words_of (x / 4) (drop 6 bs)) bs_size
        ∙ ap (λ (x : List ℕ). words_of (size held' / 4) (drop 6 x)) (sym put)
        ∙ words_there (r.held + k) (size held' / 4) held' (omega (arith, rest_size)) in
        let y : may_come P (kind bs) (size bs) ≡ true = ap (λ (x : ℕ). may_come P x (size bs)) bs_kind ∙ ap (may_come P (kind held')) bs_size ∙ rest_may in
        sym (begins
        ∙ take_to_end P open_here rest front (drop (from + k) piece) y (omega (arith, bs_long, bs_size, rest_size)) (omega (arith, bs_long, front_long))
        ∙ ap (λ (x : ℕ). fed (reading (settled P x (words_of (size bs / 4) (drop 6 bs))) []) (drop (from + k) piece)) bs_kind
        ∙ ap (λ (x : List ℕ). fed (reading (settled P (kind held') x) []) (drop (from + k) piece)) q)

-- ---- a byte, as the code takes it

not_true : (x : Bool) → not x ≡ true → x ≡ false
not_true true e = one_way false e refl
not_true false e = refl

not_false : (x : Bool) → not x ≡ false → x ≡ true
not_false true e = refl
not_false false e = one_way true refl e

-- the bytes of a piece from one on, taken to the next
abbrev Took : Reader → List ℕ → List ℕ → ℕ → ℕ → ℕ → Reader → Bool → List ℕ → ℕ → Type 0
Took r held piece from count words x whole now next =
    ((h : House) (m : List ℕ) → h.count ≡ count → h.words ≡ words → fed (stepped x whole h now m) (drop next piece) ≡ fed (reading_at r h held m) (drop from piece))
    × ((SteppedTo x whole count words now × (from < next) × (next ≤ length piece)) × Kept r x)

module _ (r : Reader) (b : ℕ) (held : List ℕ) (fits : r.held ≤ 4105) (long : length held ≡ 4106) where
  -- for every house of so many partitions and a memory of so many words
  abbrev Steps : Reader → Bool → List ℕ → ℕ → ℕ → Type 0
  Steps x whole now count words =
      ((h : House) (m : List ℕ) → h.count ≡ count → h.words ≡ words → stepped x whole h now m ≡ took (reading_at r h held m) b) × (SteppedTo x whole count words now × Kept r x)

  abbrev now : List ℕ
  now = set held r.held b

  now_long : length now ≡ 4106
  now_long = length-set held r.held b ∙ long

  pub one_byte : (piece : List ℕ) (from : ℕ) → from < length piece → b ≡ get_or piece from 0 → (x : Reader) (whole : Bool) (l : List ℕ) (count words : ℕ)
      → Steps x whole l count words → Took r held piece from count words x whole l (from + 1)
  unfolding fed
  one_byte piece from i e x whole l count words s = (
    λ h m c d.
        ap (λ (y : Reading). fed y (drop (from + 1) piece)) (s.0 h m c d)
        ∙ ap (λ (y : ℕ). fed (took (reading_at r h held m) y) (drop (from + 1) piece)) e
        ∙ ap (λ (y : ℕ). fed (took (reading_at r h held m) (get_or piece from 0)) (drop y piece)) (add-one from)
        ∙ sym (ap (fed (reading_at r h held m)) (drop-cons piece from 0 i)),
    ((s.1.0, omega arith, omega arith), s.1.1),
  )

  not_whole : (x : Reader) (count words : ℕ) (l : List ℕ) → x.held ≤ 4105 → SteppedTo x false count words l
  not_whole x count words l f = (λ _. f, λ e. one_way false e refl)

  pub step_refused : (count words : ℕ) → (r.refusal ≡ 0 → ⊥) → Steps r false held count words
  unfolding stepped
  step_refused count words n = (λ h m _ _. byte_refused r b held fits long h m n, (not_whole r count words held fits, (refl, λ z. z)))

  module _ (right : r.refusal ≡ 0) where
    pub step_ended : (x : Reader) (count words : ℕ) → x ≡ wrong_at r → r.ended ≡ true → Steps x false held count words
    unfolding stepped
    step_ended x count words e d = rw e (λ h m _ _. byte_ended r b held fits long h m right d, (not_whole (wrong_at r) count words held (omega arith), (refl, λ z. absurd (omega arith))))

    module _ (more : r.ended ≡ false) (count words : ℕ) where
      pub step_early : (x : Reader) → x ≡ held_to r (r.held + 1) → r.held + 1 < 6 → Steps x false now count words
      unfolding stepped
      step_early x e l =
          let z : min (r.held + 1) 4105 ≡ r.held + 1 = omega arith in
          rw e (λ h m _ _. rw z (byte_early r b held fits long h m right more l), (not_whole (held_to r (r.held + 1)) count words now (omega arith), (refl, λ z. z)))

      module _ (six : 6 ≤ r.held + 1) (k s : ℕ)
          (ek : k ≡ get_or now 4 0 + 256 * get_or now (4 + 1) 0) (es : s ≡ get_or now 0 0 + 256 * get_or now (0 + 1) 0 + 65536 * (get_or now (0 + 2) 0 + 256 * get_or now (0 + 3) 0))
          (t : Bool) (may : (h : House) (m : List ℕ) → h.count ≡ count → h.words ≡ words → t ≡ may_come (progress_at r h m) k s) where
        kind_is : k ≡ kind now
        kind_is = ek ∙ sym (kind_at now now_long)

        size_is : s ≡ size now
        size_is = es ∙ sym (four_at now 0 (omega (arith, now_long)))

        may_is : (v : Bool) → t ≡ v → (h : House) (m : List ℕ) → h.count ≡ count → h.words ≡ words → may_come (progress_at r h m) (kind now) (size now) ≡ v
        may_is v e h m c w = ap (λ (x : ℕ). may_come (progress_at r h m) x (size now)) (sym kind_is) ∙ ap (may_come (progress_at r h m) k) (sym size_is) ∙ sym (may h m c w) ∙ e

        pub step_wrong : (x : Reader) → x ≡ wrong_at r → not t ≡ true → Steps x false now count words
        unfolding stepped
        step_wrong x e n = rw e (λ h m c w. byte_wrong r b held fits long h m right more six (may_is false (not_true t n) h m c w), (not_whole (wrong_at r) count words now (omega arith), (refl, λ z. absurd (omega arith))))

        module _ (n : not t ≡ false) where
          pub few : s ≤ 4100
          few =
              let h₀ = with_layout no_house (layout count 0 words []) in
              by_kind (progress_at r h₀ []) k s (sym (may h₀ [] refl refl) ∙ not_false t n)
              (λ _ _ z. omega arith) (λ _ _ _ _ _ _ z _. omega arith) (λ _ _ _ _ _ z _. omega arith) (λ _ _ _ _ z. omega arith) (λ _ _ _ _ z. omega arith)

          step_within : (x : Reader) → x ≡ held_to r (r.held + 1) → r.held + 1 < 6 + s → Steps x false now count words
          unfolding stepped
          step_within x e l =
              let q = few in
              let z : min (r.held + 1) 4105 ≡ r.held + 1 = omega arith in
              rw e (λ h m c w. rw z (byte_within r b held fits long h m right more six (may_is true (not_false t n) h m c w) (omega (arith, size_is))), (not_whole (held_to r (r.held + 1)) count words now (omega arith), (refl, λ z. z)))

          pub step_rest : (piece : List ℕ) (from : ℕ) → from < length piece → b ≡ get_or piece from 0 → r.held + 1 < 6 + s → (q : Reader) → q ≡ held_to r (r.held + 1)
              → (x : Reader) (whole : Bool) (next : ℕ) (held' : List ℕ) → Rested q s piece (from + 1) now x whole next held' → Took r held piece from count words x whole held' next
          unfolding stepped
          step_rest piece from i e l q eq x whole next held' rs =
              subst (λ (y : Reader). Took r held piece from count words y whole held' next) (sym z.reader)
              (subst (λ (y : Bool). Took r held piece from count words (held_to to (to.held + j)) y held' next) (sym z.ends)
              (subst (λ (y : ℕ). Took r held piece from count words (held_to to (to.held + j)) (eqb (to.held + j) (6 + s)) held' y) (sym z.goes)
              (go (eqb (to.held + j) (6 + s)) refl)))
            where
              to : Reader
              to = held_to r (r.held + 1)

              z : Rested to s piece (from + 1) now x whole next held'
              z = subst (λ (y : Reader). Rested y s piece (from + 1) now x whole next held') eq rs

              j : ℕ
              j = z.more

              inside : from + 1 + j ≤ length piece
              inside = omega (arith, z.most)

              come : Comes to count words now
              come h m c w = may_is true (not_false t n) h m c w

              small : size now ≤ 4100
              small = omega (arith, few, size_is)

              first : Took r held piece from count words to false now (from + 1)
              first = one_byte piece from i e to false now count words (step_within to refl l)

              go : (w : Bool) → eqb (to.held + j) (6 + s) ≡ w → Took r held piece from count words (held_to to (to.held + j)) w held' (from + 1 + j)
              go true y = (
                λ h m c w.
                    rest_whole to now held' piece (from + 1) j six (omega (arith, few)) now_long z.put right more small inside h m (come h m c w)
                    (eqb-true (to.held + j) (6 + s) y ∙ ap (λ (a : ℕ). 6 + a) size_is) (omega (arith, size_is))
                    ∙ first.0 h m c w,
                (
                  (
                    (
                      λ d. one_way true refl d,
                      λ _. (right, λ h m c w. rest_may to now held' piece (from + 1) j six (omega (arith, few)) now_long z.put right more small inside h m (come h m c w)),
                    ),
                    omega arith,
                    inside,
                  ),
                  (refl, λ d. d),
                ),
              )
              go false y =
                  let b = eqb-false (to.held + j) (6 + s) y in
                  let a : to.held + j < 6 + s = omega (arith, z.most) in (
                    λ h m c w.
                        rest_within to now held' piece (from + 1) j six (omega (arith, few)) now_long z.put right more small inside h m (come h m c w)
                        (omega (arith, size_is))
                        ∙ first.0 h m c w,
                    ((not_whole (held_to to (to.held + j)) count words held' (omega (arith, few)), omega arith, inside), (refl, λ d. d)),
                  )

          pub step_whole : (x : Reader) → x ≡ held_to r (r.held + 1) → 6 + s ≤ r.held + 1 → Steps x true now count words
          unfolding stepped
          step_whole x e l =
              rw e (λ h m c w. byte_whole r b held fits long h m right more six (may_is true (not_false t n) h m c w) (omega (arith, size_is)), ((λ d. one_way true refl d, λ _. (right, λ h m c w. may_is true (not_false t n) h m c w)), (refl, λ z. z)))

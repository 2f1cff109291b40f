-- The bytes of a record taken one by one come to the record taken whole.
use mathlib.Core.Path.{◌≡◌, refl, sym, ap, ◌∙◌}
use mathlib.Core.Bool.{true, false}
use mathlib.Core.List.{List, [], ◌∷◌, ◌++◌, append_assoc, append-nil}
use Prim.Native.Nat.{ℕ, zero, suc, ◌+◌, ◌*◌, ◌/◌, ◌^◌, ◌<◌, ◌≤◌}
use native.Mathlib.Omega.{arith}
use borrow.Author.Tests.{ltb-true, ltb-false, lt-ltb, le-ltb, ne_eqb}
use lib.Dec.{ltb}
use lib.ListN.{length, drop, length-append}
use lib.Seq.{take-append-le}
use Rattle.dlx.proofs.Tests.{by_test}
use Rattle.housefile.specs.Records.{number, words_of, size, kind}
use Rattle.save.specs.Saved.{record_of, records}
use Rattle.save.specs.Reading.{Progress, Reading, reading, refused_by, may_come, content_right, taken, settled, took, fed}
use Rattle.save.proofs.Bytes.{Below, record_size, record_kind, record_length, record_words}

-- ---- pieces

pub fed_pieces : (s : Reading) (xs bs : List ℕ) → fed s (xs ++ bs) ≡ fed (fed s xs) bs
unfolding fed
fed_pieces s [] bs = refl
fed_pieces s (x ∷ xs) bs = fed_pieces (took s x) xs bs

-- ---- a refused reading takes no byte

pub stuck : (s : Reading) (bs : List ℕ) → (s.progress.refusal ≡ 0 → ⊥) → fed s bs ≡ s
unfolding fed took
stuck s [] n = refl
stuck s (b ∷ bs) n = simp (ne_eqb s.progress.refusal 0 n) (stuck s bs n)

-- ---- the head of a record is that of its first six bytes

pub head_size : (xs ys : List ℕ) → 6 ≤ length xs → size (xs ++ ys) ≡ size xs
head_size xs ys l = ap number (take-append-le 4 xs ys (omega arith))

pub head_kind : (xs ys : List ℕ) → 6 ≤ length xs → kind (xs ++ ys) ≡ kind xs
head_kind [] ys l = absurd (omega arith)
head_kind (a ∷ []) ys l = absurd (omega arith)
head_kind (a ∷ b ∷ []) ys l = absurd (omega arith)
head_kind (a ∷ b ∷ c ∷ []) ys l = absurd (omega arith)
head_kind (a ∷ b ∷ c ∷ d ∷ []) ys l = absurd (omega arith)
head_kind (a ∷ b ∷ c ∷ d ∷ e ∷ []) ys l = absurd (omega arith)
head_kind (a ∷ b ∷ c ∷ d ∷ e ∷ f ∷ xs) ys l = refl

-- ---- bytes are taken: nothing is refused, and no kind 4 has come

pub record Open (p : Progress) : Type 0 where
  pub right : p.refusal ≡ 0
  pub more : p.ended ≡ false

module _ (p : Progress) (o : Open p) where
  module _ (xs : List ℕ) (b : ℕ) where
    abbrev next : List ℕ
    next = xs ++ (b ∷ [])

    -- a byte within the head
    pub took_early : length next < 6 → took (reading p xs) b ≡ reading p next
    unfolding took
    took_early l = simp (o.right, o.more, lt-ltb (length next) 6 l)

    -- the last of a head that may not come
    pub took_wrong : 6 ≤ length next → may_come p (kind next) (size next) ≡ false → took (reading p xs) b ≡ reading (refused_by 17 p) []
    unfolding took
    took_wrong h m = simp (o.right, o.more, le-ltb (length next) 6 h, m)

    -- within the body
    pub took_within : 6 ≤ length next → may_come p (kind next) (size next) ≡ true → length next < 6 + size next → took (reading p xs) b ≡ reading p next
    unfolding took
    took_within h m l = simp (o.right, o.more, le-ltb (length next) 6 h, m, lt-ltb (length next) (6 + size next) l)

    -- the last one
    pub took_last : 6 ≤ length next → may_come p (kind next) (size next) ≡ true → 6 + size next ≤ length next
        → took (reading p xs) b ≡ reading (settled p (kind next) (words_of (size next / 4) (drop 6 next))) []
    unfolding took
    took_last h m l = simp (o.right, o.more, le-ltb (length next) 6 h, m, le-ltb (length next) (6 + size next) l)

  module _ (bs : List ℕ) (m : may_come p (kind bs) (size bs) ≡ true) (l : length bs ≡ 6 + size bs) where
    abbrev whole : Reading
    whole = reading (settled p (kind bs) (words_of (size bs / 4) (drop 6 bs))) []

    -- a byte, with some more of the record behind it
    took_on : (xs zs : List ℕ) (y z : ℕ) → xs ++ (y ∷ z ∷ zs) ≡ bs → took (reading p xs) y ≡ reading p (xs ++ (y ∷ []))
    took_on xs zs y z e =
        let n = xs ++ (y ∷ []) in
        let split : n ++ (z ∷ zs) ≡ bs = append_assoc xs (y ∷ []) (z ∷ zs) ∙ e in
        let fits : length n + suc (length zs) ≡ length bs = sym (length-append n (z ∷ zs)) ∙ ap length split in
        by_test (ltb (length n) 6)
        (λ t. took_early xs y (ltb-true (length n) 6 t))
        (λ t.
        let h = ltb-false (length n) 6 t in
        let ez : size bs ≡ size n = ap size (sym split) ∙ head_size n (z ∷ zs) h in
        let ek : kind bs ≡ kind n = ap kind (sym split) ∙ head_kind n (z ∷ zs) h in
        took_within xs y h (rw (ek, ez) at m) (omega arith))

    take_rest : (ys xs : List ℕ) (y : ℕ) (rest : List ℕ) → xs ++ (y ∷ ys) ≡ bs → fed (reading p xs) ((y ∷ ys) ++ rest) ≡ fed whole rest
    unfolding fed
    take_rest [] xs y rest e =
        ap (λ (x : Reading). fed x rest)
        (took_last xs y (omega (arith, ap length e)) (rw e m) (rw e (omega arith)) ∙ rw e)
    take_rest (z ∷ ys) xs y rest e =
        ap (λ (x : Reading). fed x ((z ∷ ys) ++ rest)) (took_on xs ys y z e) ∙ take_rest ys (xs ++ (y ∷ [])) z rest (append_assoc xs (y ∷ []) (z ∷ ys) ∙ e)

    pub take_whole : (rest : List ℕ) → fed (reading p []) (bs ++ rest) ≡ fed whole rest
    take_whole rest = go bs refl
      where
        go : (cs : List ℕ) → cs ≡ bs → fed (reading p []) (cs ++ rest) ≡ fed whole rest
        go [] e = absurd (omega (arith, ap length e))
        go (c ∷ cs) e = take_rest cs [] c rest e

  -- bytes behind a head: short of the last, and with it
  pub take_within : (ys xs : List ℕ) → 6 ≤ length xs → may_come p (kind xs) (size xs) ≡ true → length xs + length ys < 6 + size xs → fed (reading p xs) ys ≡ reading p (xs ++ ys)
  unfolding fed
  take_within [] xs h m l = ap (reading p) (sym (append-nil xs))
  take_within (y ∷ ys) xs h m l =
      let n = xs ++ (y ∷ []) in
      let long : length n ≡ length xs + 1 = length-append xs (y ∷ []) in
      let ez : size n ≡ size xs = head_size xs (y ∷ []) h in
      let ek : kind n ≡ kind xs = head_kind xs (y ∷ []) h in
      let may : may_come p (kind n) (size n) ≡ true = ap (λ (k : ℕ). may_come p k (size n)) ek ∙ ap (may_come p (kind xs)) ez ∙ m in
      ap (λ (x : Reading). fed x ys) (took_within xs y (omega arith) may (omega arith))
      ∙ take_within ys n (omega arith) may (omega arith)
      ∙ ap (reading p) (append_assoc xs (y ∷ []) ys)

  pub take_to_end : (ys xs rest : List ℕ) → let bs = xs ++ ys in may_come p (kind bs) (size bs) ≡ true → length bs ≡ 6 + size bs → length xs < length bs
      → fed (reading p xs) (ys ++ rest) ≡ fed (reading (settled p (kind bs) (words_of (size bs / 4) (drop 6 bs))) []) rest
  take_to_end [] xs rest m l b = absurd (omega (arith, length-append xs []))
  take_to_end (y ∷ ys) xs rest m l b = take_rest (xs ++ (y ∷ ys)) m l ys xs y rest refl

  -- a record of words
  pub take_record : (k : ℕ) (ws rest : List ℕ) → k < 65536 → length ws < 2 ^ 30 → Below (2 ^ 32) ws
      → may_come p k (4 * length ws) ≡ true → content_right p k ws ≡ true
      → fed (reading p []) (record_of k ws ++ rest) ≡ fed (reading (taken p k ws) []) rest
  unfolding settled
  take_record k ws rest small few g m c =
      let ez = record_size k ws small few in
      let ek = record_kind k ws small few in
      take_whole (record_of k ws) (rw (ez, ek) m) (record_length k ws small few ∙ rw ez) rest
      ∙ rw (ek, record_words k ws small few g, c)

-- records of one kind, from state to state
pub take_records : (P : ℕ → Progress) (k : ℕ) (f : ℕ → List ℕ) (n : ℕ) (rest : List ℕ) → k < 65536
    → ((i : ℕ) → i < n → Open (P i) × (length (f i) < 2 ^ 30) × Below (2 ^ 32) (f i) × (may_come (P i) k (4 * length (f i)) ≡ true) × (content_right (P i) k (f i) ≡ true) × (taken (P i) k (f i) ≡ P (suc i)))
    → fed (reading (P 0) []) (records k f n ++ rest) ≡ fed (reading (P n) []) rest
unfolding records
take_records P k f zero rest small h = refl
take_records P k f (suc n) rest small h =
    let x = h n (omega arith) in
    ap (fed (reading (P 0) [])) (append_assoc (records k f n) (record_of k (f n)) rest)
    ∙ take_records P k f n (record_of k (f n) ++ rest) small (λ i l. h i (omega arith))
    ∙ take_record (P n) x.0 k (f n) rest small x.1 x.2 x.3 x.4
    ∙ ap (λ (y : Progress). fed (reading y []) rest) x.5

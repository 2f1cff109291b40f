-- Pieces one behind the other: what is printed for them is the listing of the file's words.
use mathlib.Core.Path.{◌≡◌, refl, sym, ap, ◌∙◌}
use mathlib.Core.List.{List, [], ◌∷◌, ◌++◌, append_assoc}
use Prim.Native.Nat.{ℕ, zero, suc, ◌+◌, ◌*◌, ◌/◌, ◌%◌, ◌^◌, ◌<◌, ◌≤◌}
use native.Mathlib.Numerals.{add-one}
use native.Mathlib.Omega.{arith}
use borrow.Author.Tests.{eq-eqb, ne_eqb}
use lib.Dec.{eqb}
use lib.ListN.{length, get_or, take, drop, length-append, drop_of_length-le}
use lib.Seq.{drop-cons, take_at}
use Rattle.dlx.proofs.Kept.{either}
use Rattle.decimal.specs.Raw.{low_first, raw}
use Rattle.decimal.specs.Texts.{Text, text, put}
use Rattle.decimal.proofs.Texts.{put_behind, exactly, whole}
use Rattle.lines.specs.Lines.{line_of}
use Rattle.lines.specs.Listings.{listing}
use Rattle.lines.proofs.Lines.{line_short}
use Rattle.list.specs.Words.{words_in, no_rest, further, completed, rest_behind, words_behind, Bytes, Behind, Told}
use Rattle.list.specs.declared.words.Rest.{Rest}

-- ---- one byte

abbrev rest : ℕ → ℕ → Rest
rest w k = record { word = w; count = k }

pub completes_not : (r : Rest) (b : ℕ) (t : Text) → (r.count % 4 ≡ 3 → ⊥) → t ≡ put t (listing (completed r b))
unfolding completed listing put
completes_not r b t n = rw (ne_eqb (r.count % 4) 3 n)

pub completes : (r : Rest) (b : ℕ) (t : Text) {o : List ℕ} {e : ℕ} {t' : Text} (f : Rest) → r.count % 4 ≡ 3 → f ≡ further r b → text o e ≡ put t (line_of f.word) → t' ≡ put (text o e) (10 ∷ [])
    → t' ≡ put t (listing (completed r b))
unfolding completed listing
completes r b t f c q g h = rw (eq-eqb (r.count % 4) 3 c, ← q) (put_behind t (line_of f.word) (10 ∷ []) g h)

-- ---- a piece: what is left from here is what was to do from the start

listing_more : (a b : List ℕ) → listing (a ++ b) ≡ listing a ++ listing b
unfolding listing
listing_more [] b = refl
listing_more (w ∷ a) b = rw (listing_more a b) (sym (append_assoc (line_of w) (10 ∷ listing a) (listing b)))

module _ (piece : List ℕ) (i : ℕ) (r : Rest) (l : i < length piece) where
  behind_from : rest_behind r (drop i piece) ≡ rest_behind (further r (get_or piece i 0)) (drop (i + 1) piece)
  unfolding rest_behind
  behind_from = rw (drop-cons piece i 0 l, add-one i)

  words_from_lem : words_behind r (drop i piece) ≡ completed r (get_or piece i 0) ++ words_behind (further r (get_or piece i 0)) (drop (i + 1) piece)
  unfolding words_behind
  words_from_lem = rw (drop-cons piece i 0 l, add-one i)

  pub rest_on : {t f : Rest} → f ≡ further r (get_or piece i 0) → rest_behind r (drop i piece) ≡ t → rest_behind f (drop (i + 1) piece) ≡ t
  rest_on q e = rw q (sym behind_from ∙ e)

  pub lines_on : {t : Text} {o : List ℕ} {x : ℕ} {f : Rest} (out : List ℕ) (end : ℕ) → f ≡ further r (get_or piece i 0) → put (text out end) (listing (words_behind r (drop i piece))) ≡ t
      → text o x ≡ put (text out end) (listing (completed r (get_or piece i 0))) → put (text o x) (listing (words_behind f (drop (i + 1) piece))) ≡ t
  lines_on {t} {o} {x} {f} out end q e g =
      let b = get_or piece i 0 in
      let ws = words_behind (further r b) (drop (i + 1) piece) in
      let s : listing (words_behind r (drop i piece)) ≡ listing (completed r b) ++ listing ws = ap listing words_from_lem ∙ listing_more (completed r b) ws in
      let p : put (text o x) (listing ws) ≡ put (text out end) (listing (completed r b) ++ listing ws) = put_behind (text out end) (listing (completed r b)) (listing ws) g refl in
      ap (λ (y : Rest). put (text o x) (listing (words_behind y (drop (i + 1) piece)))) q ∙ p ∙ sym (ap (put (text out end)) s) ∙ e

module _ (piece : List ℕ) (i : ℕ) (r : Rest) (l : length piece ≤ i) where
  pub rest_done : {t : Rest} → rest_behind r (drop i piece) ≡ t → r ≡ t
  unfolding rest_behind
  rest_done e = rw (drop_of_length-le piece l) at e

  pub lines_done : {t : Text} (out : List ℕ) (end : ℕ) → put (text out end) (listing (words_behind r (drop i piece))) ≡ t → text out end ≡ t
  unfolding words_behind listing put
  lines_done out end e = rw (drop_of_length-le piece l) at e

-- ---- no byte completes more than one line

one_line : (r : Rest) (b : ℕ) → length (listing (completed r b)) ≤ 43
unfolding completed listing
one_line r b =
    either (λ (ws : List ℕ). length (listing ws) ≤ 43) (eqb (r.count % 4) 3)
    (λ _. omega (arith, line_short (further r b).word, length-append (line_of (further r b).word) (10 ∷ [])))
    (λ _. omega arith)

lines_short : (r : Rest) (bs : List ℕ) → length (listing (words_behind r bs)) ≤ 43 * length bs
unfolding words_behind listing
lines_short r [] = omega arith
lines_short r (b ∷ bs) =
    let s = ap length (listing_more (completed r b) (words_behind (further r b) bs)) in
    omega (arith, s, length-append (listing (completed r b)) (listing (words_behind (further r b) bs)), one_line r b, lines_short (further r b) bs)

-- so the lines of a piece have room
pub lines_in : (r : Rest) (bs out o : List ℕ) (end : ℕ) → length out ≡ 176128 → length bs ≤ 4096 → text o end ≡ put (text out 0) (listing (words_behind r bs))
    → (end ≡ length (listing (words_behind r bs))) × (take end o ≡ listing (words_behind r bs)) × (end ≤ length o)
lines_in r bs out o end n l e =
    let t = listing (words_behind r bs) in
    let p = whole (exactly e) (omega (arith, lines_short r bs)) in
    let m : length t ≡ end = omega (arith, p.0) in
    let d = drop (0 + length t) out in
    let q : o ≡ t ++ d = p.1 in
    (sym m, rw q (take_at t d end m), omega (arith, ap length q, length-append t d))

-- ---- the words of a whole file

four : (r : Rest) (a b c d : ℕ) → r.word < 2 ^ 32 → r.count % 4 ≡ 0 → a < 256 → b < 256 → c < 256 → d < 256 → (bs : List ℕ)
    → words_behind r (a ∷ b ∷ c ∷ d ∷ bs) ≡ (a + b * 2 ^ 8 + c * 2 ^ 16 + d * 2 ^ 24) ∷ words_behind (rest (a + b * 2 ^ 8 + c * 2 ^ 16 + d * 2 ^ 24) 4) bs
unfolding words_behind completed further
four r a b c d w z la lb lc ld bs =
    let k1 : (r.count % 4 + 1) % 4 ≡ 1 = omega arith in
    let k2 : ((r.count % 4 + 1) % 4 + 1) % 4 ≡ 2 = omega arith in
    let k3 : (((r.count % 4 + 1) % 4 + 1) % 4 + 1) % 4 ≡ 3 = omega arith in
    let n0 = ne_eqb (r.count % 4) 3 (omega arith) in
    let n1 = ne_eqb ((r.count % 4 + 1) % 4) 3 (omega arith) in
    let n2 = ne_eqb (((r.count % 4 + 1) % 4 + 1) % 4) 3 (omega arith) in
    let y3 = eq-eqb ((((r.count % 4 + 1) % 4 + 1) % 4 + 1) % 4) 3 k3 in
    let v : (((r.word / 2 ^ 8 + a * 2 ^ 24) / 2 ^ 8 + b * 2 ^ 24) / 2 ^ 8 + c * 2 ^ 24) / 2 ^ 8 + d * 2 ^ 24 ≡ a + b * 2 ^ 8 + c * 2 ^ 16 + d * 2 ^ 24 = omega arith in
    let k4 : (((r.count % 4 + 1) % 4 + 1) % 4 + 1) % 4 + 1 ≡ 4 = omega arith in
    rw (n0, n1, n2, y3, v, k4)

whole_from : (n : ℕ) (r : Rest) (bs : List ℕ) → length bs ≤ n → r.word < 2 ^ 32 → r.count % 4 ≡ 0 → Bytes bs → words_behind r bs ≡ words_in bs
unfolding words_behind words_in completed further
whole_from n r [] l w z h = refl
whole_from n r (a ∷ []) l w z h = rw (ne_eqb (r.count % 4) 3 (omega arith))
whole_from n r (a ∷ b ∷ []) l w z h = rw (ne_eqb (r.count % 4) 3 (omega arith), ne_eqb ((r.count % 4 + 1) % 4) 3 (omega arith))
whole_from n r (a ∷ b ∷ c ∷ []) l w z h =
    rw (ne_eqb (r.count % 4) 3 (omega arith), ne_eqb ((r.count % 4 + 1) % 4) 3 (omega arith), ne_eqb (((r.count % 4 + 1) % 4 + 1) % 4) 3 (omega arith))
whole_from zero r (a ∷ b ∷ c ∷ d ∷ bs) l w z h = absurd (omega arith)
whole_from (suc n) r (a ∷ b ∷ c ∷ d ∷ bs) l w z h =
    let v = a + b * 2 ^ 8 + c * 2 ^ 16 + d * 2 ^ 24 in
    let la = h 0 in
    let lb = h 1 in
    let lc = h 2 in
    let ld = h 3 in
    let g : Bytes bs = λ i. h (suc (suc (suc (suc i)))) in
    four r a b c d w z la lb lc ld bs ∙ ap (λ (ws : List ℕ). v ∷ ws) (whole_from n (rest v 4) bs (omega arith) (omega arith) refl g)

-- THEOREM: byte by byte the words are those of the whole file
pub words_whole : (bs : List ℕ) → Bytes bs → words_behind no_rest bs ≡ words_in bs
words_whole bs h = whole_from (length bs) no_rest bs (omega arith) (omega arith) refl h

-- THEOREM: a file cut anywhere has the words of its pieces
pub words_cut : (r : Rest) (a b : List ℕ) → words_behind r (a ++ b) ≡ words_behind r a ++ words_behind (rest_behind r a) b
unfolding words_behind rest_behind
words_cut r [] b = refl
words_cut r (x ∷ a) b = rw (words_cut (further r x) a b) (sym (append_assoc (completed r x) (words_behind (further r x) a) (words_behind (rest_behind (further r x) a) b)))

pub rest_cut : (r : Rest) (a b : List ℕ) → rest_behind r (a ++ b) ≡ rest_behind (rest_behind r a) b
unfolding rest_behind
rest_cut r [] b = refl
rest_cut r (x ∷ a) b = rest_cut (further r x) a b

-- THEOREM: the words of raw bytes are those that the bytes were made of
pub words_raw : (ws : List ℕ) → ((i : ℕ) → get_or ws i 0 < 2 ^ 32) → words_in (raw ws) ≡ ws
unfolding words_in raw low_first
words_raw [] h = refl
words_raw (w ∷ ws) h =
    let l : w < 2 ^ 32 = h 0 in
    let v : w % 256 + w / 256 % 256 * 2 ^ 8 + w / 2 ^ 16 % 256 * 2 ^ 16 + w / 2 ^ 24 * 2 ^ 24 ≡ w = omega arith in
    rw v (ap (λ (x : List ℕ). w ∷ x) (words_raw ws (λ i. h (suc i))))

-- ---- what is told

append_bytes : (xs bs : List ℕ) → Bytes xs → Bytes bs → Bytes (xs ++ bs)
append_bytes [] bs p q k = q k
append_bytes (x ∷ xs) bs p q zero = p 0
append_bytes (x ∷ xs) bs p q (suc k) = append_bytes xs bs (λ i. p (suc i)) q k

pub behind_none : (r : Rest) → r ≡ no_rest → Behind r
unfolding rest_behind
behind_none r e = ([], λ _. omega arith, e)

pub behind_more : (r x : Rest) (piece : List ℕ) → Behind r → Bytes piece → x ≡ rest_behind r piece → Behind x
behind_more r x piece (before, h, e) p q = (before ++ piece, append_bytes before piece h p, q ∙ ap (λ (y : Rest). rest_behind y piece) e ∙ sym (rest_cut no_rest before piece))

pub told : (r : Rest) (piece text : List ℕ) → Behind r → Bytes piece → text ≡ listing (words_behind r piece) → Told r piece text
told r piece text (before, h, e) p q = (
  before,
  e,
  ap listing (sym (words_whole (before ++ piece) (append_bytes before piece h p)) ∙ words_cut no_rest before piece)
      ∙ listing_more (words_behind no_rest before) (words_behind (rest_behind no_rest before) piece)
      ∙ ap (λ (ws : List ℕ). listing ws ++ listing (words_behind (rest_behind no_rest before) piece)) (words_whole before h)
      ∙ ap (λ (t : List ℕ). listing (words_in before) ++ t) (sym (q ∙ ap (λ (y : Rest). listing (words_behind y piece)) e)),
)

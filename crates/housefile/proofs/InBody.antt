-- The words of a body, each at its place, and a body cut short.
use Rattle.std.proofs.Common.{◌≡◌, ℕ, zero, suc, ◌+◌, ◌*◌, ◌%◌, ◌^◌, ◌<◌, ◌≤◌, true, false, not, ◌||◌, eqb, ltb, List, [], ◌∷◌, length, take, drop, set, ap, ◌∙◌, arith, length-drop, drop-drop, le-ltb, eq-eqb, ne_eqb}
use lib.Seq.{sets}
use Rattle.dlx.specs.Choice.{when◌then◌else◌}
use Rattle.dlx.proofs.Tests.{by_test}
use Rattle.housefile.specs.Records.{wrong, number, words_of}
use Rattle.housefile.specs.Reader.{Read, read, within, spoils, placed, further, completed, settled, fed, answer_of}
use Rattle.housefile.specs.declared.Record.{Record}
use Rattle.housefile.specs.declared.Reader.{Reader}
use Rattle.housefile.proofs.Steps.{Bytes, drop_bytes, on, of, Open, through, took_on, spoils_wrong, open_answer}
use Rattle.housefile.proofs.Words.{four}

pub word_lt : (bs : List ℕ) → Bytes bs → number (take 4 bs) < 2 ^ 32
unfolding number
word_lt [] g = omega arith
word_lt (a ∷ []) g = omega (arith, g 0)
word_lt (a ∷ b ∷ []) g = omega (arith, g 0, g 1)
word_lt (a ∷ b ∷ c ∷ []) g = omega (arith, g 0, g 1, g 2)
word_lt (a ∷ b ∷ c ∷ d ∷ bs) g = omega (arith, g 0, g 1, g 2, g 3)

-- the state behind a whole record
unfoldable pub behind : Reader → ℕ → ℕ → Read → Read
behind r size kind q =
    let x = completed r (of 0 size kind 0 0) q.pages in
    read x.0 q.turns x.1 q.frames q.memory

-- ---- a byte that spoils nothing

-- the lists of q beside a reader
abbrev pub beside : Reader → Read → Read
beside r q = read r q.turns q.pages q.frames q.memory

module _ (s : Read) (n c : Record) (fine : spoils (within s.reader n) c ≡ false) where
  pub settled_within : (not (eqb c.bytes (6 + c.size)) || ltb c.bytes 6) ≡ true
      → settled (on s n) c ≡ beside (within s.reader c) (placed (within s.reader n) c (on s n))
  unfolding settled
  settled_within more = simp (fine, more)

  pub settled_whole : (not (eqb c.bytes (6 + c.size)) || ltb c.bytes 6) ≡ false
      → settled (on s n) c ≡ behind s.reader c.size c.kind (placed (within s.reader n) c (on s n))
  unfolding settled completed behind
  settled_whole more = simp (fine, more)

-- ---- a body cut short

module _ (r : Reader) (o : Open r) where
  pub short : (bs : List ℕ) (q : Read) (n : Record) → 6 ≤ n.bytes → n.bytes + length bs < 6 + n.size → n.size < 2 ^ 20
      → answer_of (fed (beside (within r n) q) bs) ≡ wrong r.start
  unfolding fed further
  short [] q n l h g = open_answer (beside r q) o n
  short (b ∷ bs) q n l h g =
      let c = further n b in
      let z : (n.bytes + 1) % 2 ^ 32 ≡ n.bytes + 1 = omega arith in
      let x : c.size ≡ n.size = rw (ne_eqb n.bytes 3 (omega arith)) in
      ap (λ (y : Read). answer_of (fed y bs)) (took_on (beside r q) o n b)
      ∙ by_test (spoils (within r n) c)
      (λ e. spoils_wrong (beside r q) o n c bs e)
      (λ e. ap (λ (y : Read). answer_of (fed y bs))
      (settled_within (beside r q) n c e (rw (z, x, ne_eqb (n.bytes + 1) (6 + n.size) (omega arith))))
      ∙ short bs (placed (within r n) c (on (beside r q) n)) c (rw z (omega arith)) (rw (z, x) (omega arith)) (rw x g))

-- ---- a body whose words go one by one to their places in one list

module _ (r : Reader) (o : Open r) (size kind : ℕ) (into : List ℕ → Read) (place : ℕ → ℕ) (first : ℕ) (P : ℕ → Type 0)
    (next : (j : ℕ) → first ≤ j → place (suc j) ≡ suc (place j))
    (keeps : (j frame w : ℕ) → first ≤ j → P frame → P (when eqb (9 + 4 * j) 9 then w else frame))
    (fine : (n : Record) (j frame w : ℕ) → first ≤ j → P frame → spoils (within r n) (of (10 + 4 * j) size kind frame w) ≡ false)
    (puts : (n : Record) (j frame w : ℕ) (l : List ℕ) → first ≤ j → P frame
    → placed (within r n) (of (10 + 4 * j) size kind frame w) (beside (within r n) (into l)) ≡ beside (within r n) (into (set l (place j) w)))
    (whole : size % 4 ≡ 0) (small : size < 2 ^ 20) where
  -- a word that is the body's last, and one that is not
  module _ (j frame w : ℕ) (l : List ℕ) (f : first ≤ j) (p : P frame) (n : Record) where
    word_last : 10 + 4 * j ≡ 6 + size
        → settled (on (beside r (into l)) n) (of (10 + 4 * j) size kind frame w) ≡ behind r size kind (into (set l (place j) w))
    unfolding behind
    word_last e =
        settled_whole (beside r (into l)) n (of (10 + 4 * j) size kind frame w) (fine n j frame w f p)
        (rw (eq-eqb (10 + 4 * j) (6 + size) e, le-ltb (10 + 4 * j) 6 (omega arith)))
        ∙ ap (behind r size kind) (puts n j frame w l f p)

    word_more : (10 + 4 * j ≡ 6 + size → ⊥)
        → settled (on (beside r (into l)) n) (of (10 + 4 * j) size kind frame w) ≡ beside (within r (of (6 + 4 * suc j) size kind frame w)) (into (set l (place j) w))
    word_more e =
        let to : 10 + 4 * j ≡ 6 + 4 * suc j = omega arith in
        settled_within (beside r (into l)) n (of (10 + 4 * j) size kind frame w) (fine n j frame w f p) (rw (ne_eqb (10 + 4 * j) (6 + size) e))
        ∙ ap (beside (within r (of (10 + 4 * j) size kind frame w))) (puts n j frame w l f p)
        ∙ ap (λ (i : ℕ). beside (within r (of i size kind frame w)) (into (set l (place j) w))) to

  pub body_fed : (k j frame word : ℕ) (l bs : List ℕ) → first ≤ j → 4 * (j + suc k) ≡ size → word < 2 ^ 32 → P frame → 4 * suc k ≤ length bs → Bytes bs
      → fed (beside (within r (of (6 + 4 * j) size kind frame word)) (into l)) bs
      ≡ fed (behind r size kind (into (sets l (place j) (words_of (suc k) bs)))) (drop (4 * suc k) bs)
  unfolding words_of
  body_fed zero j frame word l bs f e w p h g =
      let v = number (take 4 bs) in
      let a = when eqb (9 + 4 * j) 9 then v else frame in
      through (beside r (into l)) (behind r size kind (into (set l (place j) v))) _ (of (10 + 4 * j) size kind a v) (drop 4 bs)
      (four (beside r (into l)) o size kind j frame word bs (omega arith) (omega arith) whole w (omega arith) g)
      (λ n. word_last j a v l f (keeps j frame v f p) n (omega arith))
  body_fed (suc k) j frame word l bs f e w p h g =
      let v = number (take 4 bs) in
      let a = when eqb (9 + 4 * j) 9 then v else frame in
      let p' = keeps j frame v f p in
      let l' = set l (place j) v in
      let far : 4 + 4 * suc k ≡ 4 * suc (suc k) = omega arith in
      through (beside r (into l)) (beside (within r (of (6 + 4 * suc j) size kind a v)) (into l')) _ (of (10 + 4 * j) size kind a v) (drop 4 bs)
      (four (beside r (into l)) o size kind j frame word bs (omega arith) (omega arith) whole w (omega arith) g)
      (λ n. word_more j a v l f p' n (omega arith))
      ∙ body_fed k (suc j) a v l' (drop 4 bs) (omega arith) (omega arith) (word_lt bs g) p' (rw (length-drop 4 bs) (omega arith)) (drop_bytes 4 bs g)
      ∙ ap (λ (i : ℕ). fed (behind r size kind (into (sets l' i (words_of (suc k) (drop 4 bs))))) (drop (4 * suc k) (drop 4 bs))) (next j f)
      ∙ ap (fed (behind r size kind (into (sets l (place j) (words_of (suc (suc k)) bs))))) (drop-drop (4 * suc k) 4 bs ∙ ap (λ (i : ℕ). drop i bs) far)

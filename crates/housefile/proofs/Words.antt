-- Six bytes are a header, four a word.
use Rattle.std.proofs.Common.{◌≡◌, ℕ, ◌+◌, ◌*◌, ◌/◌, ◌%◌, ◌^◌, ◌<◌, ◌≤◌, not, eqb, ltb, List, [], ◌∷◌, length, take, drop, ap, ◌∙◌, arith, lt-ltb, ne_eqb}
use mathlib.Core.Bool.{or-true}
use Rattle.dlx.specs.Choice.{when◌then◌else◌}
use Rattle.housefile.specs.Records.{wrong, number, size, kind}
use Rattle.housefile.specs.Reader.{Read, no_record, shifted, further, settled, took, fed, answer_of}
use Rattle.housefile.specs.declared.Record.{Record}
use Rattle.housefile.proofs.Steps.{Bytes, on, of, Open, took_on, quiet, open_answer}

-- ---- numbers

module _ (a b c d : ℕ) (la : a < 256) (lb : b < 256) (lc : c < 256) (ld : d < 256) where
  word_of : (w : ℕ) → w < 2 ^ 32 → shifted (shifted (shifted (shifted w a) b) c) d ≡ number (a ∷ b ∷ c ∷ d ∷ [])
  unfolding number
  word_of w l = omega arith

-- ---- a word

module _ (s : Read) (o : Open s.reader) (size kind : ℕ) where
  further_is : (p q frame word b : ℕ) → q ≡ p + 1 → 6 ≤ p → p < 2 ^ 31
      → further (of p size kind frame word) b ≡ of q size kind (when eqb p 9 then shifted word b else frame) (shifted word b)
  unfolding further
  further_is p q frame word b e l h =
      let z : (p + 1) % 2 ^ 32 ≡ q = omega arith in
      simp (z, ne_eqb p 3 (omega arith), ne_eqb p 5 (omega arith))

  -- a byte that makes no word whole
  inside : (p q frame word b : ℕ) → q ≡ p + 1 → 6 ≤ p → p < 2 ^ 31 → (q % 4 ≡ 2 → ⊥) → (q ≡ 6 + size → ⊥) → (p ≡ 9 → ⊥)
      → took (on s (of p size kind frame word)) b ≡ on s (of q size kind frame (shifted word b))
  inside p q frame word b e l h two whole nine =
      took_on s o (of p size kind frame word) b
      ∙ ap (settled (on s (of p size kind frame word))) (further_is p q frame word b e l h ∙ rw (ne_eqb p 9 nine))
      ∙ quiet s o (of p size kind frame word) (of q size kind frame (shifted word b))
      (ne_eqb q 6 (omega arith)) (ne_eqb q 10 (λ z. two (rw z)))
      (rw (ne_eqb (q % 4) 2 two) (or-true (ltb q 10)))
      (rw (ne_eqb q (6 + size) whole))

  -- four bytes of a body
  pub four : (j frame word : ℕ) (bs : List ℕ) → j < 2 ^ 20 → 4 * j < size → size % 4 ≡ 0 → word < 2 ^ 32 → 4 ≤ length bs → Bytes bs
      → (n : Record) × (fed (on s (of (6 + 4 * j) size kind frame word)) bs
      ≡ fed (settled (on s n) (of (10 + 4 * j) size kind (when eqb (9 + 4 * j) 9 then number (take 4 bs) else frame) (number (take 4 bs)))) (drop 4 bs))
  unfolding fed
  four j frame word [] l m z w h g = absurd (omega arith)
  four j frame word (a ∷ []) l m z w h g = absurd (omega arith)
  four j frame word (a ∷ b ∷ []) l m z w h g = absurd (omega arith)
  four j frame word (a ∷ b ∷ c ∷ []) l m z w h g = absurd (omega arith)
  four j frame word (a ∷ b ∷ c ∷ d ∷ bs) l m z w h g =
      let w₃ = shifted (shifted (shifted word a) b) c in
      let e = word_of a b c d (g 0) (g 1) (g 2) (g 3) word w in
      let n = of (9 + 4 * j) size kind frame w₃ in (
        n,
        ap (λ (x : Read). fed (took (took (took x b) c) d) bs)
            (inside (6 + 4 * j) (7 + 4 * j) frame word a (omega arith) (omega arith) (omega arith) (omega arith) (omega arith) (omega arith))
            ∙ ap (λ (x : Read). fed (took (took x c) d) bs)
            (inside (7 + 4 * j) (8 + 4 * j) frame (shifted word a) b (omega arith) (omega arith) (omega arith) (omega arith) (omega arith) (omega arith))
            ∙ ap (λ (x : Read). fed (took x d) bs)
            (inside (8 + 4 * j) (9 + 4 * j) frame (shifted (shifted word a) b) c (omega arith) (omega arith) (omega arith) (omega arith) (omega arith) (omega arith))
            ∙ ap (λ (x : Read). fed x bs)
            (took_on s o n d
            ∙ ap (settled (on s n))
            (further_is (9 + 4 * j) (10 + 4 * j) frame w₃ d (omega arith) (omega arith) (omega arith)
            ∙ ap (λ (x : ℕ). of (10 + 4 * j) size kind (when eqb (9 + 4 * j) 9 then x else frame) x) e)),
      )

-- ---- the header

abbrev pub headed : List ℕ → Record
headed bs = of 6 (size bs) (kind bs) 0 (number (take 4 (drop 2 bs)))

module _ (s : Read) (o : Open s.reader) where
  -- a byte before the header is whole
  early : (n : Record) (b : ℕ) → n.bytes < 5 → took (on s n) b ≡ on s (further n b)
  unfolding further
  early n b l =
      let z : (n.bytes + 1) % 2 ^ 32 ≡ n.bytes + 1 = omega arith in
      took_on s o n b
      ∙ quiet s o n (further n b)
      (rw z (ne_eqb (n.bytes + 1) 6 (omega arith)))
      (rw z (ne_eqb (n.bytes + 1) 10 (omega arith)))
      (rw (z, lt-ltb (n.bytes + 1) 10 (omega arith)))
      (rw (z, lt-ltb (n.bytes + 1) 6 (omega arith)) (or-true (not (eqb (n.bytes + 1) (6 + (further n b).size)))))

  -- a header cut short
  pub few : (n : Record) (bs : List ℕ) → n.bytes + length bs < 6 → answer_of (fed (on s n) bs) ≡ wrong s.reader.start
  unfolding fed further
  few n [] l = open_answer s o n
  few n (b ∷ bs) l = rw (early n b (omega arith)) (few (further n b) bs (omega arith))

  pub header : (bs : List ℕ) → 6 ≤ length bs → Bytes bs → (n : Record) × (fed (on s no_record) bs ≡ fed (settled (on s n) (headed bs)) (drop 6 bs))
  unfolding fed further number
  header [] l g = absurd (omega arith)
  header (a ∷ []) l g = absurd (omega arith)
  header (a ∷ b ∷ []) l g = absurd (omega arith)
  header (a ∷ b ∷ c ∷ []) l g = absurd (omega arith)
  header (a ∷ b ∷ c ∷ d ∷ []) l g = absurd (omega arith)
  header (a ∷ b ∷ c ∷ d ∷ e ∷ []) l g = absurd (omega arith)
  header (a ∷ b ∷ c ∷ d ∷ e ∷ f ∷ bs) l g =
      let w₁ = shifted 0 a in
      let w₂ = shifted w₁ b in
      let w₃ = shifted w₂ c in
      let w₄ = shifted w₃ d in
      let w₅ = shifted w₄ e in
      let w₆ = shifted w₅ f in
      let z₄ : w₄ ≡ number (a ∷ b ∷ c ∷ d ∷ []) = word_of a b c d (g 0) (g 1) (g 2) (g 3) 0 (omega arith) in
      let z₆ : w₆ ≡ number (c ∷ d ∷ e ∷ f ∷ []) = word_of c d e f (g 2) (g 3) (g 4) (g 5) w₂ (omega (arith, g 0, g 1)) in
      let k : number (c ∷ d ∷ e ∷ f ∷ []) / 2 ^ 16 ≡ number (e ∷ f ∷ []) = omega (arith, g 2, g 3) in (
        of 5 w₄ 0 0 w₅,
        ap (λ (x : Read). fed (took (took (took (took (took x b) c) d) e) f) bs) (early no_record a (omega arith))
            ∙ ap (λ (x : Read). fed (took (took (took (took x c) d) e) f) bs) (early (of 1 0 0 0 w₁) b (omega arith))
            ∙ ap (λ (x : Read). fed (took (took (took x d) e) f) bs) (early (of 2 0 0 0 w₂) c (omega arith))
            ∙ ap (λ (x : Read). fed (took (took x e) f) bs) (early (of 3 0 0 0 w₃) d (omega arith))
            ∙ ap (λ (x : Read). fed (took x f) bs) (early (of 4 w₄ 0 0 w₄) e (omega arith))
            ∙ ap (λ (x : Read). fed x bs) (took_on s o (of 5 w₄ 0 0 w₅) f
            ∙ ap (λ (x : ℕ). settled (on s (of 5 w₄ 0 0 w₅)) (of 6 x (w₆ / 2 ^ 16) 0 w₆)) z₄
            ∙ ap (λ (x : ℕ). settled (on s (of 5 w₄ 0 0 w₅)) (of 6 (number (a ∷ b ∷ c ∷ d ∷ [])) (x / 2 ^ 16) 0 x)) z₆
            ∙ ap (λ (x : ℕ). settled (on s (of 5 w₄ 0 0 w₅)) (of 6 (number (a ∷ b ∷ c ∷ d ∷ [])) x 0 (number (c ∷ d ∷ e ∷ f ∷ [])))) k),
      )

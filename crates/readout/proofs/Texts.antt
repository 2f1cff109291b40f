-- Which text an answer gives.
use mathlib.Core.Path.{◌≡◌, refl, sym, ap, subst, ◌∙◌}
use mathlib.Core.Bool.{false, not}
use mathlib.Core.List.{List, ◌++◌, append-nil, append_assoc}
use Prim.Native.Nat.{ℕ, zero, suc, ◌+◌, ◌*◌, ◌%◌, ◌^◌, ◌<◌, ◌≤◌}
use native.Mathlib.Omega.{arith}
use borrow.Author.Tests.{ltb-true, ltb-false, leb-false}
use lib.Dec.{eqb, ltb, leb}
use lib.ListN.{length, get_or, replicate}
use Rattle.dlx.proofs.Kept.{either}
use Rattle.house.specs.House.{pages_of}
use Rattle.house.specs.Damage.{damaged}
use Rattle.house.specs.Boot.{Verdict, verdict, first_of}
use Rattle.house.specs.Turns.{World}
use Rattle.house.specs.Calls.{Read, read, answered, beyond_of, read_verdict, read_call}
use Rattle.house.proofs.Lists.Bounded.{or_right}
use Rattle.house.proofs.Damage.Undamaged.{undamaged_gives}
use Rattle.house.specs.declared.House.{House}
use Rattle.house.specs.Refusals.{refusal}
use Rattle.house.specs.declared.refusal.Refusal.{Refusal}
use Rattle.house.proofs.Refusals.{not_0}
use Rattle.housefile.specs.Records.{number}
use Rattle.decimal.specs.Raw.{low_first}
use Rattle.report.specs.Put.{put}
use Rattle.report.specs.Report.{refusal as refusal_text}
use Rattle.readout.specs.Printed.{word_text, is_raw, words_text, words_from, refused_out, read_text, no_words, printed, read_refusal, refusal_of, ToldBehind}
use Rattle.night_run.specs.Ran.{either_file, Told}
use Rattle.night_run.specs.declared.input.Taken.{Taken}
use Rattle.decimal.specs.Texts.{joined}
use Rattle.readout.specs.declared.Want.{Want}

pub put_same : (t t' out : List ℕ) (g : ℕ × List ℕ) → g ≡ put t out → t ≡ t' → g ≡ put t' out
put_same t t' out g h e = h ∙ ap (λ (x : List ℕ). put x out) e

-- ---- a text in pieces

joined_from : (f : ℕ → List ℕ) (a n : ℕ) → joined f (a + n) ≡ joined f a ++ joined (λ i. f (a + i)) n
unfolding joined
joined_from f a zero = let e : a + 0 ≡ a = omega arith in rw e (sym (append-nil (joined f a)))
joined_from f a (suc n) =
    let e : a + suc n ≡ suc (a + n) = omega arith in
    rw e (ap (λ (l : List ℕ). l ++ f (a + n)) (joined_from f a n) ∙ append_assoc (joined f a) (joined (λ i. f (a + i)) n) (f (a + n)))

pub pieces_are : (want : Want) (words : List ℕ) (from n rest : ℕ)
    → words_text want words (from + n + rest) ≡ words_text want words from ++ (words_from want words from n ++ words_from want words (from + n) rest)
unfolding words_text words_from
pieces_are want words from n rest =
    let f : ℕ → List ℕ = λ i. word_text want (get_or words i 0) in
    joined_from f (from + n) rest
    ∙ ap (λ (l : List ℕ). l ++ joined (λ i. f (from + n + i)) rest) (joined_from f from n)
    ∙ append_assoc (joined f from) (joined (λ i. f (from + i)) n) (joined (λ i. f (from + n + i)) rest)

-- n words behind so many that are printed
pub behind_told : (want : Want) (t : Taken) (words : List ℕ) (from at n count : ℕ) (piece : List ℕ) → at ≡ from → from + n ≤ count → count ≤ 262144
    → Told either_file (printed want) t (words_text want words count) → piece ≡ words_from want words at n → ToldBehind want t from n piece
behind_told want t words from at n count piece e l m h p = record {
  words = words;
  count = count;
  fits = l;
  most = m;
  text = h;
  part = p ∙ ap (λ (k : ℕ). words_from want words k n) e;
}

-- ---- the read-out

-- one that is done has room for its words
abbrev Roomy : List ℕ → ℕ → Verdict → Type 0
Roomy out count v = v.number ≡ 0 → count ≤ length out

done_roomy : (w : World) (i a count : ℕ) (out : List ℕ) → Roomy out count (read_verdict w i a count out)
unfolding read_verdict first_of
done_roomy w i a count out =
    either (Roomy out count) (damaged w.house) (λ _ e. absurd (omega arith)) λ _.
    either (Roomy out count) (not (eqb (length w.memory) w.house.words)) (λ _ e. absurd (omega arith)) λ _.
    either (Roomy out count) (leb w.house.count i) (λ _ e. absurd (omega arith)) λ _.
    either (Roomy out count) (beyond_of (pages_of w.house i) a count) (λ _ e. absurd (omega arith)) λ _.
    either (Roomy out count) (ltb (length out) count) (λ _ e. absurd (omega arith)) λ t e.
    ltb-false (length out) count t

abbrev Told12 : ℕ → Verdict → Type 0
Told12 i v = v.number ≡ 12 → i < 8

there_12 : (w : World) (i a count : ℕ) (out : List ℕ) → Told12 i (read_verdict w i a count out)
unfolding read_verdict first_of
there_12 w i a count out =
    let h = w.house in
    either (Told12 i) (damaged h) (λ _ e. absurd (omega arith)) λ d.
    either (Told12 i) (not (eqb (length w.memory) h.words)) (λ _ e. absurd (omega arith)) λ _.
    either (Told12 i) (leb h.count i) (λ _ e. absurd (omega arith)) λ k.
    either (Told12 i) (beyond_of (pages_of h i) a count)
    (λ _ e. omega (arith, leb-false h.count i k, (undamaged_gives h d).few))
    (λ _.
    either (Told12 i) (ltb (length out) count) (λ _ e. absurd (omega arith)) (λ _ e. absurd (omega arith)))

-- The refusal 13, an output that is too short, never comes: the output holds the largest partition.
abbrev NotShort : Verdict → Type 0
NotShort v = v.number ≡ 13 → ⊥

pub never_short : (w : World) (i a count : ℕ) (out : List ℕ) → length out ≡ 262144 → (read_verdict w i a count out).number ≡ 13 → ⊥
unfolding read_verdict first_of
never_short w i a count out l =
    let h = w.house in
    let high = ltb (4096 * pages_of h i) (a + 4 * count) in
    either NotShort (damaged h) (λ _ e. omega arith) λ d.
    either NotShort (not (eqb (length w.memory) h.words)) (λ _ e. omega arith) λ _.
    either NotShort (leb h.count i) (λ _ e. omega arith) λ k.
    either NotShort (beyond_of (pages_of h i) a count) (λ _ e. omega arith) λ b.
    either NotShort (ltb (length out) count)
    (λ t e.
    omega (
      arith,
      l,
      ltb-true (length out) count t,
      ltb-false (4096 * pages_of h i) (a + 4 * count) (or_right (not (eqb (a % 4) 0)) high b),
      ((undamaged_gives h d).pages i (leb-false h.count i k)).1,
    ))
    (λ _ e. omega arith)

module _ (want : Want) (w : World) (out : List ℕ) (h : House) (o : List ℕ) where
  abbrev Reads : Verdict → Type 0
  Reads v = read v h o ≡ read_call w want.partition want.address want.count out

  pub read_refused : (r : Refusal) → Reads (refusal r) → refused_out want (refusal r) ≡ read_text want w out
  unfolding read_text
  read_refused r e = sym (rw (← e, not_0 r))

  pub read_told : (r : Refusal) → Reads (refusal r) → refusal_text (refusal r) ≡ read_refusal want w out
  unfolding read_refusal
  read_told r e = sym (rw (← e, not_0 r))

  -- 12 tells of a partition that is there
  pub read_there : Reads (verdict 12 0) → want.partition < 8
  unfolding read_call
  read_there e = subst (λ (r : Read). Told12 want.partition r.verdict) (sym e) (there_12 w want.partition want.address want.count out) refl

  module _ (d : ℕ) (e : Reads (verdict 0 d)) where
    pub read_done : words_text want o want.count ≡ read_text want w out
    unfolding read_text
    read_done = sym (rw (← e))

    pub read_fits : length out ≡ 262144 → want.count ≤ 262144
    unfolding read_call
    read_fits l =
        let v : Roomy out want.count (verdict 0 d) = subst (λ (r : Read). Roomy out want.count r.verdict) (sym e) (done_roomy w want.partition want.address want.count out) in
        omega (arith, l, v refl)

module _ (want : Want) (r : Refusal) (w : World) where
  pub text_refused : refused_out want (refusal r) ≡ printed want (answered (refusal r) w)
  unfolding printed
  text_refused = rw (not_0 r)

  pub text_told : refusal_text (refusal r) ≡ refusal_of want (answered (refusal r) w)
  unfolding refusal_of
  text_told = rw (not_0 r)

-- where no raw words are asked for the refusal is printed
pub text_shown : (want : Want) (v : Verdict) → is_raw want.form ≡ false → refused_out want v ≡ refusal_text v
unfolding refused_out
text_shown want v e = rw e

module _ (want : Want) (d : ℕ) (w : World) where
  pub text_done : read_text want w (replicate 262144 0) ≡ printed want (answered (verdict 0 d) w)
  unfolding printed no_words
  text_done = refl

  pub text_read : read_refusal want w (replicate 262144 0) ≡ refusal_of want (answered (verdict 0 d) w)
  unfolding refusal_of no_words
  text_read = refl

-- raw words are little-endian: the house file's reading gives them back
pub raw_reads : (w : ℕ) → w < 2 ^ 32 → number (low_first w) ≡ w
unfolding number low_first
raw_reads w l = omega arith

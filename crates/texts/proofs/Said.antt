-- What a line is, as laws over plain variables.
use Rattle.std.proofs.Common.{◌≡◌, ℕ, ◌-◌, ◌^◌, ◌<◌, ◌≤◌, Bool, true, false, ◌&&◌, eqb, nat_eq, sym, List, [], ◌∷◌, length, take, drop, refl, ap, ◌∙◌, eq-eqb, ne_eqb, le-leb}
use borrow.Author.Tests.{lt-leb}
use Rattle.decimal.specs.Texts.{ascii, same}
use Rattle.std.specs.Prelude.{Option, is_some, unwrap_or}
use Rattle.std.specs.Cmp.Lexicographic.{pointwise}
use Rattle.command.specs.Words.{number_of}
use Rattle.lines.specs.Lines.{candidate, right}
use Rattle.texts.specs.Numbers.{negated, word_said, idle, right_by, word_by}

-- ---- a line with a minus before it, and without

dash : (b : ℕ) (bs : List ℕ) → pointwise nat_eq (take 1 (b ∷ bs)) (45 ∷ []) ≡ eqb b 45
dash b bs = either (eqb b 45)
  where
    either : (t : Bool) → (t && true) ≡ t
    either true = refl
    either false = refl

pub said_minus : (l : List ℕ) → pointwise nat_eq (take 1 l) (45 ∷ []) ≡ true → negated (number_of (2 ^ 31) (drop 1 l)) ≡ word_said l
unfolding word_said
said_minus [] e = cc
said_minus (b ∷ bs) e = let t : eqb b 45 ≡ true = sym (dash b bs) ∙ e in rw t

pub said_negated : (l digits : List ℕ) (n : Option ℕ) → pointwise nat_eq (take 1 l) (45 ∷ []) ≡ true → digits ≡ drop 1 l → n ≡ number_of (2 ^ 31) digits → negated n ≡ word_said l
said_negated l digits n t e f = ap negated (f ∙ ap (number_of (2 ^ 31)) e) ∙ said_minus l t

pub said_plain : (l : List ℕ) → pointwise nat_eq (take 1 l) (45 ∷ []) ≡ false → number_of (2 ^ 32 - 1) l ≡ word_said l
unfolding word_said number_of
said_plain [] e = refl
said_plain (b ∷ bs) e = let t : eqb b 45 ≡ false = sym (dash b bs) ∙ e in rw t

module _ (d : Bool) (l : List ℕ) (b : ℕ) where
  pub idle_listed : d ≡ false → false ≡ idle d l b
  unfolding idle
  idle_listed e = rw (e, idle)

  module _ (e : d ≡ true) where
    pub idle_other : (b ≡ 48 → ⊥) → false ≡ idle d l b
    unfolding idle
    idle_other n = rw (e, idle, ne_eqb b 48 n)

    module _ (n : b ≡ 48) {r : Bool} (q : r ≡ same l (ascii "0")) where
      pub idle_zero : r ≡ true → true ≡ idle d l b
      unfolding idle
      idle_zero t = rw (e, idle, eq-eqb b 48 n, ← q, t)

      pub idle_minus : {s : Bool} → r ≡ false → s ≡ same l (ascii "-0") → s ≡ idle d l b
      unfolding idle
      idle_minus f g = rw (e, idle, eq-eqb b 48 n, ← q, f) g

module _ (d : Bool) (l : List ℕ) where
  pub right_listed : {r : Bool} → d ≡ false → r ≡ right l → r ≡ right_by d l
  unfolding right_by
  right_listed e f = rw (e, right_by) f

  pub right_long : d ≡ true → 80 < length l → false ≡ right_by d l
  unfolding right_by
  right_long e h = rw (e, right_by, lt-leb (length l) 80 h)

  pub right_said : (n : Option ℕ) → d ≡ true → length l ≤ 80 → n ≡ word_said l → is_some n ≡ right_by d l
  unfolding right_by
  right_said n e h f = rw (e, right_by, le-leb (length l) 80 h) (ap (λ (x : Option ℕ). is_some x) f)

  pub word_listed : {w : ℕ} → d ≡ false → w ≡ candidate l → w ≡ word_by d l
  unfolding word_by
  word_listed e f = rw (e, word_by) f

  pub word_said_lem : (n : Option ℕ) → d ≡ true → n ≡ word_said l → unwrap_or n 0 ≡ word_by d l
  unfolding word_by
  word_said_lem n e f = rw (e, word_by) (ap (λ (x : Option ℕ). unwrap_or x 0) f)

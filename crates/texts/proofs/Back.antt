-- The words that a text in decimals gives, with their signs or without, are the words that were written.
use Rattle.std.proofs.Common.{◌≡◌, ℕ, zero, suc, ◌+◌, ◌-◌, ◌*◌, ◌/◌, ◌%◌, ◌^◌, ◌<◌, ◌≤◌, true, ◌||◌, eqb, ltb, List, [], ◌∷◌, ◌++◌, sym, refl, ap, ◌∙◌, append_assoc, append-nil, arith, ltb-false, ltb-true, ne_eqb, eqb-true, le-leb}
use Rattle.dlx.proofs.Tests.{by_test, and_left}
use Rattle.decimal.specs.Decimals.{digit, decimal, signed_text}
use Rattle.decimal.specs.Texts.{ascii, same}
use Rattle.decimal.proofs.Same.{and_right, same_eq}
use Rattle.decimal.proofs.Decimals.{one_digit, more_digits}
use Rattle.std.specs.Prelude.{Option, Some}
use Rattle.command.specs.Words.{with_digit, with_digits, number_of}
use Rattle.texts.specs.Numbers.{negated, word_said, idle, bared_from, bared}

-- ---- a number in decimals says itself

digits_more : (most : ℕ) (n : Option ℕ) (a b : List ℕ) → with_digits most n (a ++ b) ≡ with_digits most (with_digits most n a) b
unfolding with_digits
digits_more most n [] b = refl
digits_more most n (x ∷ a) b = digits_more most (with_digit most n x) a b

digit_on : (most v n : ℕ) → v * 10 + n % 10 ≤ most → with_digit most (Some v) (digit n) ≡ Some (v * 10 + n % 10)
unfolding with_digit
digit_on most v n l =
    let e : 48 + n % 10 - 48 ≡ n % 10 = omega arith in
    rw (le-leb 48 (48 + n % 10) (omega arith), le-leb (48 + n % 10) 57 (omega arith), e, le-leb (v * 10 + n % 10) most l)

digits_in : (most k n : ℕ) → n ≤ k → n ≤ most → with_digits most (Some 0) (decimal n) ≡ Some n
unfolding with_digits
digits_in most zero n l m =
    let e : 0 * 10 + n % 10 ≡ n = omega arith in
    rw (one_digit n (omega arith)) (digit_on most 0 n (omega arith) ∙ ap (λ (x : ℕ). Some x) e)
digits_in most (suc k) n l m =
    by_test (ltb n 10)
    (λ q.
    let p : n < 10 = ltb-true n 10 q in
    let e : 0 * 10 + n % 10 ≡ n = omega arith in
    rw (one_digit n p) (digit_on most 0 n (omega arith) ∙ ap (λ (x : ℕ). Some x) e))
    (λ q.
    let p : 10 ≤ n = ltb-false n 10 q in
    let e : n / 10 * 10 + n % 10 ≡ n = omega arith in
    rw (more_digits n p, digits_more most (Some 0) (decimal (n / 10)) (digit n ∷ []), digits_in most k (n / 10) (omega arith) (omega arith))
    (digit_on most (n / 10) n (omega arith) ∙ ap (λ (x : ℕ). Some x) e))

-- it has a first digit
pub record Begins (l : List ℕ) : Type 0 where
  pub first : ℕ
  pub rest : List ℕ
  pub is : l ≡ first ∷ rest
  pub digit : 48 ≤ first

begins_in : (k n : ℕ) → n ≤ k → Begins (decimal n)
begins_in zero n l = record { first = digit n; rest = []; is = one_digit n (omega arith); digit = omega arith }
begins_in (suc k) n l =
    by_test (ltb n 10)
    (λ q. record { first = digit n; rest = []; is = one_digit n (ltb-true n 10 q); digit = omega arith })
    (λ q.
    let p : 10 ≤ n = ltb-false n 10 q in
    let b = begins_in k (n / 10) (omega arith) in
    record {
      first = b.first;
      rest = b.rest ++ (digit n ∷ []);
      is = more_digits n p ∙ ap (λ (l : List ℕ). l ++ (digit n ∷ [])) b.is;
      digit = b.digit;
    })

some_number : (most : ℕ) (l : List ℕ) → Begins l → number_of most l ≡ with_digits most (Some 0) l
unfolding number_of
some_number most l b = rw b.is

pub decimal_number : (most n : ℕ) → n ≤ most → number_of most (decimal n) ≡ Some n
decimal_number most n m = some_number most (decimal n) (begins_in n n (omega arith)) ∙ digits_in most n n (omega arith) m

-- ---- a word, with its sign and without

plain_said : (l : List ℕ) → Begins l → word_said l ≡ number_of (2 ^ 32 - 1) l
unfolding word_said
plain_said l b = rw (b.is, ne_eqb b.first 45 (λ e. omega (arith, b.digit)))

-- THEOREM: a word that is written in decimals says itself
pub decimal_said : (w : ℕ) → w < 2 ^ 32 → word_said (decimal w) ≡ Some w
decimal_said w l = plain_said (decimal w) (begins_in w w (omega arith)) ∙ decimal_number (2 ^ 32 - 1) w (omega arith)

minus_said : (w : ℕ) → 2 ^ 31 ≤ w → w < 2 ^ 32 → word_said (45 ∷ decimal (2 ^ 32 - w)) ≡ Some w
unfolding word_said negated
minus_said w h l =
    let e : (2 ^ 32 - (2 ^ 32 - w)) % 2 ^ 32 ≡ w = omega arith in
    rw (decimal_number (2 ^ 31) (2 ^ 32 - w) (omega arith)) (ap (λ (x : ℕ). Some x) e)

-- THEOREM: and so does one that is written with its sign
pub signed_said : (w : ℕ) → w < 2 ^ 32 → word_said (signed_text (2 ^ 32) w) ≡ Some w
unfolding signed_text
signed_said w l =
    by_test (ltb w (2 ^ 32 / 2))
    (λ q. rw (q, signed_text) (decimal_said w l))
    (λ q. rw (q, signed_text) (minus_said w (omega (arith, ltb-false w (2 ^ 32 / 2) q)) l))

-- ---- zeros before a word

idle_said : (k : List ℕ) (b : ℕ) (l : List ℕ) → idle true k b ≡ true → word_said (k ++ l) ≡ word_said (k ++ (b ∷ l))
unfolding idle word_said number_of with_digits with_digit negated ascii
idle_said k b l e =
    let zero_byte : b ≡ 48 = eqb-true b 48 (and_left (eqb b 48) _ e) in
    let zeros = and_right (eqb b 48) (same k (48 ∷ []) || same k (45 ∷ 48 ∷ [])) e in
    by_test (same k (48 ∷ []))
    (λ q. let z : k ≡ 48 ∷ [] = same_eq k (48 ∷ []) q in rw (z, zero_byte))
    (λ q. let z : k ≡ 45 ∷ 48 ∷ [] = same_eq k (45 ∷ 48 ∷ []) (rw q at zeros) in rw (z, zero_byte))

from_said : (k l : List ℕ) → word_said (bared_from true k l) ≡ word_said (k ++ l)
unfolding bared_from
from_said k [] = ap word_said (sym (append-nil k))
from_said k (b ∷ l) =
    by_test (idle true k b)
    (λ q. rw q (from_said k l ∙ idle_said k b l q))
    (λ q. rw q (from_said (k ++ (b ∷ [])) l ∙ ap word_said (append_assoc k (b ∷ []) l)))

-- THEOREM: a line without the zeros before its number says what the line says
pub bared_said : (l : List ℕ) → word_said (bared true l) ≡ word_said l
bared_said l = from_said [] l

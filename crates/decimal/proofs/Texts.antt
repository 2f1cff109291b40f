-- Texts that are put one behind the other.
use mathlib.Core.Path.{◌≡◌, refl, sym, ap, subst, ◌∙◌}
use mathlib.Core.Bool.{Bool, true, false, cond}
use mathlib.Core.List.{List, [], ◌∷◌, ◌++◌}
use Prim.Native.Nat.{ℕ, suc, ◌+◌, ◌-◌, ◌*◌, ◌/◌, ◌%◌, ◌^◌, ◌<◌, ◌≤◌}
use native.Mathlib.Nat.{add-zero, mul-suc}
use native.Mathlib.Numerals.{add-one}
use native.Mathlib.Omega.{arith}
use borrow.Author.Tests.{lt-ltb, le-ltb}
use lib.Dec.{ltb}
use lib.ListN.{length, get_or, set, take, drop, length-append, length-set, drop_of_length-le}
use lib.Seq.{drop-cons, sets, sets-eq}
use Rattle.std.specs.Int.{to_le_bytes, w32}
use Rattle.decimal.specs.Raw.{low_first}
use Rattle.decimal.specs.Decimals.{digit, decimal, signed_text}
use Rattle.decimal.specs.Texts.{joined, Text, text, put, Puts}
use Rattle.decimal.proofs.Decimals.{by_test, one_digit, more_digits, few_digits}

put_more : (t : Text) (a b : List ℕ) → put t (a ++ b) ≡ put (put t a) b
unfolding put
put_more t [] b = refl
put_more t (x ∷ a) b = put_more (put t (x ∷ [])) a b

-- bytes behind a text that has been put
pub put_behind : {o : List ℕ} {r : ℕ} {t' : Text} (t : Text) (a b : List ℕ) → text o r ≡ put t a → t' ≡ put (text o r) b → t' ≡ put t (a ++ b)
put_behind t a b e f = rw (put_more t a b, ← e) f

-- ---- one byte, with room and without

pub byte_in : (out : List ℕ) (at b : ℕ) → at < length out → text (set out at b) (at + 1) ≡ put (text out at) (b ∷ [])
unfolding put
byte_in out at b l = rw (lt-ltb at (length out) l)

pub byte_out : (out : List ℕ) (at b : ℕ) → length out ≤ at → text out at ≡ put (text out at) (b ∷ [])
unfolding put
byte_out out at b l = rw (le-ltb at (length out) l)

-- ---- a text byte by byte: what is still to put from here is what was to put from the start

pub text_on : {t : Text} {o : List ℕ} {r : ℕ} (out : List ℕ) (at : ℕ) (more : List ℕ) (i : ℕ) → i < length more → put (text out at) (drop i more) ≡ t
    → text o r ≡ put (text out at) (get_or more i 0 ∷ []) → put (text o r) (drop (i + 1) more) ≡ t
text_on {t} out at more i l e f =
    let y : i + 1 ≡ suc i = add-one i in
    let d : put (text out at) ((get_or more i 0 ∷ []) ++ drop (suc i) more) ≡ t = rw (drop-cons more i 0 l) at e in
    rw (y, f) (sym (put_more (text out at) (get_or more i 0 ∷ []) (drop (suc i) more)) ∙ d)

pub text_done : {t : Text} (out : List ℕ) (at : ℕ) (more : List ℕ) (i : ℕ) → length more ≤ i → put (text out at) (drop i more) ≡ t → text out at ≡ t
unfolding put
text_done out at more i l e = rw (drop_of_length-le more l) at e

-- ---- decimals

pub decimal_one : {t' : Text} (t : Text) (n : ℕ) → n < 10 → t' ≡ put t (digit n ∷ []) → t' ≡ put t (decimal n)
decimal_one t n l f = rw (one_digit n l) f

pub decimal_more : {o : List ℕ} {r : ℕ} {t' : Text} (t : Text) (n : ℕ) → 10 ≤ n → text o r ≡ put t (decimal (n / 10)) → t' ≡ put (text o r) (digit n ∷ []) → t' ≡ put t (decimal n)
decimal_more t n l f g = rw (more_digits n l) (put_behind t (decimal (n / 10)) (digit n ∷ []) f g)

-- ---- with a sign

module _ (m v : ℕ) (t : Text) {t' : Text} where
  pub signed_low : v < m / 2 → t' ≡ put t (decimal v) → t' ≡ put t (signed_text m v)
  unfolding signed_text
  signed_low l e = rw (lt-ltb v (m / 2) l, signed_text) e

  pub signed_high : {r : ℕ} {o : List ℕ} → m / 2 ≤ v → text o r ≡ put t (45 ∷ []) → t' ≡ put (text o r) (decimal (m - v)) → t' ≡ put t (signed_text m v)
  unfolding signed_text
  signed_high l e f = rw (le-ltb v (m / 2) l, signed_text) (put_behind t (45 ∷ []) (decimal (m - v)) e f)

-- ---- where a text ends, and when nothing is left out

put_full : (out : List ℕ) (at : ℕ) (bs : List ℕ) → length out ≤ at → put (text out at) bs ≡ text out at
unfolding put
put_full out at [] l = refl
put_full out at (b ∷ bs) l = rw (le-ltb at (length out) l) (put_full out at bs l)

put_room : (out : List ℕ) (at : ℕ) (bs : List ℕ) → at + length bs ≤ length out → put (text out at) bs ≡ text (sets out at bs) (at + length bs)
unfolding put
put_room out at [] l = rw (add-zero at)
put_room out at (b ∷ bs) l =
    let z : at + 1 + length bs ≡ at + suc (length bs) = omega arith in
    rw (lt-ltb at (length out) (omega arith)) (put_room (set out at b) (at + 1) bs (omega (arith, length-set out at b)) ∙ rw (z, add-one at))

end_below : (out : List ℕ) (at : ℕ) (bs : List ℕ) → (put (text out at) bs).end ≤ at + length bs
unfolding put
end_below out at [] = omega arith
end_below out at (b ∷ bs) =
    either (λ (t : Text). (put t bs).end ≤ at + suc (length bs)) (ltb at (length out))
    (omega (arith, end_below (set out at b) (at + 1) bs))
    (omega (arith, end_below out at bs))
  where
    either : (P : Text → Type 0) (b : Bool) {x y : Text} → P x → P y → P (cond b x y)
    either P true p q = p
    either P false p q = q

-- ---- bytes, at most so many, that were put

pub exactly : {out o bs : List ℕ} {at r : ℕ} → text o r ≡ put (text out at) bs → Puts out at o r bs (length bs)
exactly e = record { stands = e; short = omega arith }

module _ {out o bs : List ℕ} {at r most : ℕ} where
  pub puts : text o r ≡ put (text out at) bs → length bs ≤ most → Puts out at o r bs most
  puts e l = record { stands = e; short = l }

  pub roomy : (m : ℕ) → Puts out at o r bs most → most ≤ m → Puts out at o r bs m
  roomy m p l = record { stands = p.stands; short = omega (arith, p.short) }

  -- the text ends no further than so many bytes behind
  pub within : Puts out at o r bs most → r ≤ at + most
  within p = omega (arith, ap (λ (t : Text). t.end) p.stands, end_below out at bs, p.short)

  -- with room for so many, every byte stands
  pub whole : Puts out at o r bs most → at + most ≤ length out → (r ≡ at + length bs) × (o ≡ take at out ++ bs ++ drop (at + length bs) out)
  whole p l =
      let n : at + length bs ≤ length out = omega (arith, p.short) in
      let e = p.stands ∙ put_room out at bs n in
      (ap (λ (t : Text). t.end) e, ap (λ (t : Text). t.buffer) e ∙ sets-eq bs out at n)

infixr 5 ◌then◌
pub ◌then◌ : {s t r : List ℕ} {u v w : ℕ} {a b : List ℕ} {k m : ℕ} → Puts s u t v a k → Puts t v r w b m → Puts s u r w (a ++ b) (k + m)
◌then◌ {s} {t} {r} {u} {v} {w} {a} {b} p q =
    record { stands = put_behind (text s u) a b p.stands q.stands; short = omega (arith, length-append a b, p.short, q.short) }

pub nothing : {s : List ℕ} {u : ℕ} → Puts s u s u [] 0
unfolding put
nothing = record { stands = refl; short = omega arith }

-- a number of 64 bits has at most 20 digits
pub decimal_puts : {out o : List ℕ} {at r : ℕ} (n : ℕ) → n < 2 ^ 64 → text o r ≡ put (text out at) (decimal n) → Puts out at o r (decimal n) 20
decimal_puts n l e = puts e (few_digits 19 n (omega arith))

-- a word with its sign has at most 10 digits, and a minus
signed_short : (w : ℕ) → w < 2 ^ 32 → length (signed_text (2 ^ 32) w) ≤ 11
unfolding signed_text
signed_short w l =
    by_test (ltb w (2 ^ 32 / 2))
    (λ e. rw (e, signed_text) (omega (arith, few_digits 9 w (omega arith))))
    (λ e. rw (e, signed_text) (omega (arith, few_digits 9 (2 ^ 32 - w) (omega arith))))

pub signed_puts : {out o : List ℕ} {at r : ℕ} (w : ℕ) → w < 2 ^ 32 → text o r ≡ put (text out at) (signed_text (2 ^ 32) w) → Puts out at o r (signed_text (2 ^ 32) w) 11
signed_puts w l e = puts e (signed_short w l)

-- ---- a word's bytes

pub word_bytes : (w : ℕ) → w < 2 ^ 32 → to_le_bytes w32 w ≡ low_first w
unfolding low_first
word_bytes w l = let e : w / 2 ^ 24 % 256 ≡ w / 2 ^ 24 = omega arith in rw e

-- ---- parts that a loop puts: before the first, with one part more, and all

module _ (f : ℕ → List ℕ) (m : ℕ) where
  pub parts_begin : {s : List ℕ} {u : ℕ} → Puts s u s u (joined f 0) (m * 0)
  unfolding joined
  parts_begin = roomy (m * 0) nothing (omega arith)

  pub parts_on : {s t r : List ℕ} {u v w : ℕ} (i : ℕ) → Puts s u t v (joined f i) (m * i) → Puts t v r w (f i) m → Puts s u r w (joined f (i + 1)) (m * (i + 1))
  unfolding joined
  parts_on i p q = rw (add-one i, mul-suc m i) (p then q)

  pub parts_end : {s t : List ℕ} {u v : ℕ} (i n : ℕ) → i ≤ n → n ≤ i → Puts s u t v (joined f i) (m * i) → Puts s u t v (joined f n) (m * n)
  parts_end {s} {t} {u} {v} i n a b p = let e : i ≡ n = omega arith in subst (λ (x : ℕ). Puts s u t v (joined f x) (m * x)) e p

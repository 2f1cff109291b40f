-- What a read makes of the reads before it.
use mathlib.Core.Path.{◌≡◌, refl, sym, ap, subst, ◌∙◌}
use mathlib.Core.Bool.{Bool, true, false, not, ◌&&◌}
use mathlib.Core.List.{List, [], ◌∷◌, ◌++◌}
use Prim.Native.Nat.{ℕ, zero, suc, ◌+◌, ◌-◌, ◌^◌, ◌<◌, ◌≤◌}
use native.Mathlib.Omega.{arith}
use borrow.Author.Tests.{eq-eqb, ne_eqb, lt-ltb, le-ltb, ltb-true, ltb-false, le-leb, lt-leb, eqb-true, eqb-false}
use lib.Dec.{eqb, ltb}
use lib.ListN.{length, take, length-append, length-take}
use lib.Seq.{take-append-le, take_all, length-take-le}
use native.Mathlib.Nat.{min-eq_left}
use Rattle.std.proofs.Common.{Option, Some, None, IfSome, is_none}
use Rattle.std.specs.Option.{unwrap_or}
use Rattle.dlx.specs.Choice.{when◌then◌else◌}
use Rattle.files.specs.Counts.{IsPrefixLen}
use Rattle.dlx.proofs.Kept.{either}
use Rattle.dlx.proofs.Tests.{by_test}
use Rattle.house.proofs.Lists.Bounded.{one_way}
use Rattle.housefile.proofs.Parts.{take_there}
use Rattle.night_run.specs.Pieces.{Bytes, none_taken, over, onward, came, brought, after_read, OneRead, fixed, Behind, Going, Reads}
use Rattle.night_run.specs.declared.input.Taken.{Taken}

-- ---- one read

came_taken : (a : Option ℕ) (b : List ℕ) → take (unwrap_or a 0) b ≡ came a b
came_taken (Some n) b = refl
came_taken None b = refl

pub counts_within : (a : Option ℕ) (b : List ℕ) {n : ℕ} → n ≡ unwrap_or a 0 → IfSome a (λ k. IsPrefixLen k b) → IsPrefixLen n b
counts_within (Some k) b e h = subst (λ (x : ℕ). IsPrefixLen x b) (sym e) h
counts_within None b e h = subst (λ (x : ℕ). IsPrefixLen x b) (sym e) (omega arith, refl)

pub moved_within : (a : Option ℕ) (b : List ℕ) → IfSome a (λ k. IsPrefixLen k b) → IfSome a (λ k. k ≤ length b)
moved_within (Some k) b h = h.0
moved_within None b h = h

module _ (t : Taken) (a : Option ℕ) (b : List ℕ) (n : ℕ) (counts : IsPrefixLen n b) (is : n ≡ unwrap_or a 0) where
  taken : take n b ≡ came a b
  taken = ap (λ (k : ℕ). take k b) is ∙ came_taken a b

  size : n ≡ length (came a b)
  size = counts.1 ∙ ap length taken

  pub read_none : (failed : Bool) (x : Taken) → n ≡ 0 → failed ≡ is_none a → x ≡ over t failed → x ≡ after_read t a b
  unfolding after_read
  read_none failed x z f e = e ∙ ap (over t) f ∙ sym (rw (eq-eqb (length (came a b)) 0 (omega (arith, size))))

  pub none_brought : n ≡ 0 → take 0 b ≡ brought t a b
  unfolding brought
  none_brought z =
      let e : [] ≡ came a b = ap (λ (k : ℕ). take k b) (sym z) ∙ taken in
      either (λ (l : List ℕ). [] ≡ l) (ltb (t.bytes + length (came a b)) (2 ^ 64)) (λ _. e) (λ _. refl)

  module _ (some : n ≡ 0 → ⊥) where
    pub read_long : (x : Taken) → 2 ^ 64 ≤ t.bytes + n → x ≡ over t true → x ≡ after_read t a b
    unfolding after_read
    read_long x l e =
        e ∙ sym (rw (ne_eqb (length (came a b)) 0 (λ z. some (size ∙ z)), le-ltb (t.bytes + length (came a b)) (2 ^ 64) (omega (arith, size))))

    pub long_brought : 2 ^ 64 ≤ t.bytes + n → take 0 b ≡ brought t a b
    unfolding brought
    long_brought l = sym (rw (le-ltb (t.bytes + length (came a b)) (2 ^ 64) (omega (arith, size))))

    pub read_some : t.bytes + n < 2 ^ 64 → onward t n ≡ after_read t a b
    unfolding after_read
    read_some l =
        ap (onward t) size
        ∙ sym (rw (ne_eqb (length (came a b)) 0 (λ z. some (size ∙ z)), lt-ltb (t.bytes + length (came a b)) (2 ^ 64) (omega (arith, size))))

    pub some_brought : t.bytes + n < 2 ^ 64 → take n b ≡ brought t a b
    unfolding brought
    some_brought l = taken ∙ sym (rw (lt-ltb (t.bytes + length (came a b)) (2 ^ 64) (omega (arith, size))))

-- ---- what it adds

append_bytes : (xs bs : List ℕ) → Bytes xs → Bytes bs → Bytes (xs ++ bs)
append_bytes [] bs p q k = q k
append_bytes (x ∷ xs) bs p q zero = p 0
append_bytes (x ∷ xs) bs p q (suc k) = append_bytes xs bs (λ i. p (suc i)) q k

take_bytes : (n : ℕ) (bs : List ℕ) → Bytes bs → Bytes (take n bs)
take_bytes zero bs p k = omega arith
take_bytes (suc n) [] p k = p k
take_bytes (suc n) (x ∷ xs) p zero = p 0
take_bytes (suc n) (x ∷ xs) p (suc k) = take_bytes n xs (λ i. p (suc i)) k

pub bytes_left : (xs bs : List ℕ) → Bytes (xs ++ bs) → Bytes xs
bytes_left [] bs p k = omega arith
bytes_left (x ∷ xs) bs p zero = p 0
bytes_left (x ∷ xs) bs p (suc k) = bytes_left xs bs (λ i. p (suc i)) k

-- how the reads stand by what was brought
pub record Added (t t' : Taken) (bs : List ℕ) : Type 0 where
  pub count : t'.bytes ≡ t.bytes + length bs
  pub fits : t.bytes < 2 ^ 64 → t.bytes + length bs < 2 ^ 64
  pub some : t'.ended ≡ false → length bs ≡ 0 → ⊥

added : (t : Taken) (a : Option ℕ) (b : List ℕ) → Added t (after_read t a b) (brought t a b)
unfolding after_read brought
added t a b =
    let bs = came a b in
    by_test (eqb (length bs) 0)
    (λ z.
    let e = eqb-true (length bs) 0 z in
    rw z
    (either (λ (l : List ℕ). Added t (over t (is_none a)) l) (ltb (t.bytes + length bs) (2 ^ 64))
    (λ _. record { count = omega (arith, e); fits = λ f. omega (arith, e); some = λ n _. one_way true refl n })
    (λ _. record { count = omega arith; fits = λ f. omega arith; some = λ n _. one_way true refl n })))
    λ z. rw z (by_test (ltb (t.bytes + length bs) (2 ^ 64))
    (λ l. rw l (record { count = refl; fits = λ _. ltb-true (t.bytes + length bs) (2 ^ 64) l; some = λ _ y. eqb-false (length bs) 0 z y }))
    (λ l. rw l (record { count = omega arith; fits = λ f. omega arith; some = λ n _. one_way true refl n })))

module _ (t t' : Taken) (n : ℕ) (b : List ℕ) (r : OneRead t t' n b) where
  pub read_added : Added t t' (take n b)
  read_added =
      subst (λ (l : List ℕ). Added t t' l) (sym r.new)
      (subst (λ (x : Taken). Added t x (brought t r.answer b)) (sym r.stands) (added t r.answer b))

  -- a read more, made while nothing was fixed
  pub behind_more : (wrong : List ℕ → Bool) (bs : List ℕ) → length b ≤ 65536 → fixed wrong bs ≡ false → Behind wrong t bs → Behind wrong t' (bs ++ take n b)
  behind_more wrong bs short unfixed h =
      let x = read_added in
      record {
        bytes = append_bytes bs (take n b) h.bytes (take_bytes n b r.bytes);
        count = length-append bs (take n b) ∙ ap (λ (k : ℕ). k + length (take n b)) h.count ∙ sym x.count;
        fits = let f = x.fits (omega (arith, h.count, h.fits)) in omega (arith, length-append bs (take n b), h.count);
        before = bs;
        last = take n b;
        whole = refl;
        piece = omega (arith, length-take n b);
        needed = unfixed;
      }

  -- how many bytes may still come
  pub falls : t.ended ≡ false → (when t'.ended then 0 else 2 ^ 64 - t'.bytes) < (when t.ended then 0 else 2 ^ 64 - t.bytes)
  falls e =
      let x = read_added in
      let f = x.fits r.fits in
      let now : (when t.ended then 0 else 2 ^ 64 - t.bytes) ≡ 2 ^ 64 - t.bytes = rw e in
      by_test t'.ended
      (λ y. let z : (when t'.ended then 0 else 2 ^ 64 - t'.bytes) ≡ 0 = rw y in omega arith)
      (λ y.
      let z : (when t'.ended then 0 else 2 ^ 64 - t'.bytes) ≡ 2 ^ 64 - t'.bytes = rw y in
      let k : (length (take n b) ≡ 0 → ⊥) = x.some y in
      positive (length (take n b)) k (λ p. omega (arith, x.count)))
    where
      positive : {A : Type 0} (k : ℕ) → (k ≡ 0 → ⊥) → (0 < k → A) → A
      positive zero k f = absurd (k refl)
      positive (suc i) k f = f (omega arith)

abbrev pub left : Taken → ℕ
left t = when t.ended then 0 else 2 ^ 64 - t.bytes

-- ---- the first bytes

-- fewer than 22 fix nothing
pub few_fix : (wrong : List ℕ → Bool) (bs : List ℕ) → length bs < 22 → fixed wrong bs ≡ false
few_fix wrong bs l = rw (lt-leb 22 (length bs) l)

pub behind_none : (wrong : List ℕ → Bool) (t : Taken) → t ≡ none_taken → Behind wrong t []
behind_none wrong t e = record {
  bytes = λ k. omega arith;
  count = sym (ap (λ (x : Taken). x.bytes) e);
  fits = omega arith;
  before = [];
  last = [];
  whole = refl;
  piece = omega arith;
  needed = refl;
}

app_take : (a b : List ℕ) (k : ℕ) → take (length a + k) (a ++ b) ≡ a ++ take k b
app_take [] b k = let e : 0 + k ≡ k = omega arith in rw e
app_take (x ∷ a) b k = let e : length (x ∷ a) + k ≡ suc (length a + k) = omega arith in rw e (ap (λ (l : List ℕ). x ∷ l) (app_take a b k))

-- a part that was read, put back behind n bytes
pub part_back : (n m k : ℕ) (head b post : List ℕ) → n ≤ length head → m ≡ n + length (take k b) → take m (take n head ++ (b ++ post)) ≡ take n head ++ take k b
part_back n m k head b post h e =
    let l : length (take n head) ≡ n = length-take n head ∙ min-eq_left h in
    let j = length (take k b) in
    let s : j ≤ length b = omega (arith, length-take k b) in
    let i : take j b ≡ take k b = ap (λ (x : ℕ). take x b) (length-take k b) ∙ take_there k b in
    ap (λ (x : ℕ). take x (take n head ++ (b ++ post))) (e ∙ ap (λ (x : ℕ). x + j) (sym l))
    ∙ app_take (take n head) (b ++ post) j
    ∙ ap (λ (x : List ℕ). take n head ++ x) (take-append-le j b post s ∙ i)

-- while fewer than 22 have come
pub head_begins : (ended : Bool) (n : ℕ) → (not ended && ltb n 22) ≡ true → (ended ≡ false) × (n < 22)
head_begins true n e = one_way false e refl
head_begins false n e = (refl, ltb-true n 22 e)

abbrev pub Heads : Taken → List ℕ → Type 0
Heads t head = ((wrong : List ℕ → Bool) → Behind wrong t (take t.bytes head)) × (t.bytes ≤ 22) × (length head ≡ 22)

pub heads_none : (t : Taken) (head : List ℕ) → t ≡ none_taken → length head ≡ 22 → Heads t head
heads_none t head e l =
    let z : t.bytes ≡ 0 = ap (λ (x : Taken). x.bytes) e in
    (λ wrong. subst (λ (n : ℕ). Behind wrong t (take n head)) (sym z) (behind_none wrong t e), omega arith, l)

pub heads_more : (t t' : Taken) (head head' : List ℕ) (n : ℕ) (b : List ℕ) → OneRead t t' n b → length b ≡ 22 - t.bytes → t.bytes < 22
    → take t'.bytes head' ≡ take t.bytes head ++ take n b → Heads t head → length head' ≡ length head → Heads t' head'
heads_more t t' head head' n b r l u e h k =
    let c = (h.0 (λ _. true)).count in (
      λ wrong. subst (Behind wrong t') (sym e) (behind_more t t' n b r wrong (take t.bytes head) (omega arith) (few_fix wrong (take t.bytes head) (omega arith)) (h.0 wrong)),
      omega (arith, (read_added t t' n b r).count, length-take n b),
      k ∙ h.2,
    )

-- the first bytes have come
pub heads_over : (t : Taken) (head : List ℕ) (wrong : List ℕ → Bool) → (not t.ended && ltb t.bytes 22) ≡ false → Heads t head
    → Going wrong (take t.bytes head) t (take t.bytes head)
heads_over t head wrong e h =
    let c = (h.0 wrong).count in
    record {
      behind = h.0 wrong;
      first = take_all 22 (take t.bytes head) (omega arith);
      headed = λ y. let z : ltb t.bytes 22 ≡ false = rw y at e in omega (arith, ltb-false t.bytes 22 z);
    }

pub counts_at : (n : ℕ) (l : List ℕ) → n ≤ length l → IsPrefixLen n l
counts_at n l h = (h, sym (length-take-le n l h))

pub going_at : (wrong : List ℕ → Bool) (t : Taken) (n : ℕ) (head : List ℕ) → t.bytes ≤ 22 → length head ≡ 22 → (t.bytes ≤ length head → n ≡ t.bytes)
    → Going wrong (take t.bytes head) t (take t.bytes head) → Going wrong (take n head) t (take n head)
going_at wrong t n head l k e g = subst (λ (j : ℕ). Going wrong (take j head) t (take j head)) (sym (e (omega arith))) g

-- ---- the bytes behind them

pub going_more : (wrong : List ℕ → Bool) (head : List ℕ) (t t' : Taken) (bs : List ℕ) (n : ℕ) (b : List ℕ) → OneRead t t' n b → length b ≡ 65536
    → t.ended ≡ false → wrong bs ≡ false → Going wrong head t bs → Going wrong head t' (bs ++ take n b)
going_more wrong head t t' bs n b r l e right g =
    let h = g.headed e in
    record {
      behind = behind_more t t' n b r wrong bs (omega arith) (rw (le-leb 22 (length bs) h, right)) g.behind;
      first = take-append-le 22 bs (take n b) h ∙ g.first;
      headed = λ _. omega (arith, length-append bs (take n b));
    }

-- while the reads go on, the input has not ended and no record is wrong
pub goes_on : (ended wrong : Bool) → (not ended && not wrong) ≡ true → (ended ≡ false) × (wrong ≡ false)
goes_on false false e = (refl, refl)
goes_on false true e = (refl, cc)
goes_on true b e = (cc, cc)

pub reads_over : (wrong : List ℕ → Bool) (head : List ℕ) (t : Taken) (bs : List ℕ) (now : Bool) → now ≡ wrong bs → (not t.ended && not now) ≡ false
    → Going wrong head t bs → Reads wrong head t bs
reads_over wrong head t bs now is e g =
    record {
      all = record {
        behind = g.behind;
        over = by_test t.ended (λ y. rw y) (λ y. rw (y, le-leb 22 (length bs) (g.headed y)) (sym is ∙ stops t.ended now y e));
      };
      first = g.first;
    }
  where
    stops : (a b : Bool) → a ≡ false → (not a && not b) ≡ false → b ≡ true
    stops true b y e = cc
    stops false true y e = refl
    stops false false y e = cc

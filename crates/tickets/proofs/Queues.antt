-- Queues: what a request does to the places is what the rules say of lists.
use mathlib.Core.Path.{◌≡◌, refl, sym, ap, subst, ◌∙◌}
use mathlib.Core.List.{List, [], ◌∷◌, ◌++◌, append-nil}
use Prim.Native.Nat.{ℕ, zero, suc, ◌+◌, ◌-◌, ◌*◌, ◌^◌, ◌<◌, ◌≤◌}
use native.Mathlib.Numerals.{add-one}
use native.Mathlib.Omega.{arith}
use borrow.Author.Tests.{eqb-false, leb-false, ltb-true, ltb-false, eq-eqb, ne_eqb}
use lib.Dec.{eqb, ltb, leb}
use lib.ListN.{length, get_or, set, take, drop, length-set, length-drop, length-append, get_or-append}
use lib.Seq.{length-take-le, take-append-le, get_or-set_same, get_or-set_other, take-set-le, drop-set-lt, take-set-lt, drop-set-add, take-suc-set, get_or-drop, get_or-append-add, drop-append_seam}
use Rattle.dlx.specs.Machine.{Reply, Request, nothing, sends, takes}
use Rattle.dlx.proofs.Kept.{either, get_or_set_elim, KeptReply, KeptRequest}
use Rattle.dlx.proofs.Tests.{by_test, by_eq}
use Rattle.dlx.specs.Parts.{inner}
use Rattle.tickets.specs.Queues.{Queued, ProperQueue, Queues, places_of, waiting_of, sent_on, taken_off, sending, taking, desk, queue_of, oldest, ruled, sent_to, taken_by, lined, Moved, stays, takes_one, sends_one}
use Rattle.dlx.proofs.Parts.{part_at, part_each, inner_length, outer_length, inner_outer, outer_each, parts_apart}

-- ---- one word set, in a part of 32 places and outside it

part_set : (l : List ℕ) (a n v : ℕ) → n < 32 → inner a 32 (set l (a + n) v) ≡ set (inner a 32 l) n v
unfolding inner
part_set l a n v h = ap (take 32) (drop-set-add a l n v) ∙ take-set-lt 32 (drop a l) n v h

part_unset : (l : List ℕ) (j k n v : ℕ) → n < 32 → (k ≡ j → ⊥) → inner (k * 32) 32 (set l (j * 32 + n) v) ≡ inner (k * 32) 32 l
unfolding inner
part_unset l j k n v h d =
    by_test (ltb j k)
    (λ t. let m = ltb-true j k t in ap (take 32) (drop-set-lt (k * 32) l (j * 32 + n) v (omega arith)))
    (λ t.
    let m = ltb-false j k t in
    let e : j * 32 + n ≡ k * 32 + (j * 32 + n - k * 32) = omega (arith, d) in
    ap (λ (x : ℕ). take 32 (drop (k * 32) (set l x v))) e
    ∙ ap (take 32) (drop-set-add (k * 32) l (j * 32 + n - k * 32) v)
    ∙ take-set-le 32 (drop (k * 32) l) (j * 32 + n - k * 32) v (omega (arith, d)))

-- the first of some, and the others a place on
shift : (l : List ℕ) (m : ℕ) → m < length l → take (suc m) l ≡ get_or l 0 0 ∷ take m (drop 1 l ++ (0 ∷ []))
shift [] m h = absurd (omega arith)
shift (x ∷ l) m h = ap (λ (r : List ℕ). x ∷ r) (sym (take-append-le m l (0 ∷ []) (omega arith)))

shifted_count : (l : List ℕ) → length l ≡ 32 → length (drop 1 l ++ (0 ∷ [])) ≡ 32
shifted_count l e = length-append (drop 1 l) (0 ∷ []) ∙ omega (arith, length-drop 1 l)

-- what holds of every place holds one on
moved_words : (l : List ℕ) → ((k : ℕ) → get_or l k 0 < 2 ^ 32) → (k : ℕ) → get_or (drop 1 l ++ (0 ∷ [])) k 0 < 2 ^ 32
moved_words l h k =
    by_test (ltb k (length (drop 1 l)))
    (λ t. rw (get_or-append (drop 1 l) (0 ∷ []) 0 k (ltb-true k (length (drop 1 l)) t), get_or-drop 1 l k 0) (h (1 + k)))
    (λ t.
    let m = ltb-false k (length (drop 1 l)) t in
    let z : k ≡ length (drop 1 l) + (k - length (drop 1 l)) = omega arith in
    subst (λ (x : ℕ). get_or (drop 1 l ++ (0 ∷ [])) x 0 < 2 ^ 32) (sym z)
    (rw (get_or-append-add (drop 1 l) (0 ∷ []) (k - length (drop 1 l)) 0) (one_zero (k - length (drop 1 l)))))
  where
    one_zero : (x : ℕ) → get_or (0 ∷ []) x 0 < 2 ^ 32
    one_zero zero = omega arith
    one_zero (suc x) = omega arith

module _ (t : Queues) (q : Queued t) where
  pub places_count : (j : ℕ) → j < 8 → length (places_of t j) ≡ 32
  places_count j l = inner_length t.tickets (j * 32) 32 (omega (arith, q.tickets))

  pub queue_count : (j : ℕ) → j < 8 → length (queue_of t j) ≡ waiting_of t j
  unfolding queue_of
  queue_count j l = length-take-le (waiting_of t j) (places_of t j) (omega (arith, q.most j, places_count j l))

  -- ---- a ticket sent

  module _ (j v : ℕ) (small : j < 8) (room : waiting_of t j < 32) where
    sent_waits : waiting_of (sent_on t j v) j ≡ waiting_of t j + 1
    sent_waits = get_or-set_same t.waiting j (waiting_of t j + 1) 0 (omega (arith, q.waiting))

    pub sent_own : queue_of (sent_on t j v) j ≡ queue_of t j ++ (v ∷ [])
    unfolding queue_of
    sent_own =
        ap (λ (n : ℕ). take n (places_of (sent_on t j v) j)) (sent_waits ∙ add-one (waiting_of t j))
        ∙ ap (take (suc (waiting_of t j))) (part_set t.tickets (j * 32) (waiting_of t j) v room)
        ∙ take-suc-set (places_of t j) (waiting_of t j) v (omega (arith, places_count j small))

    sent_places : (k : ℕ) → (k ≡ j → ⊥) → places_of (sent_on t j v) k ≡ places_of t k
    sent_places k d = part_unset t.tickets j k (waiting_of t j) v room d

    sent_waits_other : (k : ℕ) → (k ≡ j → ⊥) → waiting_of (sent_on t j v) k ≡ waiting_of t k
    sent_waits_other k d = get_or-set_other t.waiting j k (waiting_of t j + 1) 0 d

    pub sent_other : (k : ℕ) → (k ≡ j → ⊥) → queue_of (sent_on t j v) k ≡ queue_of t k
    unfolding queue_of
    sent_other k d = rw (sent_waits_other k d, sent_places k d)

    pub sent_queued : Queued (sent_on t j v)
    sent_queued = record {
      tickets = length-set t.tickets (j * 32 + waiting_of t j) v ∙ q.tickets;
      waiting = length-set t.waiting j (waiting_of t j + 1) ∙ q.waiting;
      most = λ k. get_or_set_elim (λ (x : ℕ). x ≤ 32) t.waiting j k (waiting_of t j + 1) 0 (λ _. omega arith) (q.most k);
    }

    pub sent_proper : (n : ℕ) → j < n → ((k : ℕ) → k < 8 → ProperQueue n t k) → (k : ℕ) → k < 8 → ProperQueue n (sent_on t j v) k
    sent_proper n l p k m =
        by_eq k j
        (λ e. subst (ProperQueue n (sent_on t j v)) (sym e) (record {
          most = omega (arith, sent_waits);
          none = λ h. absurd (omega arith);
          spare = λ x h y.
              ap (λ (z : List ℕ). get_or z x 0) (part_set t.tickets (j * 32) (waiting_of t j) v room)
              ∙ get_or-set_other (places_of t j) (waiting_of t j) x v 0 (λ z. omega (arith, sent_waits))
              ∙ (p j small).spare x (omega (arith, sent_waits)) y;
        }))
        (λ d. let z = p k m in record {
          most = omega (arith, sent_waits_other k d, z.most);
          none = λ h. sent_waits_other k d ∙ z.none h;
          spare = λ x h y. ap (λ (r : List ℕ). get_or r x 0) (sent_places k d) ∙ z.spare x (omega (arith, sent_waits_other k d)) y;
        })

  -- ---- a ticket taken

  module _ (i : ℕ) (small : i < 8) (some : waiting_of t i ≡ 0 → ⊥) where
    abbrev moved : List ℕ
    moved = drop 1 (places_of t i) ++ (0 ∷ [])

    moved_count : length moved ≡ 32
    moved_count = shifted_count (places_of t i) (places_count i small)

    fits : i * 32 + 32 ≤ length t.tickets
    fits = omega (arith, q.tickets)

    taken_waits : waiting_of (taken_off t i) i ≡ waiting_of t i - 1
    taken_waits = get_or-set_same t.waiting i (waiting_of t i - 1) 0 (omega (arith, q.waiting))

    taken_waits_other : (k : ℕ) → (k ≡ i → ⊥) → waiting_of (taken_off t i) k ≡ waiting_of t k
    taken_waits_other k d = get_or-set_other t.waiting i k (waiting_of t i - 1) 0 d

    taken_places : places_of (taken_off t i) i ≡ moved
    taken_places = inner_outer t.tickets (i * 32) 32 fits moved moved_count

    first_place : get_or (places_of t i) 0 0 ≡ get_or t.tickets (i * 32) 0
    first_place = part_at t.tickets (i * 32) 32 0 (omega arith) ∙ ap (λ (x : ℕ). get_or t.tickets x 0) (omega arith)

    pub taken_own : queue_of t i ≡ get_or t.tickets (i * 32) 0 ∷ queue_of (taken_off t i) i
    unfolding queue_of
    taken_own =
        let e : waiting_of t i ≡ suc (waiting_of t i - 1) = omega (arith, some) in
        ap (λ (n : ℕ). take n (places_of t i)) e
        ∙ shift (places_of t i) (waiting_of t i - 1) (omega (arith, some, q.most i, places_count i small))
        ∙ rw (first_place, taken_waits, taken_places)

    taken_places_other : (k : ℕ) → k < 8 → (k ≡ i → ⊥) → places_of (taken_off t i) k ≡ places_of t k
    taken_places_other k l d = parts_apart 32 t.tickets moved i k fits (omega (arith, q.tickets)) moved_count d

    pub taken_other : (k : ℕ) → k < 8 → (k ≡ i → ⊥) → queue_of (taken_off t i) k ≡ queue_of t k
    unfolding queue_of
    taken_other k l d = rw (taken_waits_other k d, taken_places_other k l d)

    pub taken_queued : Queued (taken_off t i)
    taken_queued = record {
      tickets = outer_length t.tickets (i * 32) 32 fits moved moved_count ∙ q.tickets;
      waiting = length-set t.waiting i (waiting_of t i - 1) ∙ q.waiting;
      most = λ k. get_or_set_elim (λ (x : ℕ). x ≤ 32) t.waiting i k (waiting_of t i - 1) 0 (λ _. omega (arith, q.most i)) (q.most k);
    }

    -- the places behind, one on
    moved_spare : (x : ℕ) → ((k : ℕ) → waiting_of t i ≤ k → k < 32 → get_or (places_of t i) k 0 ≡ 0) → waiting_of t i - 1 ≤ x → x < 32 → get_or moved x 0 ≡ 0
    moved_spare x p h y =
        let c : length (drop 1 (places_of t i)) ≡ 31 = length-drop 1 (places_of t i) ∙ omega (arith, places_count i small) in
        by_eq x 31
        (λ e.
        let z : x ≡ length (drop 1 (places_of t i)) + 0 = omega arith in
        ap (λ (k : ℕ). get_or moved k 0) z ∙ get_or-append-add (drop 1 (places_of t i)) (0 ∷ []) 0 0)
        (λ d.
        get_or-append (drop 1 (places_of t i)) (0 ∷ []) 0 x (omega (arith, d))
        ∙ get_or-drop 1 (places_of t i) x 0
        ∙ p (1 + x) (omega arith) (omega (arith, d)))

    pub taken_proper : (n : ℕ) → ((k : ℕ) → k < 8 → ProperQueue n t k) → (k : ℕ) → k < 8 → ProperQueue n (taken_off t i) k
    taken_proper n p k m =
        by_eq k i
        (λ e. let z = p i small in subst (ProperQueue n (taken_off t i)) (sym e) (record {
          most = omega (arith, taken_waits, q.most i);
          none = λ h. omega (arith, taken_waits, z.none h);
          spare = λ x h y. ap (λ (r : List ℕ). get_or r x 0) taken_places ∙ moved_spare x z.spare (omega (arith, taken_waits)) y;
        }))
        (λ d. let z = p k m in record {
          most = omega (arith, taken_waits_other k d, z.most);
          none = λ h. taken_waits_other k d ∙ z.none h;
          spare = λ x h y. ap (λ (r : List ℕ). get_or r x 0) (taken_places_other k m d) ∙ z.spare x (omega (arith, taken_waits_other k d)) y;
        })

-- ---- a request

module _ (n i : ℕ) (t : Queues) (q : Queued t) (few : n ≤ 8) (small : i < 8) where
  none_waiting : waiting_of t i ≡ 0 → queue_of t i ≡ []
  unfolding queue_of
  none_waiting e = rw e

  -- the answer is what the rules say
  pub desk_ruled : (r : Request) → (desk n i t r).0 ≡ ruled n i (queue_of t) r
  unfolding desk sending taking ruled oldest
  desk_ruled nothing = refl
  desk_ruled (sends v to) =
      by_test (leb n to)
      (λ e. rw e)
      (λ e.
      let l = leb-false n to e in
      rw (e, queue_count t q to (omega arith))
      (by_test (leb 32 (waiting_of t to)) (λ f. rw f) (λ f. rw f)))
  desk_ruled takes =
      by_eq (waiting_of t i) 0
      (λ e. rw (eq-eqb (waiting_of t i) 0 e, none_waiting e))
      (λ d. rw (ne_eqb (waiting_of t i) 0 d, taken_own t q i small d))

  pub desk_queued : (r : Request) → Queued (desk n i t r).1
  unfolding desk sending taking
  desk_queued nothing = q
  desk_queued (sends v to) =
      either (λ (g : Reply × Queues). Queued g.1) (leb n to) (λ _. q) λ e.
      either (λ (g : Reply × Queues). Queued g.1) (leb 32 (waiting_of t to)) (λ _. q) λ f.
      let l = leb-false n to e in
      let m = leb-false 32 (waiting_of t to) f in
      sent_queued t q to v (omega arith) (omega arith)
  desk_queued takes =
      either (λ (g : Reply × Queues). Queued g.1) (eqb (waiting_of t i) 0) (λ _. q) λ e.
      taken_queued t q i small (eqb-false (waiting_of t i) 0 e)

  -- what waited and what is sent is what is taken and what waits then, in this order
  pub desk_kept : (r : Request) (j : ℕ) → j < 8 → queue_of t j ++ sent_to r (desk n i t r).0 j ≡ taken_by i r (desk n i t r).0 j ++ queue_of (desk n i t r).1 j
  unfolding desk sending taking sent_to taken_by
  desk_kept nothing j l = append-nil (queue_of t j)
  desk_kept (sends v to) j l =
      by_test (leb n to)
      (λ e. rw e (append-nil (queue_of t j)))
      (λ e. by_test (leb 32 (waiting_of t to))
      (λ f. rw (e, f) (append-nil (queue_of t j)))
      (λ f.
      let a = leb-false n to e in
      let b = leb-false 32 (waiting_of t to) f in
      by_eq to j
      (λ x. rw (e, f, eq-eqb to j x) (subst (λ (k : ℕ). queue_of t k ++ (v ∷ []) ≡ queue_of (sent_on t to v) k) x (sym (sent_own t q to v (omega arith) (omega arith)))))
      (λ d. rw (e, f, ne_eqb to j d) (append-nil (queue_of t j) ∙ sym (sent_other t q to v (omega arith) (omega arith) j (λ x. d (sym x)))))))
  desk_kept takes j l =
      by_eq (waiting_of t i) 0
      (λ e. rw (eq-eqb (waiting_of t i) 0 e) (append-nil (queue_of t j)))
      (λ d. by_eq i j
      (λ x. rw (ne_eqb (waiting_of t i) 0 d, eq-eqb i j x) (append-nil (queue_of t j) ∙ subst (λ (k : ℕ). queue_of t k ≡ get_or t.tickets (i * 32) 0 ∷ queue_of (taken_off t i) k) x (taken_own t q i small d)))
      (λ y. rw (ne_eqb (waiting_of t i) 0 d, ne_eqb i j y) (append-nil (queue_of t j) ∙ sym (taken_other t q i small d j l (λ x. y (sym x))))))

  -- so a done send stands behind the others, a ticket taken is gone, and nothing else changes
  pub desk_lined : (r : Request) (j : ℕ) → j < 8 → queue_of (desk n i t r).1 j ≡ lined i r (desk n i t r).0 (queue_of t j) j
  unfolding lined
  desk_lined r j l =
      let T = taken_by i r (desk n i t r).0 j in
      sym (ap (drop (length T)) (desk_kept r j l) ∙ drop-append_seam T (queue_of (desk n i t r).1 j))

  -- by one ticket at most, of the asker's own queue or of the receiver's
  pub desk_moved : (r : Request) → Moved n i (queue_of t) (queue_of (desk n i t r).1)
  unfolding desk sending taking
  desk_moved nothing = stays (λ j l. refl)
  desk_moved (sends v to) =
      either (λ (g : Reply × Queues). Moved n i (queue_of t) (queue_of g.1)) (leb n to) (λ _. stays (λ j l. refl)) λ e.
      either (λ (g : Reply × Queues). Moved n i (queue_of t) (queue_of g.1)) (leb 32 (waiting_of t to)) (λ _. stays (λ j l. refl)) λ f.
      let l = leb-false n to e in
      let m = leb-false 32 (waiting_of t to) f in
      sends_one v to l (sent_own t q to v (omega arith) m) (λ j s d. sent_other t q to v (omega arith) m j d)
  desk_moved takes =
      either (λ (g : Reply × Queues). Moved n i (queue_of t) (queue_of g.1)) (eqb (waiting_of t i) 0) (λ _. stays (λ j l. refl)) λ e.
      let d = eqb-false (waiting_of t i) 0 e in
      takes_one (get_or t.tickets (i * 32) 0) (taken_own t q i small d) (λ j l y. taken_other t q i small d j l y)

  pub desk_proper : i < n → ((k : ℕ) → k < 8 → ProperQueue n t k) → (r : Request) (k : ℕ) → k < 8 → ProperQueue n (desk n i t r).1 k
  unfolding desk sending taking
  desk_proper here p nothing = p
  desk_proper here p (sends v to) =
      either (λ (g : Reply × Queues). (k : ℕ) → k < 8 → ProperQueue n g.1 k) (leb n to) (λ _. p) λ e.
      either (λ (g : Reply × Queues). (k : ℕ) → k < 8 → ProperQueue n g.1 k) (leb 32 (waiting_of t to)) (λ _. p) λ f.
      let l = leb-false n to e in
      let m = leb-false 32 (waiting_of t to) f in
      sent_proper t q to v (omega arith) (omega arith) n (omega arith) p
  desk_proper here p takes =
      either (λ (g : Reply × Queues). (k : ℕ) → k < 8 → ProperQueue n g.1 k) (eqb (waiting_of t i) 0) (λ _. p) λ e.
      taken_proper t q i small (eqb-false (waiting_of t i) 0 e) n p

-- ---- words

module _ (n i : ℕ) (t : Queues) (words : (k : ℕ) → get_or t.tickets k 0 < 2 ^ 32) where
  pub desk_reply : (r : Request) → KeptReply (desk n i t r).0
  unfolding desk sending taking
  desk_reply nothing = record { code = omega arith; ticket = omega arith }
  desk_reply (sends v to) =
      either (λ (g : Reply × Queues). KeptReply g.0) (leb n to) (λ _. record { code = omega arith; ticket = omega arith }) λ e.
      either (λ (g : Reply × Queues). KeptReply g.0) (leb 32 (waiting_of t to)) (λ _. record { code = omega arith; ticket = omega arith }) λ f.
      record { code = omega arith; ticket = omega arith }
  desk_reply takes =
      either (λ (g : Reply × Queues). KeptReply g.0) (eqb (waiting_of t i) 0) (λ _. record { code = omega arith; ticket = omega arith }) λ e.
      record { code = omega arith; ticket = words (i * 32) }

  pub desk_words : Queued t → i < 8 → (r : Request) → KeptRequest r → (k : ℕ) → get_or (desk n i t r).1.tickets k 0 < 2 ^ 32
  unfolding desk sending taking
  desk_words q small nothing h = words
  desk_words q small (sends v to) h =
      either (λ (g : Reply × Queues). (k : ℕ) → get_or g.1.tickets k 0 < 2 ^ 32) (leb n to) (λ _. words) λ e.
      either (λ (g : Reply × Queues). (k : ℕ) → get_or g.1.tickets k 0 < 2 ^ 32) (leb 32 (waiting_of t to)) (λ _. words) λ f k.
      get_or_set_elim (λ (x : ℕ). x < 2 ^ 32) t.tickets (to * 32 + waiting_of t to) k v 0 (λ _. h.0) (words k)
  desk_words q small takes h =
      either (λ (g : Reply × Queues). (k : ℕ) → get_or g.1.tickets k 0 < 2 ^ 32) (eqb (waiting_of t i) 0) (λ _. words) λ e.
      outer_each t.tickets (i * 32) 32 (omega (arith, q.tickets)) _ (shifted_count (places_of t i) (places_count t q i small)) (λ (x : ℕ). x < 2 ^ 32) words
      (moved_words (places_of t i) (part_each (λ (x : ℕ). x < 2 ^ 32) t.tickets (i * 32) 32 (omega arith) words))

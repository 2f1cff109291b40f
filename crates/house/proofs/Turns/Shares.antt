-- Shares: how many steps a running partition is ahead of another is told by whose turn it is and how many are left, and a host step that does not end its
-- turn early keeps to it.
use mathlib.Core.Path.{◌≡◌, sym, subst, ◌∙◌}
use mathlib.Core.Bool.{Bool, true, false, ◌&&◌, ◌||◌}
use mathlib.Core.List.{List}
use Prim.Native.Nat.{ℕ, ◌+◌, ◌-◌, ◌<◌, ◌≤◌}
use native.Mathlib.Omega.{arith}
use borrow.Author.Tests.{eqb-false, ltb-true, ltb-false, eq-eqb, ne_eqb, lt-ltb, le-ltb}
use lib.Dec.{eqb, ltb}
use lib.ListN.{get_or}
use Rattle.dlx.specs.Choice.{when◌then◌else◌}
use Rattle.dlx.proofs.Kept.{either}
use Rattle.dlx.proofs.Tests.{by_eq}
use Rattle.house.specs.House.{runs, turn}
use Rattle.house.specs.Turns.{World, next_of, turn_of, guest_step, settled_house, step_with, host_step}
use Rattle.house.specs.declared.House.{House}
use Rattle.house.specs.declared.Turn.{Turn}
use Rattle.house.proofs.Lists.Bounded.{or_left, or_none, one_way, by_order}
use Rattle.house.proofs.Turns.Kept.{next_below, distance, distance_some, distance_other, next_nearer, InTurn}

-- ---- who comes first

-- d is nearer to x than c: it lies on the way
on_way : (n c d x : ℕ) → c < n → d < n → x < n → distance n d x < distance n c x → distance n c x ≡ distance n c d + distance n d x
unfolding distance
on_way n c d x l m o =
    either (λ a. distance n d x < a → a ≡ distance n c d + distance n d x) (ltb c x)
    (λ t.
    either (λ b. b < x - c → x - c ≡ distance n c d + b) (ltb d x)
    (λ u k. either (λ a. x - c ≡ a + (x - d)) (ltb c d) (λ v. omega (arith, ltb-true c d v, ltb-true d x u)) (λ v. omega (arith, ltb-false c d v, ltb-true d x u)))
    (λ u k. omega (arith, ltb-true c x t)))
    (λ t.
    either (λ b. b < n - c + x → n - c + x ≡ distance n c d + b) (ltb d x)
    (λ u k. either (λ a. n - c + x ≡ a + (x - d)) (ltb c d) (λ v. omega (arith, ltb-true c d v, ltb-false c x t, ltb-true d x u)) (λ v. omega (arith, ltb-true d x u)))
    (λ u k. either (λ a. n - c + x ≡ a + (n - d + x)) (ltb c d) (λ v. omega (arith, ltb-true c d v)) (λ v. omega (arith, ltb-false c d v))))

-- oneself is the last
distance_self : (n c : ℕ) → c < n → distance n c c ≡ n
unfolding distance
distance_self n c l = either (λ d. d ≡ n) (ltb c c) (λ t. omega (arith, ltb-true c c t)) (λ _. omega arith)

-- by how many steps j is ahead of i when the turn of c is over: by a turn, where i comes first of the two
owed : ℕ → ℕ → ℕ → ℕ → ℕ → ℕ
owed n q i j c = when ltb (distance n c i) (distance n c j) then q else 0

-- and while c has l left
pub lead : ℕ → ℕ → ℕ → ℕ → ℕ → ℕ → ℕ
lead n q i j c l = when eqb c j then q - l else (when eqb c i then l else owed n q i j c)

module _ (n q i j c : ℕ) where
  owed_turn : distance n c i < distance n c j → owed n q i j c ≡ q
  unfolding owed
  owed_turn k = simp (lt-ltb (distance n c i) (distance n c j) k)

  owed_none : distance n c j ≤ distance n c i → owed n q i j c ≡ 0
  unfolding owed
  owed_none k = simp (le-ltb (distance n c i) (distance n c j) k)

  -- at j, at i, and at another
  lead_theirs : c ≡ j → (l : ℕ) → lead n q i j c l ≡ q - l
  unfolding lead
  lead_theirs e l = simp (eq-eqb c j e)

  module _ (y : c ≡ j → ⊥) where
    lead_ours : c ≡ i → (l : ℕ) → lead n q i j c l ≡ l
    unfolding lead
    lead_ours e l = simp (ne_eqb c j y, eq-eqb c i e)

    lead_others : (c ≡ i → ⊥) → (l : ℕ) → lead n q i j c l ≡ owed n q i j c
    unfolding lead
    lead_others z l = simp (ne_eqb c j y, ne_eqb c i z)

  pub lead_most : (l : ℕ) → l ≤ q → lead n q i j c l ≤ q
  unfolding lead owed
  lead_most l k =
      either (λ x. x ≤ q) (eqb c j) (λ _. omega arith)
      (λ _. either (λ x. x ≤ q) (eqb c i) (λ _. omega arith)
      (λ _. either (λ x. x ≤ q) (ltb (distance n c i) (distance n c j)) (λ _. omega arith) (λ _. omega arith)))

-- a turn that ends, and not early, has had its last step
in_time : (l : ℕ) (calls : Bool) → 0 < l → (ltb 1 l && calls) ≡ false → (eqb l 1 || calls) ≡ true → l ≡ 1
in_time l calls s early ends =
    by_eq l 1 (λ e. e)
    (λ z.
    let k : calls ≡ false = rw (lt-ltb 1 l (omega arith)) at early in
    one_way (eqb l 1 || calls) ends (or_none (ne_eqb l 1 z) k))

module _ (n q i j : ℕ) (m : i < n) (o : j < n) (d : i ≡ j → ⊥) where
  -- a step of c's turn that leaves some
  lead_on : (c l : ℕ) → 1 < l → l ≤ q → (when eqb c j then 1 else 0) + lead n q i j c l ≡ (when eqb c i then 1 else 0) + lead n q i j c (l - 1)
  unfolding lead
  lead_on c l s k =
      by_eq c j
      (λ e. let z : c ≡ i → ⊥ = λ y. d (sym y ∙ e) in simp (eq-eqb c j e, ne_eqb c i z) (omega arith))
      (λ y. by_eq c i
      (λ e. simp (ne_eqb c j y, eq-eqb c i e) (omega arith))
      (λ z. simp (ne_eqb c j y, ne_eqb c i z)))

  -- the last one
  lead_last : (c : ℕ) → c < n → 0 < q → (when eqb c j then 1 else 0) + lead n q i j c 1 ≡ (when eqb c i then 1 else 0) + owed n q i j c
  lead_last c b s =
      by_eq c j
      (λ e.
      let z : c ≡ i → ⊥ = λ y. d (sym y ∙ e) in
      let k : distance n c i < distance n c j = subst (λ (x : ℕ). distance n c i < distance n c x) e (omega (arith, distance_self n c b, distance_other n c i b m z)) in
      simp (eq-eqb c j e, ne_eqb c i z, lead_theirs n q i j c e 1, owed_turn n q i j c k) (omega arith))
      (λ y. by_eq c i
      (λ e.
      let k : distance n c j ≤ distance n c i = subst (λ (x : ℕ). distance n c j ≤ distance n c x) e (omega (arith, distance_self n c b, distance_other n c j b o y)) in
      simp (ne_eqb c j y, eq-eqb c i e, lead_ours n q i j c y e 1, owed_none n q i j c k))
      (λ z. simp (ne_eqb c j y, ne_eqb c i z, lead_others n q i j c y z 1)))

  -- the next running one, with a whole turn
  module _ (r : List Bool) (e : get_or r i false ≡ true) (f : get_or r j false ≡ true) (c : ℕ) (b : c < n) where
    abbrev next : ℕ
    next = next_of r n c

    next_there : next < n
    next_there = next_below r n c n b

    -- it lies on the way to every other one that runs
    by_next : (x : ℕ) → x < n → get_or r x false ≡ true → (next ≡ x → ⊥) → distance n c x ≡ distance n c next + distance n next x
    by_next x l g z = on_way n c next x b next_there l (next_nearer r n x l g c b z)

    passed_lead : lead n q i j next q ≡ owed n q i j c
    passed_lead =
        by_eq next j
        (λ y.
        let z : next ≡ i → ⊥ = λ x. d (sym x ∙ y) in
        let k : distance n c j ≤ distance n c i = subst (λ (x : ℕ). distance n c x ≤ distance n c i) y (omega (arith, by_next i m e z)) in
        omega (arith, lead_theirs n q i j next y q, owed_none n q i j c k))
        (λ y. by_eq next i
        (λ z.
        let k : distance n c i < distance n c j = subst (λ (x : ℕ). distance n c x < distance n c j) z (omega (arith, by_next j o f y, distance_some n next j next_there)) in
        omega (arith, lead_ours n q i j next y z q, owed_turn n q i j c k))
        (λ z. lead_others n q i j next y z q ∙ same_order z y))
      where
        same_order : (next ≡ i → ⊥) → (next ≡ j → ⊥) → owed n q i j next ≡ owed n q i j c
        same_order z y =
            let p = by_next i m e z in
            let s = by_next j o f y in
            by_order (distance n next i) (distance n next j)
            (λ k. owed_turn n q i j next k ∙ sym (owed_turn n q i j c (omega arith)))
            (λ k. owed_none n q i j next (omega arith) ∙ sym (owed_none n q i j c (omega arith)))
            (λ k. owed_none n q i j next (omega arith) ∙ sym (owed_none n q i j c (omega arith)))

    -- ---- a step of c, which had l left

    turn_shares : (l : ℕ) (calls : Bool) → InTurn r n q (turn c l) → (ltb 1 l && calls) ≡ false → let t = turn_of r n q c l 1 calls in
        (when eqb c j then 1 else 0) + lead n q i j c l ≡ (when eqb c i then 1 else 0) + lead n q i j t.current t.left
    unfolding turn_of
    turn_shares l calls s early =
        either (λ (t : Turn). (when eqb c j then 1 else 0) + lead n q i j c l ≡ (when eqb c i then 1 else 0) + lead n q i j t.current t.left) (eqb l 1 || calls)
        (λ t.
        let z = in_time l calls s.some early t in
        let g : (when eqb c j then 1 else 0) + lead n q i j c l ≡ (when eqb c i then 1 else 0) + owed n q i j c = rw z (lead_last c b (omega (arith, s.some, s.most))) in
        omega (arith, g, passed_lead))
        (λ t. let k = eqb-false l 1 (or_left (eqb l 1) calls t) in lead_on c l (omega (arith, s.some)) s.most)

-- by how many steps j is ahead of i, as the turn stands
abbrev pub lead_in : House → ℕ → ℕ → ℕ
lead_in h i j = lead h.count h.q i j h.current h.left

-- a host step that does not end its turn early: j's own brings j ahead, and i's own brings it back
pub step_shares : (w : World) (i j : ℕ) → i < w.house.count → j < w.house.count → (i ≡ j → ⊥) → runs w.house i ≡ true → runs w.house j ≡ true
    → InTurn w.house.running w.house.count w.house.q (turn w.house.current w.house.left)
    → (ltb 1 w.house.left && (guest_step w w.house.current).0.calls) ≡ false
    → (when eqb w.house.current j then 1 else 0) + lead_in w.house i j ≡ (when eqb w.house.current i then 1 else 0) + lead_in (host_step w).house i j
unfolding host_step step_with settled_house
step_shares w i j m o d e f s early =
    let h = w.house in
    omega (arith, turn_shares h.count h.q i j m o d h.running e f h.current s.here h.left (guest_step w h.current).0.calls s early)

-- One turn of the run's loop, in the terms in which the lent parts come back.
use Rattle.std.proofs.Common.{◌≡◌, ℕ, ◌+◌, ◌-◌, ◌*◌, ◌%◌, ◌^◌, ◌<◌, ◌≤◌, Bool, true, false, eqb, leb, List, ◌++◌, length, get_or, take, drop, set, sym, refl, ◌∙◌, subst, true≢false, mul-le-mul_right, suc-mul, mul-le-mul, arith, eqb-true, leb-false, leb-true}
use mathlib.Core.Bool.{false≢true}
use native.Mathlib.Nat.{add-sub_cancel_left}
use Rattle.dlx.specs.Choice.{when◌then◌else◌}
use Rattle.dlx.specs.Processor.{with_processor, with_table, with_timer, with_counter, with_fault}
use Rattle.dlx.specs.Machine.{core, stretch_from}
use Rattle.dlx.proofs.Kept.{either}
use Rattle.dlx.specs.declared.partition.Partition.{Partition}
use Rattle.addresses.specs.Walk.{entries}
use Rattle.addresses.specs.Memory.{host, host_memory}
use Rattle.addresses.specs.Premises.{Placed, Shadowed}
use Rattle.engine.specs.declared.Stretched.{Stretched}
use Rattle.engine.specs.Answers.{stretch_of}
use Rattle.dlx.specs.Parts.{inner, outer}
use Rattle.tickets.specs.Queues.{queues, desk, Seated}
use Rattle.house.specs.House.{no_partition, with_queues}
use Rattle.house.specs.Turns.{World, world, next_of, span_of, later_of, host_steps, stretched_house, house_at}
use Rattle.house.specs.Sound.{Sound}
use Rattle.house.specs.declared.House.{House}
use Rattle.house.specs.declared.Turn.{Turn}
use Rattle.dlx.proofs.Parts.{inner_length}
use Rattle.house.proofs.Turns.Stretch.{Spanned, spanned}

-- the part of a list that is lent from i * s on, and the list when it is back
abbrev pub lent : ℕ → ℕ → List ℕ → List ℕ
lent i s l = take (i * s + s - i * s) (drop (i * s) l)

abbrev pub back : ℕ → ℕ → List ℕ → List ℕ → List ℕ
back i s l k = take (i * s) l ++ (k ++ drop (i * s + s - i * s) (drop (i * s) l))

module _ (h : House) (current left : ℕ) (parts : List Partition) (regs shadows tickets waiting m : List ℕ) where
  abbrev here : World
  here = world (with_queues (house_at h current left parts regs shadows) (queues tickets waiting)) m

  module _ (s : Stretched) (regs' m' shadow' tickets' waiting' : List ℕ) (latest n : ℕ) where
    -- the stretch that the engine was asked for
    abbrev Asked : ℕ → Type 0
    Asked i =
        stretch_of s regs' latest m' shadow' (queues tickets' waiting')
        ≡ stretch_from (host_memory (lent i 256 h.frames) (get_or parts i no_partition).pages) (desk h.count current) n 0 (core (get_or parts i no_partition).processor (lent i 32 regs) (get_or parts i no_partition).fault (get_or parts i no_partition).timer, host (get_or parts i no_partition).table m (lent i entries shadows)) (queues tickets waiting)

    pub asked_turned : (alone : Bool) (i : ℕ) → i ≡ current → Asked i → Sound here → 0 < n → (alone ≡ true → next_of h.running h.count current ≡ current) → (alone ≡ false → n ≤ left) → Spanned alone here n (stretch_of s regs' latest m' shadow' (queues tickets' waiting'))
    unfolding inner
    asked_turned alone i q a o p w l =
        subst (Spanned alone here n)
        (sym (simp add-sub_cancel_left at (subst Asked q a)))
        (spanned alone n here o p w l)

    -- the house that the loop's body makes of its answer
    abbrev Made : Turn → ℕ → ℕ → World
    Made t counter i =
        world (with_queues (house_at h t.current t.left (set parts i (with_counter (with_fault (with_timer (with_table (with_processor (get_or parts i no_partition) s.processor) s.table) s.timer) latest) counter)) (back i 32 regs regs') (back i entries shadows shadow')) (queues tickets' waiting')) m'

    pub after_turn : (alone : Bool) (i : ℕ) (t : Turn) (counter : ℕ) → i ≡ current → Spanned alone here n (stretch_of s regs' latest m' shadow' (queues tickets' waiting')) → t ≡ later_of alone h.running h.count h.q current left s.made s.called → counter ≡ ((get_or parts i no_partition).counter + s.made) % 2 ^ 64 → Made t counter i ≡ host_steps s.made here
    unfolding stretched_house outer
    after_turn alone i t counter q d e c =
        let now = later_of alone h.running h.count h.q current left s.made s.called in
        subst (λ (u : Turn). Made u counter i ≡ host_steps s.made here) (sym e)
        (subst (λ (n : ℕ). Made now n i ≡ host_steps s.made here) (sym c)
        (subst (λ (j : ℕ). Made now (((get_or parts j no_partition).counter + s.made) % 2 ^ 64) j ≡ host_steps s.made here) (sym q)
        (simp add-sub_cancel_left (sym d.steps))))

  pub seated : Sound here → Seated h.count current (queues tickets waiting)
  seated o = record { queued = record { tickets = o.shaped.tickets; waiting = o.shaped.waiting; most = o.most }; few = o.few; small = omega (arith, o.here, o.few) }

  -- what the engine asks of the lent parts
  pub asked_sound : (i : ℕ) → i ≡ current → Sound here → (length (lent i 32 regs) ≡ 32) × (Placed (lent i 256 h.frames) (get_or parts i no_partition).pages (length m) × (Shadowed (lent i 256 h.frames) (get_or parts i no_partition).pages (lent i entries shadows) × Seated h.count current (queues tickets waiting)))
  unfolding inner
  asked_sound i q o =
      rw q
      (simp add-sub_cancel_left
      (inner_length regs (current * 32) 32 (omega (arith, o.here, o.few, o.shaped.regs)), ((o.each current o.here).placed, ((o.each current o.here).shadowed, seated o))))

-- the limit of a turn
pub limited : (l r n : ℕ) → n ≡ (when leb l r then l else r) → 0 < l → 0 < r → (0 < n) × (n ≤ l) × (n ≤ r)
limited l r n e p q =
    subst (λ (x : ℕ). (0 < x) × (x ≤ l) × (x ≤ r)) (sym e)
    (either (λ (x : ℕ). (0 < x) × (x ≤ l) × (x ≤ r)) (leb l r)
    (λ b. let h = leb-true l r b in (omega arith, omega arith, omega arith))
    (λ b. let h = leb-false l r b in (omega arith, omega arith, omega arith)))

-- how many steps are lent for: some, no more than are left unless its partition is alone, and no more than are to make
pub record Within (alone : Bool) (l r n : ℕ) : Type 0 where
  pub some : 0 < n
  pub turn : alone ≡ false → n ≤ l
  pub most : n ≤ r

within : (alone : Bool) (l r : ℕ) → 0 < l → 0 < r → Within alone l r (span_of alone l r)
unfolding span_of
within true l r p q = record { some = q; turn = λ e. absurd (true≢false e); most = omega arith }
within false l r p q = let u = limited l r _ refl p q in record { some = u.0; turn = λ _. u.1; most = u.2 }

pub lent_for_lem : (alone : Bool) (l r n : ℕ) → n ≡ span_of alone l r → 0 < l → 0 < r → Within alone l r n
lent_for_lem alone l r n e p q = subst (Within alone l r) (sym e) (within alone l r p q)

-- whether the current partition is alone is told once: nothing in a run starts or stops one
pub alone_told : (r : List Bool) (n c x : ℕ) → x ≡ next_of r n c → eqb x c ≡ true → next_of r n c ≡ c
alone_told r n c x e t = sym e ∙ eqb-true x c t

pub still_alone : (r : List Bool) (n q c l made : ℕ) (called alone : Bool) (t : Turn) → t ≡ later_of alone r n q c l made called → (alone ≡ true → next_of r n c ≡ c) → alone ≡ true → next_of r n t.current ≡ t.current
unfolding later_of
still_alone r n q c l made called true t e a _ = subst (λ (u : Turn). next_of r n u.current ≡ u.current) (sym e) (a refl)
still_alone r n q c l made called false t e a y = absurd (false≢true y)

pub still_some : (a b : ℕ) → a < b → 0 < b - a
still_some a b l = omega arith

-- where the current partition's parts begin and end
pub current_few : (i c n : ℕ) → i ≡ c → c < n → n ≤ 8 → i < 8
current_few i c n e l f = omega arith

more_is_no_less : (a s : ℕ) → a ≤ a + s
more_is_no_less a s = omega arith

pub starts : (i s : ℕ) → i * s ≤ i * s + s
starts i s = more_is_no_less (i * s) s

module _ (i s : ℕ) (l : i < 8) (m : s ≤ 1024) where
  below : i * s ≤ 8 * 1024
  below = let k : i ≤ 8 = omega arith in mul-le-mul k m

  pub fits : i * s < 2 ^ 64
  fits = omega (arith, below)

  pub fits_on : i * s + s < 2 ^ 64
  fits_on = omega (arith, below)

  pub fits_words : i * s * 4 < 2 ^ 64
  fits_words = omega (arith, below)

  pub ends : (n : ℕ) → n ≡ 8 * s → i * s + s ≤ n
  ends n e = subst (λ (x : ℕ). i * s + s ≤ x) (sym e) (subst (λ (x : ℕ). x ≤ 8 * s) (suc-mul i s) (mul-le-mul_right s l))

-- A run neither reads nor changes frame 0: it is no partition's, in any house that is not damaged.
use mathlib.Core.Path.{◌≡◌, sym, ap, subst, ◌∙◌}
use mathlib.Core.Bool.{Bool}
use mathlib.Core.List.{List}
use Prim.Native.Nat.{ℕ, ◌+◌, ◌*◌, ◌/◌, ◌%◌, ◌<◌}
use native.Mathlib.Omega.{arith}
use lib.ListN.{length, get_or}
use Rattle.dlx.proofs.Tests.{by_test}
use Rattle.house.specs.Lists.{any}
use Rattle.house.specs.House.{pages_of, frames_of}
use Rattle.house.specs.Damage.{stands}
use Rattle.house.specs.Turns.{World, world}
use Rattle.house.specs.Sound.{Shaped, Undamaged}
use Rattle.house.specs.Calls.{run_call}
use Rattle.demands.specs.Demands.{AgreeOn, AgreeBeyondFrame0, ApartInFrame0}
use Rattle.house.specs.declared.House.{House}
use Rattle.house.proofs.Lists.Bounded.{one_way, any_at, any_none}
use Rattle.house.proofs.Damage.Conditions.{stands_own, own_stands}
use Rattle.demands.proofs.Isolation.IsolatedRun.{Nobodys, same_verdict, answers_alike}

-- ---- a refused run

pub apart_given : (h : House) (m m' : List ℕ) (k : ℕ) → length m ≡ length m' → AgreeBeyondFrame0 m m' → (run_call (world h m) k).world ≡ world h m → (run_call (world h m') k).world ≡ world h m' → ApartInFrame0 h m m' k
unfolding run_call
apart_given h m m' k long same e e' = (
  same_verdict h m m' long k,
  ap (λ (w : World). w.house) e ∙ sym (ap (λ (w : World). w.house) e'),
  (λ x l. ap (λ (w : World). get_or w.memory x 0) e ∙ same x l ∙ sym (ap (λ (w : World). get_or w.memory x 0) e')),
  (λ x l. ap (λ (w : World). get_or w.memory x 0) e),
  (λ x l. ap (λ (w : World). get_or w.memory x 0) e'),
)

-- ---- a run of a house that is not damaged

module _ (h : House) (u : Undamaged h) where
  frame_0_nobodys : Nobodys h 0
  frame_0_nobodys i l o = u.kept i o.0 l o.1 o.2

  -- memories alike outside frame 0 are alike in every partition's frames
  agree_on : (m m' : List ℕ) → AgreeBeyondFrame0 m m' → (i : ℕ) → i < h.count → AgreeOn h i m m'
  agree_on m m' same i l k j b c = same _ (omega (arith, u.kept i k l b))

-- the words of frame 0 are the first
at_word : (x : ℕ) (n m : List ℕ) → get_or n (0 * 1024 + x) 0 ≡ get_or m (0 * 1024 + x) 0 → get_or n x 0 ≡ get_or m x 0
at_word x n m e = let z : 0 * 1024 + x ≡ x = omega arith in rw z at e

-- a frame is some partition's or no partition's
by_owner : {A : Type 0} (h : House) (f : ℕ) → ((i k : ℕ) → i < h.count → k < pages_of h i → get_or (frames_of h i) k 0 ≡ f → A) → (Nobodys h f → A) → A
by_owner h f theirs nobodys =
    let owns : ℕ → Bool = λ i. stands (frames_of h i) (pages_of h i) f in
    by_test (any owns h.count)
    (λ e.
    let r = any_at owns h.count e in
    let o = stands_own (frames_of h r.0) (pages_of h r.0) f r.2 in
    theirs r.0 o.0 r.1 o.1 o.2)
    (λ e. nobodys (λ i l o. one_way (owns i) (own_stands (frames_of h i) (pages_of h i) f o) (any_none owns h.count e i l)))

pub apart_undamaged : (h : House) (m m' : List ℕ) (k : ℕ) → Undamaged h → Shaped h → length m ≡ length m' → AgreeBeyondFrame0 m m' → ApartInFrame0 h m m' k
unfolding run_call
apart_undamaged h m m' k u s long same =
    let there = agree_on h u m m' same in
    let back = agree_on h u m' m (λ x l. sym (same x l)) in
    let a = answers_alike h m m' s long there k in
    let a' = answers_alike h m' m s (sym long) back k in
    let n = (run_call (world h m) k).world.memory in
    let n' = (run_call (world h m') k).world.memory in (
      same_verdict h m m' long k,
      a.house,
      (λ x l.
          let whole : (x / 1024) * 1024 + x % 1024 ≡ x = omega arith in
          subst (λ (y : ℕ). get_or n y 0 ≡ get_or n' y 0) whole
          (by_owner h (x / 1024)
          (λ i p b c e. subst (λ (f : ℕ). get_or n (f * 1024 + x % 1024) 0 ≡ get_or n' (f * 1024 + x % 1024) 0) e (a.own i b p (x % 1024) c (omega arith)))
          (λ none.
          a.others (x / 1024) (x % 1024) none (omega arith)
          ∙ same _ (omega arith)
          ∙ sym (a'.others (x / 1024) (x % 1024) none (omega arith))))),
      (λ x l. at_word x n m (a.others 0 x (frame_0_nobodys h u) l)),
      (λ x l. at_word x n' m' (a'.others 0 x (frame_0_nobodys h u) l)),
    )

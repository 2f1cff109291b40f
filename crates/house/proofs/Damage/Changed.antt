-- What start, stop and empty change, flags, turn and shadows: where these are right the house stays undamaged.
use mathlib.Core.Path.{◌≡◌, refl}
use mathlib.Core.Bool.{Bool, true, false}
use mathlib.Core.List.{List}
use Prim.Native.Nat.{ℕ, ◌*◌, ◌^◌, ◌<◌, ◌≤◌}
use native.Mathlib.Omega.{arith}
use lib.ListN.{length, get_or}
use Rattle.addresses.specs.Walk.{entries}
use Rattle.dlx.proofs.Tests.{by_eq}
use Rattle.dlx.specs.Parts.{inner}
use Rattle.house.specs.House.{all_entries, pages_of, frames_of}
use Rattle.house.specs.Turns.{world}
use Rattle.house.specs.Sound.{Proper, Undamaged, Typed, Stays}
use Rattle.house.specs.declared.House.{House}
use Rattle.house.specs.declared.Turn.{Turn}
use Rattle.house.proofs.Damage.Updates.{guests_shaped, turn_typed, guests_typed}
use Rattle.house.proofs.Turns.SameLayout.{changed, changed_layout}
use Rattle.house.proofs.Damage.Denied.{undamaged_from}

pub record FlagsRight (h : House) (running : List Bool) : Type 0 where
  pub long : length running ≡ 8
  pub still : (i : ℕ) → h.count ≤ i → i < 8 → get_or running i false ≡ false

-- the turn t is right where these run
pub record TurnRight (h : House) (running : List Bool) (t : Turn) : Type 0 where
  pub idle : t.left ≡ 0 → (t.current ≡ 0) × ((i : ℕ) → i < 8 → get_or running i false ≡ false)
  pub busy : (t.left ≡ 0 → ⊥) → (t.current < h.count) × (get_or running t.current false ≡ true) × (t.left ≤ h.q)

pub record ShadowsRight (h : House) (shadows : List ℕ) : Type 0 where
  pub long : length shadows ≡ all_entries
  pub proper : (i px : ℕ) → i < h.count → px < entries → Proper (frames_of h i) (pages_of h i) (get_or (inner (i * entries) entries shadows) px 0)
  pub none : (i k : ℕ) → h.count ≤ i → i < 8 → k < entries → get_or (inner (i * entries) entries shadows) k 0 ≡ 0
  pub words : (k : ℕ) → get_or shadows k 0 < 2 ^ 32

module _ (h : House) (m : List ℕ) (u : Undamaged h) (y : Typed (world h m)) where
  -- where they stay as they were

  pub same_flags : FlagsRight h h.running
  same_flags = record { long = y.shaped.running; still = λ i l b. (u.unused i l b).still }

  pub same_shadows : ShadowsRight h h.shadows
  same_shadows = record { long = y.shaped.shadows; proper = u.proper; none = λ i k l b. (u.unused i l b).shadows k; words = y.shadows }

  module _ (running : List Bool) (t : Turn) (shadows : List ℕ) (f : FlagsRight h running) (x : TurnRight h running t) (s : ShadowsRight h shadows) where
    changed_undamaged : Undamaged (changed h running t shadows)
    changed_undamaged = record {
      some = u.some;
      few = u.few;
      pages = u.pages;
      turns = u.turns;
      whole = u.whole;
      size = u.size;
      inside = u.inside;
      kept = u.kept;
      once = u.once;
      idle = x.idle;
      busy = x.busy;
      first = u.first;
      mode = u.mode;
      emode = u.emode;
      fault = u.fault;
      proper = s.proper;
      behind = u.behind;
      unused = λ i l b.
          let z = u.unused i l b in
          record { still = f.still i l b; none = z.none; regs = z.regs; frames = z.frames; shadows = λ k. s.none i k l b };
      queued = u.queued;
    }

    turn_word : (t.current < 2 ^ 32) × (t.left < 2 ^ 32)
    turn_word =
        by_eq t.left 0
        (λ z. (omega (arith, (x.idle z).0), omega arith))
        (λ n. (omega (arith, (x.busy n).0, y.count), omega (arith, (x.busy n).2, y.q)))

    pub changed_stays : Stays (world h m) (world (changed h running t shadows) m)
    changed_stays = record {
      typed =
          let x = turn_typed h m y running t f.long turn_word.0 turn_word.1 in
          guests_typed _ m x _ (guests_shaped _ x.shaped _ y.shaped.parts y.shaped.regs s.long) y.parts y.regs s.words;
      whole = undamaged_from _ changed_undamaged;
      layout = changed_layout h running t shadows;
      size = refl;
    }

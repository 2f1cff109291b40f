-- How boot laid a house out, host steps and calls keep.
use mathlib.Core.Path.{refl, ◌∙◌}
use mathlib.Core.Bool.{Bool}
use mathlib.Core.List.{List}
use Prim.Native.Nat.{ℕ}
use Rattle.house.specs.Turns.{World, turn_after, guest_step, settled_house, step_with, queued_on, host_step, host_steps, house_at}
use Rattle.house.specs.Sound.{LaidOut}
use Rattle.house.specs.House.{with_turn}
use Rattle.house.specs.declared.House.{House}
use Rattle.house.specs.declared.Turn.{Turn}
use Rattle.house.proofs.Turns.Kept.{settled_pages, steps_keep}

pub same_layout : (h : House) → LaidOut h h
same_layout h = record { count = refl; q = refl; words = refl; frames = refl; pages = λ i. refl }

pub layout_on : (h h' h'' : House) → LaidOut h h' → LaidOut h' h'' → LaidOut h h''
layout_on h h' h'' a b = record {
  count = b.count ∙ a.count;
  q = b.q ∙ a.q;
  words = b.words ∙ a.words;
  frames = b.frames ∙ a.frames;
  pages = λ i. b.pages i ∙ a.pages i;
}

-- ---- host steps

pub step_layout : (w : World) → LaidOut w.house (host_step w).house
unfolding host_step step_with settled_house
step_layout w =
    let h = w.house in
    let o = guest_step w h.current in
    record { count = refl; q = refl; words = refl; frames = refl; pages = settled_pages (queued_on w).house h.current o (turn_after h 1 o.0.calls) }

pub steps_layout : (n : ℕ) (w : World) → LaidOut w.house (host_steps n w).house
steps_layout n w = steps_keep (λ x. LaidOut w.house x.house) (λ x l. layout_on w.house _ _ l (step_layout x)) n w (same_layout w.house)

-- ---- calls

-- what start, stop and empty may change
abbrev pub changed : House → List Bool → Turn → List ℕ → House
changed h running t shadows = house_at (with_turn h running t) t.current t.left h.parts h.regs shadows

pub changed_layout : (h : House) (running : List Bool) (t : Turn) (shadows : List ℕ) → LaidOut h (changed h running t shadows)
changed_layout h running t shadows = record { count = refl; q = refl; words = refl; frames = refl; pages = λ i. refl }

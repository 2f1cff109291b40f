-- Every premise holds somewhere: a guest of two pages, in frames 2 and 3 of a memory of four.
use mathlib.Core.Path.{◌≡◌, refl, sym, ap, ◌∙◌}
use mathlib.Core.Bool.{true}
use mathlib.Core.List.{List, ◌∷◌}
use Prim.Native.Nat.{ℕ, zero, suc, ◌+◌, ◌*◌, ◌<◌, ◌≤◌}
use native.Mathlib.Omega.{arith}
use lib.ListN.{length, get_or, set, replicate, length-replicate, length-set}
use lib.Seq.{get_or-set_other}
use Rattle.dlx.specs.declared.partition.Table.{Table}
use Rattle.dlx.proofs.Kept.{get_or_set_elim, KeptTable}
use Rattle.addresses.specs.Entries.{valid, entry_of}
use Rattle.addresses.specs.Walk.{entries}
use Rattle.addresses.specs.Memory.{lone, host, place, fresh_shadow}
use Rattle.addresses.specs.Premises.{Placed, Shadowed}
use Rattle.dlx.proofs.Tests.{get_or_replicate_same}
use Rattle.addresses.proofs.Entries.{Owned, fresh_shadowed}
use Rattle.addresses.proofs.Simulation.{Right, right_empty}
use Rattle.addresses.proofs.Isolation.{Alike}
use Rattle.addresses.proofs.Kept.{zeros_words, KeptLone, KeptHost}

-- a property of both pages
two : (P : ℕ → Type 0) → P 0 → P 1 → (k : ℕ) → k < 2 → P k
two P a b zero h = a
two P a b (suc zero) h = b
two P a b (suc (suc k)) h = absurd (omega arith)

abbrev pub frames : List ℕ
frames = 2 ∷ 3 ∷ replicate 254 0

abbrev pub memory : List ℕ
memory = replicate 4096 0

pub table : Table
table = record { pto = 1; ptl = 4 }

memory_length : length memory ≡ 4096
memory_length = length-replicate {A = ℕ} 4096 0

pub placed : Placed frames 2 (length memory)
placed = record {
  few = omega arith;
  list = ap (λ k. suc (suc k)) (length-replicate {A = ℕ} 254 0);
  small = rw memory_length (omega arith);
  inside = λ k h. rw memory_length (two (λ k. get_or frames k 0 * 1024 + 1024 ≤ 4096) (omega arith) (omega arith) k h);
  distinct = λ j k hj hk. two (λ j. get_or frames j 0 ≡ get_or frames k 0 → j ≡ k)
      (two (λ k. 2 ≡ get_or frames k 0 → 0 ≡ k) (λ _. refl) (λ e. absurd (omega arith)) k hk)
      (two (λ k. 3 ≡ get_or frames k 0 → 1 ≡ k) (λ e. absurd (omega arith)) (λ _. refl) k hk)
      j hj;
}

-- ---- simulation: all words 0, and a fresh shadow

pub right : Right frames 2 memory (lone table (replicate 2048 0)) (host table memory fresh_shadow)
right =
    right_empty table (replicate 2048 0) memory (length-replicate {A = ℕ} 2048 0) refl
    (λ i _. get_or_replicate_same 2048 0 i ∙ sym (get_or_replicate_same 4096 0 (place frames i)))
    (λ _ _. refl)

-- ---- isolation: a word of frame 1 differs, and the shadow has a valid entry that no table gives

pub other : List ℕ
other = set memory 1024 7

pub shadow : List ℕ
shadow = set fresh_shadow 3 (entry_of 2 0)

pub valid_third : valid (get_or shadow 3 0) ≡ true
unfolding shadow
valid_third = refl

pub shadowed : Shadowed frames 2 shadow
unfolding shadow
shadowed = record {
  count = simp length-set (length-replicate {A = ℕ} entries 0);
  own = λ px. get_or_set_elim (Owned frames 2) fresh_shadow 3 px (entry_of 2 0) 0 (λ _ _. (0, omega arith, refl)) ((fresh_shadowed {fr = frames} {n = 2}).own px);
}

pub same_size : length memory ≡ length other
unfolding other
same_size = sym (length-set memory 1024 7)

-- the two memories are not the same
pub differ : get_or memory 1024 0 ≡ get_or other 1024 0 → ⊥
unfolding other
differ e = omega (arith, e)

pub alike : Alike frames 2 memory other (host table memory shadow) (host table other shadow)
unfolding other
alike = record {
  table = refl;
  shadow = refl;
  shadowed = shadowed;
  size = refl;
  size' = refl;
  own = λ k j hk hj. two (λ k. get_or memory (get_or frames k 0 * 1024 + j) 0 ≡ get_or (set memory 1024 7) (get_or frames k 0 * 1024 + j) 0)
      (sym (get_or-set_other memory 1024 (2 * 1024 + j) 7 0 (omega arith)))
      (sym (get_or-set_other memory 1024 (3 * 1024 + j) 7 0 (omega arith)))
      k hk;
  others = λ _ _. refl;
  others' = λ _ _. refl;
}

-- ---- what is kept

kept_table : KeptTable table
unfolding table
kept_table = omega arith

pub kept_lone : KeptLone 2 (lone table (replicate 2048 0))
kept_lone = record { table = kept_table; long = length-replicate {A = ℕ} 2048 0; words = zeros_words 2048 }

pub kept_host : KeptHost frames 2 (length memory) (host table memory fresh_shadow)
kept_host = record { table = kept_table; long = refl; words = zeros_words 4096; shadowed = fresh_shadowed; shadow = zeros_words entries }

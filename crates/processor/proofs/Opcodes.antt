-- What the bits of a load's and of a store's opcode tell: how an address is aligned, the width, and what extends it.
use Rattle.std.proofs.Common.{◌≡◌, ℕ, ◌/◌, ◌%◌, ◌^◌, ◌<◌, ◌≤◌, Bool, true, false, ◌||◌, eqb, sym, refl, ap, arith, ne_eqb, eqb-true}
use lib.Bits.{bit_and, and_mask, and_zero_r}
use Rattle.dlx.specs.Words.{opcode, rs1, rd_immediate, extended, extended_by}
use Rattle.dlx.specs.Instructions.{part_type}
use Rattle.dlx.specs.declared.instruction.Instruction.{Instruction}
use Rattle.dlx.specs.declared.instruction.Instruction.TheVariants.{LoadBy, StoreBy, Ill}
use Rattle.dlx.specs.Fields.{field, place, aligned, loading, storing, width, brought}
use Rattle.dlx.proofs.Fields.{by_load, by_store}
use Rattle.dlx.proofs.Tests.{by_eq}

pub or_left : (b c : Bool) → b ≡ true → (b || c) ≡ true
or_left b c e = rw e refl

pub or_right : (b c : Bool) → c ≡ true → (b || c) ≡ true
or_right true c e = refl
or_right false c e = e

-- the lowest two bits are how many bytes are reached, less one
module _ (a : ℕ) where
  Masks : ℕ → Type 0
  Masks o = eqb (bit_and a (o % 4)) 0 ≡ aligned (width o) a

  masked_byte : eqb (bit_and a 0) 0 ≡ eqb (a % 1) 0
  masked_byte = let e : a % 1 ≡ 0 = omega arith in simp (and_zero_r a, e)

  masked_half : eqb (bit_and a 1) 0 ≡ eqb (a % 2) 0
  masked_half = ap (λ (n : ℕ). eqb n 0) (and_mask a 1)

  masked_word : eqb (bit_and a 3) 0 ≡ eqb (a % 4) 0
  masked_word = ap (λ (n : ℕ). eqb n 0) (and_mask a 2)

  pub masks : (o : ℕ) → (loading o || storing o) ≡ true → eqb (bit_and a (o % 4)) 0 ≡ aligned (width o) a
  unfolding width Masks
  masks o h = split_or (loading o) (storing o) h
      (λ l. by_load Masks o l masked_byte masked_half masked_word masked_byte masked_half)
      (λ s. by_store Masks o s masked_byte masked_half masked_word)
    where
      split_or : {Q : Type 0} (b c : Bool) → (b || c) ≡ true → (b ≡ true → Q) → (c ≡ true → Q) → Q
      split_or true c h f g = f refl
      split_or false c h f g = g h

-- ---- what a load brings of the word x at the address a, from bit k on

module _ (a x k : ℕ) (at : k ≡ place a) where
  -- a field's extension does not look above it
  inner_byte : (y : ℕ) → extended_by 128 (y % 256) ≡ extended_by 128 y
  unfolding extended_by
  inner_byte y = let e : y % 256 % 256 ≡ y % 256 = omega arith in simp e

  inner_half : (y : ℕ) → extended_by 32768 (y % 65536) ≡ extended_by 32768 y
  unfolding extended_by
  inner_half y = let e : y % 65536 % 65536 ≡ y % 65536 = omega arith in simp e

  module _ (o : ℕ) (l : loading o ≡ true) where
    pub brings_word : x < 2 ^ 32 → aligned (width o) a ≡ true → o / 2 % 2 ≡ 1 → x ≡ brought o a x
    unfolding brought width field
    brings_word h = by_load (λ o. aligned (width o) a ≡ true → o / 2 % 2 ≡ 1 → x ≡ brought o a x) o l
        (λ _ e. omega arith) (λ _ e. omega arith)
        (λ g _. let z : place a ≡ 0 = omega (arith, eqb-true (a % 4) 0 g) in rw z (omega arith))
        (λ _ e. omega arith) (λ _ e. omega arith)

    pub brings_half_signed : (o / 2 % 2 ≡ 1 → ⊥) → o % 2 ≡ 1 → o / 4 % 2 ≡ 0 → extended_by 32768 (x / 2 ^ k) ≡ brought o a x
    unfolding brought width field
    brings_half_signed = by_load (λ o. (o / 2 % 2 ≡ 1 → ⊥) → o % 2 ≡ 1 → o / 4 % 2 ≡ 0 → extended_by 32768 (x / 2 ^ k) ≡ brought o a x) o l
        (λ _ e _. omega arith) (λ _ _ _. rw at (sym (inner_half (x / 2 ^ place a)))) (λ n _ _. absurd (n refl))
        (λ _ e _. omega arith) (λ _ _ e. omega arith)

    pub brings_half : (o / 2 % 2 ≡ 1 → ⊥) → o % 2 ≡ 1 → (o / 4 % 2 ≡ 0 → ⊥) → x / 2 ^ k % 65536 ≡ brought o a x
    unfolding brought width field
    brings_half = by_load (λ o. (o / 2 % 2 ≡ 1 → ⊥) → o % 2 ≡ 1 → (o / 4 % 2 ≡ 0 → ⊥) → x / 2 ^ k % 65536 ≡ brought o a x) o l
        (λ _ e _. omega arith) (λ _ _ n. absurd (n refl)) (λ n _ _. absurd (n refl)) (λ _ e _. omega arith) (λ _ _ _. rw at refl)

    pub brings_byte_signed : (o / 2 % 2 ≡ 1 → ⊥) → (o % 2 ≡ 1 → ⊥) → o / 4 % 2 ≡ 0 → extended_by 128 (x / 2 ^ k) ≡ brought o a x
    unfolding brought width field
    brings_byte_signed = by_load (λ o. (o / 2 % 2 ≡ 1 → ⊥) → (o % 2 ≡ 1 → ⊥) → o / 4 % 2 ≡ 0 → extended_by 128 (x / 2 ^ k) ≡ brought o a x) o l
        (λ _ _ _. rw at (sym (inner_byte (x / 2 ^ place a)))) (λ _ n _. absurd (n refl)) (λ n _ _. absurd (n refl))
        (λ _ _ e. omega arith) (λ _ n _. absurd (n refl))

    pub brings_byte : (o / 2 % 2 ≡ 1 → ⊥) → (o % 2 ≡ 1 → ⊥) → (o / 4 % 2 ≡ 0 → ⊥) → x / 2 ^ k % 256 ≡ brought o a x
    unfolding brought width field
    brings_byte = by_load (λ o. (o / 2 % 2 ≡ 1 → ⊥) → (o % 2 ≡ 1 → ⊥) → (o / 4 % 2 ≡ 0 → ⊥) → x / 2 ^ k % 256 ≡ brought o a x) o l
        (λ _ _ n. absurd (n refl)) (λ _ n _. absurd (n refl)) (λ n _ _. absurd (n refl)) (λ _ _ _. rw at refl) (λ _ n _. absurd (n refl))

-- ---- the opcodes of bytes and half words, by the ranges that they stand in

module _ (w : ℕ) where
  abbrev load_of : Instruction
  load_of = LoadBy (opcode w) (rs1 w) (extended 16 w) (rd_immediate w)

  abbrev store_of : Instruction
  store_of = StoreBy (opcode w) (rs1 w) (extended 16 w) (rd_immediate w)

  pub part_32 : 32 ≤ opcode w → opcode w < 34 → load_of ≡ part_type w
  unfolding part_type
  part_32 h l = by_eq (opcode w) 32 (λ q. simp q) λ n. let q : opcode w ≡ 33 = omega arith in simp q

  pub part_36 : 36 ≤ opcode w → opcode w < 38 → load_of ≡ part_type w
  unfolding part_type
  part_36 h l = by_eq (opcode w) 36 (λ q. simp q) λ n. let q : opcode w ≡ 37 = omega arith in simp q

  pub part_40 : 40 ≤ opcode w → opcode w < 42 → store_of ≡ part_type w
  unfolding part_type
  part_40 h l = by_eq (opcode w) 40 (λ q. simp q) λ n. let q : opcode w ≡ 41 = omega arith in simp q

  none : (opcode w ≡ 32 → ⊥) → (opcode w ≡ 33 → ⊥) → (opcode w ≡ 36 → ⊥) → (opcode w ≡ 37 → ⊥) → (opcode w ≡ 40 → ⊥) → (opcode w ≡ 41 → ⊥) → Ill ≡ part_type w
  unfolding part_type
  none a b c d e f = simp (ne_eqb _ _ a, ne_eqb _ _ b, ne_eqb _ _ c, ne_eqb _ _ d, ne_eqb _ _ e, ne_eqb _ _ f)

  pub part_below : opcode w < 32 → Ill ≡ part_type w
  part_below l = none (λ q. omega arith) (λ q. omega arith) (λ q. omega arith) (λ q. omega arith) (λ q. omega arith) (λ q. omega arith)

  pub part_34 : 34 ≤ opcode w → opcode w < 36 → Ill ≡ part_type w
  part_34 h l = none (λ q. omega arith) (λ q. omega arith) (λ q. omega arith) (λ q. omega arith) (λ q. omega arith) (λ q. omega arith)

  pub part_38 : 38 ≤ opcode w → opcode w < 40 → Ill ≡ part_type w
  part_38 h l = none (λ q. omega arith) (λ q. omega arith) (λ q. omega arith) (λ q. omega arith) (λ q. omega arith) (λ q. omega arith)

  pub part_above : 42 ≤ opcode w → Ill ≡ part_type w
  part_above h = none (λ q. omega arith) (λ q. omega arith) (λ q. omega arith) (λ q. omega arith) (λ q. omega arith) (λ q. omega arith)

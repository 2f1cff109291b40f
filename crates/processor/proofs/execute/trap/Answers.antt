use Rattle.std.proofs.Common.{◌≡◌, ℕ, ◌/◌, true, false, eqb, arith, eq-eqb, ne_eqb}
use Rattle.dlx.specs.Execute.{trap_of}
use Rattle.processor.proofs.execute.trap.Goals as goal

-- the two numbers whose half is 128
no-ticket : (i : ℕ) → (i / 2 ≡ 128 → ⊥) → (eqb i 256 ≡ false) × (eqb i 257 ≡ false)
no-ticket i h = (ne_eqb i 256 (λ e. h (omega arith)), ne_eqb i 257 (λ e. h (omega arith)))

second : (i : ℕ) → (i ≡ 256 → ⊥) → i / 2 ≡ 128 → eqb i 257 ≡ true
second i h e = eq-eqb i 257 (omega (arith, h))

pub returns-then-p-eq1 : goal.returns-then-p-eq1
unfolding trap_of
returns-then-p-eq1 c = simp (eq-eqb _ _ c.if-p-eq1.true)

pub returns-then-imm-ne128 : goal.returns-then-imm-ne128
unfolding trap_of
returns-then-imm-ne128 c = let n = no-ticket _ c.if-imm-ne128.true in simp (n.0, n.1, ne_eqb _ _ c.if-p-eq1.false)

pub returns-then-imm-eq256 : goal.returns-then-imm-eq256
unfolding trap_of
returns-then-imm-eq256 c = simp (eq-eqb _ _ c.if-imm-eq256.true, ne_eqb _ _ c.if-p-eq1.false)

pub returns : goal.returns
unfolding trap_of
returns c = simp (ne_eqb _ _ c.if-imm-eq256.false, second _ c.if-imm-eq256.false c.if-imm-ne128.false, ne_eqb _ _ c.if-p-eq1.false)

-- The bit of a field's half flipped: one law over the width.
use Rattle.std.proofs.Common.{◌≡◌, ℕ, ◌+◌, ◌-◌, ◌*◌, ◌%◌, ◌^◌, ◌<◌, ◌≤◌, ltb, sym, ap, ◌∙◌, subst, mod-lt, arith, pow_pos, pow_mono, ltb-false, ltb-true}
use lib.Bits.{bit_xor, xor_block, xor_zero_r}
use Rattle.dlx.specs.Words.{extended_by}
use Rattle.dlx.proofs.Kept.{either}

-- a field of k + 1 bits whose highest is a: f is a * 2 ^ k + r
block : (k a r : ℕ) → r < 2 ^ k → bit_xor (a * 2 ^ k + r) (2 ^ k) ≡ bit_xor a 1 * 2 ^ k + r
block k a r l =
    let b : 2 ^ k ≡ 1 * 2 ^ k + 0 = omega arith in
    ap (λ (y : ℕ). bit_xor (a * 2 ^ k + r) y) b
    ∙ xor_block k a 1 r 0 l (pow_pos k)
    ∙ ap (λ (z : ℕ). bit_xor a 1 * 2 ^ k + z) (xor_zero_r r)

-- below the half it is added, from it on it is taken away
module _ (k f : ℕ) where
  pub xor_low : f < 2 ^ k → bit_xor f (2 ^ k) ≡ f + 2 ^ k
  xor_low l =
      let a : f ≡ 0 * 2 ^ k + f = omega arith in
      ap (λ (x : ℕ). bit_xor x (2 ^ k)) a ∙ block k 0 f l ∙ omega arith

  pub xor_high : 2 ^ k ≤ f → f < 2 ^ k * 2 → bit_xor f (2 ^ k) ≡ f - 2 ^ k
  xor_high l m =
      let a : f ≡ 1 * 2 ^ k + (f - 2 ^ k) = omega arith in
      ap (λ (x : ℕ). bit_xor x (2 ^ k)) a ∙ block k 1 (f - 2 ^ k) (omega arith) ∙ omega arith

-- taking the half away then extends the field
pub flip_extends : (k x r : ℕ) → k ≤ 30 → r < 2 ^ 32 → (r + 2 ^ k) % 2 ^ 32 ≡ bit_xor (x % (2 ^ k * 2)) (2 ^ k) → r ≡ extended_by (2 ^ k) x
unfolding extended_by
flip_extends k x r s l e =
    let p = pow_pos k in
    let q = pow_mono {i = k} {j = 30} s in
    let m = mod-lt x {m = 2 ^ k * 2} (omega arith) in
    either (λ (v : ℕ). r ≡ v) (ltb (x % (2 ^ k * 2)) (2 ^ k))
    (λ b. let h = ltb-true (x % (2 ^ k * 2)) (2 ^ k) b in let z = e ∙ xor_low k (x % (2 ^ k * 2)) h in omega arith)
    (λ b. let h = ltb-false (x % (2 ^ k * 2)) (2 ^ k) b in let z = e ∙ xor_high k (x % (2 ^ k * 2)) h m in omega arith)

pub half_small : (half : ℕ) → ((k : ℕ) × (k ≤ 30) × (half ≡ 2 ^ k)) → (0 < half) × (half ≤ 2 ^ 30)
half_small half h = subst (λ (x : ℕ). (0 < x) × (x ≤ 2 ^ 30)) (sym h.2) (pow_pos h.0, pow_mono {i = h.0} {j = 30} h.1)

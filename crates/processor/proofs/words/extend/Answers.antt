use Rattle.processor.proofs.Xor.{flip_extends, half_small}
use Rattle.dlx.specs.Words.{extended_by}
use lib.Bits.{bit_xor}
use Rattle.std.proofs.Common.{◌≡◌, ℕ, ◌+◌, ◌*◌, ◌%◌, ◌^◌, sym, subst, arith}
use Rattle.processor.proofs.words.extend.Goals as goal

-- src/words.rt:66:22
pub overflow_mul-field : goal.overflow_mul-field
overflow_mul-field c = let h = half_small _ c.requires in omega arith

-- src/words.rt:66:17
pub nonzero_rem-field : goal.nonzero_rem-field
nonzero_rem-field c = let h = half_small _ c.requires in omega arith

-- src/words.rt:62:1
pub returns : goal.returns
returns c = let q = c.requires.2 in
    subst (λ (h : ℕ). c.wrapping_sub_u32.result ≡ extended_by h c.args.x) (sym q)
    (flip_extends c.requires.0 c.args.x c.wrapping_sub_u32.result c.requires.1 (omega arith) (subst (λ (h : ℕ). (c.wrapping_sub_u32.result + h) % 2 ^ 32 ≡ bit_xor (c.args.x % (h * 2)) h) q c.wrapping_sub_u32.ensures.value))

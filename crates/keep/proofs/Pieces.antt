-- What a piece adds.
use mathlib.Core.Path.{◌≡◌, sym, ap, ◌∙◌}
use mathlib.Core.List.{List, ◌++◌}
use Prim.Native.Nat.{ℕ, ◌+◌, ◌≤◌}
use native.Mathlib.Omega.{arith}
use lib.ListN.{length, take, drop, length-take, length-drop}
use lib.Seq.{take_at, length-take-le}
use Rattle.house.specs.Boot.{verdict}
use Rattle.house.specs.Turns.{World}
use Rattle.house.specs.declared.House.{House}
use Rattle.save.specs.Saved.{file_of}
use Rattle.save.specs.Calls.{piece_length, Written, written, save_call}
use Rattle.save.proofs.Promises.{save_done, save_count, save_output}
use Rattle.keep.specs.Kept.{Part}

module _ (w : World) (at n : ℕ) (h : House) (out out' : List ℕ) (e : written (verdict 0 0) n h out' ≡ save_call w at out) where
  done : (save_call w at out).verdict.number ≡ 0
  done = sym (ap (λ (x : Written). x.verdict.number) e)

  count_is : n ≡ piece_length w at (length out)
  count_is = ap (λ (x : Written). x.count) e ∙ save_count w (save_done w at out done) at out

  output_is : out' ≡ take n (drop at (file_of w)) ++ drop n out
  output_is =
      ap (λ (x : Written). x.output) e
      ∙ save_output w (save_done w at out done) at out
      ∙ ap (λ (j : ℕ). take j (drop at (file_of w)) ++ drop j out) (sym count_is)

  -- the piece is that of the file
  same : take n out' ≡ take n (drop at (file_of w))
  same =
      let F = drop at (file_of w) in
      ap (take n) output_is ∙ take_at (take n F) (drop n out) n (length-take-le n F (omega (arith, count_is, length-drop at (file_of w))))

  pub part_long : n ≡ length (take n out')
  part_long = sym (ap length same ∙ length-take-le n (drop at (file_of w)) (omega (arith, count_is, length-drop at (file_of w))))

  pub part_within : n ≤ length out'
  part_within = omega (arith, part_long, length-take n out')

  module _ (b : ℕ) (a : at ≡ b) where
    pub count_of : n ≡ piece_length w b (length out)
    count_of = count_is ∙ ap (λ (j : ℕ). piece_length w j (length out)) a

    pub part_of : Part w b (take n out')
    part_of =
        ap (λ (j : ℕ). take j (drop b (file_of w))) (sym part_long) ∙ ap (λ (j : ℕ). take n (drop j (file_of w))) (sym a) ∙ sym same

-- no byte is left
pub whole_at : (w : World) (b n room : ℕ) → b ≤ length (file_of w) → n ≡ piece_length w b room → 65536 ≤ room → n ≡ 0 → b ≡ length (file_of w)
whole_at w b n room i c r z = omega arith

-- a piece more
pub within_on : (w : World) (b n room k b' : ℕ) → b ≤ length (file_of w) → n ≡ piece_length w b room → n ≡ k → b' ≡ b + k → b' ≤ length (file_of w)
within_on w b n room k b' i c e f = omega arith

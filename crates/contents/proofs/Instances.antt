-- The promise used on the closed file of three partitions: as a whole, and cut inside the head of a frame's record.
use mathlib.Core.Path.{◌≡◌, refl}
use mathlib.Core.List.{[], ◌∷◌, ◌++◌}
use Prim.Native.Nat.{ℕ, zero, suc, ◌^◌, ◌≤◌}
use native.Mathlib.Omega.{arith}
use lib.ListN.{length, get_or, take, drop, replicate, take-append-drop}
use Rattle.house.specs.Boot.{sum}
use Rattle.housefile.specs.Records.{file, right, reading_of}
use Rattle.housefile.specs.Reader.{no_read, fed, answer_of}
use Rattle.save.proofs.Bytes.{Below, below_append}
use Rattle.save.proofs.RoundTrip.{below_cons}
use Rattle.contents.specs.Contents.{contents_file, Sayable}
use Rattle.contents.specs.Examples.{memory, three}
use Rattle.contents.proofs.RoundTrip.{says_all}

zeros_below : (n : ℕ) → Below (2 ^ 32) (replicate n 0)
zeros_below zero = λ i. omega arith
zeros_below (suc n) = below_cons (2 ^ 32) 0 (replicate n 0) (omega arith) (zeros_below n)

memory_below : Below (2 ^ 32) memory
unfolding memory
memory_below =
    below_append (2 ^ 32) (7 ∷ replicate 1022 0) ((0x01020304 ∷ replicate 1025 0) ++ (8 ∷ replicate 14334 0))
    (below_cons (2 ^ 32) 7 (replicate 1022 0) (omega arith) (zeros_below 1022))
    (below_append (2 ^ 32) (0x01020304 ∷ replicate 1025 0) (8 ∷ replicate 14334 0)
    (below_cons (2 ^ 32) 0x01020304 (replicate 1025 0) (omega arith) (zeros_below 1025))
    (below_cons (2 ^ 32) 8 (replicate 14334 0) (omega arith) (zeros_below 14334)))

memory_length : length memory ≡ 16384
unfolding memory
memory_length = refl

pages_below : (i : ℕ) → get_or (2 ∷ 1 ∷ 3 ∷ []) i 0 ≤ 256
pages_below zero = omega arith
pages_below (suc zero) = omega arith
pages_below (suc (suc zero)) = omega arith
pages_below (suc (suc (suc i))) = omega arith

three_sayable : Sayable three
unfolding three sum
three_sayable = record {
  q = omega arith;
  run = omega arith;
  listed = record { some = omega arith; few = omega arith; pages = pages_below; lists = refl };
  frames =
      below_cons (2 ^ 32) 15 (1 ∷ 9 ∷ 4 ∷ 5 ∷ 0x0A0B0C0D ∷ []) (omega arith)
      (below_cons (2 ^ 32) 1 (9 ∷ 4 ∷ 5 ∷ 0x0A0B0C0D ∷ []) (omega arith)
      (below_cons (2 ^ 32) 9 (4 ∷ 5 ∷ 0x0A0B0C0D ∷ []) (omega arith)
      (below_cons (2 ^ 32) 4 (5 ∷ 0x0A0B0C0D ∷ []) (omega arith)
      (below_cons (2 ^ 32) 5 (0x0A0B0C0D ∷ []) (omega arith) (below_cons (2 ^ 32) 0x0A0B0C0D [] (omega arith) (λ i. omega arith))))));
  size = memory_length;
  memory = memory_below;
}

pub three_whole : reading_of (contents_file three) ≡ right (file 400 2000 (2 ∷ 1 ∷ 3 ∷ []) (15 ∷ 1 ∷ 9 ∷ 4 ∷ 5 ∷ 0x0A0B0C0D ∷ []) memory)
unfolding three
three_whole = says_all.whole three three_sayable

pub three_cut : answer_of (fed (fed no_read (take 60 (contents_file three))) (drop 60 (contents_file three))) ≡ right (file 400 2000 (2 ∷ 1 ∷ 3 ∷ []) (15 ∷ 1 ∷ 9 ∷ 4 ∷ 5 ∷ 0x0A0B0C0D ∷ []) memory)
unfolding three
three_cut = says_all.cut three three_sayable (take 60 (contents_file three)) (drop 60 (contents_file three)) (take-append-drop 60 (contents_file three))

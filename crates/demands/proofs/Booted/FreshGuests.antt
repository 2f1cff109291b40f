-- Each guest of a booted house is a lone machine that starts.
use mathlib.Core.Path.{◌≡◌, ap, ◌∙◌}
use Prim.Native.Nat.{ℕ, ◌+◌, ◌*◌, ◌/◌, ◌%◌, ◌<◌}
use native.Mathlib.Omega.{arith}
use lib.ListN.{length, get_or}
use Rattle.dlx.specs.declared.partition.Partition.{Partition}
use Rattle.addresses.specs.Memory.{host_word}
use Rattle.house.specs.Lists.{list_from}
use Rattle.house.specs.House.{frames_of}
use Rattle.demands.specs.Histories.{Boot, booted, own_words, lone_of, lone_at_boot}
use Rattle.house.proofs.Lists.ByRule.{list_from_same}
use Rattle.demands.proofs.Booted.FreshHouse.{booted_few, booted_partition, booted_frames, booted_registers}

module _ (b : Boot) (i : ℕ) (l : i < length b.pages) where
  booted_words : own_words (booted b) i ≡ (lone_at_boot b i).1.words
  unfolding lone_at_boot
  booted_words =
      ap (λ (p : Partition). list_from (host_word (frames_of (booted b).house i) b.memory) 0 (p.pages * 1024)) (booted_partition b i l)
      ∙ list_from_same _ _ 0 (get_or b.pages i 0 * 1024) λ j m.
      ap (λ (f : ℕ). get_or b.memory (f * 1024 + j % 1024) 0) (booted_frames b i l (j / 1024) (omega arith))

  pub booted_lone : lone_of (booted b) i ≡ lone_at_boot b i
  unfolding lone_of lone_at_boot
  booted_lone = rw (booted_partition b i l, booted_registers b i (omega (arith, booted_few b)), booted_words)

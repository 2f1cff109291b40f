-- A list whose every element is by a rule; and words set from one place on.
use Rattle.std.proofs.Common.{◌≡◌, ℕ, ◌+◌, ◌-◌, ◌<◌, min, ◌&&◌, leb, ltb, List, length, get_or, sym, ◌∙◌, arith, rules, lt-ltb, le-ltb, le-leb, inl, inr}
use borrow.Author.Tests.{lt-leb}
use Rattle.std.proofs.lemmas.Bool.{cases_lt}
use Rattle.std.proofs.lemmas.List.{places}
use Rattle.std.proofs.Math.Seq.{ext_get_or}
use borrow.Rule.Slice.PartMut.{put_mid}
use Rattle.dlx.specs.Choice.{when◌then◌else◌}
use Rattle.house.specs.Lists.{list_from}
use Rattle.house.proofs.Lists.ByRule.{length_list_from, list_from_at}
use Rattle.drill_script.specs.Words.{filled_of}

pub by_rule : (f : ℕ → ℕ) (s : List ℕ) (n : ℕ) → length s ≡ n → ((k : ℕ) → k < n → get_or s k 0 ≡ f k) → s ≡ list_from f 0 n
by_rule f s n e h = ext_get_or 0 s (list_from f 0 n) (e ∙ sym (length_list_from f 0 n)) λ k l. let b : k < n = omega arith in h k b ∙ sym (list_from_at f 0 n k b)

module _ (s v : List ℕ) (a k from count value : ℕ)
    (first : a ≡ min from (length s)) (many : k ≡ min (a + count) (length s) - a)
    (n : length v ≡ k) (each : (i : ℕ) → i < k → get_or v i 0 ≡ value) where
  pub part_filled : put_mid a k s v ≡ filled_of s from count value
  unfolding filled_of
  part_filled = by_rule (λ j. when leb from j && ltb j (from + count) then value else get_or s j 0) (put_mid a k s v) (length s) (search (rules, places)) λ j l.
      elim (cases_lt j a) [
        | inl b ↦ rw (lt-leb from j (omega arith)) (search (rules, places))
        | inr b ↦ elim (cases_lt j (a + k)) [
          | inl d ↦ let f : get_or v (j - a) 0 ≡ value = each (j - a) (omega arith) in rw (le-leb from j (omega arith), lt-ltb j (from + count) (omega arith)) (grind (arith, places))
          | inr d ↦ rw (le-leb from j (omega arith), le-ltb j (from + count) (omega arith)) (search (rules, places))
        ]
      ]

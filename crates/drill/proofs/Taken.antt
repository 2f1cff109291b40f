-- Words that were taken to the front of a space.
use Rattle.std.proofs.Common.{◌≡◌, ℕ, ◌+◌, ◌*◌, ◌≤◌, List, ◌++◌, length, take, sym, refl, ap, ◌∙◌, arith, length-take-le, take_at}
use Rattle.house.specs.Lists.{list_from}
use Rattle.house.proofs.Lists.ByRule.{length_list_from, list_from_same}
use Rattle.drill_script.specs.Words.{word_at}

-- n places at the front of a space, k of which is n
pub front_length : (s : List ℕ) (n k m : ℕ) → n ≡ k → k ≤ m → m ≤ length s → length (take n s) ≡ n
front_length s n k m e a b = length-take-le n s (omega arith)

module _ (more l d s : List ℕ) (n k m : ℕ) (e : n ≡ k) (a : k ≤ m) (b : m ≤ length s) (at to : ℕ) (t : at ≡ to) where
  pub front_taken : l ≡ list_from (λ i. word_at more (at + 4 * i)) 0 (length (take n s)) → take n (l ++ d) ≡ list_from (λ i. word_at more (to + 4 * i)) 0 k
  front_taken p =
      let x : length (take n s) ≡ n = front_length s n k m e a b in
      let y : l ≡ list_from (λ i. word_at more (at + 4 * i)) 0 n = p ∙ ap (list_from (λ i. word_at more (at + 4 * i)) 0) x in
      take_at l d n (ap length y ∙ length_list_from (λ i. word_at more (at + 4 * i)) 0 n)
      ∙ y
      ∙ rw (t, e)

pub from_front : (more : List ℕ) (n : ℕ) → list_from (λ i. word_at more (0 + 4 * i)) 0 n ≡ list_from (λ i. word_at more (4 * i)) 0 n
from_front more n = list_from_same (λ i. word_at more (0 + 4 * i)) (λ i. word_at more (4 * i)) 0 n λ i _. ap (word_at more) (omega arith)

module _ (more l d s : List ℕ) (n k m : ℕ) (e : n ≡ k) (a : k ≤ m) (b : m ≤ length s) (at : ℕ) where
  pub front_count : l ≡ list_from (λ i. word_at more (at + 4 * i)) 0 (length (take n s)) → n ≡ length (take n (l ++ d))
  front_count p = e ∙ sym (ap length (front_taken more l d s n k m e a b at at refl p) ∙ length_list_from (λ i. word_at more (at + 4 * i)) 0 k)

-- What read-out cites: an output whose first words are by a rule, one word more; the lent frame list; the bound.
use Rattle.std.proofs.Common.{◌≡◌, ℕ, zero, suc, ◌+◌, ◌-◌, ◌*◌, ◌/◌, ◌<◌, ◌≤◌, List, [], ◌∷◌, ◌++◌, length, get_or, take, drop, set, sym, ap, ◌∙◌, append_assoc, add-one, arith, drop-cons, append-nil, length-take-le}
use Rattle.std.proofs.lemmas.List.{drop_all}
use native.Mathlib.Nat.{add-sub_cancel_left}
use lib.Seq.{set-append_seam}
use Rattle.addresses.specs.Memory.{host_word}
use Rattle.addresses.specs.Premises.{Placed}
use Rattle.dlx.specs.Parts.{inner}
use Rattle.house.specs.Lists.{list_from}
use Rattle.house.specs.House.{pages_of, frames_of}
use Rattle.house.specs.Turns.{world}
use Rattle.house.specs.Calls.{read_out}
use Rattle.house.specs.declared.House.{House}
use Rattle.house.proofs.Calls.Verdicts.{ReadDone}
use Rattle.house.proofs.Lists.ByRule.{length_list_from}

list_from_last : (f : ℕ → ℕ) (k n : ℕ) → list_from f k (suc n) ≡ list_from f k n ++ (f (k + n) ∷ [])
unfolding list_from
list_from_last f k zero = ap (λ (x : ℕ). f x ∷ []) (omega arith)
list_from_last f k (suc n) =
    let e : suc k + n ≡ k + suc n = omega arith in
    ap (λ (l : List ℕ). f k ∷ l) (list_from_last f (suc k) n ∙ ap (λ (x : ℕ). list_from f (suc k) n ++ (f x ∷ [])) e)

pub word_more : (f : ℕ → ℕ) (o : List ℕ) (j : ℕ) → j < length o → set (list_from f 0 j ++ drop j o) j (f j) ≡ list_from f 0 (j + 1) ++ drop (j + 1) o
word_more f o j h =
    let l = length_list_from f 0 j in
    let z : 0 + j ≡ j = omega arith in
    ap (λ (d : List ℕ). set (list_from f 0 j ++ d) j (f j)) (drop-cons o j 0 h)
    ∙ ap (λ (x : ℕ). set (list_from f 0 j ++ (get_or o j 0 ∷ drop (suc j) o)) x (f j)) (sym l)
    ∙ set-append_seam (list_from f 0 j) (get_or o j 0) (drop (suc j) o) (f j)
    ∙ sym (append_assoc (list_from f 0 j) (f j ∷ []) (drop (suc j) o))
    ∙ ap (λ (l : List ℕ). l ++ drop (suc j) o) (ap (λ (x : ℕ). list_from f 0 j ++ (f x ∷ [])) (sym z) ∙ sym (list_from_last f 0 j))
    ∙ ap (λ (x : ℕ). list_from f 0 x ++ drop x o) (sym (add-one j))

-- all of the first n words of the output
pub words_all : (f : ℕ → ℕ) (o : List ℕ) (n j : ℕ) → j ≡ n → n ≤ length o → list_from f 0 j ++ drop j (take n o) ≡ list_from f 0 n
words_all f o n j e h =
    let d : drop n (take n o) ≡ [] = drop_all n (take n o) (omega (arith, length-take-le n o h)) in
    rw (e, d) (append-nil (list_from f 0 n))

-- the frame list that read-out lends
pub lent_placed : (h : House) (size i j pages : ℕ) → j ≡ i → pages ≡ pages_of h i → Placed (frames_of h i) (pages_of h i) size → Placed (take (j * 256 + 256 - j * 256) (drop (j * 256) h.frames)) pages size
unfolding inner
lent_placed h size i j pages p q d = rw (p, q) (simp add-sub_cancel_left d)

-- a read-out that nothing refuses, in the terms in which its parts are lent
module _ (h : House) (m : List ℕ) (i a n : ℕ) (out : List ℕ) (d : ReadDone (world h m) i a n out) where
  pub within_pages : (pages w : ℕ) → pages ≡ pages_of h i → w ≡ a / 4 → w + n ≤ pages * 1024
  within_pages pages w p q = let b = d.within in omega (arith, b)

  pub read_words : (j w : ℕ) (out' : List ℕ) → j ≡ i → w ≡ a / 4 → out' ≡ list_from (λ k. host_word (take (j * 256 + 256 - j * 256) (drop (j * 256) h.frames)) m (w + k)) 0 n ++ drop n out → out' ≡ read_out (world h m) i a n out
  unfolding read_out inner
  read_words j w out' p q e = simp (add-sub_cancel_left, p, q) at e

-- A frame list read byte by byte, and the last @ of a word.
use Rattle.std.proofs.Common.{◌≡◌, ◌≢◌, ℕ, zero, suc, ◌+◌, ◌<◌, ◌≤◌, Option, Some, Result, Ok, Err, ok_or, List, [], ◌∷◌, length, get_or, drop, sym, refl, ap, ◌∙◌, add-one, arith, drop_of_length-le, drop-cons, eq-eqb, ne_eqb}
use Rattle.std.specs.Prelude.{option_map, unwrap_or}
use borrow.Author.Tests.{eqb-true, eqb-false}
use lib.Dec.{eqb}
use Rattle.dlx.proofs.Tests.{by_test}
use Rattle.command.specs.Words.{with_digit}
use Rattle.asked.specs.Words.{Rowed, rowed, no_row, row_ended, row_took, row_fed, row_finished, row_of, counted, last_at}
use Rattle.asked.specs.declared.words.Row.{Row}

pub row_digit : (at : ℕ) (r : Row) (frames : List ℕ) (b so_far : ℕ) (d : Option ℕ) → b ≢ 44 → so_far ≡ unwrap_or r.number 0 → d ≡ with_digit 4294967295 (Some so_far) b
    → rowed (ok_or (option_map (λ n. record { number = Some n; count = r.count }) d) (Some r.count)) frames ≡ row_took at r frames b
unfolding row_took
row_digit at r frames b so_far d n u e = rw (e, u, ne_eqb b 44 n)

pub fed_on : (at : ℕ) (r : Row) (frames : List ℕ) {g x : Rowed} (word : List ℕ) (i : ℕ) → i < length word → row_fed at (rowed (Ok r) frames) (drop i word) ≡ x → g ≡ row_took at r frames (get_or word i 0)
    → row_fed at g (drop (i + 1) word) ≡ x
unfolding row_fed
fed_on at r frames {g} {x} word i l e t =
    ap (λ (y : Rowed). row_fed at y (drop (i + 1) word)) t
    ∙ ap (λ (n : ℕ). row_fed at (row_took at r frames (get_or word i 0)) (drop n word)) (add-one i)
    ∙ ap (row_fed at (rowed (Ok r) frames)) (sym (drop-cons word i 0 l))
    ∙ e

pub fed_done : (at : ℕ) (g : Rowed) {x : Rowed} (word : List ℕ) (i : ℕ) → length word ≤ i → row_fed at g (drop i word) ≡ x → g ≡ x
unfolding row_fed
fed_done at g {x} word i l e = ap (row_fed at g) (sym (drop_of_length-le word {i = i} l)) ∙ e

-- behind a wrong byte nothing is looked at
pub fed_wrong : (at : ℕ) (n : Option ℕ) (frames word : List ℕ) → row_fed at (rowed (Err n) frames) word ≡ rowed (Err n) frames
unfolding row_fed
fed_wrong at n frames [] = refl
fed_wrong at n frames (b ∷ bs) = refl

-- ---- the last @, from the end

pub last_found : (word : List ℕ) (n m : ℕ) → n < m → m ≤ length word → get_or word n 0 ≡ 64 → ((k : ℕ) → n + 1 ≤ k → k < length word → get_or word k 0 ≢ 64) → n ≡ last_at word m
unfolding last_at
last_found word n zero l r h a = absurd (omega arith)
last_found word n (suc m) l r h a =
    by_test (eqb n m)
    (λ e. let z = eqb-true n m e in z ∙ sym (simp (eq-eqb (get_or word m 0) 64 (ap (λ (i : ℕ). get_or word i 0) (sym z) ∙ h))))
    (λ e. let z = eqb-false n m e in last_found word n m (omega (arith, z)) (omega arith) h a ∙ sym (simp (ne_eqb (get_or word m 0) 64 (a m (omega (arith, z)) (omega arith)))))

pub last_none : (word : List ℕ) (m : ℕ) → m ≤ length word → ((k : ℕ) → k < length word → get_or word k 0 ≢ 64) → length word ≡ last_at word m
unfolding last_at
last_none word zero r a = refl
last_none word (suc m) r a = last_none word m (omega arith) a ∙ sym (simp (ne_eqb (get_or word m 0) 64 (a m (omega arith))))

-- ---- the whole word

pub row_empty : (at : ℕ) (frames word : List ℕ) → length word ≡ 0 → rowed (Ok no_row) frames ≡ row_of at frames word
unfolding row_of
row_empty at frames [] e = refl
row_empty at frames (b ∷ bs) e = absurd (omega arith)

pub row_whole : (at : ℕ) (frames word : List ℕ) (r : Row) (frames' : List ℕ) → (length word ≡ 0 → ⊥) → rowed (Ok r) frames' ≡ row_fed at (rowed (Ok no_row) frames) word → row_ended at r frames' ≡ row_of at frames word
unfolding row_of
row_whole at frames [] r frames' n e = absurd (n refl)
row_whole at frames (b ∷ bs) r frames' n e = ap (row_finished at) e

pub row_wrong : (at : ℕ) (k : Option ℕ) (frames word frames' : List ℕ) → (length word ≡ 0 → ⊥) → rowed (Err k) frames' ≡ row_fed at (rowed (Ok no_row) frames) word → rowed (Err k) frames' ≡ row_of at frames word
unfolding row_of
row_wrong at k frames [] frames' n e = absurd (n refl)
row_wrong at k frames (b ∷ bs) frames' n e = ap (row_finished at) e

-- ---- what row_of answers

module _ {x : Rowed} {frames : List ℕ} where
  pub count_either : {r : Result Row (Option ℕ)} → rowed r frames ≡ x → (elim r [ Ok r ↦ Ok r.count | Err n ↦ Err n ]) ≡ counted x
  unfolding counted
  count_either e = ap counted e

  pub count_is : {r : Row} → rowed (Ok r) frames ≡ x → Ok r.count ≡ counted x
  count_is = count_either

  pub count_wrong : {n : Option ℕ} → rowed (Err n) frames ≡ x → Err n ≡ counted x
  count_wrong = count_either

  pub frames_are : {r : Result Row (Option ℕ)} → rowed r frames ≡ x → frames ≡ x.frames
  frames_are e = ap (λ (y : Rowed). y.frames) e

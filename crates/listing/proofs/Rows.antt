-- The rows of the code are those of the table.
use Rattle.std.proofs.Common.{◌≡◌, ℕ, suc, ◌+◌, ◌<◌, ◌≤◌, List, [], ◌∷◌, length, get_or, drop, map, zero, refl, sym, ap, ◌∙◌, add-one, drop-cons, drop_of_length-le, eq-eqb, ne_eqb, arith}
use Rattle.lines.specs.Table.{named, unnamed, row_at}
use Rattle.lines.specs.Lines.{place_from}
use Rattle.listing.specs.Rows.{as_row}
use Rattle.listing.specs.declared.table.Row.{Row as TableRow}
use lib.ListN.{get_or-eq_default}

-- ---- a search: what is left to search from here is what was to search from the start

module _ (xs : List ℕ) (n i : ℕ) where
  place_on : (t : ℕ) → i < length xs → (get_or xs i 0 ≡ n → ⊥) → place_from i (drop i xs) n ≡ t → place_from (i + 1) (drop (i + 1) xs) n ≡ t
  unfolding place_from
  place_on t l d e = rw (add-one i) (rw (drop-cons xs i 0 l, ne_eqb (get_or xs i 0) n d, place_from) at e)

  place_found : i < length xs → get_or xs i 0 ≡ n → place_from i (drop i xs) n ≡ i
  unfolding place_from
  place_found l d = rw (drop-cons xs i 0 l, eq-eqb (get_or xs i 0) n d, place_from)

  place_none : length xs ≤ i → place_from i (drop i xs) n ≡ i
  unfolding place_from
  place_none l = rw (drop_of_length-le xs l)

-- ---- rows by a key

map_length : {A B : Type 0} (f : A → B) (xs : List A) → length (map f xs) ≡ length xs
map_length f [] = refl
map_length f (x ∷ xs) = ap suc (map_length f xs)

map_at : {A B : Type 0} (f : A → B) (xs : List A) (d : A) (e : B) (i : ℕ) → i < length xs → get_or (map f xs) i e ≡ f (get_or xs i d)
map_at f [] d e i l = absurd (omega arith)
map_at f (x ∷ xs) d e zero l = refl
map_at f (x ∷ xs) d e (suc i) l = map_at f xs d e i (omega arith)

-- the rows are those of the table, and their keys these
pub record Keyed (rows : List TableRow) (key : TableRow → ℕ) (keys : List ℕ) : Type 0 where
  pub same : map as_row rows ≡ named
  pub keyed : map key rows ≡ keys

module _ {rows : List TableRow} {key : TableRow → ℕ} {keys : List ℕ} (k : Keyed rows key keys) where
  keys_length : length keys ≡ length rows
  keys_length = sym (ap length k.keyed) ∙ map_length key rows

  named_rows : length named ≡ length rows
  named_rows = sym (ap length k.same) ∙ map_length as_row rows

  at : (d : TableRow) (i : ℕ) → i < length rows → get_or keys i 0 ≡ key (get_or rows i d)
  at d i l = rw (← k.keyed) (map_at key rows d 0 i l)

  pub row_none : (i n : ℕ) {t : ℕ} → length rows ≤ i → place_from i (drop i keys) n ≡ t → unnamed ≡ row_at t
  unfolding row_at
  row_none i n {t} l e =
      let z : i ≡ t = sym (place_none keys n i (omega (arith, keys_length))) ∙ e in
      rw (← z) (sym (get_or-eq_default named unnamed {n = i} (omega (arith, named_rows))))

  module _ (d : TableRow) (i n : ℕ) {t : ℕ} where
    pub row_on : i < length rows → (key (get_or rows i d) ≡ n → ⊥) → place_from i (drop i keys) n ≡ t → place_from (i + 1) (drop (i + 1) keys) n ≡ t
    row_on l other e = place_on keys n i t (omega (arith, keys_length)) (λ z. other (sym (at d i l) ∙ z)) e

    pub row_found : i < length rows → key (get_or rows i d) ≡ n → place_from i (drop i keys) n ≡ t → as_row (get_or rows i d) ≡ row_at t
    unfolding row_at
    row_found l this e =
        let z : i ≡ t = sym (place_found keys n i (omega (arith, keys_length)) (at d i l ∙ this)) ∙ e in
        rw (← z, ← k.same) (sym (map_at as_row rows d unnamed i l))

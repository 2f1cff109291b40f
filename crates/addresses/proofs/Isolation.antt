-- Two hosts that agree on a partition's table, shadow and frames answer it alike, whatever else differs and whether its shadow is right or wrong.
use Rattle.std.specs.Prelude.{Ok}
use mathlib.Core.Path.{◌≡◌, refl, ap}
use mathlib.Core.Bool.{Bool, true, false, not}
use mathlib.Core.List.{List}
use Prim.Native.Nat.{ℕ, ◌+◌, ◌*◌, ◌/◌, ◌%◌, ◌<◌}
use native.Mathlib.Omega.{arith}
use lib.Dec.{eqb}
use lib.ListN.{length, get_or, set, length-set}
use Rattle.dlx.specs.declared.partition.Table.{Table}
use Rattle.dlx.proofs.Like.{Both, Like}
use Rattle.addresses.specs.Entries.{number, valid, protection}
use Rattle.addresses.specs.Memory.{Host, host, hosted, given, filled, looked, served, host_read, host_written, host_reads, host_writes, emptied, host_memory}
use Rattle.addresses.specs.Premises.{Placed, Own, Shadowed}
use borrow.Author.Tests.{not-false}
use Rattle.dlx.proofs.Tests.{either_both, set_both}
use Rattle.addresses.proofs.Entries.{walked_same, Owned, own_inside, fresh_shadowed}
use Rattle.addresses.proofs.Shadow.{place_page, served_state, served_own, served_shadowed, emptied_shadowed, Untouched, stored_untouched}

-- The hosts h and h', whose words were base and base': table, shadow and own frames are the same, all else is as in base and in base'.
pub record Alike (fr : List ℕ) (n : ℕ) (base base' : List ℕ) (h h' : Host) : Type 0 where
  pub table : h.table ≡ h'.table
  pub shadow : h.shadow ≡ h'.shadow
  pub shadowed : Shadowed fr n h.shadow
  pub size : length h.words ≡ length base
  pub size' : length h'.words ≡ length base'
  pub own : (k j : ℕ) → k < n → j < 1024 → get_or h.words (get_or fr k 0 * 1024 + j) 0 ≡ get_or h'.words (get_or fr k 0 * 1024 + j) 0
  pub others : Untouched fr n base h.words
  pub others' : Untouched fr n base' h'.words

module _ {fr base base' : List ℕ} {n : ℕ} {h h' : Host} (r : Alike fr n base base' h h') where
  given_same : (px : ℕ) → given fr n h.table h.words px ≡ given fr n h'.table h'.words px
  unfolding given
  given_same px =
      rw r.table (ap (hosted fr) (walked_same _ _ n h'.table px λ l l' l''.
      rw (place_page fr h'.table.pto px (omega arith)) (r.own h'.table.pto px l'' (omega arith))))

  -- both are served by one entry, and fill one entry
  served_same : (user : Bool) (a : ℕ)
      → ((served fr n h user a).0 ≡ (served fr n h' user a).0) × ((served fr n h user a).1.shadow ≡ (served fr n h' user a).1.shadow)
  unfolding served looked filled
  served_same true a =
      let e = given fr n h.table h.words (a / 4096) in
      rw (← (given_same (a / 4096)), ← r.shadow)
      (either_both (λ (g g' : ℕ × Host). (g.0 ≡ g'.0) × (g.1.shadow ≡ g'.1.shadow)) (valid (get_or h.shadow (a / 4096) 0))
      (λ _. (refl, refl))
      (λ _. (refl, either_both (λ (s s' : Host). s.shadow ≡ s'.shadow) (valid e) (λ _. refl) (λ _. refl))))
  served_same false a = (refl, r.shadow)

  -- another table and another shadow, the same in both
  retabled : {t t' : Table} {sh sh' : List ℕ} → t ≡ t' → sh ≡ sh' → Shadowed fr n sh → Alike fr n base base' (host t h.words sh) (host t' h'.words sh')
  retabled e e' k = record {
    table = e;
    shadow = e';
    shadowed = k;
    size = r.size;
    size' = r.size';
    own = r.own;
    others = r.others;
    others' = r.others';
  }

  served_alike : (user : Bool) (a : ℕ) → Alike fr n base base' (served fr n h user a).1 (served fr n h' user a).1
  served_alike user a =
      rw (served_state fr n h user a, served_state fr n h' user a)
      (retabled r.table (served_same user a).1 (served_shadowed fr n h r.shadowed user a))

  own_same : (f j : ℕ) → Own fr n f → j < 1024 → get_or h.words (f * 1024 + j) 0 ≡ get_or h'.words (f * 1024 + j) 0
  own_same f j o l = rw (← o.2) (r.own o.0 j o.1 l)

  read_same : (a e : ℕ) → Owned fr n e → host_read h a e ≡ host_read h' a e
  unfolding host_read
  read_same a e o = either_both ◌≡◌ (valid e) (λ q. ap Ok (own_same (number e) (a / 4 % 1024) (o q) (omega arith))) (λ _. refl)

  module _ (F : Placed fr n (length base)) (F' : Placed fr n (length base')) where
    stored_alike : (f off x : ℕ) → Own fr n f → off < 1024
        → Alike fr n base base' (host h.table (set h.words (f * 1024 + off) x) (emptied fr n h.table f off h.shadow))
        (host h'.table (set h'.words (f * 1024 + off) x) (emptied fr n h'.table f off h'.shadow))
    stored_alike f off x o ho =
        let i = own_inside F o in
        let i' = own_inside F' o in
        record {
          table = r.table;
          shadow = rw (r.table, r.shadow);
          shadowed = emptied_shadowed fr n h.table f off h.shadow r.shadowed;
          size = simp length-set r.size;
          size' = simp length-set r.size';
          own = λ k j hk hj. set_both h.words h'.words (f * 1024 + off) (f * 1024 + off) _ _ x (omega arith) (omega arith) (λ q. q) (λ q. q) (r.own k j hk hj);
          others = stored_untouched fr n base h.words f off x o ho r.others;
          others' = stored_untouched fr n base' h'.words f off x o ho r.others';
        }

    written_same : (a : ℕ) (f : ℕ → ℕ) (e : ℕ) → Owned fr n e
        → Both (Alike fr n base base') (host_written fr n h a f e) (host_written fr n h' a f e)
    unfolding host_written
    written_same a f e o =
        either_both (Both (Alike fr n base base')) (not (valid e)) (λ _. record { same = refl; rest = r }) λ v.
        either_both (Both (Alike fr n base base')) (eqb (protection e) 1) (λ _. record { same = refl; rest = r }) λ _.
        let m = o (not-false _ v) in
        rw (own_same (number e) (a / 4 % 1024) m (omega arith)) (record { same = refl; rest = stored_alike (number e) (a / 4 % 1024) _ m (omega arith) })

-- What a guest gets, and what it leaves in its frames, depends on nothing outside them.
pub isolation : (fr base base' : List ℕ) (n : ℕ) → Placed fr n (length base) → Placed fr n (length base') → Like (Alike fr n base base') (host_memory fr n) (host_memory fr n)
unfolding host_reads host_writes
isolation fr base base' n F F' = record {
  tables = λ h h' r. r.table;
  reads = λ h h' r user a.
      let m = served_alike r user a in
      record { same = rw (← (served_same r user a).0) (read_same m a _ (served_own fr n h r.shadowed user a)); rest = m };
  writes = λ h h' r user a f. rw (← (served_same r user a).0) (written_same (served_alike r user a) F F' a f _ (served_own fr n h r.shadowed user a));
  retables = λ h h' r t. retabled r refl refl fresh_shadowed;
}

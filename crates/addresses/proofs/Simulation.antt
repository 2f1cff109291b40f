-- The shadowed memory is the lone memory: related, they answer every access alike and stay related.
use mathlib.Core.Path.{◌≡◌, refl, sym, ap, subst, ◌∙◌}
use mathlib.Core.Bool.{Bool, true, false}
use mathlib.Core.List.{List}
use Prim.Native.Nat.{ℕ, ◌+◌, ◌*◌, ◌/◌, ◌%◌, ◌<◌}
use native.Mathlib.Omega.{arith}
use lib.Dec.{eqb}
use lib.ListN.{length, get_or, set, length-set, length-replicate}
use Rattle.dlx.specs.declared.partition.Table.{Table}
use Rattle.dlx.proofs.Like.{Both, Like}
use Rattle.dlx.proofs.Kept.{either, get_or_set_elim}
use Rattle.addresses.specs.Entries.{valid, Found, fault, found}
use Rattle.addresses.specs.Walk.{entries, walked}
use Rattle.addresses.specs.Memory.{Lone, lone, lone_word, lone_found, lone_read, lone_written, lone_memory, word_in, Host, host, place, hosted, given, stale, looked, served, host_read, host_written, host_reads, host_writes, emptied, fresh_shadow, host_memory}
use Rattle.addresses.specs.Premises.{Placed, Own, Shadowed}
use Rattle.dlx.proofs.Tests.{by_test, set_both}
use Rattle.addresses.proofs.Entries.{number_entry, valid_entry, protection_entry, fault_invalid, Within, found_within, walked_same, given_own}
use Rattle.addresses.proofs.Stale.{stale_denied, not_stale, empty_not_stale, fresh_not_stale}
use Rattle.addresses.proofs.Shadow.{place_page, serving, emptied_each, emptied_count, given_missed, Untouched, stored_untouched}

-- The lone memory s and the host h, whose words were base: its pages agree, no entry of its shadow is stale, all else is as in base.
pub record Right (fr : List ℕ) (n : ℕ) (base : List ℕ) (s : Lone) (h : Host) : Type 0 where
  pub table : s.table ≡ h.table
  pub pages : length s.words ≡ n * 1024
  pub size : length h.words ≡ length base
  pub agree : (i : ℕ) → i < n * 1024 → get_or s.words i 0 ≡ get_or h.words (place fr i) 0
  pub count : length h.shadow ≡ entries
  pub shadow : (px : ℕ) → stale fr n h.table h.words px (get_or h.shadow px 0) ≡ false
  pub others : Untouched fr n base h.words

module _ {fr base : List ℕ} {n : ℕ} where
  -- with a fresh shadow all that is asked is that the pages agree
  pub right_empty : (t : Table) (lw hw : List ℕ) → length lw ≡ n * 1024 → length hw ≡ length base
      → ((i : ℕ) → i < n * 1024 → get_or lw i 0 ≡ get_or hw (place fr i) 0) → Untouched fr n base hw
      → Right fr n base (lone t lw) (host t hw fresh_shadow)
  right_empty t lw hw l l' e u = record {
    table = refl;
    pages = l;
    size = l';
    agree = e;
    count = length-replicate {A = ℕ} entries 0;
    shadow = fresh_not_stale fr n t hw;
    others = u;
  }

module _ {fr base : List ℕ} {n : ℕ} {s : Lone} {h : Host} (r : Right fr n base s h) where
  -- every change of PTO and PTL empties the shadow
  pub right_retable : (t : Table) → Right fr n base (lone t s.words) (host t h.words fresh_shadow)
  right_retable t = right_empty t s.words h.words r.pages r.size r.agree r.others

  -- emptying the shadow alone
  pub right_emptied : Right fr n base s (host h.table h.words fresh_shadow)
  right_emptied = subst (λ t. Right fr n base s (host t h.words fresh_shadow)) r.table (right_retable s.table)

  -- a valid entry is what is given
  right_entry : (px : ℕ) → valid (get_or h.shadow px 0) ≡ true → get_or h.shadow px 0 ≡ given fr n h.table h.words px
  right_entry px = stale_denied fr n h.table h.words px _ (r.shadow px)

  -- the frames of a right shadow are own
  pub right_shadowed : Shadowed fr n h.shadow
  right_shadowed = record { count = r.count; own = λ px q. let e = right_entry px q in rw e (given_own fr n h.table h.words px (rw e at q)) }

  -- ---- the search

  given_lone : (px : ℕ) → given fr n h.table h.words px ≡ hosted fr (walked (lone_word s) n s.table px)
  unfolding given
  given_lone px = rw r.table (ap (hosted fr) (sym (walked_same _ _ n h.table px (λ l l' l''. r.agree _ (omega arith)))))

  -- the shadow gives what the guest's table and then the host's list give
  pub reach : (user : Bool) (a : ℕ) → (served fr n h user a).0 ≡ hosted fr (lone_found n s user a)
  unfolding served looked lone_found
  reach true a =
      either (λ (g : ℕ × Host). g.0 ≡ hosted fr (walked (lone_word s) n s.table (a / 4096))) (valid (get_or h.shadow (a / 4096) 0))
      (λ q. right_entry (a / 4096) q ∙ given_lone (a / 4096))
      (λ _. given_lone (a / 4096))
  reach false a = refl

  right_served : (user : Bool) (a : ℕ) → Right fr n base s (served fr n h user a).1
  right_served user a =
      serving fr n (Right fr n base s) h user a r λ px _. record {
        table = r.table;
        pages = r.pages;
        size = r.size;
        agree = r.agree;
        count = simp length-set r.count;
        shadow = λ j. get_or_set_elim (λ e. stale fr n h.table h.words j e ≡ false) h.shadow px j _ 0 (λ q. not_stale fr n h.table h.words j _ (λ _. rw q)) (r.shadow j);
        others = r.others;
      }

  -- ---- the access

  page_same : (k a : ℕ) → k < n → get_or s.words (word_in k a) 0 ≡ get_or h.words (word_in (get_or fr k 0) a) 0
  page_same k a l = r.agree (word_in k a) (omega arith) ∙ rw (place_page fr k (a / 4 % 1024) (omega arith))

  read_same : (a : ℕ) (g : Found) → Within n g → lone_read s a g ≡ host_read h a (hosted fr g)
  unfolding lone_read host_read hosted
  read_same a (fault x) w = rw (fault_invalid x w)
  read_same a (found k p) w = rw (valid_entry (get_or fr k 0) p w.1, number_entry (get_or fr k 0) p w.1, page_same k a w.0)

  module _ (F : Placed fr n (length base)) where
    right_stored : (k off x : ℕ) → k < n → off < 1024
        → Right fr n base (lone s.table (set s.words (k * 1024 + off) x))
        (host h.table (set h.words (get_or fr k 0 * 1024 + off) x) (emptied fr n h.table (get_or fr k 0) off h.shadow))
    right_stored k off x hk ho =
        let f = get_or fr k 0 in
        let o : Own fr n f = (k, hk, refl) in
        record {
          table = r.table;
          pages = simp length-set r.pages;
          size = simp length-set r.size;
          agree = λ i hi. set_both s.words h.words (k * 1024 + off) (f * 1024 + off) i (place fr i) x (omega arith) (omega (arith, F.inside k hk))
              (λ q. rw q (place_page fr k off ho))
              (λ q. let e : i / 1024 ≡ k = F.distinct (i / 1024) k (omega arith) hk (omega arith) in omega arith)
              (r.agree i hi);
          count = emptied_count fr n h.table f off h.shadow ∙ r.count;
          shadow = λ px. emptied_each fr n (λ e. stale fr n h.table (set h.words (f * 1024 + off) x) px e ≡ false) h.table f off h.shadow px
              (empty_not_stale fr n h.table (set h.words (f * 1024 + off) x) px)
              (λ m. not_stale fr n h.table (set h.words (f * 1024 + off) x) px _ (λ q. right_entry px q ∙ sym (given_missed fr n h.table h.words f off x px ho m)));
          others = stored_untouched fr n base h.words f off x o ho r.others;
        }

    written_same : (a : ℕ) (f : ℕ → ℕ) (g : Found) → Within n g → Both (Right fr n base) (lone_written s a f g) (host_written fr n h a f (hosted fr g))
    unfolding lone_written host_written hosted
    written_same a f (fault x) w = rw (fault_invalid x w) (record { same = refl; rest = r })
    written_same a f (found k p) w =
        rw (valid_entry (get_or fr k 0) p w.1, protection_entry (get_or fr k 0) p w.1, number_entry (get_or fr k 0) p w.1, page_same k a w.0)
        (by_test (eqb p 1)
        (λ q. rw q (record { same = refl; rest = r }))
        (λ q. rw q (record { same = refl; rest = right_stored k (a / 4 % 1024) _ w.0 (omega arith) })))

-- A guest sees its own lone memory through the shadow, and changes no word outside its frames.
pub simulation : (fr base : List ℕ) (n : ℕ) → Placed fr n (length base) → Like (Right fr n base) (lone_memory n) (host_memory fr n)
unfolding host_reads host_writes
simulation fr base n F = record {
  tables = λ s h r. r.table;
  reads = λ s h r user a.
      let m = right_served r user a in
      record { same = read_same m a _ (found_within n s user a) ∙ rw (reach r user a); rest = m };
  writes = λ s h r user a f. rw (reach r user a) (written_same (right_served r user a) F a f _ (found_within n s user a));
  retables = λ s h r. right_retable r;
}

-- What both memories keep at every access: every number a word, the lengths, and of the host that the shadow's frames are its own.
use Prim.{Unit, tt}
use Rattle.std.specs.Prelude.{Result}
use mathlib.Core.Path.{◌≡◌, ap}
use mathlib.Core.Bool.{Bool, false, not}
use mathlib.Core.List.{List}
use Prim.Native.Nat.{ℕ, ◌*◌, ◌/◌, ◌%◌, ◌^◌, ◌<◌}
use native.Mathlib.Omega.{arith}
use borrow.Author.Tests.{not-true}
use lib.Dec.{eqb}
use lib.ListN.{length, get_or, replicate, length-set}
use Rattle.dlx.specs.declared.partition.Table.{Table}
use Rattle.dlx.proofs.Kept.{either, get_or_set_elim, KeptTable, KeptAccess, KeptStore, Keeps}
use Rattle.addresses.specs.Entries.{number, valid, protection, Found, fault, found}
use Rattle.addresses.specs.Walk.{entries}
use Rattle.addresses.specs.Memory.{word_in, updated, Lone, lone_read, lone_written, lone_memory, Host, host, served, host_read, host_written, host_reads, host_writes, emptied, host_memory}
use Rattle.addresses.specs.Premises.{Listed, Shadowed}
use Rattle.dlx.proofs.Tests.{get_or_replicate_same}
use Rattle.addresses.proofs.Entries.{Within, found_within, given_word, fresh_shadowed}
use Rattle.addresses.proofs.Shadow.{serving, served_state, served_fault, served_shadowed, emptied_each, emptied_shadowed}

-- a fresh list of words
pub zeros_words : (m i : ℕ) → get_or (replicate m 0) i 0 < 2 ^ 32
zeros_words m i = rw (get_or_replicate_same m 0 i) (omega arith)

updated_words : (ws : List ℕ) (i : ℕ) (f : ℕ → ℕ) → ((w : ℕ) → w < 2 ^ 32 → f w < 2 ^ 32) → ((j : ℕ) → get_or ws j 0 < 2 ^ 32) → (j : ℕ) → get_or (updated ws i f) j 0 < 2 ^ 32
updated_words ws i f l k j = get_or_set_elim (λ w. w < 2 ^ 32) ws i j _ 0 (λ _. l _ (k i)) (k j)

-- ---- the lone memory

pub record KeptLone (n : ℕ) (s : Lone) : Type 0 where
  pub table : KeptTable s.table
  pub long : length s.words ≡ n * 1024
  pub words : (i : ℕ) → get_or s.words i 0 < 2 ^ 32

module _ {n : ℕ} {s : Lone} (k : KeptLone n s) where
  lone_read_kept : (a : ℕ) (g : Found) → Within n g → KeptAccess (lone_read s a g)
  unfolding lone_read
  lone_read_kept a (fault x) w = w
  lone_read_kept a (found p q) w = k.words _

  lone_written_kept : (a : ℕ) (f : ℕ → ℕ) → ((w : ℕ) → w < 2 ^ 32 → f w < 2 ^ 32) → (g : Found) → Within n g → KeptStore (lone_written s a f g).0 × KeptLone n (lone_written s a f g).1
  unfolding lone_written
  lone_written_kept a f l (fault x) w = (w, k)
  lone_written_kept a f l (found p q) w =
      either (λ (g : Result (Unit {0}) ℕ × Lone). KeptStore g.0 × KeptLone n g.1) (eqb q 1) (λ _. (omega arith, k))
      (λ _. (tt, record { table = k.table; long = simp length-set k.long; words = updated_words s.words (word_in p a) f l k.words }))

-- every access keeps KeptLone
pub lone_keeps : (n : ℕ) → Keeps (KeptLone n) (lone_memory n)
lone_keeps n = record {
  tables = λ s k. k.table;
  reads = λ s k user a. (lone_read_kept k a _ (found_within n s user a), k);
  writes = λ s k user a f l. lone_written_kept k a f l _ (found_within n s user a);
  retables = λ s k t l. record { table = l; long = k.long; words = k.words };
}

-- ---- the host

module _ (fr : List ℕ) (n : ℕ) where
  -- a read changes only the shadow, and keeps its frames own
  pub reads_table : (h : Host) (user : Bool) (a : ℕ) → (host_reads fr n h user a).1.table ≡ h.table
  unfolding host_reads
  reads_table h user a = ap (λ s. s.table) (served_state fr n h user a)

  pub reads_words : (h : Host) (user : Bool) (a : ℕ) → (host_reads fr n h user a).1.words ≡ h.words
  unfolding host_reads
  reads_words h user a = ap (λ s. s.words) (served_state fr n h user a)

  pub reads_shadowed : (h : Host) → Shadowed fr n h.shadow → (user : Bool) (a : ℕ) → Shadowed fr n (host_reads fr n h user a).1.shadow
  unfolding host_reads
  reads_shadowed = served_shadowed fr n

  -- a store is refused, or stores one word and empties
  written : (P : Host → Type 0) (s : Host) (a : ℕ) (f : ℕ → ℕ) (e : ℕ) → P s
      → P (host s.table (updated s.words (word_in (number e) a) f) (emptied fr n s.table (number e) (a / 4 % 1024) s.shadow))
      → P (host_written fr n s a f e).1
  unfolding host_written
  written P s a f e p q =
      either (λ (g : Result (Unit {0}) ℕ × Host). P g.1) (not (valid e)) (λ _. p) λ _.
      either (λ (g : Result (Unit {0}) ℕ × Host). P g.1) (eqb (protection e) 1) (λ _. p) (λ _. q)

  -- a write keeps the shadow's frames own, and the length of the words
  pub writes_shadowed : (h : Host) → Shadowed fr n h.shadow → (user : Bool) (a : ℕ) (f : ℕ → ℕ) → Shadowed fr n (host_writes fr n h user a f).1.shadow
  unfolding host_writes
  writes_shadowed h k user a f =
      let m = served_shadowed fr n h k user a in
      written (λ s. Shadowed fr n s.shadow) _ a f _ m (emptied_shadowed fr n _ _ _ _ m)

  pub writes_length : (h : Host) (user : Bool) (a : ℕ) (f : ℕ → ℕ) → length (host_writes fr n h user a f).1.words ≡ length h.words
  unfolding host_writes
  writes_length h user a f =
      let m = ap (λ s. length s.words) (served_state fr n h user a) in
      written (λ s. length s.words ≡ length h.words) _ a f _ m (simp length-set m)

pub record KeptHost (fr : List ℕ) (n size : ℕ) (h : Host) : Type 0 where
  pub table : KeptTable h.table
  pub long : length h.words ≡ size
  pub words : (i : ℕ) → get_or h.words i 0 < 2 ^ 32
  pub shadowed : Shadowed fr n h.shadow
  pub shadow : (px : ℕ) → get_or h.shadow px 0 < 2 ^ 32

module _ {fr : List ℕ} {n size : ℕ} {h : Host} (k : KeptHost fr n size h) where
  -- another table and another shadow
  retabled : {t : Table} {sh : List ℕ} → KeptTable t → Shadowed fr n sh → ((px : ℕ) → get_or sh px 0 < 2 ^ 32) → KeptHost fr n size (host t h.words sh)
  retabled t m l = record { table = t; long = k.long; words = k.words; shadowed = m; shadow = l }

  served_kept : Listed fr n → (user : Bool) (a : ℕ) → KeptHost fr n size (served fr n h user a).1
  served_kept L user a =
      rw (served_state fr n h user a)
      (retabled k.table (served_shadowed fr n h k.shadowed user a)
      (serving fr n (λ s. (j : ℕ) → get_or s.shadow j 0 < 2 ^ 32) h user a k.shadow λ px _ j.
      get_or_set_elim (λ e. e < 2 ^ 32) h.shadow px j _ 0 (λ _. given_word fr n L h.table h.words px) (k.shadow j)))

  read_kept : (a e : ℕ) → (valid e ≡ false → e < 8) → KeptAccess (host_read h a e)
  unfolding host_read
  read_kept a e l = either KeptAccess (valid e) (λ _. k.words _) l

  answer_kept : (a : ℕ) (f : ℕ → ℕ) (e : ℕ) → (valid e ≡ false → e < 8) → KeptStore (host_written fr n h a f e).0
  unfolding host_written
  answer_kept a f e l =
      either (λ (g : Result (Unit {0}) ℕ × Host). KeptStore g.0) (not (valid e)) (λ v. l (not-true _ v)) λ _.
      either (λ (g : Result (Unit {0}) ℕ × Host). KeptStore g.0) (eqb (protection e) 1) (λ _. omega arith) (λ _. tt)

  written_kept : (a : ℕ) (f : ℕ → ℕ) (e : ℕ) → ((w : ℕ) → w < 2 ^ 32 → f w < 2 ^ 32) → KeptHost fr n size (host_written fr n h a f e).1
  written_kept a f e l =
      let off = a / 4 % 1024 in
      written fr n (KeptHost fr n size) h a f e k (record {
        table = k.table;
        long = simp length-set k.long;
        words = updated_words h.words (word_in (number e) a) f l k.words;
        shadowed = emptied_shadowed fr n h.table (number e) off h.shadow k.shadowed;
        shadow = λ px. emptied_each fr n (λ w. w < 2 ^ 32) h.table (number e) off h.shadow px (omega arith) (λ _. k.shadow px);
      })

-- every access keeps KeptHost
pub host_keeps : (fr : List ℕ) (n size : ℕ) → Listed fr n → Keeps (KeptHost fr n size) (host_memory fr n)
unfolding host_reads host_writes
host_keeps fr n size L = record {
  tables = λ h k. k.table;
  reads = λ h k user a. let m = served_kept k L user a in (read_kept m a _ (served_fault fr n h k.shadowed user a), m);
  writes = λ h k user a f l. let m = served_kept k L user a in (answer_kept m a f _ (served_fault fr n h k.shadowed user a), written_kept m a f _ l);
  retables = λ h k t l. retabled k l fresh_shadowed (zeros_words entries);
}

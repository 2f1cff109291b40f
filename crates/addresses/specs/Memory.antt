-- The lone memory and the shadowed memory, as two instances of `dlx`'s memory.
use Rattle.std.specs.Prelude.{Bool, not, ◌&&◌, List, ℕ, ◌+◌, ◌*◌, ◌/◌, ◌%◌, ltb, eqb, get_or, set, replicate, Result, Ok, Err}
use Prim.{Unit, tt}
use Rattle.dlx.specs.Choice.{when◌then◌else◌}
use Rattle.dlx.specs.Machine.{Ops}
use Rattle.dlx.specs.declared.partition.Table.{Table}
use Rattle.addresses.specs.Entries.{number, valid, protection, entry_of, Found, fault, found, protected_page}
use Rattle.addresses.specs.Walk.{entries, walked, direct}

-- the word of page or frame k that the byte address a names
abbrev pub word_in : ℕ → ℕ → ℕ
word_in k a = k * 1024 + a / 4 % 1024

abbrev pub updated : List ℕ → ℕ → (ℕ → ℕ) → List ℕ
updated l i f = set l i (f (get_or l i 0))

-- ---- the lone memory: a machine's own n pages as one list of words

pub record Lone : Type 0 where
  pub table : Table
  pub words : List ℕ

abbrev pub lone : Table → List ℕ → Lone
lone t ws = record { table = t; words = ws }

abbrev pub lone_word : Lone → ℕ → ℕ
lone_word s i = get_or s.words i 0

unfoldable pub lone_found : ℕ → Lone → Bool → ℕ → Found
lone_found n s user a = when user then walked (lone_word s) n s.table (a / 4096) else direct n a

unfoldable pub lone_read : Lone → ℕ → Found → Result ℕ ℕ
lone_read s a (fault x) = Err x
lone_read s a (found k p) = Ok (lone_word s (word_in k a))

unfoldable pub lone_written : Lone → ℕ → (ℕ → ℕ) → Found → Result (Unit {0}) ℕ × Lone
lone_written s a f (fault x) = (Err x, s)
lone_written s a f (found k p) =
    when eqb p 1 then (Err protected_page, s) else (Ok tt, lone s.table (updated s.words (word_in k a) f))

abbrev pub lone_memory : ℕ → Ops Lone
lone_memory n = record {
  table = λ s. s.table;
  read = λ s user a. (lone_read s a (lone_found n s user a), s);
  write = λ s user a f. lone_written s a f (lone_found n s user a);
  retable = λ s t. lone t s.words;
}

-- ---- the shadowed memory: the host's words, the frame list fr of n pages, and the shadow table

pub record Host : Type 0 where
  pub table : Table
  pub words : List ℕ
  pub shadow : List ℕ

abbrev pub host : Table → List ℕ → List ℕ → Host
host t ws sh = record { table = t; words = ws; shadow = sh }

-- guest page k is the k-th frame of its list: where the guest's word i lies
abbrev pub place : List ℕ → ℕ → ℕ
place fr i = get_or fr (i / 1024) 0 * 1024 + i % 1024

abbrev pub host_word : List ℕ → List ℕ → ℕ → ℕ
host_word fr ws i = get_or ws (place fr i) 0

-- a fault stands as its number, in which bit 11 is 0
unfoldable pub hosted : List ℕ → Found → ℕ
hosted fr (fault x) = x
hosted fr (found k p) = entry_of (get_or fr k 0) p

-- the shadow entry that the guest's table and the host's list give now, or the fault
unfoldable pub given : List ℕ → ℕ → Table → List ℕ → ℕ → ℕ
given fr n t ws px = hosted fr (walked (host_word fr ws) n t px)

-- An entry e of the shadow, of page px, is stale where it is valid and is not what table and list give now: another frame, another protection, or a fault.
unfoldable pub stale : List ℕ → ℕ → Table → List ℕ → ℕ → ℕ → Bool
stale fr n t ws px e = valid e && not (eqb e (given fr n t ws px))

unfoldable pub filled : Host → ℕ → ℕ → Host
filled s px e = when valid e then host s.table s.words (set s.shadow px e) else s

-- a valid entry serves as it stands; otherwise the guest's table decides, and the entry is filled
unfoldable pub looked : List ℕ → ℕ → Host → ℕ → ℕ × Host
looked fr n s px =
    when valid (get_or s.shadow px 0) then (get_or s.shadow px 0, s) else
    (given fr n s.table s.words px, filled s px (given fr n s.table s.words px))

-- the entry that serves an access at the byte address a, or the fault
unfoldable pub served : List ℕ → ℕ → Host → Bool → ℕ → ℕ × Host
served fr n s user a = when user then looked fr n s (a / 4096) else (hosted fr (direct n a), s)

unfoldable pub host_read : Host → ℕ → ℕ → Result ℕ ℕ
host_read s a e = when valid e then Ok (get_or s.words (word_in (number e) a) 0) else Err e

-- A store into word `off` of the frame f hits entry `off` of the table where f holds page PTO: the 1,024 entries fill exactly that one page.
unfoldable pub emptied : List ℕ → ℕ → Table → ℕ → ℕ → List ℕ → List ℕ
emptied fr n t f off sh =
    when ltb t.pto n && eqb (get_or fr t.pto 0) f && ltb off t.ptl && ltb off entries then set sh off 0 else sh

-- the data access, then emptying
unfoldable pub host_written : List ℕ → ℕ → Host → ℕ → (ℕ → ℕ) → ℕ → Result (Unit {0}) ℕ × Host
host_written fr n s a f e =
    when not (valid e) then (Err e, s) else
    when eqb (protection e) 1 then (Err protected_page, s) else
    (Ok tt, host s.table (updated s.words (word_in (number e) a) f) (emptied fr n s.table (number e) (a / 4 % 1024) s.shadow))

unfoldable pub host_reads : List ℕ → ℕ → Host → Bool → ℕ → Result ℕ ℕ × Host
host_reads fr n s user a = let g = served fr n s user a in (host_read g.1 a g.0, g.1)

unfoldable pub host_writes : List ℕ → ℕ → Host → Bool → ℕ → (ℕ → ℕ) → Result (Unit {0}) ℕ × Host
host_writes fr n s user a f = let g = served fr n s user a in host_written fr n g.1 a f g.0

-- a fresh shadow table
abbrev pub fresh_shadow : List ℕ
fresh_shadow = replicate entries 0

abbrev pub host_memory : List ℕ → ℕ → Ops Host
host_memory fr n = record {
  table = λ s. s.table;
  read = host_reads fr n;
  write = host_writes fr n;
  retable = λ s t. host t s.words fresh_shadow;
}

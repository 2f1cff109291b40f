-- What holds of the empty entry, and of the entry of every own frame with either protection, every access keeps of each shadow entry.
use Prim.{Unit}
use Rattle.std.specs.Prelude.{Result}
use mathlib.Core.Path.{◌≡◌, sym, ◌∙◌}
use mathlib.Core.Bool.{Bool, true, not, false≢true}
use mathlib.Core.List.{List}
use Prim.Native.Nat.{ℕ, ◌/◌, ◌%◌, ◌<◌}
use lib.Dec.{eqb}
use lib.ListN.{get_or}
use Rattle.dlx.specs.declared.partition.Table.{Table}
use Rattle.dlx.proofs.Kept.{either, get_or_set_elim, Keeps}
use Rattle.addresses.specs.Entries.{number, valid, protection, entry_of, Found, fault, found}
use Rattle.addresses.specs.Walk.{entries}
use Rattle.addresses.specs.Memory.{Host, hosted, given, served, host_written, host_reads, host_writes, host_memory}
use Rattle.addresses.specs.Premises.{Listed}
use Rattle.dlx.proofs.Tests.{get_or_replicate_same}
use Rattle.addresses.proofs.Entries.{fault_invalid, Within, walked_within}
use Rattle.addresses.proofs.Shadow.{serving, emptied_each}
use Rattle.addresses.proofs.Kept.{KeptHost, host_keeps}

-- P holds of every entry of the shadow
abbrev pub Each : (ℕ → Type 0) → Host → Type 0
Each P h = (px : ℕ) → P (get_or h.shadow px 0)

module _ (fr : List ℕ) (n : ℕ) (P : ℕ → Type 0) (empty : P 0) (own : (k p : ℕ) → k < n → p < 2 → P (entry_of (get_or fr k 0) p)) where
  hosted_each : (g : Found) → Within n g → valid (hosted fr g) ≡ true → P (hosted fr g)
  unfolding hosted
  hosted_each (fault x) h v = absurd (false≢true (sym (fault_invalid x h) ∙ v))
  hosted_each (found k p) h v = own k p h.0 h.1

  given_each : (t : Table) (ws : List ℕ) (px : ℕ) → valid (given fr n t ws px) ≡ true → P (given fr n t ws px)
  unfolding given
  given_each t ws px = hosted_each _ (walked_within _ n t px)

  served_each : (h : Host) → Each P h → (user : Bool) (a : ℕ) → Each P (served fr n h user a).1
  served_each h k user a =
      serving fr n (Each P) h user a k λ px v j. get_or_set_elim P h.shadow px j _ 0 (λ _. given_each h.table h.words px v) (k j)

  written_each : (h : Host) → Each P h → (a : ℕ) (f : ℕ → ℕ) (e : ℕ) → Each P (host_written fr n h a f e).1
  unfolding host_written
  written_each h k a f e =
      either (λ (g : Result (Unit {0}) ℕ × Host). Each P g.1) (not (valid e)) (λ _. k) λ _.
      either (λ (g : Result (Unit {0}) ℕ × Host). Each P g.1) (eqb (protection e) 1) (λ _. k)
      (λ _ px. emptied_each fr n P h.table (number e) (a / 4 % 1024) h.shadow px empty (λ _. k px))

  -- beside what the host keeps
  pub each_keeps : (size : ℕ) → Listed fr n → Keeps (λ h. KeptHost fr n size h × Each P h) (host_memory fr n)
  unfolding host_reads host_writes
  each_keeps size L =
      let K = host_keeps fr n size L in
      record {
        tables = λ h k. K.tables h k.0;
        reads = λ h k user a. let r = K.reads h k.0 user a in (r.0, (r.1, served_each h k.1 user a));
        writes = λ h k user a f l. let w = K.writes h k.0 user a f l in (w.0, (w.1, written_each _ (served_each h k.1 user a) a f _));
        retables = λ h k t l. (K.retables h k.0 t l, λ px. rw (get_or_replicate_same entries 0 px) empty);
      }

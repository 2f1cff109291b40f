-- Plain steps: what is seen without a walk, and the second half of a step of a spell.
use Rattle.std.specs.Prelude.{◌≡◌, ℕ, ◌/◌, ◌<◌, Bool, true, false, List, length, ◌==◌, nat_lt, slice_index}
use Rattle.dlx.specs.Choice.{when◌then◌else◌}
use Rattle.dlx.specs.Words.{plus}
use Rattle.dlx.specs.Processor.{user, went_to, no_timer, special_of}
use Rattle.dlx.specs.Machine.{Ops, Core, core, Desk, accessed_at}
use Rattle.dlx.specs.Spells.{plainly, passed}
use Rattle.dlx.specs.declared.partition.Table.{Table}
use Rattle.dlx.specs.declared.partition.Timer.{Timer}
use Rattle.dlx.specs.declared.partition.Processor.{Processor}
use Rattle.dlx.specs.declared.execute.Effect.{Effect}
use Rattle.tickets.specs.Queues.{Queues, desk}
use Rattle.addresses.specs.Walk.{direct}
use Rattle.addresses.specs.Memory.{hosted, host, host_memory}

-- the entry that serves an access without a walk
unfoldable pub seen_of : List ℕ → ℕ → List ℕ → Bool → ℕ → ℕ
seen_of fr n sh user a = when user then slice_index sh (a / 4096) else hosted fr (direct n a)

-- whether a frame holds the table
unfoldable pub holds_of : List ℕ → ℕ → Table → ℕ → Bool
holds_of fr n t f = when nat_lt t.pto n then (slice_index fr t.pto == f) else false

-- the frame that holds the table, or a number that is no frame's
unfoldable pub held_of : List ℕ → ℕ → Table → ℕ
held_of fr n t = when nat_lt t.pto n then slice_index fr t.pto else 4294967295

-- a list whose first numbers are the special registers by their numbers, but TCOUNT and TLOAD
abbrev pub Numbered : List ℕ → Processor → Table → Type 0
Numbered s p t = (length s ≡ 14) × ((n : ℕ) → n < 10 → slice_index s n ≡ special_of p t no_timer n)

-- a processor at another pair
abbrev pub pair_of : Processor → ℕ → ℕ → Processor
pair_of p d q = record {
  dpc = d;
  pc = q;
  sr = p.sr;
  esr = p.esr;
  eca = p.eca;
  epc = p.epc;
  edpc = p.edpc;
  edata = p.edata;
  mode = p.mode;
  emode = p.emode;
}

-- the second half of a step of a spell: whether its change is plain, and what is left
unfoldable pub performed : {S T : Type 0} → Ops S → Desk T → Core → Effect → S → T → ((Bool × Core) × S) × T
performed O D c e s q = let g = accessed_at O D c e s q in (((plainly g.0.0.0, passed g.0.0.1 g.0.0.0), g.0.1), g.1)

-- What an instruction asks for, e, is plain and done: PC stands y behind the page's first address, and then y'. It holds wherever DPC is, whatever the latest fault,
-- the timer and the queues are.
abbrev pub Does : List ℕ → ℕ → Processor → Table → ℕ → ℕ → ℕ → List ℕ → List ℕ → List ℕ → List ℕ → List ℕ → (Timer → Processor → Effect) → Type 0
Does fr n p t page y y' regs regs' ws ws' sh e =
    (dpc latest count i : ℕ) (k : Timer) (q : Queues) → (((true, core (went_to (pair_of p dpc (plus y page)) (plus y' page)) regs' latest k), host t ws' sh), q) ≡ performed (host_memory fr n) (desk count i) (core (pair_of p dpc (plus y page)) regs latest k) (e k (pair_of p dpc (plus y page))) (host t ws sh) q

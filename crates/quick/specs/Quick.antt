-- Plain steps on end: a page that is seen, and some steps of a spell.
use Rattle.std.specs.Prelude.{◌≡◌, ℕ, ◌+◌, ◌-◌, ◌*◌, ◌/◌, ◌%◌, ◌≤◌, Bool, true, not, ◌||◌, List, ◌==◌, nat_le}
use Rattle.dlx.specs.Machine.{core, fetched}
use Rattle.dlx.specs.Execute.{effect_of}
use Rattle.dlx.specs.Instructions.{instruction_of}
use Rattle.dlx.specs.Spells.{sunk, spell_from}
use Rattle.dlx.specs.declared.partition.Table.{Table}
use Rattle.dlx.specs.declared.partition.Timer.{Timer}
use Rattle.dlx.specs.declared.partition.Processor.{Processor}
use Rattle.tickets.specs.Queues.{Queues, desk}
use Rattle.addresses.specs.Entries.{number, valid}
use Rattle.addresses.specs.Memory.{host, host_memory}
use Rattle.plain.specs.Plain.{seen_of}

-- an address behind a page's first that no word of the page begins at
unfoldable pub away_of : ℕ → Bool
away_of x = not (x % 4 == 0) || nat_le 4096 x

-- a page's first address, and the place in the host's words where its frame begins
pub record Cached (fr : List ℕ) (n : ℕ) (sh : List ℕ) (user : Bool) (page base : ℕ) : Type 0 where
  pub first : page % 4096 ≡ 0
  pub good : valid (seen_of fr n sh user page) ≡ true
  pub begins : base ≡ number (seen_of fr n sh user page) * 1024

-- Some of k plain steps are made, and the rest of a spell's n steps is the same: it holds whatever the latest fault, the queues and the timer are.
abbrev pub Goes : List ℕ → ℕ → Table → List ℕ → ℕ → ℕ → Processor → List ℕ → List ℕ → Processor → List ℕ → List ℕ → Type 0
Goes fr n t sh k rest p regs ws p' regs' ws' =
    (rest ≤ k) × ((latest count i made : ℕ) (c : Timer) (q : Queues) → spell_from (host_memory fr n) (desk count i) rest (made + (k - rest)) (core p' regs' latest (sunk c (k - rest)), host t ws' sh) q ≡ spell_from (host_memory fr n) (desk count i) k made (core p regs latest c, host t ws sh) q)

-- A word with opcode 62 or 63, a trap's and rfe's, is the one that is fetched at DPC.
abbrev pub Found : List ℕ → ℕ → Table → List ℕ → Processor → List ℕ → List ℕ → ℕ → Type 0
Found fr n t sh p regs ws w =
    62 ≤ w / 67108864 → (latest : ℕ) (k : Timer) → fetched (host_memory fr n) (core p regs latest k, host t ws sh) ≡ ((effect_of p t k regs (instruction_of w), core p regs latest k), host t ws sh)

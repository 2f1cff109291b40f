-- What a step asks for and changes names registers that exist, and a step keeps the number of registers.
use Rattle.std.specs.Prelude.{Result, Ok, Err}
use mathlib.Core.Path.{◌≡◌, refl, ◌∙◌}
use mathlib.Core.Bool.{true, ◌&&◌}
use mathlib.Core.List.{List}
use Prim.Native.Nat.{ℕ, ◌<◌}
use Prim.{Unit, tt}
use native.Mathlib.Omega.{arith}
use lib.Dec.{eqb}
use lib.ListN.{length, set, length-set}
use Rattle.dlx.specs.Fields.{aligned, width, placed}
use Rattle.dlx.specs.Instructions.{instruction_of, Formed}
use Rattle.dlx.specs.Processor.{user}
use Rattle.dlx.specs.Interrupts.{unmasked}
use Rattle.dlx.specs.Execute.{written, overflows_of, operated, reached, loads, stores, in_system, moved_to, trap_of, effect_of}
use Rattle.dlx.specs.Machine.{Reply, Ops, Core, executed, after_read, after_write, fetched, loaded, stored, accessed, received, left, handled, changed, settled, step, Places, Asks}
use Rattle.dlx.specs.declared.partition.Table.{Table}
use Rattle.dlx.specs.declared.partition.Processor.{Processor}
use Rattle.dlx.specs.declared.partition.Timer.{Timer}
use Rattle.dlx.specs.declared.instruction.Operation.{Operation}
use Rattle.dlx.specs.declared.instruction.Instruction.{Instruction}
use Rattle.dlx.specs.declared.instruction.Instruction.TheVariants.{LoadBy, StoreBy, Immediate, Lhgi, Beqz, Bnez, Jr, Jalr, J, Jal, Trap, Rfe, Register, Movs2i, Movi2s, Ill}
use Rattle.dlx.specs.declared.execute.Change.{Change}
use Rattle.dlx.specs.declared.execute.Change.TheVariants.{Plain, Special, Retable, Cause, Return}
use Rattle.dlx.specs.declared.execute.Effect.{Effect}
use Rattle.dlx.specs.declared.execute.Effect.TheVariants.{Done, Load, Store, Send, Take}
use Rattle.dlx.proofs.Kept.{either, instruction_formed}

operated_places : (op : Operation) (d x y sr next : ℕ) → d < 32 → Asks (operated op d x y sr next)
unfolding operated
operated_places op d x y sr next l = either Asks (unmasked 6 sr && overflows_of op x y) (λ _. omega arith) (λ _. l)

reached_places : (o a : ℕ) (e : Effect) → (aligned (width o) a ≡ true → Asks e) → Asks (reached o a e)
unfolding reached
reached_places o a e h = either Asks (aligned (width o) a) h (λ _. omega arith)

moved_places : (t : Table) (n v : ℕ) → Places (moved_to t n v)
unfolding moved_to
moved_places t n v = either Places (eqb n 7) (λ _. tt) λ _. either Places (eqb n 8) (λ _. tt) λ _. tt

system_places : (p : Processor) (e : Effect) → Asks e → Asks (in_system p e)
system_places p e h = either Asks (user p) (λ _. omega arith) (λ _. h)

trap_places : (p : Processor) (v to i : ℕ) → Asks (trap_of p v to i)
unfolding trap_of
trap_places p v to i =
    either Asks (user p) (λ _. omega arith) λ _. either Asks (eqb i 256) (λ _. tt) λ _. either Asks (eqb i 257) (λ _. tt) λ _. omega arith

effect_places : (p : Processor) (t : Table) (k : Timer) (r : List ℕ) (i : Instruction) → Formed i → Asks (effect_of p t k r i)
unfolding effect_of loads stores
effect_places p t k r (LoadBy o s i d) f = reached_places o _ _ λ e. (f.1, f.0, e)
effect_places p t k r (StoreBy o s i d) f = reached_places o _ _ λ e. (f.0, e)
effect_places p t k r (Immediate op d s i) f = operated_places op d _ _ _ _ f.0
effect_places p t k r (Lhgi d i) f = f.0
effect_places p t k r (Beqz s i) f = omega arith
effect_places p t k r (Bnez s i) f = omega arith
effect_places p t k r (Jr s) f = omega arith
effect_places p t k r (Jalr s) f = omega arith
effect_places p t k r (J i) f = omega arith
effect_places p t k r (Jal i) f = omega arith
effect_places p t k r (Trap i) f = trap_places p _ _ i
effect_places p t k r Rfe f = system_places p _ tt
effect_places p t k r (Register op d s s') f = operated_places op d _ _ _ _ f.0
effect_places p t k r (Movs2i d n) f = system_places p _ f.0
effect_places p t k r (Movi2s n s) f = system_places p _ (moved_places t n _)
effect_places p t k r Ill f = omega arith

executed_places : (c : Core) (t : Table) (x : Result ℕ ℕ) → Asks (executed c t x)
unfolding executed
executed_places c t (Err n) = omega arith
executed_places c t (Ok w) = effect_places _ t _ _ (instruction_of w) (instruction_formed w)

module _ {S : Type 0} (O : Ops S) where
  pub fetched_places : (c : Core) (s : S) → Asks (fetched O (c, s)).0.0
  unfolding fetched
  fetched_places c s =
      either (λ (g : (Effect × Core) × S). Asks g.0.0) (aligned 32 c.processor.dpc) (λ _. executed_places c _ _) (λ _. omega arith)

  pub accessed_places : (y : Reply) (c : Core) (e : Effect) (s : S) → Asks e → Places (accessed O y c e s).0.0
  unfolding accessed loaded stored
  accessed_places y c (Done x) s h = h
  accessed_places y c (Send v to) s h = omega arith
  accessed_places y c Take s h = omega arith
  accessed_places y c (Load d a o) s h = go (O.read s (user c.processor) a).0
    where
      go : (x : Result ℕ ℕ) → Places (loaded c.processor d a o x)
      go (Err n) = omega arith
      go (Ok w) = h.0
  accessed_places y c (Store o a v) s h = go (O.write s (user c.processor) a (placed o a v)).0
    where
      go : (x : Result (Unit {0}) ℕ) → Places (stored c.processor a x)
      go (Err n) = omega arith
      go (Ok u) = omega arith

-- ---- how many registers there are

pub written_count : (r : List ℕ) (d v : ℕ) → length (written r d v) ≡ length r
unfolding written
written_count r d v = either (λ (l : List ℕ). length l ≡ length r) (eqb d 0) {x = r} {y = set r d v} (λ _. refl) (λ _. length-set r d v)

left_count : (raise : ℕ) (c : Core) → length (left raise c).core.registers ≡ length c.registers
unfolding left
left_count raise c = either (λ (x : Core). length x.registers ≡ length c.registers) (eqb raise 0) (λ _. refl) (λ _. refl)

changed_count : (raise : ℕ) (c : Core) (x : Change) → length (changed raise c x).core.registers ≡ length c.registers
unfolding changed handled
changed_count raise c (Plain d v target) = left_count raise _ ∙ written_count c.registers d v
changed_count raise c (Special n v) = left_count raise _
changed_count raise c (Retable t) = left_count raise _
changed_count raise c (Cause causes datum) = refl
changed_count raise c Return = left_count raise _

settled_count : (c : Core) (x : Change) → length (settled c x).core.registers ≡ length c.registers
unfolding settled
settled_count c x = changed_count _ _ x

after_read_count : (c : Core) (x : Result ℕ ℕ) → length (after_read c x).registers ≡ length c.registers
unfolding after_read
after_read_count c (Err n) = refl
after_read_count c (Ok w) = refl

pub fetched_count : {S : Type 0} (O : Ops S) (c : Core) (s : S) → length (fetched O (c, s)).0.1.registers ≡ length c.registers
unfolding fetched
fetched_count {S = S} O c s =
    either (λ (g : (Effect × Core) × S). length g.0.1.registers ≡ length c.registers) (aligned 32 c.processor.dpc) (λ _. after_read_count c _) (λ _. refl)

pub received_count : (r : List ℕ) (y : Reply) → length (received r y) ≡ length r
unfolding received
received_count r y =
    either (λ (l : List ℕ). length l ≡ length r) (eqb y.code 0) {x = written r 1 y.ticket} {y = r} (λ _. written_count r 1 y.ticket) (λ _. refl)

after_write_count : (c : Core) (x : Result (Unit {0}) ℕ) → length (after_write c x).registers ≡ length c.registers
unfolding after_write
after_write_count c (Err n) = refl
after_write_count c (Ok u) = refl

pub accessed_count : {S : Type 0} (O : Ops S) (y : Reply) (c : Core) (e : Effect) (s : S) → length (accessed O y c e s).0.1.registers ≡ length c.registers
unfolding accessed
accessed_count O y c (Done x) s = refl
accessed_count O y c (Load d a o) s = after_read_count c _
accessed_count O y c (Store o a v) s = after_write_count c _
accessed_count O y c (Send v to) s = refl
accessed_count O y c Take s = received_count c.registers y

pub step_count : {S : Type 0} (O : Ops S) (y : Reply) (c : Core) (s : S) → length (step O y (c, s)).0.core.registers ≡ length c.registers
unfolding step
step_count O y c s = settled_count _ _ ∙ accessed_count O y _ _ _ ∙ fetched_count O c s

-- What a step keeps, over any memory that keeps something: every number a word, register 0 zero, MODE and EMODE below 2, 32 registers, the latest fault below 8.
use Rattle.std.specs.Prelude.{Result, Ok, Err}
use mathlib.Core.Path.{◌≡◌, refl, sym, ap}
use mathlib.Core.Bool.{Bool, true, false, ◌&&◌}
use mathlib.Core.List.{List, [], ◌∷◌}
use Prim.Native.Nat.{ℕ, zero, suc, ◌+◌, ◌*◌, ◌%◌, ◌^◌, ◌<◌, ◌≤◌}
use Prim.{Unit, tt}
use native.Mathlib.Nat.{mod-lt}
use native.Mathlib.Omega.{arith}
use borrow.Author.Tests.{leb-true, eqb-false}
use lib.Bits.{and_lt, or_lt, xor_lt}
use lib.Dec.{eqb, ltb, leb}
use lib.ListN.{length, get_or, set, length-set}
use mir.Val.{bool_byte}
use Rattle.dlx.specs.Choice.{when◌then◌else◌}
use Rattle.dlx.specs.Words.{holds, reading_of, opcode, sa, function, extended_by, extended}
use Rattle.dlx.specs.Fields.{place, field, aligned, width, signed, brought, placed}
use Rattle.dlx.specs.Processor.{user, special_of, with_special, with_count, went_to}
use Rattle.dlx.specs.Interrupts.{unmasked, level_of, interrupted, returned, saves_old, brings_datum}
use Rattle.dlx.specs.Timer.{ticked, raised}
use Rattle.dlx.specs.Instructions.{instruction_of, register_type, part_type, Formed}
use Rattle.dlx.specs.Execute.{reg, written, value_of, overflows_of, operated, reached, loads, stores, in_system, moved_to, trap_of, effect_of}
use Rattle.dlx.specs.Machine.{Reply, Ops, Core, executed, failing, after_read, after_write, fetched, loaded, stored, accessed, received, left, handled, changed, settled, retabled, step, Request, nothing, sends, takes, request_of, asked}
use Rattle.dlx.specs.declared.partition.Table.{Table}
use Rattle.dlx.specs.declared.partition.Processor.{Processor}
use Rattle.dlx.specs.declared.partition.Timer.{Timer}
use Rattle.dlx.specs.declared.instruction.Operation.{Operation}
use Rattle.dlx.specs.declared.instruction.Operation.TheVariants.{Add, Sub, And, Or, Xor, Test}
use Rattle.dlx.specs.declared.instruction.Instruction.{Instruction}
use Rattle.dlx.specs.declared.instruction.Instruction.TheVariants.{LoadBy, StoreBy, Immediate, Lhgi, Beqz, Bnez, Jr, Jalr, J, Jal, Trap, Rfe, Register, Movs2i, Movi2s, Ill}
use Rattle.dlx.specs.declared.execute.Change.{Change}
use Rattle.dlx.specs.declared.execute.Change.TheVariants.{Plain, Special, Retable, Cause, Return}
use Rattle.dlx.specs.declared.execute.Effect.{Effect}
use Rattle.dlx.specs.declared.execute.Effect.TheVariants.{Done, Load, Store, Send, Take}
use Rattle.dlx.proofs.Fields.{field_lt, either_width, placed_word}

-- a word
abbrev W : ℕ → Type 0
W x = x < 2 ^ 32

-- ---- cases on tests, and lists

-- a property of both branches, each under its test
pub either : {A : Type 0} (P : A → Type 0) (b : Bool) {x y : A} → (b ≡ true → P x) → (b ≡ false → P y) → P (when b then x else y)
either P true f g = f refl
either P false f g = g refl

-- an element after a store, in range or not
pub get_or_set_elim : {A : Type 0} (P : A → Type 0) (l : List A) (i j : ℕ) (a d : A) → (j ≡ i → P a) → P (get_or l j d) → P (get_or (set l i a) j d)
get_or_set_elim P [] i j a d f g = g
get_or_set_elim P (x ∷ xs) zero zero a d f g = f refl
get_or_set_elim P (x ∷ xs) zero (suc j) a d f g = g
get_or_set_elim P (x ∷ xs) (suc i) zero a d f g = g
get_or_set_elim P (x ∷ xs) (suc i) (suc j) a d f g = get_or_set_elim P xs i j a d (λ q. f (ap suc q)) g

-- ---- a word is read as an instruction that is formed

extended_lt : (h x : ℕ) → 0 < h → h ≤ 2 ^ 31 → extended_by h x < 2 ^ 32
unfolding extended_by
extended_lt h x p q =
    let m = mod-lt x {m = h * 2} (omega arith) in
    either (λ v. v < 2 ^ 32) (ltb (x % (h * 2)) h) (λ _. omega arith) (λ _. omega arith)

near : (w : ℕ) → extended 16 w < 2 ^ 32
near w = extended_lt (2 ^ 15) w (omega arith) (omega arith)

far : (w : ℕ) → extended 26 w < 2 ^ 32
far w = extended_lt (2 ^ 25) w (omega arith) (omega arith)

special_formed : (w : ℕ) (i : Instruction) → (sa w ≤ 11 → Formed i) → Formed (when leb (sa w) 11 then i else Ill)
special_formed w i f = either Formed (leb (sa w) 11) (λ e. f (leb-true (sa w) 11 e)) (λ _. tt)

register_formed : (w : ℕ) → Formed (register_type w)
unfolding register_type
register_formed w =
    either Formed (eqb (function w) 32) (λ _. omega arith) λ _.
    either Formed (eqb (function w) 34) (λ _. omega arith) λ _.
    either Formed (eqb (function w) 36) (λ _. omega arith) λ _.
    either Formed (eqb (function w) 37) (λ _. omega arith) λ _.
    either Formed (eqb (function w) 38) (λ _. omega arith) λ _.
    either Formed (leb 40 (function w) && leb (function w) 47) (λ _. omega arith) λ _.
    either Formed (eqb (function w) 16) (λ _. special_formed w _ λ h. (omega arith, h)) λ _.
    either Formed (eqb (function w) 17) (λ _. special_formed w _ λ h. (h, omega arith)) λ _.
    tt

part_formed : (w : ℕ) → Formed (part_type w)
unfolding part_type
part_formed w =
    either Formed (eqb (opcode w) 32) (λ _. (refl, omega arith, omega arith, near w)) λ _.
    either Formed (eqb (opcode w) 33) (λ _. (refl, omega arith, omega arith, near w)) λ _.
    either Formed (eqb (opcode w) 36) (λ _. (refl, omega arith, omega arith, near w)) λ _.
    either Formed (eqb (opcode w) 37) (λ _. (refl, omega arith, omega arith, near w)) λ _.
    either Formed (eqb (opcode w) 40) (λ _. (refl, omega arith, omega arith, near w)) λ _.
    either Formed (eqb (opcode w) 41) (λ _. (refl, omega arith, omega arith, near w)) λ _.
    tt

pub instruction_formed : (w : ℕ) → Formed (instruction_of w)
unfolding instruction_of
instruction_formed w =
    either Formed (eqb (opcode w) 35) (λ _. (refl, omega arith, omega arith, near w)) λ _.
    either Formed (eqb (opcode w) 43) (λ _. (refl, omega arith, omega arith, near w)) λ _.
    either Formed (eqb (opcode w) 8) (λ _. (omega arith, omega arith, near w)) λ _.
    either Formed (eqb (opcode w) 10) (λ _. (omega arith, omega arith, near w)) λ _.
    either Formed (eqb (opcode w) 12) (λ _. (omega arith, omega arith, near w)) λ _.
    either Formed (eqb (opcode w) 13) (λ _. (omega arith, omega arith, near w)) λ _.
    either Formed (eqb (opcode w) 14) (λ _. (omega arith, omega arith, near w)) λ _.
    either Formed (eqb (opcode w) 15) (λ _. (omega arith, near w)) λ _.
    either Formed (leb 24 (opcode w) && leb (opcode w) 31) (λ _. (omega arith, omega arith, near w)) λ _.
    either Formed (eqb (opcode w) 4) (λ _. (omega arith, near w)) λ _.
    either Formed (eqb (opcode w) 5) (λ _. (omega arith, near w)) λ _.
    either Formed (eqb (opcode w) 22) (λ _. omega arith) λ _.
    either Formed (eqb (opcode w) 23) (λ _. omega arith) λ _.
    either Formed (eqb (opcode w) 2) (λ _. far w) λ _.
    either Formed (eqb (opcode w) 3) (λ _. far w) λ _.
    either Formed (eqb (opcode w) 62) (λ _. far w) λ _.
    either Formed (eqb (opcode w) 63) (λ _. tt) λ _.
    either Formed (eqb (opcode w) 0) (λ _. register_formed w) λ _.
    part_formed w

-- ---- what a core and a change are made of

pub record Numbers (p : Processor) : Type 0 where
  pub dpc : p.dpc < 2 ^ 32
  pub pc : p.pc < 2 ^ 32
  pub sr : p.sr < 2 ^ 32
  pub esr : p.esr < 2 ^ 32
  pub eca : p.eca < 2 ^ 32
  pub epc : p.epc < 2 ^ 32
  pub edpc : p.edpc < 2 ^ 32
  pub edata : p.edata < 2 ^ 32
  pub mode : p.mode < 2
  pub emode : p.emode < 2

pub record Registers (r : List ℕ) : Type 0 where
  pub count : length r ≡ 32
  pub first : get_or r 0 0 ≡ 0
  pub words : (k : ℕ) → get_or r k 0 < 2 ^ 32

pub record KeptTimer (k : Timer) : Type 0 where
  pub tcount : k.tcount < 2 ^ 32
  pub tload : k.tload < 2 ^ 32

pub record Kept (c : Core) : Type 0 where
  pub processor : Numbers c.processor
  pub registers : Registers c.registers
  pub fault : c.fault < 8
  pub timer : KeptTimer c.timer

pub record KeptTable (t : Table) : Type 0 where
  pub pto : t.pto < 2 ^ 32
  pub ptl : t.ptl < 2 ^ 32

abbrev pub KeptChange : Change → Type 0
KeptChange (Plain d v target) = (d < 32) × (v < 2 ^ 32) × (target < 2 ^ 32)
KeptChange (Special n v) = v < 2 ^ 32
KeptChange (Retable t) = KeptTable t
KeptChange (Cause causes datum) = (causes < 2 ^ 13) × (datum < 2 ^ 32)
KeptChange Return = Unit

abbrev pub KeptEffect : Effect → Type 0
KeptEffect (Done c) = KeptChange c
KeptEffect (Load d a o) = (d < 32) × (a < 2 ^ 32)
KeptEffect (Store o a v) = (a < 2 ^ 32) × (aligned (width o) a ≡ true)
KeptEffect (Send v to) = (v < 2 ^ 32) × (to < 2 ^ 32)
KeptEffect Take = Unit

abbrev pub KeptAccess : Result ℕ ℕ → Type 0
KeptAccess (Err n) = n < 8
KeptAccess (Ok w) = w < 2 ^ 32

-- and so of a write's answer
abbrev pub KeptStore : Result (Unit {0}) ℕ → Type 0
KeptStore (Err n) = n < 8
KeptStore (Ok u) = Unit

abbrev pub KeptRequest : Request → Type 0
KeptRequest nothing = Unit
KeptRequest (sends v to) = (v < 2 ^ 32) × (to < 2 ^ 32)
KeptRequest takes = Unit

request_kept : (e : Effect) → KeptEffect e → KeptRequest (request_of e)
unfolding request_of
request_kept (Done c) h = tt
request_kept (Load d a o) h = tt
request_kept (Store o a v) h = tt
request_kept (Send v to) h = h
request_kept Take h = tt

pub record KeptReply (y : Reply) : Type 0 where
  pub code : y.code < 2 ^ 32
  pub ticket : y.ticket < 2 ^ 32

-- ---- the registers

written_kept : (r : List ℕ) (k v : ℕ) → Registers r → v < 2 ^ 32 → Registers (written r k v)
unfolding written
written_kept r k v h l =
    either Registers (eqb k 0) (λ _. h)
    (λ e. record {
      count = simp length-set h.count;
      first = get_or_set_elim (λ x. x ≡ 0) r k 0 v 0 (λ q. absurd (eqb-false k 0 e (sym q))) h.first;
      words = λ j. get_or_set_elim (λ x. x < 2 ^ 32) r k j v 0 (λ _. l) (h.words j);
    })

-- ---- the processor

module _ (p : Processor) (h : Numbers p) where
  went_kept : (target : ℕ) → target < 2 ^ 32 → Numbers (went_to p target)
  went_kept target l = record {
    dpc = h.pc;
    pc = l;
    sr = h.sr;
    esr = h.esr;
    eca = h.eca;
    epc = h.epc;
    edpc = h.edpc;
    edata = h.edata;
    mode = h.mode;
    emode = h.emode;
  }

  special_kept : (n v : ℕ) → v < 2 ^ 32 → Numbers (with_special p n v)
  unfolding with_special
  special_kept n v l = record {
    dpc = h.dpc;
    pc = h.pc;
    sr = either W (eqb n 0) (λ _. l) (λ _. h.sr);
    esr = either W (eqb n 1) (λ _. l) (λ _. h.esr);
    eca = either W (eqb n 2) (λ _. l) (λ _. h.eca);
    epc = either W (eqb n 3) (λ _. l) (λ _. h.epc);
    edpc = either W (eqb n 4) (λ _. l) (λ _. h.edpc);
    edata = either W (eqb n 5) (λ _. l) (λ _. h.edata);
    mode = either (λ x. x < 2) (eqb n 6) (λ _. omega arith) (λ _. h.mode);
    emode = either (λ x. x < 2) (eqb n 9) (λ _. omega arith) (λ _. h.emode);
  }

  interrupted_kept : (causes datum : ℕ) → causes < 2 ^ 32 → datum < 2 ^ 32 → Numbers (interrupted p causes datum)
  unfolding interrupted
  interrupted_kept causes datum l d = record {
    dpc = omega arith;
    pc = omega arith;
    sr = omega arith;
    esr = h.sr;
    eca = l;
    epc = either W (saves_old (level_of causes)) (λ _. h.pc) (λ _. omega arith);
    edpc = either W (saves_old (level_of causes)) (λ _. h.dpc) (λ _. h.pc);
    edata = either W (brings_datum (level_of causes)) (λ _. d) (λ _. h.edata);
    mode = omega arith;
    emode = h.mode;
  }

  returned_kept : Numbers (returned p)
  returned_kept = record {
    dpc = h.edpc;
    pc = h.epc;
    sr = h.esr;
    esr = h.esr;
    eca = h.eca;
    epc = h.epc;
    edpc = h.edpc;
    edata = h.edata;
    mode = h.emode;
    emode = h.emode;
  }

  special_read : (t : Table) (o : Timer) → KeptTable t → KeptTimer o → (n : ℕ) → special_of p t o n < 2 ^ 32
  unfolding special_of
  special_read t o k q n =
      either W (eqb n 0) (λ _. h.sr) λ _.
      either W (eqb n 1) (λ _. h.esr) λ _.
      either W (eqb n 2) (λ _. h.eca) λ _.
      either W (eqb n 3) (λ _. h.epc) λ _.
      either W (eqb n 4) (λ _. h.edpc) λ _.
      either W (eqb n 5) (λ _. h.edata) λ _.
      either W (eqb n 6) (λ _. omega (arith, h.mode)) λ _.
      either W (eqb n 7) (λ _. k.pto) λ _.
      either W (eqb n 8) (λ _. k.ptl) λ _.
      either W (eqb n 9) (λ _. omega (arith, h.emode)) λ _.
      either W (eqb n 10) (λ _. q.tcount) λ _.
      q.tload

-- ---- execute

byte_lt : (b : Bool) → bool_byte b < 2 ^ 32
byte_lt true = omega arith
byte_lt false = omega arith

value_lt : (op : Operation) (x y : ℕ) → x < 2 ^ 32 → y < 2 ^ 32 → value_of op x y < 2 ^ 32
unfolding value_of
value_lt Add x y h k = omega arith
value_lt Sub x y h k = omega arith
value_lt And x y h k = and_lt 32 x y h k
value_lt Or x y h k = or_lt 32 x y h k
value_lt Xor x y h k = xor_lt 32 x y h k
value_lt (Test n) x y h k = byte_lt (holds n (reading_of x) (reading_of y))

operated_kept : (op : Operation) (d x y sr next : ℕ) → d < 32 → x < 2 ^ 32 → y < 2 ^ 32 → next < 2 ^ 32 → KeptEffect (operated op d x y sr next)
unfolding operated
operated_kept op d x y sr next l h k n =
    either KeptEffect (unmasked 6 sr && overflows_of op x y)
    (λ _. (omega arith, omega arith))
    (λ _. (l, value_lt op x y h k, n))

reached_kept : (o a : ℕ) (e : Effect) → (aligned (width o) a ≡ true → KeptEffect e) → KeptEffect (reached o a e)
unfolding reached
reached_kept o a e h = either KeptEffect (aligned (width o) a) h (λ _. (omega arith, omega arith))

loads_kept : (o d x i : ℕ) → d < 32 → KeptEffect (loads o d x i)
unfolding loads
loads_kept o d x i l = reached_kept o _ _ λ _. (l, omega arith)

stores_kept : (o v x i : ℕ) → KeptEffect (stores o v x i)
unfolding stores
stores_kept o v x i = reached_kept o _ _ λ e. (omega arith, e)

brought_word : (o a x : ℕ) → brought o a x < 2 ^ 32
unfolding brought
brought_word o a x =
    let k = place a in
    either W (signed o)
    (λ _. either_width (λ w. extended w (field (width o) k x) < 2 ^ 32) o
    (extended_lt (2 ^ 7) _ (omega arith) (omega arith)) (extended_lt (2 ^ 15) _ (omega arith) (omega arith)) (extended_lt (2 ^ 31) _ (omega arith) (omega arith)))
    (λ _. either_width (λ w. field w k x < 2 ^ 32) o
    (omega (arith, field_lt 8 k x)) (omega (arith, field_lt 16 k x)) (omega (arith, field_lt 32 k x)))

moved_kept : (t : Table) (n v : ℕ) → KeptTable t → v < 2 ^ 32 → KeptChange (moved_to t n v)
unfolding moved_to
moved_kept t n v k l =
    either KeptChange (eqb n 7) (λ _. record { pto = l; ptl = k.ptl }) λ _.
    either KeptChange (eqb n 8) (λ _. record { pto = k.pto; ptl = l }) λ _.
    l

module _ (p : Processor) (t : Table) (o : Timer) (r : List ℕ) (h : Numbers p) (k : KeptTable t) (q : KeptTimer o) (g : Registers r) where
  system_kept : (e : Effect) → KeptEffect e → KeptEffect (in_system p e)
  system_kept e f = either KeptEffect (user p) (λ _. (omega arith, omega arith)) (λ _. f)

  trap_kept : (i : ℕ) → i < 2 ^ 32 → KeptEffect (trap_of p (reg r 1) (reg r 2) i)
  unfolding trap_of
  trap_kept i f =
      either KeptEffect (user p) (λ _. (omega arith, f)) λ _.
      either KeptEffect (eqb i 256) (λ _. (g.words 1, g.words 2)) λ _.
      either KeptEffect (eqb i 257) (λ _. tt) λ _.
      (omega arith, f)

  pub effect_kept : (i : Instruction) → Formed i → KeptEffect (effect_of p t o r i)
  unfolding effect_of
  effect_kept (LoadBy b s i d) f = loads_kept b d _ i f.1
  effect_kept (StoreBy b s i d) f = stores_kept b _ _ i
  effect_kept (Immediate op d s i) f = operated_kept op d _ _ _ _ f.0 (g.words s) f.2 (omega arith)
  effect_kept (Lhgi d i) f = (f.0, omega arith, omega arith)
  effect_kept (Beqz s i) f = (omega arith, omega arith, either W (eqb (reg r s) 0) (λ _. omega arith) (λ _. omega arith))
  effect_kept (Bnez s i) f = (omega arith, omega arith, either W (eqb (reg r s) 0) (λ _. omega arith) (λ _. omega arith))
  effect_kept (Jr s) f = (omega arith, omega arith, g.words s)
  effect_kept (Jalr s) f = (omega arith, omega arith, g.words s)
  effect_kept (J i) f = (omega arith, omega arith, omega arith)
  effect_kept (Jal i) f = (omega arith, omega arith, omega arith)
  effect_kept (Trap i) f = trap_kept i f
  effect_kept Rfe f = system_kept _ tt
  effect_kept (Register op d s s') f = operated_kept op d _ _ _ _ f.0 (g.words s) (g.words s') (omega arith)
  effect_kept (Movs2i d n) f = system_kept _ (f.0, special_read p h t o k q n, omega arith)
  effect_kept (Movi2s n s) f = system_kept _ (moved_kept t n _ k (g.words s))
  effect_kept Ill f = (omega arith, omega arith)

-- ---- the step

-- what the timer raises is nothing, or its bit
pub raised_lt : (k : Timer) (sr : ℕ) → raised k sr < 2 ^ 14
unfolding raised
raised_lt k sr = either (λ x. x < 2 ^ 14) (eqb k.tcount 1 && unmasked 13 sr) (λ _. omega arith) (λ _. omega arith)

ticked_kept : (k : Timer) → KeptTimer k → KeptTimer (ticked k)
unfolding ticked
ticked_kept k h = record { tcount = either W (eqb k.tcount 1) (λ _. h.tload) (λ _. omega (arith, h.tcount)); tload = h.tload }

count_kept : (k : Timer) (n v : ℕ) → KeptTimer k → v < 2 ^ 32 → KeptTimer (with_count k n v)
unfolding with_count
count_kept k n v h l = record { tcount = either W (eqb n 10) (λ _. l) (λ _. h.tcount); tload = either W (eqb n 11) (λ _. l) (λ _. h.tload) }

module _ (raise : ℕ) (l : raise < 2 ^ 14) where
  left_kept : (c : Core) → Kept c → Kept (left raise c).core
  unfolding left
  left_kept c h =
      either Kept (eqb raise 0) (λ _. h)
      (λ _. record {
        processor = interrupted_kept c.processor h.processor raise 0 (omega arith) (omega arith);
        registers = h.registers;
        fault = h.fault;
        timer = h.timer;
      })

  changed_kept : (c : Core) (x : Change) → Kept c → KeptChange x → Kept (changed raise c x).core
  unfolding changed handled
  changed_kept c (Plain d v target) h k = left_kept _ (record {
    processor = went_kept c.processor h.processor target k.2;
    registers = written_kept c.registers d v h.registers k.1;
    fault = h.fault;
    timer = h.timer;
  })
  changed_kept c (Special n v) h k = left_kept _ (record {
    processor = went_kept _ (special_kept c.processor h.processor n v k) _ (omega arith);
    registers = h.registers;
    fault = h.fault;
    timer = count_kept c.timer n v h.timer k;
  })
  changed_kept c (Retable t) h k = left_kept _ (record {
    processor = went_kept c.processor h.processor _ (omega arith);
    registers = h.registers;
    fault = h.fault;
    timer = h.timer;
  })
  changed_kept c (Cause causes datum) h k = record {
    processor = interrupted_kept c.processor h.processor (causes + raise) datum (omega (arith, k.0)) k.1;
    registers = h.registers;
    fault = h.fault;
    timer = h.timer;
  }
  changed_kept c Return h k = left_kept _ (record {
    processor = returned_kept c.processor h.processor;
    registers = h.registers;
    fault = h.fault;
    timer = h.timer;
  })

pub settled_kept : (c : Core) (x : Change) → Kept c → KeptChange x → Kept (settled c x).core
unfolding settled
settled_kept c x h k =
    changed_kept (raised c.timer c.processor.sr) (raised_lt c.timer _) _ x
    (record { processor = h.processor; registers = h.registers; fault = h.fault; timer = ticked_kept c.timer h.timer })
    k

-- a memory that keeps I, whose words and table's registers are words, and whose faults are below 8
pub record Keeps {S : Type 0} (I : S → Type 0) (O : Ops S) : Type 0 where
  pub tables : (s : S) → I s → KeptTable (O.table s)
  pub reads : (s : S) → I s → (u : Bool) (a : ℕ) → KeptAccess (O.read s u a).0 × I (O.read s u a).1
  pub writes : (s : S) → I s → (u : Bool) (a : ℕ) (f : ℕ → ℕ) → ((w : ℕ) → w < 2 ^ 32 → f w < 2 ^ 32) → KeptStore (O.write s u a f).0 × I (O.write s u a f).1
  pub retables : (s : S) → I s → (t : Table) → KeptTable t → I (O.retable s t)

module _ {S : Type 0} (I : S → Type 0) (O : Ops S) (K : Keeps I O) where
  executed_kept : (c : Core) (t : Table) (x : Result ℕ ℕ) → Kept c → KeptTable t → KeptEffect (executed c t x)
  unfolding executed
  executed_kept c t (Err n) h k = (omega arith, h.processor.dpc)
  executed_kept c t (Ok w) h k =
      effect_kept c.processor t c.timer c.registers h.processor k h.timer h.registers (instruction_of w) (instruction_formed w)

  failing_kept : (c : Core) (n : ℕ) → Kept c → n < 8 → Kept (failing c n)
  failing_kept c n h l = record { processor = h.processor; registers = h.registers; fault = l; timer = h.timer }

  after_read_kept : (c : Core) (x : Result ℕ ℕ) → Kept c → KeptAccess x → Kept (after_read c x)
  unfolding after_read
  after_read_kept c (Err n) h k = failing_kept c n h k
  after_read_kept c (Ok w) h k = h

  after_write_kept : (c : Core) (x : Result (Unit {0}) ℕ) → Kept c → KeptStore x → Kept (after_write c x)
  unfolding after_write
  after_write_kept c (Err n) h k = failing_kept c n h k
  after_write_kept c (Ok u) h k = h

  abbrev KeptFetch : (Effect × Core) × S → Type 0
  KeptFetch f = KeptEffect f.0.0 × Kept f.0.1 × I f.1

  fetched_kept : (c : Core) (s : S) → Kept c → I s → KeptFetch (fetched O (c, s))
  unfolding fetched
  fetched_kept c s h i =
      let g = K.reads s i (user c.processor) c.processor.dpc in
      either KeptFetch (aligned 32 c.processor.dpc)
      (λ _. (executed_kept c (O.table s) _ h (K.tables s i), after_read_kept c _ h g.0, g.1))
      (λ _. ((omega arith, omega arith), h, i))

  loaded_kept : (p : Processor) (d a o : ℕ) (x : Result ℕ ℕ) → d < 32 → a < 2 ^ 32 → KeptChange (loaded p d a o x)
  unfolding loaded
  loaded_kept p d a o (Err n) l h = (omega arith, h)
  loaded_kept p d a o (Ok w) l h = (l, brought_word o a w, omega arith)

  stored_kept : (p : Processor) (a : ℕ) (x : Result (Unit {0}) ℕ) → a < 2 ^ 32 → KeptChange (stored p a x)
  unfolding stored
  stored_kept p a (Err n) h = (omega arith, h)
  stored_kept p a (Ok u) h = (omega arith, omega arith, omega arith)

  received_kept : (y : Reply) → KeptReply y → (r : List ℕ) → Registers r → Registers (received r y)
  unfolding received
  received_kept y k r h = either Registers (eqb y.code 0) (λ _. written_kept r 1 y.ticket h k.ticket) (λ _. h)

  abbrev KeptAccessed : (Change × Core) × S → Type 0
  KeptAccessed g = KeptChange g.0.0 × Kept g.0.1 × I g.1

  accessed_kept : (y : Reply) → KeptReply y → (c : Core) (e : Effect) (s : S) → Kept c → KeptEffect e → I s → KeptAccessed (accessed O y c e s)
  unfolding accessed
  accessed_kept y k c (Done x) s m h i = (h, m, i)
  accessed_kept y k c (Send v to) s m h i = ((omega arith, k.code, omega arith), m, i)
  accessed_kept y k c Take s m h i =
      ((omega arith, k.code, omega arith), record { processor = m.processor; registers = received_kept y k c.registers m.registers; fault = m.fault; timer = m.timer }, i)
  accessed_kept y k c (Load d a o) s m h i =
      let g = K.reads s i (user c.processor) a in
      (loaded_kept c.processor d a o _ h.0 h.1, after_read_kept c _ m g.0, g.1)
  accessed_kept y k c (Store o a v) s m h i =
      let g = K.writes s i (user c.processor) a (placed o a v) (λ x. placed_word o a v x h.1) in
      (stored_kept c.processor a _ h.0, after_write_kept c _ m g.0, g.1)

  retabled_kept : (c : Change) (s : S) → KeptChange c → I s → I (retabled O c s)
  unfolding retabled
  retabled_kept (Plain d v target) s h i = i
  retabled_kept (Special n v) s h i = i
  retabled_kept (Retable t) s h i = K.retables s i t h
  retabled_kept (Cause causes datum) s h i = i
  retabled_kept Return s h i = i

  -- what a step sends is a word, so that queues stay words
  pub asked_kept : (c : Core) (s : S) → Kept c → I s → KeptRequest (asked O (c, s))
  unfolding asked
  asked_kept c s h i = request_kept _ (fetched_kept c s h i).0

  -- a step keeps a core's numbers, and what the memory keeps
  pub step_kept : (y : Reply) → KeptReply y → (c : Core) (s : S) → Kept c → I s → Kept (step O y (c, s)).0.core × I (step O y (c, s)).1
  unfolding step
  step_kept y k c s h i =
      let f = fetched_kept c s h i in
      let a = accessed_kept y k _ _ _ f.1 f.0 f.2 in
      (settled_kept _ _ a.1 a.0, retabled_kept _ _ a.0 a.2)

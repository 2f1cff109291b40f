-- The arms of `act` and of `register_type`: what a helper's answer says of the word that asked for it.
use Rattle.std.proofs.Common.{◌≡◌, ℕ, ◌+◌, ◌-◌, ◌*◌, ◌%◌, ◌<◌, ◌≤◌, false, eqb, List, get_or, sym, refl, ap, ◌∙◌, arith}
use Rattle.dlx.specs.Choice.{when◌then◌else◌}
use Rattle.dlx.specs.Words.{plus, opcode, rs1, rs2, rd_immediate, rd_register, sa, function, extended, test_of}
use Rattle.dlx.specs.Processor.{user, no_timer, special_of, behind}
use Rattle.dlx.specs.Instructions.{instruction_of, register_type}
use Rattle.dlx.specs.Execute.{value_of, overflows_of, operated, written, loads, stores, effect_of}
use Rattle.dlx.specs.declared.partition.Table.{Table}
use Rattle.dlx.specs.declared.partition.Processor.{Processor}
use Rattle.dlx.specs.declared.instruction.Operation.{Operation}
use Rattle.dlx.specs.declared.instruction.Operation.TheVariants.{And, Or, Xor, Test}
use Rattle.dlx.specs.declared.instruction.Instruction.{Instruction}
use Rattle.dlx.specs.declared.instruction.Instruction.TheVariants.{LoadBy, StoreBy, Immediate, Register}
use Rattle.dlx.specs.declared.execute.Change.TheVariants.{Plain}
use Rattle.dlx.specs.declared.execute.Effect.TheVariants.{Done}
use Rattle.plain.specs.Plain.{pair_of, Does}
use Rattle.plain.proofs.Laws.{plain_does, next_does, shifts, lands, lands_not, does_same}
use Rattle.plain.proofs.Effects.{unwritten, register_asks, register_calm, special_asks, f_test, o_0, o_test, immediate_asks, immediate_calm, load_asks, store_asks, lhgi_asks, beqz_asks, bnez_asks, jr_asks, jalr_asks, j_asks, jal_asks}

module _ (fr : List ℕ) (n : ℕ) (p : Processor) (t : Table) (page y : ℕ) (regs ws sh : List ℕ) (w : ℕ) where
  abbrev Acts : List ℕ → List ℕ → ℕ → Type 0
  Acts regs' ws' y' = Does fr n p t page y y' regs regs' ws ws' sh (λ k c. effect_of c t k regs (instruction_of w))

  abbrev Registers : List ℕ → ℕ → Type 0
  Registers regs' y' = Does fr n p t page y y' regs regs' ws ws sh (λ k c. effect_of c t k regs (register_type w))

  module _ (d r i : ℕ) (q : d ≡ rd_immediate w) (x : r ≡ rs1 w) (z : i ≡ extended 16 w) where
    pub load_arm : (o y' : ℕ) (regs' : List ℕ) → instruction_of w ≡ LoadBy o (rs1 w) (extended 16 w) (rd_immediate w) → ((page : ℕ) (t : Table) → Does fr n p t page y y' regs regs' ws ws sh (λ _ _. loads o d (get_or regs r 0) i)) → Acts regs' ws y'
    load_arm o y' regs' e f = does_same fr n p t page y y' regs regs' ws ws sh (λ _ _. loads o d (get_or regs r 0) i) (λ k c. effect_of c t k regs (instruction_of w)) (λ dpc k. load_asks w t regs d r i q x z o e (pair_of p dpc (plus y page)) k) (f page t)

    pub store_arm : (o y' : ℕ) (ws' : List ℕ) → instruction_of w ≡ StoreBy o (rs1 w) (extended 16 w) (rd_immediate w) → ((page : ℕ) (rs : List ℕ) → Does fr n p t page y y' rs rs ws ws' sh (λ _ _. stores o (get_or regs d 0) (get_or regs r 0) i)) → Acts regs ws' y'
    store_arm o y' ws' e f = does_same fr n p t page y y' regs regs ws ws' sh (λ _ _. stores o (get_or regs d 0) (get_or regs r 0) i) (λ k c. effect_of c t k regs (instruction_of w)) (λ dpc k. store_asks w t regs d r i q x z o e (pair_of p dpc (plus y page)) k) (f page regs)

    pub sum_arm : (op : Operation) (v y' : ℕ) (regs' : List ℕ) → instruction_of w ≡ Immediate op (rd_immediate w) (rs1 w) (extended 16 w) → regs' ≡ written regs d v → y' ≡ plus y 4 → ((next : ℕ) → operated op d (get_or regs r 0) i p.sr next ≡ Done (Plain d v next)) → Acts regs' ws y'
    sum_arm op v y' regs' e a b f = next_does fr n p t page y regs regs' ws sh d v y' (λ k c. effect_of c t k regs (instruction_of w)) (λ dpc k. immediate_asks w t regs d r i q x z op v e (pair_of p dpc (plus y page)) k f) a b

    pub calm_arm : (op : Operation) (v y' : ℕ) (regs' : List ℕ) → instruction_of w ≡ Immediate op (rd_immediate w) (rs1 w) (extended 16 w) → overflows_of op (get_or regs r 0) i ≡ false → v ≡ value_of op (get_or regs r 0) i → regs' ≡ written regs d v → y' ≡ plus y 4 → Acts regs' ws y'
    calm_arm op v y' regs' e h g a b = next_does fr n p t page y regs regs' ws sh d v y' (λ k c. effect_of c t k regs (instruction_of w)) (λ dpc k. immediate_calm w t regs d r i q x z op v e h g (pair_of p dpc (plus y page)) k) a b

    pub and_arm : (v y' : ℕ) (regs' : List ℕ) → instruction_of w ≡ Immediate And (rd_immediate w) (rs1 w) (extended 16 w) → v ≡ value_of And (get_or regs r 0) i → regs' ≡ written regs d v → y' ≡ plus y 4 → Acts regs' ws y'
    unfolding overflows_of
    and_arm v y' regs' e g a b = calm_arm And v y' regs' e refl g a b

    pub or_arm : (v y' : ℕ) (regs' : List ℕ) → instruction_of w ≡ Immediate Or (rd_immediate w) (rs1 w) (extended 16 w) → v ≡ value_of Or (get_or regs r 0) i → regs' ≡ written regs d v → y' ≡ plus y 4 → Acts regs' ws y'
    unfolding overflows_of
    or_arm v y' regs' e g a b = calm_arm Or v y' regs' e refl g a b

    pub xor_arm : (v y' : ℕ) (regs' : List ℕ) → instruction_of w ≡ Immediate Xor (rd_immediate w) (rs1 w) (extended 16 w) → v ≡ value_of Xor (get_or regs r 0) i → regs' ≡ written regs d v → y' ≡ plus y 4 → Acts regs' ws y'
    unfolding overflows_of
    xor_arm v y' regs' e g a b = calm_arm Xor v y' regs' e refl g a b

    pub test_arm : (y' : ℕ) (regs' : List ℕ) → 24 ≤ opcode w → opcode w < 32 → regs' ≡ written regs d (test_of (opcode w - 24) (get_or regs r 0) i) → y' ≡ plus y 4 → Acts regs' ws y'
    unfolding overflows_of value_of
    test_arm y' regs' l h a b = calm_arm (Test (opcode w - 24)) (test_of (opcode w - 24) (get_or regs r 0) i) y' regs' (o_test w l h) refl refl a b

    pub lhgi_arm : (y' : ℕ) (regs' : List ℕ) → opcode w ≡ 15 → regs' ≡ written regs d (i % 65536 * 65536) → y' ≡ plus y 4 → Acts regs' ws y'
    lhgi_arm y' regs' h a b = next_does fr n p t page y regs regs' ws sh d (i % 65536 * 65536) y' (λ k c. effect_of c t k regs (instruction_of w)) (λ dpc k. lhgi_asks w t regs d r i q x z h (pair_of p dpc (plus y page)) k) a b

    pub beqz_arm : (near next y' : ℕ) → opcode w ≡ 4 → near ≡ plus y i → next ≡ plus y 4 → y' ≡ (when eqb (get_or regs r 0) 0 then near else next) → Acts regs ws y'
    beqz_arm near next y' h a b e = plain_does fr n p t page y regs regs ws sh 0 0 y' (λ c. when eqb (get_or regs r 0) 0 then plus c.pc i else behind c) (λ k c. effect_of c t k regs (instruction_of w)) (λ dpc k. beqz_asks w t regs d r i q x z h (pair_of p dpc (plus y page)) k) (unwritten regs) (λ _. lands fr n p t page y (eqb (get_or regs r 0) 0) i near next y' a b e)

    pub bnez_arm : (near next y' : ℕ) → opcode w ≡ 5 → near ≡ plus y i → next ≡ plus y 4 → y' ≡ (when eqb (get_or regs r 0) 0 then next else near) → Acts regs ws y'
    bnez_arm near next y' h a b e = plain_does fr n p t page y regs regs ws sh 0 0 y' (λ c. when eqb (get_or regs r 0) 0 then behind c else plus c.pc i) (λ k c. effect_of c t k regs (instruction_of w)) (λ dpc k. bnez_asks w t regs d r i q x z h (pair_of p dpc (plus y page)) k) (unwritten regs) (λ _. lands_not fr n p t page y (eqb (get_or regs r 0) 0) i near next y' a b e)

    pub jr_arm : (v y' : ℕ) → opcode w ≡ 22 → plus v page ≡ get_or regs r 0 → y' ≡ v → Acts regs ws y'
    jr_arm v y' h a b = plain_does fr n p t page y regs regs ws sh 0 0 y' (λ c. get_or regs r 0) (λ k c. effect_of c t k regs (instruction_of w)) (λ dpc k. jr_asks w t regs d r i q x z h (pair_of p dpc (plus y page)) k) (unwritten regs) (λ _. ap (λ (j : ℕ). plus j page) b ∙ a)

    pub jalr_arm : (v y' : ℕ) (regs' : List ℕ) → opcode w ≡ 23 → regs' ≡ written regs 31 (plus (plus y page) 4) → plus v page ≡ get_or regs r 0 → y' ≡ v → Acts regs' ws y'
    jalr_arm v y' regs' h l a b = plain_does fr n p t page y regs regs' ws sh 31 (plus (plus y page) 4) y' (λ c. get_or regs r 0) (λ k c. effect_of c t k regs (instruction_of w)) (λ dpc k. jalr_asks w t regs d r i q x z h (pair_of p dpc (plus y page)) k) l (λ _. ap (λ (j : ℕ). plus j page) b ∙ a)

  pub j_arm : (far v y' : ℕ) → far ≡ extended 26 w → opcode w ≡ 2 → v ≡ plus y far → y' ≡ v → Acts regs ws y'
  j_arm far v y' e h a b = plain_does fr n p t page y regs regs ws sh 0 0 y' (λ c. plus c.pc far) (λ k c. effect_of c t k regs (instruction_of w)) (λ dpc k. j_asks w t regs far e h (pair_of p dpc (plus y page)) k) (unwritten regs) (λ _. shifts fr n p t page y far y' (b ∙ a))

  pub jal_arm : (far v y' : ℕ) (regs' : List ℕ) → far ≡ extended 26 w → opcode w ≡ 3 → regs' ≡ written regs 31 (plus (plus y page) 4) → v ≡ plus y far → y' ≡ v → Acts regs' ws y'
  jal_arm far v y' regs' e h l a b = plain_does fr n p t page y regs regs' ws sh 31 (plus (plus y page) 4) y' (λ c. plus c.pc far) (λ k c. effect_of c t k regs (instruction_of w)) (λ dpc k. jal_asks w t regs far e h (pair_of p dpc (plus y page)) k) l (λ _. shifts fr n p t page y far y' (b ∙ a))

  pub register_arm : (y' : ℕ) (regs' : List ℕ) → opcode w ≡ 0 → Registers regs' y' → Acts regs' ws y'
  register_arm y' regs' h f = does_same fr n p t page y y' regs regs' ws ws sh (λ k c. effect_of c t k regs (register_type w)) (λ k c. effect_of c t k regs (instruction_of w)) (λ dpc k. ap (λ (j : Instruction). effect_of (pair_of p dpc (plus y page)) t k regs j) (sym (o_0 w h))) f

  -- opcode 0
  module _ (d a b : ℕ) (q : d ≡ rd_register w) (x : a ≡ get_or regs (rs1 w) 0) (z : b ≡ get_or regs (rs2 w) 0) where
    pub sum_register : (op : Operation) (v y' : ℕ) (regs' : List ℕ) → register_type w ≡ Register op (rd_register w) (rs1 w) (rs2 w) → regs' ≡ written regs d v → y' ≡ plus y 4 → ((next : ℕ) → operated op d a b p.sr next ≡ Done (Plain d v next)) → Registers regs' y'
    sum_register op v y' regs' e g h f = next_does fr n p t page y regs regs' ws sh d v y' (λ k c. effect_of c t k regs (register_type w)) (λ dpc k. register_asks w t regs d a b q x z op v e (pair_of p dpc (plus y page)) k f) g h

    pub calm_register : (op : Operation) (v y' : ℕ) (regs' : List ℕ) → register_type w ≡ Register op (rd_register w) (rs1 w) (rs2 w) → overflows_of op a b ≡ false → v ≡ value_of op a b → regs' ≡ written regs d v → y' ≡ plus y 4 → Registers regs' y'
    calm_register op v y' regs' e f j g h = next_does fr n p t page y regs regs' ws sh d v y' (λ k c. effect_of c t k regs (register_type w)) (λ dpc k. register_calm w t regs d a b q x z op v e f j (pair_of p dpc (plus y page)) k) g h

    pub test_register : (k v y' : ℕ) (regs' : List ℕ) → function w ≡ 40 + k → k < 8 → v ≡ test_of k a b → regs' ≡ written regs d v → y' ≡ plus y 4 → Registers regs' y'
    unfolding overflows_of value_of
    test_register k v y' regs' f l j g h =
        let m : k ≡ w % 64 - 40 = omega (arith, f) in
        calm_register (Test (w % 64 - 40)) v y' regs' (f_test w (omega (arith, f)) (omega (arith, f))) refl (j ∙ ap (λ (n : ℕ). test_of n a b) m) g h

    pub special_register : (y' : ℕ) (regs' : List ℕ) → function w ≡ 16 → user p ≡ false → sa w < 10 → regs' ≡ written regs d (special_of p t no_timer (sa w)) → y' ≡ plus y 4 → Registers regs' y'
    special_register y' regs' h u l g e = next_does fr n p t page y regs regs' ws sh d (special_of p t no_timer (sa w)) y' (λ k c. effect_of c t k regs (register_type w)) (λ dpc k. special_asks w p t regs d (special_of p t no_timer (sa w)) q h u l refl dpc (plus y page) k) g e

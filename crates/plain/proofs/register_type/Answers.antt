use Rattle.std.proofs.Common.{ℕ, get_or, refl, ap, arith}
use Rattle.plain.proofs.Arms.{sum_register, calm_register, test_register, special_register}
use Rattle.plain.proofs.Effects.{f_32, f_34, f_36, f_37, f_38}
use Rattle.dlx.specs.Execute.{value_of, overflows_of}
use Rattle.dlx.specs.declared.instruction.Operation.TheVariants.{Add, Sub, And, Or, Xor}
use Rattle.plain.proofs.Laws.{match_on}
use Rattle.plain.proofs.register_type.Goals as goal

pub bounds-regs-rs1 : goal.bounds-regs-rs1
bounds-regs-rs1 c = omega (arith, c.requires.regs_length, c.first-rs1.ensures)

pub bounds-regs-rs2 : goal.bounds-regs-rs2
bounds-regs-rs2 c = omega (arith, c.requires.regs_length, c.second-rs2.ensures)

pub add-requires : goal.add-requires
add-requires c = omega (arith, c.requires.regs_length, c.wide-rd.ensures)

pub sub-requires : goal.sub-requires
sub-requires c = omega (arith, c.requires.regs_length, c.wide-rd.ensures)

pub put-requires : goal.put-requires
put-requires c = omega (arith, c.requires.regs_length, c.wide-rd.ensures)

pub put-requires-in-37 : goal.put-requires-in-37
put-requires-in-37 c = omega (arith, c.requires.regs_length, c.wide-rd.ensures)

pub put-requires-in-38 : goal.put-requires-in-38
put-requires-in-38 c = omega (arith, c.requires.regs_length, c.wide-rd.ensures)

pub read_special-requires : goal.read_special-requires
read_special-requires c = record { regs_room = omega (arith, c.requires.regs_length, c.wide-rd.ensures); numbered = c.requires.numbered }

pub test-requires : goal.test-requires
test-requires c = omega arith

pub put-requires-in-40 : goal.put-requires-in-40
put-requires-in-40 c = omega (arith, c.requires.regs_length, c.wide-rd.ensures)

pub test-requires-in-41 : goal.test-requires-in-41
test-requires-in-41 c = omega arith

pub put-requires-in-41 : goal.put-requires-in-41
put-requires-in-41 c = omega (arith, c.requires.regs_length, c.wide-rd.ensures)

pub test-requires-in-42 : goal.test-requires-in-42
test-requires-in-42 c = omega arith

pub put-requires-in-42 : goal.put-requires-in-42
put-requires-in-42 c = omega (arith, c.requires.regs_length, c.wide-rd.ensures)

pub test-requires-in-43 : goal.test-requires-in-43
test-requires-in-43 c = omega arith

pub put-requires-in-43 : goal.put-requires-in-43
put-requires-in-43 c = omega (arith, c.requires.regs_length, c.wide-rd.ensures)

pub test-requires-in-44 : goal.test-requires-in-44
test-requires-in-44 c = omega arith

pub put-requires-in-44 : goal.put-requires-in-44
put-requires-in-44 c = omega (arith, c.requires.regs_length, c.wide-rd.ensures)

pub test-requires-in-45 : goal.test-requires-in-45
test-requires-in-45 c = omega arith

pub put-requires-in-45 : goal.put-requires-in-45
put-requires-in-45 c = omega (arith, c.requires.regs_length, c.wide-rd.ensures)

pub test-requires-in-46 : goal.test-requires-in-46
test-requires-in-46 c = omega arith

pub put-requires-in-46 : goal.put-requires-in-46
put-requires-in-46 c = omega (arith, c.requires.regs_length, c.wide-rd.ensures)

pub test-requires-in-47 : goal.test-requires-in-47
test-requires-in-47 c = omega arith

pub put-requires-in-47 : goal.put-requires-in-47
put-requires-in-47 c = omega (arith, c.requires.regs_length, c.wide-rd.ensures)

pub returns-in-32 : goal.returns-in-32
returns-in-32 c = match_on c.add.result c.add.ensures (λ q. q) (λ _ r fr n page ws sh. sum_register fr n c.args.p c.args.t page c.args.y c.args.regs.now ws sh c.args.w _ (get_or c.args.regs.now c.first-rs1.result 0) (get_or c.args.regs.now c.second-rs2.result 0) c.wide-rd.ensures (ap (λ (j : ℕ). get_or c.args.regs.now j 0) c.first-rs1.ensures) (ap (λ (j : ℕ). get_or c.args.regs.now j 0) c.second-rs2.ensures) Add _ _ _ (f_32 c.args.w c.in-32.is) r.0 r.1 r.2)

pub returns-in-34 : goal.returns-in-34
returns-in-34 c = match_on c.sub.result c.sub.ensures (λ q. q) (λ _ r fr n page ws sh. sum_register fr n c.args.p c.args.t page c.args.y c.args.regs.now ws sh c.args.w _ (get_or c.args.regs.now c.first-rs1.result 0) (get_or c.args.regs.now c.second-rs2.result 0) c.wide-rd.ensures (ap (λ (j : ℕ). get_or c.args.regs.now j 0) c.first-rs1.ensures) (ap (λ (j : ℕ). get_or c.args.regs.now j 0) c.second-rs2.ensures) Sub _ _ _ (f_34 c.args.w c.in-34.is) r.0 r.1 r.2)

pub returns-in-36 : goal.returns-in-36
unfolding value_of overflows_of
returns-in-36 c = let e = c.put.ensures in λ fr n page ws sh. calm_register fr n c.args.p c.args.t page c.args.y c.args.regs.now ws sh c.args.w _ (get_or c.args.regs.now c.first-rs1.result 0) (get_or c.args.regs.now c.second-rs2.result 0) c.wide-rd.ensures (ap (λ (j : ℕ). get_or c.args.regs.now j 0) c.first-rs1.ensures) (ap (λ (j : ℕ). get_or c.args.regs.now j 0) c.second-rs2.ensures) And _ _ _ (f_36 c.args.w c.in-36.is) refl refl e.0 e.1

pub returns-in-37 : goal.returns-in-37
unfolding value_of overflows_of
returns-in-37 c = let e = c.put-in-37.ensures in λ fr n page ws sh. calm_register fr n c.args.p c.args.t page c.args.y c.args.regs.now ws sh c.args.w _ (get_or c.args.regs.now c.first-rs1.result 0) (get_or c.args.regs.now c.second-rs2.result 0) c.wide-rd.ensures (ap (λ (j : ℕ). get_or c.args.regs.now j 0) c.first-rs1.ensures) (ap (λ (j : ℕ). get_or c.args.regs.now j 0) c.second-rs2.ensures) Or _ _ _ (f_37 c.args.w c.in-37.is) refl refl e.0 e.1

pub returns-in-38 : goal.returns-in-38
unfolding value_of overflows_of
returns-in-38 c = let e = c.put-in-38.ensures in λ fr n page ws sh. calm_register fr n c.args.p c.args.t page c.args.y c.args.regs.now ws sh c.args.w _ (get_or c.args.regs.now c.first-rs1.result 0) (get_or c.args.regs.now c.second-rs2.result 0) c.wide-rd.ensures (ap (λ (j : ℕ). get_or c.args.regs.now j 0) c.first-rs1.ensures) (ap (λ (j : ℕ). get_or c.args.regs.now j 0) c.second-rs2.ensures) Xor _ _ _ (f_38 c.args.w c.in-38.is) refl refl e.0 e.1

pub returns-in-16 : goal.returns-in-16
returns-in-16 c = match_on c.read_special.result c.read_special.ensures (λ q. q) (λ _ r fr n page ws sh. special_register fr n c.args.p c.args.t page c.args.y c.args.regs.now ws sh c.args.w _ (get_or c.args.regs.now c.first-rs1.result 0) (get_or c.args.regs.now c.second-rs2.result 0) c.wide-rd.ensures (ap (λ (j : ℕ). get_or c.args.regs.now j 0) c.first-rs1.ensures) (ap (λ (j : ℕ). get_or c.args.regs.now j 0) c.second-rs2.ensures) _ _ c.in-16.is r.0 r.1 r.2 r.3)

pub returns-in-40 : goal.returns-in-40
unfolding value_of overflows_of
returns-in-40 c = let e = c.put-in-40.ensures in λ fr n page ws sh. test_register fr n c.args.p c.args.t page c.args.y c.args.regs.now ws sh c.args.w _ (get_or c.args.regs.now c.first-rs1.result 0) (get_or c.args.regs.now c.second-rs2.result 0) c.wide-rd.ensures (ap (λ (j : ℕ). get_or c.args.regs.now j 0) c.first-rs1.ensures) (ap (λ (j : ℕ). get_or c.args.regs.now j 0) c.second-rs2.ensures) 0 _ _ _ c.in-40.is (omega arith) c.test.ensures e.0 e.1

pub returns-in-41 : goal.returns-in-41
unfolding value_of overflows_of
returns-in-41 c = let e = c.put-in-41.ensures in λ fr n page ws sh. test_register fr n c.args.p c.args.t page c.args.y c.args.regs.now ws sh c.args.w _ (get_or c.args.regs.now c.first-rs1.result 0) (get_or c.args.regs.now c.second-rs2.result 0) c.wide-rd.ensures (ap (λ (j : ℕ). get_or c.args.regs.now j 0) c.first-rs1.ensures) (ap (λ (j : ℕ). get_or c.args.regs.now j 0) c.second-rs2.ensures) 1 _ _ _ c.in-41.is (omega arith) c.test-in-41.ensures e.0 e.1

pub returns-in-42 : goal.returns-in-42
unfolding value_of overflows_of
returns-in-42 c = let e = c.put-in-42.ensures in λ fr n page ws sh. test_register fr n c.args.p c.args.t page c.args.y c.args.regs.now ws sh c.args.w _ (get_or c.args.regs.now c.first-rs1.result 0) (get_or c.args.regs.now c.second-rs2.result 0) c.wide-rd.ensures (ap (λ (j : ℕ). get_or c.args.regs.now j 0) c.first-rs1.ensures) (ap (λ (j : ℕ). get_or c.args.regs.now j 0) c.second-rs2.ensures) 2 _ _ _ c.in-42.is (omega arith) c.test-in-42.ensures e.0 e.1

pub returns-in-43 : goal.returns-in-43
unfolding value_of overflows_of
returns-in-43 c = let e = c.put-in-43.ensures in λ fr n page ws sh. test_register fr n c.args.p c.args.t page c.args.y c.args.regs.now ws sh c.args.w _ (get_or c.args.regs.now c.first-rs1.result 0) (get_or c.args.regs.now c.second-rs2.result 0) c.wide-rd.ensures (ap (λ (j : ℕ). get_or c.args.regs.now j 0) c.first-rs1.ensures) (ap (λ (j : ℕ). get_or c.args.regs.now j 0) c.second-rs2.ensures) 3 _ _ _ c.in-43.is (omega arith) c.test-in-43.ensures e.0 e.1

pub returns-in-44 : goal.returns-in-44
unfolding value_of overflows_of
returns-in-44 c = let e = c.put-in-44.ensures in λ fr n page ws sh. test_register fr n c.args.p c.args.t page c.args.y c.args.regs.now ws sh c.args.w _ (get_or c.args.regs.now c.first-rs1.result 0) (get_or c.args.regs.now c.second-rs2.result 0) c.wide-rd.ensures (ap (λ (j : ℕ). get_or c.args.regs.now j 0) c.first-rs1.ensures) (ap (λ (j : ℕ). get_or c.args.regs.now j 0) c.second-rs2.ensures) 4 _ _ _ c.in-44.is (omega arith) c.test-in-44.ensures e.0 e.1

pub returns-in-45 : goal.returns-in-45
unfolding value_of overflows_of
returns-in-45 c = let e = c.put-in-45.ensures in λ fr n page ws sh. test_register fr n c.args.p c.args.t page c.args.y c.args.regs.now ws sh c.args.w _ (get_or c.args.regs.now c.first-rs1.result 0) (get_or c.args.regs.now c.second-rs2.result 0) c.wide-rd.ensures (ap (λ (j : ℕ). get_or c.args.regs.now j 0) c.first-rs1.ensures) (ap (λ (j : ℕ). get_or c.args.regs.now j 0) c.second-rs2.ensures) 5 _ _ _ c.in-45.is (omega arith) c.test-in-45.ensures e.0 e.1

pub returns-in-46 : goal.returns-in-46
unfolding value_of overflows_of
returns-in-46 c = let e = c.put-in-46.ensures in λ fr n page ws sh. test_register fr n c.args.p c.args.t page c.args.y c.args.regs.now ws sh c.args.w _ (get_or c.args.regs.now c.first-rs1.result 0) (get_or c.args.regs.now c.second-rs2.result 0) c.wide-rd.ensures (ap (λ (j : ℕ). get_or c.args.regs.now j 0) c.first-rs1.ensures) (ap (λ (j : ℕ). get_or c.args.regs.now j 0) c.second-rs2.ensures) 6 _ _ _ c.in-46.is (omega arith) c.test-in-46.ensures e.0 e.1

pub returns-in-47 : goal.returns-in-47
unfolding value_of overflows_of
returns-in-47 c = let e = c.put-in-47.ensures in λ fr n page ws sh. test_register fr n c.args.p c.args.t page c.args.y c.args.regs.now ws sh c.args.w _ (get_or c.args.regs.now c.first-rs1.result 0) (get_or c.args.regs.now c.second-rs2.result 0) c.wide-rd.ensures (ap (λ (j : ℕ). get_or c.args.regs.now j 0) c.first-rs1.ensures) (ap (λ (j : ℕ). get_or c.args.regs.now j 0) c.second-rs2.ensures) 7 _ _ _ c.in-47.is (omega arith) c.test-in-47.ensures e.0 e.1

pub returns-in-0 : goal.returns-in-0
returns-in-0 c = refl

pub returns-in-1 : goal.returns-in-1
returns-in-1 c = refl

pub returns-in-2 : goal.returns-in-2
returns-in-2 c = refl

pub returns-in-3 : goal.returns-in-3
returns-in-3 c = refl

pub returns-in-4 : goal.returns-in-4
returns-in-4 c = refl

pub returns-in-5 : goal.returns-in-5
returns-in-5 c = refl

pub returns-in-6 : goal.returns-in-6
returns-in-6 c = refl

pub returns-in-7 : goal.returns-in-7
returns-in-7 c = refl

pub returns-in-8 : goal.returns-in-8
returns-in-8 c = refl

pub returns-in-9 : goal.returns-in-9
returns-in-9 c = refl

pub returns-in-10 : goal.returns-in-10
returns-in-10 c = refl

pub returns-in-11 : goal.returns-in-11
returns-in-11 c = refl

pub returns-in-12 : goal.returns-in-12
returns-in-12 c = refl

pub returns-in-13 : goal.returns-in-13
returns-in-13 c = refl

pub returns-in-14 : goal.returns-in-14
returns-in-14 c = refl

pub returns-in-15 : goal.returns-in-15
returns-in-15 c = refl

pub returns-in-17 : goal.returns-in-17
returns-in-17 c = refl

pub returns-in-18 : goal.returns-in-18
returns-in-18 c = refl

pub returns-in-19 : goal.returns-in-19
returns-in-19 c = refl

pub returns-in-20 : goal.returns-in-20
returns-in-20 c = refl

pub returns-in-21 : goal.returns-in-21
returns-in-21 c = refl

pub returns-in-22 : goal.returns-in-22
returns-in-22 c = refl

pub returns-in-23 : goal.returns-in-23
returns-in-23 c = refl

pub returns-in-24 : goal.returns-in-24
returns-in-24 c = refl

pub returns-in-25 : goal.returns-in-25
returns-in-25 c = refl

pub returns-in-26 : goal.returns-in-26
returns-in-26 c = refl

pub returns-in-27 : goal.returns-in-27
returns-in-27 c = refl

pub returns-in-28 : goal.returns-in-28
returns-in-28 c = refl

pub returns-in-29 : goal.returns-in-29
returns-in-29 c = refl

pub returns-in-30 : goal.returns-in-30
returns-in-30 c = refl

pub returns-in-31 : goal.returns-in-31
returns-in-31 c = refl

pub returns-in-33 : goal.returns-in-33
returns-in-33 c = refl

pub returns-in-35 : goal.returns-in-35
returns-in-35 c = refl

pub returns-in-39 : goal.returns-in-39
returns-in-39 c = refl

pub returns-in-48 : goal.returns-in-48
returns-in-48 c = refl

pub returns-in-49 : goal.returns-in-49
returns-in-49 c = refl

pub returns-in-50 : goal.returns-in-50
returns-in-50 c = refl

pub returns-in-51 : goal.returns-in-51
returns-in-51 c = refl

pub returns-in-52 : goal.returns-in-52
returns-in-52 c = refl

pub returns-in-53 : goal.returns-in-53
returns-in-53 c = refl

pub returns-in-54 : goal.returns-in-54
returns-in-54 c = refl

pub returns-in-55 : goal.returns-in-55
returns-in-55 c = refl

pub returns-in-56 : goal.returns-in-56
returns-in-56 c = refl

pub returns-in-57 : goal.returns-in-57
returns-in-57 c = refl

pub returns-in-58 : goal.returns-in-58
returns-in-58 c = refl

pub returns-in-59 : goal.returns-in-59
returns-in-59 c = refl

pub returns-in-60 : goal.returns-in-60
returns-in-60 c = refl

pub returns-in-61 : goal.returns-in-61
returns-in-61 c = refl

pub returns-in-62 : goal.returns-in-62
returns-in-62 c = refl

pub returns-in-63 : goal.returns-in-63
returns-in-63 c = refl

pub returns-in_default : goal.returns-in_default
returns-in_default c = refl

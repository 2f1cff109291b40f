use Rattle.plain.proofs.Arms.{load_arm, store_arm, sum_arm, and_arm, or_arm, xor_arm, test_arm, lhgi_arm, beqz_arm, bnez_arm, jr_arm, jalr_arm, j_arm, jal_arm, register_arm}
use Rattle.plain.proofs.Effects.{o_35, o_43, o_8, o_10, o_12, o_13, o_14, o_32, o_33, o_36, o_37, o_40, o_41}
use Rattle.dlx.specs.Words.{rd_immediate, extended}
use Rattle.dlx.specs.declared.instruction.Operation.TheVariants.{Add, Sub}
use Rattle.std.proofs.Common.{refl, arith}
use Rattle.plain.proofs.Laws.{match_on}
use Rattle.plain.proofs.act.Goals as goal

pub load_word-requires : goal.load_word-requires
load_word-requires c = record { regs_length = c.requires.regs_length; placed = c.requires.placed; shadowed = c.requires.shadowed; loading = refl }

pub store_word-requires : goal.store_word-requires
store_word-requires c = record { regs_length = c.requires.regs_length; placed = c.requires.placed; shadowed = c.requires.shadowed; storing = refl; held_page = c.requires.held_page }

pub add_word-requires : goal.add_word-requires
add_word-requires c = c.requires.regs_length

pub sub_word-requires : goal.sub_word-requires
sub_word-requires c = c.requires.regs_length

pub and_word-requires : goal.and_word-requires
and_word-requires c = c.requires.regs_length

pub or_word-requires : goal.or_word-requires
or_word-requires c = c.requires.regs_length

pub xor_word-requires : goal.xor_word-requires
xor_word-requires c = c.requires.regs_length

pub high_word-requires : goal.high_word-requires
high_word-requires c = c.requires.regs_length

pub branch-regs-requires : goal.branch-regs-requires
branch-regs-requires c = c.requires.regs_length

pub branch-regs-requires-in-5 : goal.branch-regs-requires-in-5
branch-regs-requires-in-5 c = c.requires.regs_length

pub jump-requires : goal.jump-requires
jump-requires c = c.requires.regs_length

pub jump_linked-requires : goal.jump_linked-requires
jump_linked-requires c = c.requires.regs_length

pub extend-far-requires : goal.extend-far-requires
extend-far-requires c = (25, omega arith, refl)

pub extend-far-requires-in-3 : goal.extend-far-requires-in-3
extend-far-requires-in-3 c = (25, omega arith, refl)

pub link-requires : goal.link-requires
link-requires c = c.requires.regs_length

pub register_type-requires : goal.register_type-requires
register_type-requires c = record { regs_length = c.requires.regs_length; numbered = c.requires.numbered }

pub load_word-requires-in-32 : goal.load_word-requires-in-32
load_word-requires-in-32 c = record { regs_length = c.requires.regs_length; placed = c.requires.placed; shadowed = c.requires.shadowed; loading = refl }

pub load_word-requires-in-33 : goal.load_word-requires-in-33
load_word-requires-in-33 c = record { regs_length = c.requires.regs_length; placed = c.requires.placed; shadowed = c.requires.shadowed; loading = refl }

pub load_word-requires-in-36 : goal.load_word-requires-in-36
load_word-requires-in-36 c = record { regs_length = c.requires.regs_length; placed = c.requires.placed; shadowed = c.requires.shadowed; loading = refl }

pub load_word-requires-in-37 : goal.load_word-requires-in-37
load_word-requires-in-37 c = record { regs_length = c.requires.regs_length; placed = c.requires.placed; shadowed = c.requires.shadowed; loading = refl }

pub store_word-requires-in-40 : goal.store_word-requires-in-40
store_word-requires-in-40 c = record { regs_length = c.requires.regs_length; placed = c.requires.placed; shadowed = c.requires.shadowed; storing = refl; held_page = c.requires.held_page }

pub store_word-requires-in-41 : goal.store_word-requires-in-41
store_word-requires-in-41 c = record { regs_length = c.requires.regs_length; placed = c.requires.placed; shadowed = c.requires.shadowed; storing = refl; held_page = c.requires.held_page }

pub test_type-requires : goal.test_type-requires
test_type-requires c = c.requires.regs_length

pub test_type-requires-in-25 : goal.test_type-requires-in-25
test_type-requires-in-25 c = c.requires.regs_length

pub test_type-requires-in-26 : goal.test_type-requires-in-26
test_type-requires-in-26 c = c.requires.regs_length

pub test_type-requires-in-27 : goal.test_type-requires-in-27
test_type-requires-in-27 c = c.requires.regs_length

pub test_type-requires-in-28 : goal.test_type-requires-in-28
test_type-requires-in-28 c = c.requires.regs_length

pub test_type-requires-in-29 : goal.test_type-requires-in-29
test_type-requires-in-29 c = c.requires.regs_length

pub test_type-requires-in-30 : goal.test_type-requires-in-30
test_type-requires-in-30 c = c.requires.regs_length

pub test_type-requires-in-31 : goal.test_type-requires-in-31
test_type-requires-in-31 c = c.requires.regs_length

pub returns-in-35 : goal.returns-in-35
returns-in-35 c = match_on c.load_word.result c.load_word.ensures (λ q. (q, refl)) (λ _ r. load_arm c.args.frames.now c.args.pages c.args.p c.args.t c.args.page c.args.y c.args.regs.now c.args.words.now c.args.shadow.now c.args.w _ _ _ refl refl refl 35 _ _ (o_35 c.args.w c.in-35.is) r)

pub returns-in-43 : goal.returns-in-43
returns-in-43 c = match_on c.store_word.result c.store_word.ensures (λ q. (refl, q)) (λ _ r. store_arm c.args.frames.now c.args.pages c.args.p c.args.t c.args.page c.args.y c.args.regs.now c.args.words.now c.args.shadow.now c.args.w _ _ _ refl refl refl 43 _ _ (o_43 c.args.w c.in-43.is) r)

pub returns-in-8 : goal.returns-in-8
returns-in-8 c = match_on c.add_word.result c.add_word.ensures (λ q. (q, refl)) (λ _ r. sum_arm c.args.frames.now c.args.pages c.args.p c.args.t c.args.page c.args.y c.args.regs.now c.args.words.now c.args.shadow.now c.args.w _ _ _ refl refl refl Add _ _ _ (o_8 c.args.w c.in-8.is) r.0 r.1 r.2)

pub returns-in-10 : goal.returns-in-10
returns-in-10 c = match_on c.sub_word.result c.sub_word.ensures (λ q. (q, refl)) (λ _ r. sum_arm c.args.frames.now c.args.pages c.args.p c.args.t c.args.page c.args.y c.args.regs.now c.args.words.now c.args.shadow.now c.args.w _ _ _ refl refl refl Sub _ _ _ (o_10 c.args.w c.in-10.is) r.0 r.1 r.2)

pub returns-in-12 : goal.returns-in-12
returns-in-12 c = let e = c.and_word.ensures in and_arm c.args.frames.now c.args.pages c.args.p c.args.t c.args.page c.args.y c.args.regs.now c.args.words.now c.args.shadow.now c.args.w _ _ _ refl refl refl _ _ _ (o_12 c.args.w c.in-12.is) refl e.0 e.1

pub returns-in-13 : goal.returns-in-13
returns-in-13 c = let e = c.or_word.ensures in or_arm c.args.frames.now c.args.pages c.args.p c.args.t c.args.page c.args.y c.args.regs.now c.args.words.now c.args.shadow.now c.args.w _ _ _ refl refl refl _ _ _ (o_13 c.args.w c.in-13.is) refl e.0 e.1

pub returns-in-14 : goal.returns-in-14
returns-in-14 c = let e = c.xor_word.ensures in xor_arm c.args.frames.now c.args.pages c.args.p c.args.t c.args.page c.args.y c.args.regs.now c.args.words.now c.args.shadow.now c.args.w _ _ _ refl refl refl _ _ _ (o_14 c.args.w c.in-14.is) refl e.0 e.1

pub returns-in-15 : goal.returns-in-15
returns-in-15 c = let e = c.high_word.ensures in lhgi_arm c.args.frames.now c.args.pages c.args.p c.args.t c.args.page c.args.y c.args.regs.now c.args.words.now c.args.shadow.now c.args.w _ _ _ refl refl refl _ _ c.in-15.is e.0 e.1

pub returns-in-4 : goal.returns-in-4
returns-in-4 c = let e = c.branch-regs.ensures in beqz_arm c.args.frames.now c.args.pages c.args.p c.args.t c.args.page c.args.y c.args.regs.now c.args.words.now c.args.shadow.now c.args.w _ _ _ refl refl refl _ _ _ c.in-4.is refl refl e

pub returns-in-5 : goal.returns-in-5
returns-in-5 c = let e = c.branch-regs-in-5.ensures in bnez_arm c.args.frames.now c.args.pages c.args.p c.args.t c.args.page c.args.y c.args.regs.now c.args.words.now c.args.shadow.now c.args.w _ _ _ refl refl refl _ _ _ c.in-5.is refl refl e

pub returns-in-22 : goal.returns-in-22
returns-in-22 c = let e = c.jump.ensures in jr_arm c.args.frames.now c.args.pages c.args.p c.args.t c.args.page c.args.y c.args.regs.now c.args.words.now c.args.shadow.now c.args.w (rd_immediate c.args.w) _ (extended 16 c.args.w) refl refl refl _ _ c.in-22.is e refl

pub returns-in-23 : goal.returns-in-23
returns-in-23 c = let e = c.jump_linked.ensures in jalr_arm c.args.frames.now c.args.pages c.args.p c.args.t c.args.page c.args.y c.args.regs.now c.args.words.now c.args.shadow.now c.args.w (rd_immediate c.args.w) _ (extended 16 c.args.w) refl refl refl _ _ _ c.in-23.is e.0 e.1 refl

pub returns-in-2 : goal.returns-in-2
returns-in-2 c = j_arm c.args.frames.now c.args.pages c.args.p c.args.t c.args.page c.args.y c.args.regs.now c.args.words.now c.args.shadow.now c.args.w _ _ _ c.extend-far.ensures c.in-2.is c.wrapping_add_u32.ensures.value refl

pub returns-in-3 : goal.returns-in-3
returns-in-3 c = jal_arm c.args.frames.now c.args.pages c.args.p c.args.t c.args.page c.args.y c.args.regs.now c.args.words.now c.args.shadow.now c.args.w _ _ _ _ c.extend-far-in-3.ensures c.in-3.is c.link.ensures c.wrapping_add_u32-in-3.ensures.value refl

pub returns-in-0 : goal.returns-in-0
returns-in-0 c = match_on c.register_type.result c.register_type.ensures (λ q. (q, refl)) (λ _ r. register_arm c.args.frames.now c.args.pages c.args.p c.args.t c.args.page c.args.y c.args.regs.now c.args.words.now c.args.shadow.now c.args.w _ _ c.in-0.is (r _ _ _ _ _))

pub returns-in-32 : goal.returns-in-32
returns-in-32 c = match_on c.load_word-in-32.result c.load_word-in-32.ensures (λ q. (q, refl)) (λ _ r. load_arm c.args.frames.now c.args.pages c.args.p c.args.t c.args.page c.args.y c.args.regs.now c.args.words.now c.args.shadow.now c.args.w _ _ _ refl refl refl 32 _ _ (o_32 c.args.w c.in-32.is) r)

pub returns-in-33 : goal.returns-in-33
returns-in-33 c = match_on c.load_word-in-33.result c.load_word-in-33.ensures (λ q. (q, refl)) (λ _ r. load_arm c.args.frames.now c.args.pages c.args.p c.args.t c.args.page c.args.y c.args.regs.now c.args.words.now c.args.shadow.now c.args.w _ _ _ refl refl refl 33 _ _ (o_33 c.args.w c.in-33.is) r)

pub returns-in-36 : goal.returns-in-36
returns-in-36 c = match_on c.load_word-in-36.result c.load_word-in-36.ensures (λ q. (q, refl)) (λ _ r. load_arm c.args.frames.now c.args.pages c.args.p c.args.t c.args.page c.args.y c.args.regs.now c.args.words.now c.args.shadow.now c.args.w _ _ _ refl refl refl 36 _ _ (o_36 c.args.w c.in-36.is) r)

pub returns-in-37 : goal.returns-in-37
returns-in-37 c = match_on c.load_word-in-37.result c.load_word-in-37.ensures (λ q. (q, refl)) (λ _ r. load_arm c.args.frames.now c.args.pages c.args.p c.args.t c.args.page c.args.y c.args.regs.now c.args.words.now c.args.shadow.now c.args.w _ _ _ refl refl refl 37 _ _ (o_37 c.args.w c.in-37.is) r)

pub returns-in-40 : goal.returns-in-40
returns-in-40 c = match_on c.store_word-in-40.result c.store_word-in-40.ensures (λ q. (refl, q)) (λ _ r. store_arm c.args.frames.now c.args.pages c.args.p c.args.t c.args.page c.args.y c.args.regs.now c.args.words.now c.args.shadow.now c.args.w _ _ _ refl refl refl 40 _ _ (o_40 c.args.w c.in-40.is) r)

pub returns-in-41 : goal.returns-in-41
returns-in-41 c = match_on c.store_word-in-41.result c.store_word-in-41.ensures (λ q. (refl, q)) (λ _ r. store_arm c.args.frames.now c.args.pages c.args.p c.args.t c.args.page c.args.y c.args.regs.now c.args.words.now c.args.shadow.now c.args.w _ _ _ refl refl refl 41 _ _ (o_41 c.args.w c.in-41.is) r)

pub returns-in-24 : goal.returns-in-24
returns-in-24 c = match_on c.test_type.result c.test_type.ensures (λ q. (q, refl)) (λ _ r. test_arm c.args.frames.now c.args.pages c.args.p c.args.t c.args.page c.args.y c.args.regs.now c.args.words.now c.args.shadow.now c.args.w _ _ _ refl refl refl _ _ r.0 r.1 r.2 r.3)

pub returns-in-25 : goal.returns-in-25
returns-in-25 c = match_on c.test_type-in-25.result c.test_type-in-25.ensures (λ q. (q, refl)) (λ _ r. test_arm c.args.frames.now c.args.pages c.args.p c.args.t c.args.page c.args.y c.args.regs.now c.args.words.now c.args.shadow.now c.args.w _ _ _ refl refl refl _ _ r.0 r.1 r.2 r.3)

pub returns-in-26 : goal.returns-in-26
returns-in-26 c = match_on c.test_type-in-26.result c.test_type-in-26.ensures (λ q. (q, refl)) (λ _ r. test_arm c.args.frames.now c.args.pages c.args.p c.args.t c.args.page c.args.y c.args.regs.now c.args.words.now c.args.shadow.now c.args.w _ _ _ refl refl refl _ _ r.0 r.1 r.2 r.3)

pub returns-in-27 : goal.returns-in-27
returns-in-27 c = match_on c.test_type-in-27.result c.test_type-in-27.ensures (λ q. (q, refl)) (λ _ r. test_arm c.args.frames.now c.args.pages c.args.p c.args.t c.args.page c.args.y c.args.regs.now c.args.words.now c.args.shadow.now c.args.w _ _ _ refl refl refl _ _ r.0 r.1 r.2 r.3)

pub returns-in-28 : goal.returns-in-28
returns-in-28 c = match_on c.test_type-in-28.result c.test_type-in-28.ensures (λ q. (q, refl)) (λ _ r. test_arm c.args.frames.now c.args.pages c.args.p c.args.t c.args.page c.args.y c.args.regs.now c.args.words.now c.args.shadow.now c.args.w _ _ _ refl refl refl _ _ r.0 r.1 r.2 r.3)

pub returns-in-29 : goal.returns-in-29
returns-in-29 c = match_on c.test_type-in-29.result c.test_type-in-29.ensures (λ q. (q, refl)) (λ _ r. test_arm c.args.frames.now c.args.pages c.args.p c.args.t c.args.page c.args.y c.args.regs.now c.args.words.now c.args.shadow.now c.args.w _ _ _ refl refl refl _ _ r.0 r.1 r.2 r.3)

pub returns-in-30 : goal.returns-in-30
returns-in-30 c = match_on c.test_type-in-30.result c.test_type-in-30.ensures (λ q. (q, refl)) (λ _ r. test_arm c.args.frames.now c.args.pages c.args.p c.args.t c.args.page c.args.y c.args.regs.now c.args.words.now c.args.shadow.now c.args.w _ _ _ refl refl refl _ _ r.0 r.1 r.2 r.3)

pub returns-in-31 : goal.returns-in-31
returns-in-31 c = match_on c.test_type-in-31.result c.test_type-in-31.ensures (λ q. (q, refl)) (λ _ r. test_arm c.args.frames.now c.args.pages c.args.p c.args.t c.args.page c.args.y c.args.regs.now c.args.words.now c.args.shadow.now c.args.w _ _ _ refl refl refl _ _ r.0 r.1 r.2 r.3)

pub returns-in-1 : goal.returns-in-1
returns-in-1 c = (refl, refl)

pub returns-in-6 : goal.returns-in-6
returns-in-6 c = (refl, refl)

pub returns-in-7 : goal.returns-in-7
returns-in-7 c = (refl, refl)

pub returns-in-9 : goal.returns-in-9
returns-in-9 c = (refl, refl)

pub returns-in-11 : goal.returns-in-11
returns-in-11 c = (refl, refl)

pub returns-in-16 : goal.returns-in-16
returns-in-16 c = (refl, refl)

pub returns-in-17 : goal.returns-in-17
returns-in-17 c = (refl, refl)

pub returns-in-18 : goal.returns-in-18
returns-in-18 c = (refl, refl)

pub returns-in-19 : goal.returns-in-19
returns-in-19 c = (refl, refl)

pub returns-in-20 : goal.returns-in-20
returns-in-20 c = (refl, refl)

pub returns-in-21 : goal.returns-in-21
returns-in-21 c = (refl, refl)

pub returns-in-34 : goal.returns-in-34
returns-in-34 c = (refl, refl)

pub returns-in-38 : goal.returns-in-38
returns-in-38 c = (refl, refl)

pub returns-in-39 : goal.returns-in-39
returns-in-39 c = (refl, refl)

pub returns-in-42 : goal.returns-in-42
returns-in-42 c = (refl, refl)

pub returns-in-44 : goal.returns-in-44
returns-in-44 c = (refl, refl)

pub returns-in-45 : goal.returns-in-45
returns-in-45 c = (refl, refl)

pub returns-in-46 : goal.returns-in-46
returns-in-46 c = (refl, refl)

pub returns-in-47 : goal.returns-in-47
returns-in-47 c = (refl, refl)

pub returns-in-48 : goal.returns-in-48
returns-in-48 c = (refl, refl)

pub returns-in-49 : goal.returns-in-49
returns-in-49 c = (refl, refl)

pub returns-in-50 : goal.returns-in-50
returns-in-50 c = (refl, refl)

pub returns-in-51 : goal.returns-in-51
returns-in-51 c = (refl, refl)

pub returns-in-52 : goal.returns-in-52
returns-in-52 c = (refl, refl)

pub returns-in-53 : goal.returns-in-53
returns-in-53 c = (refl, refl)

pub returns-in-54 : goal.returns-in-54
returns-in-54 c = (refl, refl)

pub returns-in-55 : goal.returns-in-55
returns-in-55 c = (refl, refl)

pub returns-in-56 : goal.returns-in-56
returns-in-56 c = (refl, refl)

pub returns-in-57 : goal.returns-in-57
returns-in-57 c = (refl, refl)

pub returns-in-58 : goal.returns-in-58
returns-in-58 c = (refl, refl)

pub returns-in-59 : goal.returns-in-59
returns-in-59 c = (refl, refl)

pub returns-in-60 : goal.returns-in-60
returns-in-60 c = (refl, refl)

pub returns-in-61 : goal.returns-in-61
returns-in-61 c = (refl, refl)

pub returns-in-62 : goal.returns-in-62
returns-in-62 c = (refl, refl)

pub returns-in-63 : goal.returns-in-63
returns-in-63 c = (refl, refl)

pub returns-in_default : goal.returns-in_default
returns-in_default c = (refl, refl)

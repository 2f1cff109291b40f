use Rattle.std.proofs.Common.{◌≡◌, length, sym, refl, arith, length-take-le, rules}
use Rattle.decimal.proofs.Texts.{nothing, roomy}
use Rattle.drill.specs.Told.{most_read}
use Rattle.drill.specs.Player.{changes_nothing, made_of, made_text_of, played_of, text_of}
use Rattle.drill_script.proofs.Ops.{is_no}
use Rattle.drill.proofs.Commands.{plays_sixteen, plays_inside, plays_read, plays_boot, more_length, made_played}
use Rattle.drill.proofs.calls.play.Goals as goal

pub returns-in-PokeHouse : goal.returns-in-PokeHouse
unfolding played_of text_of
returns-in-PokeHouse c = (rw (c.in-PokeHouse.is, c.poke-house.ensures), rw c.in-PokeHouse.is (roomy most_read nothing (omega arith)))

pub returns-in-Clear : goal.returns-in-Clear
unfolding played_of text_of
returns-in-Clear c =
    (rw (c.in-Clear.is, c.none.ensures, c.fill.ensures), rw c.in-Clear.is (roomy most_read nothing (omega arith)))

pub slice_bounds-made-count : goal.slice_bounds-made-count
slice_bounds-made-count c = omega (arith, plays_sixteen c.requires)

pub slice_bounds-made-start : goal.slice_bounds-made-start
slice_bounds-made-start c = omega (arith, plays_sixteen c.requires)

pub slice_bounds-made-end : goal.slice_bounds-made-end
slice_bounds-made-end c = omega (arith, plays_inside c.requires)

pub slice_bounds-made-end-in_default : goal.slice_bounds-made-end-in_default
slice_bounds-made-end-in_default c = omega (arith, c.requires.lent)

pub slice_bounds-made-end-in_default-2 : goal.slice_bounds-made-end-in_default-2
slice_bounds-made-end-in_default-2 c = sym (length-take-le _ _ c.requires.lent)

pub made-d-requires : goal.made-d-requires
made-d-requires c =
    let p = c.requires in
    let m = more_length p c.args.input.now refl in
    let n : length c.args.many.now ≡ 4096 = search rules in record { read_fits = λ e. ((plays_read p e).0, omega (arith, m, (plays_read p e).1)); boots = plays_boot p _ m; many_room = omega (arith, n) }

pub returns-in_default : goal.returns-in_default
unfolding played_of text_of made_of made_text_of
returns-in_default c =
    let a = is_no _ _ c.in_default.not-PokeHouse in
    let b = is_no _ _ c.in_default.not-Clear in
    (rw (a, b) (made_played (changes_nothing c.args.c) _ _ c.args.memory.now _ c.args.r.lent _ c.made-d.ensures.0), rw (a, b) c.made-d.ensures.1)

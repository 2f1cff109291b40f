use Rattle.std.proofs.Common.{◌≡◌, length, take, refl, sym, ap, ◌∙◌, arith, length-take-le}
use Rattle.decimal.proofs.Texts.{roomy}
use Rattle.drill.specs.Told.{most_read}
use Rattle.drill.specs.Player.{made_of, made_text_of}
use Rattle.drill_script.specs.declared.commands.Op.TheVariants.{ReadOut}
use Rattle.drill_script.specs.Commands.{◌is◌}
use Rattle.drill_script.proofs.Ops.{is_yes, is_no}
use Rattle.drill.proofs.Shown.{as_many}
use Rattle.drill.proofs.calls.made.Goals as goal

pub slice_bounds-read-end : goal.slice_bounds-read-end
slice_bounds-read-end c = omega (arith, c.wide-n.ensures, (c.requires.read_fits c.in-ReadOut.is).0, c.requires.many_room)

pub slice_bounds-read-end-in-ReadOut : goal.slice_bounds-read-end-in-ReadOut
slice_bounds-read-end-in-ReadOut c = sym (length-take-le c.wide-n.result c.args.many.now (omega (arith, c.wide-n.ensures, (c.requires.read_fits c.in-ReadOut.is).0, c.requires.many_room)))

pub read-end-requires : goal.read-end-requires
read-end-requires c =
    let q = c.requires.read_fits c.in-ReadOut.is in
    let n : length (take c.wide-n.result c.args.many.now) ≡ c.wide-n.result = length-take-le _ _ (omega (arith, c.wide-n.ensures, q.0, c.requires.many_room)) in record { more_room = q.1; output_length = omega (arith, n, c.wide-n.ensures, q.0) }

pub returns-in-ReadOut : goal.returns-in-ReadOut
unfolding made_of made_text_of
returns-in-ReadOut c =
    let d = is_yes _ _ c.in-ReadOut.is in
    let q = c.requires.read_fits c.in-ReadOut.is in
    let n : length (take c.wide-n.result c.args.many.now) ≡ c.args.c.c = length-take-le _ _ (omega (arith, c.wide-n.ensures, q.0, c.requires.many_room)) ∙ c.wide-n.ensures in
    (rw d refl, rw d (as_many _ _ _ _ n c.read-end.ensures))

pub returns-in-Audit : goal.returns-in-Audit
unfolding made_of made_text_of
returns-in-Audit c =
    let d = ap (λ o. o is ReadOut) c.in-Audit.is in
    let e = is_yes _ _ c.in-Audit.is in
    (rw (d, e) refl, rw (d, e) c.audit-end.ensures)

pub call-requires : goal.call-requires
call-requires c = record { boots = c.requires.boots; frames_room = c.requires.many_room }

pub returns-in_default : goal.returns-in_default
unfolding made_of made_text_of
returns-in_default c =
    let d = is_no _ _ c.in_default.not-ReadOut in
    let e = is_no _ _ c.in_default.not-Audit in
    (rw (d, e) c.call.ensures.0, rw (d, e) (roomy most_read c.call.ensures.1 (omega arith)))

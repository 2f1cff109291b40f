use Rattle.drill.proofs.Taken.{front_count}
use Rattle.std.proofs.Common.{◌*◌, drop, sym, refl, ap, ◌∙◌, arith}
use Rattle.drill.specs.Player.{boot_of}
use Rattle.drill.proofs.Taken.{front_length, front_taken, from_front}
use Rattle.drill.proofs.calls.booted.Goals as goal

pub slice_bounds-take-end-2 : goal.slice_bounds-take-end-2
slice_bounds-take-end-2 c = sym (front_length c.args.pages.now c.wide-n.result c.args.c.a 16 c.wide-n.ensures c.requires.boots.pages c.requires.pages_room)

pub take-requires : goal.take-requires
take-requires c = omega (arith, front_length c.args.pages.now c.wide-n.result c.args.c.a 16 c.wide-n.ensures c.requires.boots.pages c.requires.pages_room, c.wide-n.ensures, c.requires.boots.stands)

pub slice_bounds-take-end-4 : goal.slice_bounds-take-end-4
slice_bounds-take-end-4 c = sym (front_length c.args.frames.now c.wide-l.result c.args.c.c 4096 c.wide-l.ensures c.requires.boots.frames c.requires.frames_room)

pub take-requires-2 : goal.take-requires-2
take-requires-2 c = omega (arith, front_length c.args.frames.now c.wide-l.result c.args.c.c 4096 c.wide-l.ensures c.requires.boots.frames c.requires.frames_room, c.wide-l.ensures, c.wide-n.ensures, c.requires.boots.stands)

pub slice_bounds-boot-end-2 : goal.slice_bounds-boot-end-2
slice_bounds-boot-end-2 c =
    let g = c.args in
    front_count g.more.now c.take.new.words (drop c.wide-n.result g.pages.now) g.pages.now c.wide-n.result g.c.a 16 c.wide-n.ensures c.requires.boots.pages c.requires.pages_room 0 c.take.ensures

pub slice_bounds-boot-end-4 : goal.slice_bounds-boot-end-4
slice_bounds-boot-end-4 c =
    let g = c.args in
    front_count g.more.now c.take-2.new.words (drop c.wide-l.result g.frames.now) g.frames.now c.wide-l.result g.c.c 4096 c.wide-l.ensures c.requires.boots.frames c.requires.frames_room (4 * c.wide-n.result) c.take-2.ensures

pub returns : goal.returns
unfolding boot_of
returns c =
    let g = c.args in
    let p = front_taken g.more.now c.take.new.words (drop c.wide-n.result g.pages.now) g.pages.now c.wide-n.result g.c.a 16 c.wide-n.ensures c.requires.boots.pages c.requires.pages_room 0 0 refl c.take.ensures ∙ from_front g.more.now g.c.a in
    let q = front_taken g.more.now c.take-2.new.words (drop c.wide-l.result g.frames.now) g.frames.now c.wide-l.result g.c.c 4096 c.wide-l.ensures c.requires.boots.frames c.requires.frames_room (4 * c.wide-n.result) (4 * g.c.a) (ap (λ x. 4 * x) c.wide-n.ensures) c.take-2.ensures in
    rw (← p, ← q) c.boot.ensures

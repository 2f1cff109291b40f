use Rattle.std.proofs.Common.{◌≡◌, length, length-take, arith, rules}
use Rattle.asked.specs.declared.asked.Awaits.TheVariants.{ImageOrPartition}
use Rattle.noon.proofs.Steps.{counts, given_all}
use Rattle.noon.proofs.making.make.Goals as goal

pub slice_bounds-make_listed-end : goal.slice_bounds-make_listed-end
slice_bounds-make_listed-end c = let n : length c.ask.new.pages ≡ 65 = search rules in counts c.min-count.result c.ask.new.pages (omega (arith, c.min-count.ensures))

pub slice_bounds-make_listed-end-2 : goal.slice_bounds-make_listed-end-2
slice_bounds-make_listed-end-2 c = let n : length c.ask.new.frames ≡ 2048 = search rules in counts c.min-total.result c.ask.new.frames (omega (arith, c.min-total.ensures))

pub make_listed-requires : goal.make_listed-requires
make_listed-requires c =
    let n : length c.ask.new.pages ≡ 65 = search rules in
    let m : length c.ask.new.table ≡ 192 = search rules in
    let e : c.in-Some.a.awaits ≡ ImageOrPartition = search rules in
    record {
      pages_room = omega (arith, c.min-count.ensures, length-take c.min-count.result c.ask.new.pages);
      images_bound = omega (arith, c.min-images.ensures);
      table_length = m;
      given = given_all c.in-Some.a c.ask.new.pages c.ask.new.frames c.ask.new.table c.args.given c.in-Some.ensures e _ _ _ _ _ c.wide.ensures c.wide-2.ensures c.min-count.ensures c.min-total.ensures c.min-images.ensures;
    }

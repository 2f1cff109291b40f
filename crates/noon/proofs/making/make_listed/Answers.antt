use mathlib.Core.Path.{◌≡◌, refl, sym}
use Prim.Native.Nat.{ℕ}
use lib.ListN.{length, length-replicate}
use borrow.Author.Rules.{rules}
use Rattle.noon.proofs.making.make_listed.Goals as goal

pub lay_all-requires : goal.lay_all-requires
lay_all-requires c = let p = c.requires in record { listed = c.in_default.ensures.listed; images_bound = p.images_bound; table_length = p.table_length; lengths = (length-replicate {A = ℕ} 64 0, length-replicate {A = ℕ} 64 0); memory_zeros = refl }

pub write_file-requires : goal.write_file-requires
write_file-requires c =
    let p = c.requires in
    let m = c.lay_all.new.memory in
    let n : length m ≡ 16384 = search rules in record { listed = c.in_default.ensures.listed; memory_length = n; given = p.given; laid_all = (c.lay_all.new.counts, c.lay_all.new.sums, c.lay_all.ensures c.if-not-lay_all.false); night_runs = sym (c.in_default.ensures.by_index m n) }

pub tell_all-requires : goal.tell_all-requires
tell_all-requires c = let p = c.requires in record { images_bound = p.images_bound; table_length = p.table_length; counts_length = search rules; sums_length = search rules }

use native.Mathlib.Omega.{arith}
use Rattle.decimal.specs.Texts.{ascii}
use Rattle.decimal.proofs.Texts.{puts, ◌then◌}
use Rattle.written.specs.Names.{beside}
use Rattle.written.proofs.Laws.{put_whole}
use Rattle.written.proofs.put_beside.Goals as goal

pub returns : goal.returns
unfolding beside ascii
returns c =
    let whole = put_whole (puts {most = 4092} c.put_text-n.ensures c.requires.path_length then puts {most = 4} c.put_text.ensures (omega arith)) (omega (arith, c.requires.name_length)) in
    record { name_after = whole.0; prefix_len = whole.1 }

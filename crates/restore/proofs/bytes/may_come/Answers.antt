use Rattle.restore.specs.Standing.{progress_at}
use Rattle.restore.proofs.Standing.{may_none}
use Rattle.restore.proofs.bytes.may_come.Goals as goal

pub returns-in_default : goal.returns-in_default
returns-in_default c = λ h m _ _. may_none (progress_at c.args.r h m) c.args.kind c.args.size c.in_default.ensures

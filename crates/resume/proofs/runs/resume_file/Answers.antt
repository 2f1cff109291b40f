use mathlib.Core.Path.{sym, ◌∙◌}
use Rattle.resume.proofs.Laws.{resume_failed, resume_refused}
use Rattle.resume.proofs.runs.resume_file.Goals as goal

pub returns-then-failed-clause-handed : goal.returns-then-failed-clause-handed
returns-then-failed-clause-handed c = resume_failed _ c.restore_file-x.result _ c.restore_file-x.ensures.handed (sym c.failed.ensures ∙ c.if-failed.true)

pub returns-in-Err-clause-handed : goal.returns-in-Err-clause-handed
returns-in-Err-clause-handed c = resume_refused _ c.restore_file-x.result _ c.restore_file-x.ensures.handed (sym c.failed.ensures ∙ c.if-failed.false) _ c.in-Err.is

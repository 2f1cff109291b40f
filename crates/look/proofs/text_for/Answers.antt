use mathlib.Core.Path.{refl, sym, ap, ◌∙◌}
use lib.ListN.{take}
use Rattle.house.specs.Calls.{Answered}
use Rattle.report.specs.Put.{put}
use mathlib.Core.List.{[]}
use Rattle.night_run.specs.Ran.{either_file, answer_in}
use Rattle.night_run.proofs.Files.{told_nothing, told_answer}
use Rattle.look.specs.Look.{printed}
use borrow.Author.Rules.{rules}
use Rattle.look.proofs.text_for.Goals as goal

pub read_file-x-requires : goal.read_file-x-requires
read_file-x-requires c = c.requires

pub returns-then-failed : goal.returns-then-failed
returns-then-failed c = let r = c.read_file-x in record { by_index = ([], told_nothing either_file printed r.result _ r.ensures.handed (sym c.failed.ensures ∙ c.if-failed.true), refl); counts = search rules }

pub returns : goal.returns
returns c = let r = c.read_file-x in record { by_index = (printed (answer_in r.result r.new.memory), told_answer either_file printed r.result r.new.memory r.ensures.handed (sym c.failed.ensures ∙ c.if-failed.false), c.text_of-length.ensures.by_index r.result.house (take r.result.words r.new.memory) ∙ ap (λ (a : Answered). put (printed a) c.args.out.now) (c.answer.ensures _)); counts = c.text_of-length.ensures.counts }

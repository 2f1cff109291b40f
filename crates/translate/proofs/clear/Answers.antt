use Rattle.std.proofs.Common.{◌∙◌, ap, replicate}
use Rattle.translate.proofs.clear.Goals as goal

pub returns : goal.returns
returns c = c.fill.ensures.after (λ _ e. e) ∙ ap (λ n. replicate n 0) c.requires

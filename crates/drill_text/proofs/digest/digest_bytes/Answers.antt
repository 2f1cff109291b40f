use Rattle.std.proofs.Common.{◌≡◌, fold, ◌∙◌, rules}
use Rattle.drill_text.specs.Digest.{mixed_of}
use Rattle.drill_text.proofs.Digests.{folded}
use Rattle.drill_text.proofs.digest.digest_bytes.Goals as goal

pub returns : goal.returns
returns c = let e : c.fold.result ≡ fold mixed_of 0 c.args.bytes.now = search rules in e ∙ folded c.args.bytes.now

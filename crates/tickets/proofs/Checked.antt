-- The examples hold: the single claim about the queues.
use mathlib.Core.Path.{◌≡◌, refl}
use mathlib.Core.Bool.{true}
use mathlib.Core.List.{◌++◌}
use Rattle.dlx.specs.Examples.{all, same}
use Rattle.dlx.specs.Parts.{inner, outer}
use Rattle.tickets.specs.Queues.{sending, taking, desk, queue_of, oldest, ruled, sent_to, taken_by, lined}
use Rattle.tickets.specs.Examples.{served, requests, counted}

pub checked : all (requests ++ counted) ≡ true
unfolding all same served requests counted inner outer sending taking desk queue_of oldest ruled sent_to taken_by lined
checked = refl

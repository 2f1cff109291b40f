-- What a save answers in the rules' numbers.
use Rattle.std.specs.Prelude.{Result, Ok, Err, List, ℕ}
use Rattle.house.specs.Boot.{verdict}
use Rattle.house.specs.Refusals.{refusal}
use Rattle.house.specs.declared.House.{House}
use Rattle.house.specs.declared.refusal.Refusal.{Refusal}
use Rattle.save.specs.Calls.{Written, written}

-- how many bytes it wrote, or what refuses it: then none; with the house that it was given, and the output that it leaves
abbrev pub answer_of : House → Result ℕ Refusal → List ℕ → Written
answer_of h (Ok count) out = written (verdict 0 0) count h out
answer_of h (Err r) out = written (refusal r) 0 h out

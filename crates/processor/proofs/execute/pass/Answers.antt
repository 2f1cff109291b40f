use Rattle.dlx.specs.Spells.{passed, plainly}
use Rattle.std.proofs.Common.{arith}
use Rattle.processor.proofs.execute.pass.Goals as goal

-- src/execute.rt:225:13
pub write-requires : goal.write-requires
write-requires c = let n = rw c.in-Plain.is at c.requires.places in omega (arith, c.requires.regs_length)

-- src/execute.rt:219:1
pub returns-in-Plain : goal.returns-in-Plain
unfolding passed plainly
returns-in-Plain c = record { passed = λ _ _. simp (c.go.ensures, c.write.ensures, c.in-Plain.is); plain = simp c.in-Plain.is }

-- src/execute.rt:219:1
pub returns-in-Special : goal.returns-in-Special
unfolding passed plainly
returns-in-Special c = record { passed = λ _ _. simp c.in-Special.is; plain = simp c.in-Special.is }

-- src/execute.rt:219:1
pub returns-in-Retable : goal.returns-in-Retable
unfolding passed plainly
returns-in-Retable c = record { passed = λ _ _. simp c.in-Retable.is; plain = simp c.in-Retable.is }

-- src/execute.rt:219:1
pub returns-in-Cause : goal.returns-in-Cause
unfolding passed plainly
returns-in-Cause c = record { passed = λ _ _. simp c.in-Cause.is; plain = simp c.in-Cause.is }

-- src/execute.rt:219:1
pub returns-in-Return : goal.returns-in-Return
unfolding passed plainly
returns-in-Return c = record { passed = λ _ _. simp c.in-Return.is; plain = simp c.in-Return.is }

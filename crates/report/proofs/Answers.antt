-- Which text an answer gives.
use mathlib.Core.Path.{◌≡◌, sym}
use Prim.Native.Nat.{ℕ}
use borrow.Author.Tests.{eq-eqb, ne_eqb}
use Rattle.house.specs.Boot.{verdict}
use Rattle.house.specs.Turns.{World}
use Rattle.house.specs.Calls.{answered}
use Rattle.report.specs.Report.{report_of, refused_text}
use Rattle.report.specs.Printed.{printed}

pub text_refused : (n d : ℕ) (w : World) → (n ≡ 0 → ⊥) → refused_text n d ≡ printed (answered (verdict n d) w)
unfolding printed
text_refused n d w z = rw (ne_eqb n 0 z)

pub text_done : (n d : ℕ) (w : World) → n ≡ 0 → report_of w.house ≡ printed (answered (verdict n d) w)
unfolding printed
text_done n d w z = sym (rw (eq-eqb n 0 z))

-- Where an entry of the guest's table lies: word px of the page PTO, which the table fills exactly, so that "outside guest memory" is PTO not below the page count.
use mathlib.Core.Path.{◌≡◌}
use mathlib.Core.Bool.{true, false}
use Prim.Native.Nat.{ℕ, ◌+◌, ◌*◌, ◌/◌, ◌%◌, ◌<◌, ◌≤◌}
use native.Mathlib.Omega.{arith}
use borrow.Author.Tests.{le-leb, lt-leb}
use lib.Dec.{leb}
use Rattle.addresses.specs.Walk.{entries}

module _ (pto px : ℕ) (below : px < entries) where
  pub entry_page : (4096 * pto + 4 * px) / 4 / 1024 ≡ pto
  entry_page = omega arith

  pub entry_word : (4096 * pto + 4 * px) / 4 % 1024 ≡ px
  entry_word = omega arith

  pub entry_outside : (n : ℕ) → n ≤ pto → leb (4096 * n) (4096 * pto + 4 * px) ≡ true
  entry_outside n h = le-leb (4096 * n) (4096 * pto + 4 * px) (omega arith)

  pub entry_inside : (n : ℕ) → pto < n → leb (4096 * n) (4096 * pto + 4 * px) ≡ false
  entry_inside n h = lt-leb (4096 * n) (4096 * pto + 4 * px) (omega arith)

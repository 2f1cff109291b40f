-- A read-out that is done yields the words of the partition's pages.
use mathlib.Core.Path.{◌≡◌, sym, ap}
use mathlib.Core.List.{List, ◌++◌}
use Prim.Native.Nat.{ℕ, ◌+◌, ◌*◌, ◌/◌}
use native.Mathlib.Omega.{arith}
use borrow.Author.Tests.{eq-eqb}
use lib.ListN.{get_or, drop}
use Rattle.addresses.specs.Memory.{host_word}
use Rattle.house.specs.Lists.{list_from}
use Rattle.house.specs.House.{pages_of, frames_of}
use Rattle.house.specs.Turns.{World}
use Rattle.house.specs.Calls.{read_verdict, read_out, read_call}
use Rattle.demands.specs.Histories.{lone_of}
use Rattle.house.proofs.Calls.Verdicts.{read_done}
use Rattle.house.proofs.Lists.ByRule.{list_from_at, list_from_same}

pub reads_pages : (w : World) (i a n : ℕ) (out : List ℕ) → (read_call w i a n out).verdict.number ≡ 0 →
    (read_call w i a n out).output ≡ list_from (λ j. get_or (lone_of w i).1.words (a / 4 + j) 0) 0 n ++ drop n out
unfolding read_call read_out lone_of
reads_pages w i a n out e =
    let d = read_done w i a n out e in
    rw (eq-eqb (read_verdict w i a n out).number 0 e)
    (ap (λ (l : List ℕ). l ++ drop n out)
    (list_from_same _ _ 0 n λ j l.
    sym (list_from_at (host_word (frames_of w.house i) w.memory) 0 (pages_of w.house i * 1024) (a / 4 + j) (omega (arith, d.aligned, d.within)))))

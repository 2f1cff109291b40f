-- Where an access lands through a shadow, and by the guest's table and the host's list.
use mathlib.Core.Path.{◌≡◌, ap, ◌∙◌}
use mathlib.Core.Bool.{Bool, not}
use mathlib.Core.List.{List}
use Prim.Native.Nat.{ℕ, ◌<◌}
use lib.ListN.{get_or}
use Rattle.dlx.specs.Choice.{when◌then◌else◌}
use Rattle.addresses.specs.Entries.{number, valid, protection, refused, protected_page, Found, fault, found}
use Rattle.addresses.specs.Memory.{word_in, hosted}
use Rattle.addresses.proofs.Entries.{number_entry, valid_entry, protection_entry, fault_invalid, Within, found_within}
use Rattle.addresses.proofs.Simulation.{reach}
use Rattle.dlx.proofs.Tests.{by_test}
use Rattle.house.specs.House.{pages_of, frames_of}
use Rattle.house.specs.Turns.{World}
use Rattle.demands.specs.Histories.{lone_of}
use Rattle.demands.specs.Demands.{Landing, fails, word, by_shadow, listed, by_table}
use Rattle.demands.proofs.Histories.Standing.{Firm, right_of}

-- through one entry
abbrev landed : Bool → ℕ → ℕ → Landing
landed store a e =
    when not (valid e) then fails e else
    when refused store (protection e) then fails protected_page else
    word (word_in (number e) a)

hosted_lands : (fr : List ℕ) (n : ℕ) (store : Bool) (a : ℕ) (g : Found) → Within n g → landed store a (hosted fr g) ≡ listed fr store a g
unfolding hosted listed
hosted_lands fr n store a (fault x) h = rw (fault_invalid x h)
hosted_lands fr n store a (found k p) h =
    rw (valid_entry (get_or fr k 0) p h.1, protection_entry (get_or fr k 0) p h.1, number_entry (get_or fr k 0) p h.1)
    (by_test (refused store p) (λ e. rw e) (λ e. rw e))

pub lands : (w : World) → Firm w → (i : ℕ) → i < w.house.count → (store user : Bool) (a : ℕ) → by_shadow w i store user a ≡ by_table w i store user a
lands w st i l store user a =
    ap (landed store a) (reach (right_of w st i l) user a)
    ∙ hosted_lands (frames_of w.house i) (pages_of w.house i) store a _ (found_within (pages_of w.house i) (lone_of w i).1 user a)

-- Entries of the guest's table: the page number in bits 31..12, bit 11 valid, bit 10 protected. A shadow entry is a word of the same format, with
-- a host frame in the page number's place and all else 0; the empty one is 0.
use Rattle.std.specs.Prelude.{Bool, not, ◌&&◌, ℕ, ◌+◌, ◌-◌, ◌*◌, ◌/◌, ◌%◌, ◌^◌, leb, eqb, Option, Some, None, unwrap_or}
use Rattle.dlx.specs.Choice.{when◌then◌else◌}

abbrev pub number : ℕ → ℕ
number e = e / 2 ^ 12

abbrev pub valid : ℕ → Bool
valid e = eqb (e / 2 ^ 11 % 2) 1

abbrev pub protection : ℕ → ℕ
protection e = e / 2 ^ 10 % 2

-- the shadow entry of a frame with a protection
abbrev pub entry_of : ℕ → ℕ → ℕ
entry_of f p = f * 2 ^ 12 + 2 ^ 11 + p * 2 ^ 10

-- What a translation finds: a page with its protection, or a fault by its number, the first that applies:
-- 1 px is not below PTL; 2 px is above 1,023; 3 the entry lies outside guest memory; 4 it is not valid; 5 its page number is not below the page count; 6 a store
-- to a protected page; 7 a system-mode address beyond the pages.
pub data Found : Type 0 where
  fault : ℕ → Found
  found : ℕ → ℕ → Found

-- an entry by itself, in a guest of n pages: its bit 11 is 0, or its page number isn't below the page count
unfoldable pub judged : ℕ → ℕ → Found
judged n e =
    when not (valid e) then fault 4 else
    when leb n (number e) then fault 5 else
    found (number e) (protection e)

-- the sixth fault: a store, to a page that is protected
abbrev pub protected_page : ℕ
protected_page = 6

abbrev pub refused : Bool → ℕ → Bool
refused store p = store && eqb p 1

-- ---- entry composition, as the office display calls it: 0 is load, all else store

unfoldable pub composed : Bool → Found → Option ℕ
composed store (fault x) = None
composed store (found k p) = when refused store p then None else Some k

-- the guest page, if there is no fault
abbrev pub composed_page : ℕ → ℕ → ℕ → Option ℕ
composed_page e n access = composed (not (eqb access 0)) (judged n e)

-- the same as one number: no page has that of a fault
abbrev pub fault_word : ℕ
fault_word = 2 ^ 32 - 1

abbrev pub composition_of : ℕ → ℕ → ℕ → ℕ
composition_of e n access = unwrap_or (composed_page e n access) fault_word

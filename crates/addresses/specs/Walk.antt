-- Where an access of a guest goes, by the guest's own table: the tests in their order. The sixth, protection, is the store's.
use Rattle.std.specs.Prelude.{ℕ, ◌+◌, ◌*◌, ◌/◌, ltb, leb}
use Rattle.dlx.specs.Choice.{when◌then◌else◌}
use Rattle.dlx.specs.declared.partition.Table.{Table}
use Rattle.addresses.specs.Entries.{Found, fault, found, judged}

-- how many entries a shadow table has, and how many pages a user's address can name
abbrev pub entries : ℕ
entries = 1024

-- the byte address of entry px, worked out without wrapping
abbrev pub entry_address : Table → ℕ → ℕ
entry_address t px = 4096 * t.pto + 4 * px

-- user mode: page px of a guest of n pages, whose words are read by `guest`
unfoldable pub walked : (ℕ → ℕ) → ℕ → Table → ℕ → Found
walked guest n t px =
    when leb t.ptl px then fault 1 else
    when leb entries px then fault 2 else
    when leb (4096 * n) (entry_address t px) then fault 3 else
    judged n (guest (entry_address t px / 4))

-- system mode: the byte address a must be below 4,096 times the page count
unfoldable pub direct : ℕ → ℕ → Found
direct n a = when ltb a (4096 * n) then found (a / 4096) 0 else fault 7

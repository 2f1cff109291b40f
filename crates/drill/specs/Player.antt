-- What the player keeps, and what each command does to it and tells of it.
use Rattle.std.specs.Prelude.{ℕ, ◌+◌, ◌-◌, ◌*◌, min, Bool, ◌||◌, List, [], ◌++◌, take, drop, nat_eq}
use Rattle.std.specs.Bool.{then_some}
use Rattle.dlx.specs.Choice.{when◌then◌else◌}
use Rattle.house.specs.declared.House.{House}
use Rattle.house.specs.Lists.{list_from}
use Rattle.house.specs.House.{no_house}
use Rattle.house.specs.Turns.{World, world}
use Rattle.house.specs.Calls.{Answered, Read, read, boot_call, run_call, start_call, stop_call, empty_call, read_call}
use Rattle.drill_script.specs.declared.commands.Command.{Command}
use Rattle.drill_script.specs.declared.commands.Op.{Op}
use Rattle.drill_script.specs.declared.commands.Op.TheVariants.{Boot, Run, Start, Stop, ReadOut, PokeMemory, SetLength, PokeHouse, Clear, Audit, Mend, Unshadowed}
use Rattle.drill_script.specs.Commands.{◌is◌, number_of}
use Rattle.drill_script.specs.Words.{word_at, marked_of, filled_of}
use Rattle.drill_script.specs.Poke.{poked}
use Rattle.drill_text.specs.Lines.{output_of, stale_of}
use Rattle.staleness.specs.Audit.{audit_call, mend_call}
use Rattle.unshadowed_run.specs.Calls.{unshadowed_call}
use Rattle.drill.specs.declared.reading.Reading.{Reading}
use Rattle.drill.specs.Told.{told_of, shown_of}

-- so many words of the memory are lent
pub record Player : Type 0 where
  pub house : House
  pub memory : List ℕ
  pub lent : ℕ

abbrev pub player : House → List ℕ → ℕ → Player
player h m n = record { house = h; memory = m; lent = n }

-- the bytes behind the command's four words
abbrev pub more_of : Reading → Command → List ℕ → List ℕ
more_of r c input = take (r.at + c.size - (r.at + 16)) (drop (r.at + 16) input)

-- ---- commands of the memory

unfoldable pub lent_of : Command → ℕ → ℕ → ℕ
lent_of c lent words = when c.op is SetLength then min c.a words else lent

unfoldable pub changed_of : Command → ℕ → List ℕ → List ℕ
changed_of c lent m =
    when c.op is SetLength then m
    else when c.op is PokeMemory then filled_of (take lent m) c.a 1 c.b ++ drop lent m
    else filled_of (take lent m) c.a c.b c.c ++ drop lent m

-- ---- calls, over the lent memory

unfoldable pub boot_of : Command → List ℕ → List ℕ → Answered
boot_of c more m =
    boot_call
    (list_from (λ i. word_at more (4 * i)) 0 c.a)
    c.b
    (list_from (λ i. word_at more (4 * c.a + 4 * i)) 0 c.c)
    m

unfoldable pub called_of : Command → List ℕ → House → List ℕ → Answered
called_of c more h m =
    when c.op is Boot then boot_of c more m
    else when c.op is Run then run_call (world h m) c.a
    else when c.op is Start then start_call (world h m) c.a
    else when c.op is Stop then stop_call (world h m) c.a
    else when c.op is Mend then mend_call (world h m)
    else when c.op is Unshadowed then unshadowed_call (world h m) c.a
    else empty_call (world h m) c.a

-- the house that it was given, which a refused one leaves: a boot is given none
abbrev pub given_of : Op → House → House
given_of op h = when op is Boot then no_house else h

-- into an output of so many words
unfoldable pub read_out_of : Command → List ℕ → House → List ℕ → ℕ → Read
read_out_of c more h m words =
    read_call (world h m) c.a c.b (word_at more 0 + word_at more 4 * 4294967296) (list_from marked_of 0 words)

-- a read-out's answer, with the output that it leaves
abbrev pub read_left : Answered → List ℕ → Read
read_left a out = read a.verdict a.world.house out

unfoldable pub call_text_of : Command → List ℕ → House → List ℕ → List ℕ
call_text_of c more h m =
    let a = called_of c more h m in
    told_of (number_of c.op) a.verdict.number a.verdict.detail a.world.house a.world.memory

unfoldable pub read_text_of : Command → List ℕ → House → List ℕ → ℕ → List ℕ
read_text_of c more h m words =
    let r = read_out_of c more h m words in
    told_of (number_of c.op) r.verdict.number r.verdict.detail r.house m
    ++ output_of r.output (shown_of r.verdict.number r.verdict.detail)

-- with the first stale entry, where the audit is done
unfoldable pub audit_text_of : Command → House → List ℕ → List ℕ
audit_text_of c h m =
    let f = audit_call (world h m) in
    told_of (number_of c.op) f.number 0 h m ++ (when nat_eq f.number 0 then stale_of (then_some f.stale (f.partition, f.page)) else [])

-- any call; a read-out and an audit change nothing
abbrev pub changes_nothing : Command → Bool
changes_nothing c = c.op is ReadOut || c.op is Audit

unfoldable pub made_of : Command → List ℕ → House → List ℕ → World
made_of c more h m = when changes_nothing c then world h m else (called_of c more h m).world

unfoldable pub made_text_of : Command → List ℕ → House → List ℕ → List ℕ
made_text_of c more h m =
    when c.op is ReadOut then read_text_of c more h m c.c
    else when c.op is Audit then audit_text_of c h m
    else call_text_of c more h m

-- ---- commands of the house

unfoldable pub played_of : Command → List ℕ → Player → Player
played_of c more p =
    let w = (called_of c more p.house (take p.lent p.memory)).world in
    when c.op is PokeHouse then player (poked p.house c.a c.b) p.memory p.lent
    else when c.op is Clear then player no_house (filled_of p.memory 0 4294967295 0) 0
    else when changes_nothing c then p
    else player w.house (w.memory ++ drop p.lent p.memory) p.lent

unfoldable pub text_of : Command → List ℕ → Player → List ℕ
text_of c more p =
    let lent = take p.lent p.memory in
    when c.op is PokeHouse then []
    else when c.op is Clear then []
    else made_text_of c more p.house lent

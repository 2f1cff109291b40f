-- The calls: each lists its refusals in their order, and says what a done call leaves. A refusal leaves house, memory and output as they were.
use Rattle.std.specs.Prelude.{Bool, true, false, not, ◌&&◌, ◌||◌, List, [], ◌∷◌, ◌++◌, ℕ, ◌+◌, ◌*◌, ◌/◌, ◌%◌, ltb, leb, eqb, length, get_or, set, drop, replicate}
use Rattle.dlx.specs.Choice.{when◌then◌else◌}
use Rattle.addresses.specs.Walk.{entries}
use Rattle.addresses.specs.Memory.{host_word}
use Rattle.dlx.specs.Parts.{outer}
use Rattle.house.specs.Lists.{list_from, any}
use Rattle.house.specs.House.{no_house, turn, with_turn, with_shadows, pages_of, frames_of}
use Rattle.house.specs.Damage.{damaged}
use Rattle.house.specs.Boot.{Verdict, verdict, case, first_of, boot_verdict, booted_house}
use Rattle.house.specs.Turns.{World, world, next_of, host_steps}
use Rattle.house.specs.declared.House.{House}

-- a call's answer, with the memory that it leaves
pub record Answered : Type 0 where
  pub verdict : Verdict
  pub world : World

abbrev pub answered : Verdict → World → Answered
answered v w = record { verdict = v; world = w }

-- what a call leaves: `done` where nothing refuses it, else what was given
abbrev pub unless_refused : Verdict → World → World → Answered
unless_refused v given done = answered v (when eqb v.number 0 then done else given)

-- ---- boot

unfoldable pub boot_call : List ℕ → ℕ → List ℕ → List ℕ → Answered
boot_call ps q fr m =
    unless_refused (boot_verdict ps q fr (length m)) (world no_house m) (world (booted_house ps q fr (length m)) m)

-- ---- run

unfoldable pub run_verdict : World → ℕ → Verdict
run_verdict w k =
    first_of
    (case (damaged w.house) 8 0
    ∷ case (not (eqb (length w.memory) w.house.words)) 9 0
    ∷ case (ltb 1000000 k) 14 0
    ∷ case (not (eqb k 0) && eqb w.house.left 0) 11 0
    ∷ [])
    (verdict 0 k)

unfoldable pub run_call : World → ℕ → Answered
run_call w k = unless_refused (run_verdict w k) w (host_steps k w)

-- ---- start, stop and empty

unfoldable pub one_verdict : House → ℕ → Verdict
one_verdict h i =
    first_of
    (case (damaged h) 8 0
    ∷ case (leb h.count i) 10 0
    ∷ [])
    (verdict 0 0)

-- starting when none is current makes that one current with q left
unfoldable pub started : House → ℕ → House
started h i =
    with_turn h (set h.running i true)
    (when eqb h.left 0 then turn i h.q else turn h.current h.left)

-- stopping the current one passes the turn, or leaves none current with 0 left
unfoldable pub stopped : House → ℕ → House
stopped h i =
    let r = set h.running i false in
    with_turn h r
    (when not (eqb h.left 0) && eqb h.current i then
    (when any (λ j. get_or r j false) h.count then turn (next_of r h.count i) h.q else turn 0 0)
    else turn h.current h.left)

unfoldable pub emptied_house : House → ℕ → House
emptied_house h i = with_shadows h (outer (i * entries) entries h.shadows (replicate entries 0))

unfoldable pub start_call : World → ℕ → Answered
start_call w i = unless_refused (one_verdict w.house i) w (world (started w.house i) w.memory)

unfoldable pub stop_call : World → ℕ → Answered
stop_call w i = unless_refused (one_verdict w.house i) w (world (stopped w.house i) w.memory)

unfoldable pub empty_call : World → ℕ → Answered
empty_call w i = unless_refused (one_verdict w.house i) w (world (emptied_house w.house i) w.memory)

-- ---- read-out of so many words from the guest byte address a of partition i, into an output

-- not a multiple of 4, or address + 4 × count, unwrapped, above 4,096 × the page count
abbrev pub beyond_of : ℕ → ℕ → ℕ → Bool
beyond_of pages a count = not (eqb (a % 4) 0) || ltb (4096 * pages) (a + 4 * count)

unfoldable pub read_verdict : World → ℕ → ℕ → ℕ → List ℕ → Verdict
read_verdict w i a count out =
    let h = w.house in
    first_of
    (case (damaged h) 8 0
    ∷ case (not (eqb (length w.memory) h.words)) 9 0
    ∷ case (leb h.count i) 10 0
    ∷ case (beyond_of (pages_of h i) a count) 12 0
    ∷ case (ltb (length out) count) 13 0
    ∷ [])
    (verdict 0 count)

-- the first count words of the output
unfoldable pub read_out : World → ℕ → ℕ → ℕ → List ℕ → List ℕ
read_out w i a count out =
    list_from (λ j. host_word (frames_of w.house i) w.memory (a / 4 + j)) 0 count ++ drop count out

-- a read-out's answer, with the output that it leaves; house and memory stay as they were
pub record Read : Type 0 where
  pub verdict : Verdict
  pub house : House
  pub output : List ℕ

abbrev pub read : Verdict → House → List ℕ → Read
read v h out = record { verdict = v; house = h; output = out }

unfoldable pub read_call : World → ℕ → ℕ → ℕ → List ℕ → Read
read_call w i a count out =
    let v = read_verdict w i a count out in
    read v w.house (when eqb v.number 0 then read_out w i a count out else out)

-- Tickets: each partition has a queue of 32 places, the oldest in the first, unused places 0. Partition j's places stand at 32 * j.
use Rattle.std.specs.Prelude.{◌≡◌, ◌&&◌, List, [], ◌∷◌, ◌++◌, ℕ, ◌+◌, ◌-◌, ◌*◌, ◌<◌, ◌≤◌, leb, eqb, length, get_or, set, take, drop}
use Rattle.dlx.specs.Choice.{when◌then◌else◌}
use Rattle.dlx.specs.Machine.{Reply, Request, nothing, sends, takes, reply, Desk}
use Rattle.dlx.specs.Parts.{inner, outer}

pub record Queues : Type 0 where
  pub tickets : List ℕ
  pub waiting : List ℕ

abbrev pub queues : List ℕ → List ℕ → Queues
queues t n = record { tickets = t; waiting = n }

abbrev pub places_of : Queues → ℕ → List ℕ
places_of t j = inner (j * 32) 32 t.tickets

abbrev pub waiting_of : Queues → ℕ → ℕ
waiting_of t j = get_or t.waiting j 0

-- ---- what is done, as the code does it

-- v behind the last
abbrev pub sent_on : Queues → ℕ → ℕ → Queues
sent_on t j v = queues (set t.tickets (j * 32 + waiting_of t j) v) (set t.waiting j (waiting_of t j + 1))

-- the first out, and the others a place on
abbrev pub taken_off : Queues → ℕ → Queues
taken_off t i =
    queues (outer (i * 32) 32 t.tickets (drop 1 (places_of t i) ++ (0 ∷ []))) (set t.waiting i (waiting_of t i - 1))

-- v sent to one of n partitions
unfoldable pub sending : ℕ → Queues → ℕ → ℕ → Reply × Queues
sending n t v to =
    when leb n to then (reply 2 0, t) else
    when leb 32 (waiting_of t to) then (reply 1 0, t) else
    (reply 0 0, sent_on t to v)

-- the oldest taken by i
unfoldable pub taking : Queues → ℕ → Reply × Queues
taking t i =
    when eqb (waiting_of t i) 0 then (reply 3 0, t) else
    (reply 0 (get_or t.tickets (i * 32) 0), taken_off t i)

-- partition i of n asks
unfoldable pub desk : ℕ → ℕ → Desk Queues
desk n i t nothing = (reply 0 0, t)
desk n i t (sends v to) = sending n t v to
desk n i t takes = taking t i

-- ---- the same over queues as lists, oldest first: what the demands speak of

unfoldable pub queue_of : Queues → ℕ → List ℕ
queue_of t j = take (waiting_of t j) (places_of t j)

unfoldable pub oldest : List ℕ → Reply
oldest [] = reply 3 0
oldest (x ∷ l) = reply 0 x

unfoldable pub ruled : ℕ → ℕ → (ℕ → List ℕ) → Request → Reply
ruled n i Q nothing = reply 0 0
ruled n i Q (sends v to) =
    when leb n to then reply 2 0 else
    when leb 32 (length (Q to)) then reply 1 0 else
    reply 0 0
ruled n i Q takes = oldest (Q i)

-- the tickets of one step that are sent done to j, and that are taken by j
unfoldable pub sent_to : Request → Reply → ℕ → List ℕ
sent_to nothing a j = []
sent_to (sends v to) a j = when eqb a.code 0 && eqb to j then v ∷ [] else []
sent_to takes a j = []

unfoldable pub taken_by : ℕ → Request → Reply → ℕ → List ℕ
taken_by i nothing a j = []
taken_by i (sends v to) a j = []
taken_by i takes a j = when eqb a.code 0 && eqb i j then a.ticket ∷ [] else []

-- queue j after a step of i: a ticket sent done to j stands behind the others, one taken by j is gone
unfoldable pub lined : ℕ → Request → Reply → List ℕ → ℕ → List ℕ
lined i q a l j = drop (length (taken_by i q a j)) (l ++ sent_to q a j)

-- What a step of partition i of n may do to queues: nothing; take the oldest of its own; put one ticket behind the others of one partition's.
pub data Moved (n i : ℕ) (Q Q' : ℕ → List ℕ) : Type 0 where
  stays : ((j : ℕ) → j < 8 → Q' j ≡ Q j) → Moved n i Q Q'
  takes_one : (v : ℕ) → Q i ≡ v ∷ Q' i → ((j : ℕ) → j < 8 → (j ≡ i → ⊥) → Q' j ≡ Q j) → Moved n i Q Q'
  sends_one : (v to : ℕ) → to < n → Q' to ≡ Q to ++ (v ∷ []) → ((j : ℕ) → j < 8 → (j ≡ to → ⊥) → Q' j ≡ Q j) → Moved n i Q Q'

-- ---- what holds of queues

-- what the types give, and that at most 32 wait
pub record Queued (t : Queues) : Type 0 where
  pub tickets : length t.tickets ≡ 256
  pub waiting : length t.waiting ≡ 8
  pub most : (j : ℕ) → waiting_of t j ≤ 32

-- partition i of n at its desk: one fact, since a clause has five parts at most
pub record Seated (n i : ℕ) (t : Queues) : Type 0 where
  pub queued : Queued t
  pub few : n ≤ 8
  pub small : i < 8

-- a queue: at most 32 wait, none for a partition that is not there, and the places behind them hold 0
pub record ProperQueue (n : ℕ) (t : Queues) (j : ℕ) : Type 0 where
  pub most : waiting_of t j ≤ 32
  pub none : n ≤ j → waiting_of t j ≡ 0
  pub spare : (k : ℕ) → waiting_of t j ≤ k → k < 32 → get_or (places_of t j) k 0 ≡ 0

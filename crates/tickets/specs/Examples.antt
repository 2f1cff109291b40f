-- Worked examples, as one list that proofs/Checked.antt checks by a single claim. Each row of Item 10's rules stands in square brackets, as
-- docs/EXAMPLES.md lists them.
use Rattle.std.specs.Prelude.{Bool, ◌&&◌, List, [], ◌∷◌, ◌++◌, ℕ, eqb, length, take, replicate}
use Rattle.dlx.specs.Machine.{Request, nothing, sends, takes, reply}
use Rattle.dlx.specs.Examples.{same}
use Rattle.tickets.specs.Queues.{Queues, queues, desk, queue_of, ruled, sent_to, taken_by, lined}

abbrev zeros : ℕ → List ℕ
zeros n = replicate n 0

-- the places of a queue of these
abbrev placed : List ℕ → List ℕ
placed l = take 32 (l ++ zeros 32)

-- three partitions, for which these wait
abbrev held : List ℕ → List ℕ → List ℕ → Queues
held a b c = queues (placed a ++ (placed b ++ (placed c ++ zeros 160))) (length a ∷ length b ∷ length c ∷ zeros 5)

-- none for these, and a full queue where there is no partition
abbrev crowded : Queues
crowded = queues (zeros 96 ++ (replicate 32 5 ++ zeros 128)) (0 ∷ 0 ∷ 0 ∷ 32 ∷ zeros 4)

-- One request of partition i of three: this answer, and these queues after it. The rule over lists answers the same, and lines each queue up so.
unfoldable pub served : ℕ → Queues → Request → ℕ → ℕ → Queues → Bool
served i t r code ticket t' =
    let g = desk 3 i t r in
    let a = ruled 3 i (queue_of t) r in
    eqb g.0.code code && eqb g.0.ticket ticket && same g.1.tickets t'.tickets && same g.1.waiting t'.waiting
    && eqb a.code code && eqb a.ticket ticket
    && same (lined i r a (queue_of t 0) 0) (queue_of t' 0)
    && same (lined i r a (queue_of t 1) 1) (queue_of t' 1)
    && same (lined i r a (queue_of t 2) 2) (queue_of t' 2)

unfoldable pub requests : List Bool
requests =
    -- [ticket: nothing asked] nothing changed
    served 1 (held (5 ∷ []) (6 ∷ 8 ∷ []) []) nothing 0 0 (held (5 ∷ []) (6 ∷ 8 ∷ []) [])
    -- [ticket: sent] it stands behind the others of its receiver; to oneself too
    ∷ served 0 (held (5 ∷ []) [] (9 ∷ [])) (sends 7 1) 0 0 (held (5 ∷ []) (7 ∷ []) (9 ∷ []))
    ∷ served 0 (held (5 ∷ []) (6 ∷ 8 ∷ []) (9 ∷ [])) (sends 7 1) 0 0 (held (5 ∷ []) (6 ∷ 8 ∷ 7 ∷ []) (9 ∷ []))
    ∷ served 2 (held (5 ∷ []) (6 ∷ []) (9 ∷ [])) (sends 7 2) 0 0 (held (5 ∷ []) (6 ∷ []) (9 ∷ 7 ∷ []))
    ∷ served 2 (held [] [] (9 ∷ [])) (sends 0xFFFFFFFF 0) 0 0 (held (0xFFFFFFFF ∷ []) [] (9 ∷ []))
    -- [ticket: full queue] the 32nd fits, the 33rd doesn't
    ∷ served 0 (held [] (4 ∷ replicate 30 5) (6 ∷ [])) (sends 7 1) 0 0 (held [] (4 ∷ replicate 30 5 ++ (7 ∷ [])) (6 ∷ []))
    ∷ served 0 (held [] (4 ∷ replicate 31 5) (6 ∷ [])) (sends 7 1) 1 0 (held [] (4 ∷ replicate 31 5) (6 ∷ []))
    -- [ticket: no such partition] the count, 8, and the largest number; also where a full queue stands at the place
    ∷ served 0 (held (5 ∷ []) (6 ∷ []) []) (sends 7 3) 2 0 (held (5 ∷ []) (6 ∷ []) [])
    ∷ served 0 (held (5 ∷ []) (6 ∷ []) []) (sends 7 8) 2 0 (held (5 ∷ []) (6 ∷ []) [])
    ∷ served 0 (held (5 ∷ []) (6 ∷ []) []) (sends 7 0xFFFFFFFF) 2 0 (held (5 ∷ []) (6 ∷ []) [])
    ∷ served 0 crowded (sends 7 3) 2 0 crowded
    -- [ticket: taken] the oldest of one's own, and the others move on, in a full queue too; the last leaves none
    ∷ served 1 (held (5 ∷ []) (6 ∷ 8 ∷ 9 ∷ []) (4 ∷ [])) takes 0 6 (held (5 ∷ []) (8 ∷ 9 ∷ []) (4 ∷ []))
    ∷ served 0 (held (4 ∷ replicate 30 5 ++ (7 ∷ [])) (6 ∷ []) []) takes 0 4 (held (replicate 30 5 ++ (7 ∷ [])) (6 ∷ []) [])
    ∷ served 2 (held [] [] (6 ∷ [])) takes 0 6 (held [] [] [])
    ∷ served 1 (held [] (0 ∷ 3 ∷ []) []) takes 0 0 (held [] (3 ∷ []) [])
    -- [ticket: none waiting]
    ∷ served 1 (held (5 ∷ []) [] (4 ∷ [])) takes 3 0 (held (5 ∷ []) [] (4 ∷ []))
    ∷ []

-- [ticket: counted] what counts as sent to a partition, and as taken by it: what is done, once
unfoldable pub counted : List Bool
counted =
    same (sent_to (sends 7 1) (reply 0 0) 1) (7 ∷ [])
    ∷ same (sent_to (sends 7 1) (reply 0 0) 0) []
    ∷ same (sent_to (sends 7 1) (reply 1 0) 1) []
    ∷ same (sent_to (sends 7 9) (reply 2 0) 9) []
    ∷ same (sent_to takes (reply 0 6) 1) []
    ∷ same (sent_to nothing (reply 0 0) 1) []
    ∷ same (taken_by 1 takes (reply 0 6) 1) (6 ∷ [])
    ∷ same (taken_by 1 takes (reply 0 6) 0) []
    ∷ same (taken_by 1 takes (reply 3 0) 1) []
    ∷ same (taken_by 1 (sends 7 1) (reply 0 0) 1) []
    ∷ same (taken_by 1 nothing (reply 0 0) 1) []
    ∷ []

-- Saved files and what they are. proofs/Checked.antt checks them by a single claim.
use Rattle.std.specs.Prelude.{Bool, true, false, not, ◌&&◌, ◌||◌, List, [], ◌∷◌, ◌++◌, ℕ, zero, suc, ◌+◌, ◌*◌, eqb, length, take, replicate}
use Rattle.dlx.specs.declared.partition.Partition.{Partition}
use Rattle.house.specs.Lists.{list_from}
use Rattle.house.specs.House.{no_house, layout, guests, turn, with_layout, with_turn, with_guests, with_queues}
use Rattle.house.specs.Damage.{outside_limits, frame_twice, turn_wrong, registers_wrong}
use Rattle.house.specs.Turns.{World, world}
use Rattle.house.specs.Calls.{Answered}
use Rattle.tickets.specs.Queues.{queues}
use Rattle.save.specs.Saved.{little, record_of, file_of}
use Rattle.save.specs.Reading.{begun, fed}
use Rattle.save.specs.Calls.{piece_length, read_piece, finished}
use Rattle.save.specs.Whole.{Says, other_size, wrong, right, says_of, answer_to}

unfoldable pub same : List ℕ → List ℕ → Bool
same [] [] = true
same [] (y ∷ ys) = false
same (x ∷ xs) [] = false
same (x ∷ xs) (y ∷ ys) = eqb x y && same xs ys

unfoldable pub all : List Bool → Bool
all [] = true
all (b ∷ bs) = b && all bs

unfoldable pub times : ℕ → List ℕ → List ℕ
times zero bs = []
times (suc n) bs = bs ++ times n bs

-- n bytes that count upwards
unfoldable pub upwards : ℕ → ℕ → List ℕ
upwards a n = list_from (λ k. k) a n

-- ---- a house's file, byte for byte

-- register j of both partitions, one after the other, has the bytes 4j to 4j + 3
unfoldable pub regs : List ℕ
regs = list_from (λ j. 4 * j + 0x100 * (4 * j + 1) + 0x10000 * (4 * j + 2) + 0x1000000 * (4 * j + 3)) 0 64

unfoldable pub first : Partition
first = record {
  pages = 2;
  processor = record {
    dpc = 0x15141312;
    pc = 0x19181716;
    sr = 0x1D1C1B1A;
    esr = 0x21201F1E;
    eca = 0x25242322;
    epc = 0x29282726;
    edpc = 0x2D2C2B2A;
    edata = 0x31302F2E;
    mode = 0x35343332;
    emode = 0x41403F3E;
  };
  table = record { pto = 0x39383736; ptl = 0x3D3C3B3A };
  timer = record { tcount = 0x45444342; tload = 0x49484746 };
  fault = 5;
  counter = 0x51504F4E4D4C4B4A;
}

unfoldable pub second : Partition
second = record {
  pages = 1;
  processor = record {
    dpc = 0x84838281;
    pc = 0x88878685;
    sr = 0x8C8B8A89;
    esr = 0x908F8E8D;
    eca = 0x94939291;
    epc = 0x98979695;
    edpc = 0x9C9B9A99;
    edata = 0xA09F9E9D;
    mode = 0xA4A3A2A1;
    emode = 0xB0AFAEAD;
  };
  table = record { pto = 0xA8A7A6A5; ptl = 0xACABAAA9 };
  timer = record { tcount = 0xB4B3B2B1; tload = 0xB8B7B6B5 };
  fault = 6;
  counter = 0xC0BFBEBDBCBBBAB9;
}

-- Two partitions, the second of which runs; 9 stands behind their lists and in a shadow. A memory of 1,000 words has no whole frame.
unfoldable pub small : World
small =
    world
    (with_queues
    (with_guests
    (with_turn
    (with_layout no_house (layout 2 0xF4F3F2F1 1000 (0x56555453 ∷ 0x5A595857 ∷ replicate 254 9 ++ (0xC6C5C4C3 ∷ 9 ∷ []))))
    (false ∷ true ∷ []) (turn 0xF8F7F6F5 0xFCFBFAF9))
    (guests (first ∷ second ∷ []) regs (9 ∷ [])))
    (queues (0xD5D4D3D2 ∷ 0xD9D8D7D6 ∷ 0xDDDCDBDA ∷ replicate 29 9 ++ (0xE8E7E6E5 ∷ 9 ∷ [])) (3 ∷ 1 ∷ [])))
    []

unfoldable pub small_bytes : List ℕ
small_bytes =
    16 ∷ 0 ∷ 0 ∷ 0 ∷ 5 ∷ 0 ∷ 0xF1 ∷ 0xF2 ∷ 0xF3 ∷ 0xF4 ∷ 0xE8 ∷ 0x03 ∷ 0 ∷ 0 ∷ upwards 0xF5 8
    ++ (208 ∷ 0 ∷ 0 ∷ 0 ∷ 6 ∷ 0 ∷ upwards 0 128 ++ (upwards 0x12 56 ++ (5 ∷ 0 ∷ 0 ∷ 0 ∷ 0 ∷ 0 ∷ 0 ∷ 0 ∷ upwards 0x4A 8 ++ upwards 0x53 8))
    ++ (204 ∷ 0 ∷ 0 ∷ 0 ∷ 6 ∷ 0 ∷ upwards 128 128 ++ (upwards 0x81 56 ++ (6 ∷ 0 ∷ 0 ∷ 0 ∷ 1 ∷ 0 ∷ 0 ∷ 0 ∷ upwards 0xB9 8 ++ upwards 0xC3 4))
    ++ (12 ∷ 0 ∷ 0 ∷ 0 ∷ 7 ∷ 0 ∷ upwards 0xD2 12
    ++ (4 ∷ 0 ∷ 0 ∷ 0 ∷ 7 ∷ 0 ∷ upwards 0xE5 4
    ++ (0 ∷ 0 ∷ 0 ∷ 0 ∷ 4 ∷ 0 ∷ [])))))

-- no partition, and a memory of two frames and two words
unfoldable pub framed : World
framed =
    world (with_layout no_house (layout 0 0 2050 []))
    (0x0C0B0A09 ∷ replicate 1022 7 ++ (0x1C1B1A19 ∷ 0x2C2B2A29 ∷ replicate 1022 8 ++ (0x3C3B3A39 ∷ 9 ∷ 9 ∷ [])))

unfoldable pub framed_bytes : List ℕ
framed_bytes =
    16 ∷ 0 ∷ 0 ∷ 0 ∷ 5 ∷ 0 ∷ 0 ∷ 0 ∷ 0 ∷ 0 ∷ 2 ∷ 8 ∷ 0 ∷ 0 ∷ 0 ∷ 0 ∷ 0 ∷ 0 ∷ 0 ∷ 0 ∷ 0 ∷ 0
    ∷ 4 ∷ 16 ∷ 0 ∷ 0 ∷ 3 ∷ 0 ∷ 0 ∷ 0 ∷ 0 ∷ 0 ∷ 0x09 ∷ 0x0A ∷ 0x0B ∷ 0x0C ∷ times 1022 (7 ∷ 0 ∷ 0 ∷ 0 ∷ [])
    ++ (0x19 ∷ 0x1A ∷ 0x1B ∷ 0x1C
    ∷ 4 ∷ 16 ∷ 0 ∷ 0 ∷ 3 ∷ 0 ∷ 1 ∷ 0 ∷ 0 ∷ 0 ∷ 0x29 ∷ 0x2A ∷ 0x2B ∷ 0x2C ∷ times 1022 (8 ∷ 0 ∷ 0 ∷ 0 ∷ [])
    ++ (0x39 ∷ 0x3A ∷ 0x3B ∷ 0x3C ∷ 0 ∷ 0 ∷ 0 ∷ 0 ∷ 4 ∷ 0 ∷ []))

-- ---- files to be read

-- a record of a kind and any body
unfoldable pub made : ℕ → List ℕ → List ℕ
made kind body = little 4 (length body) ++ (little 2 kind ++ body)

-- 22 bytes: turns of 7 steps, a memory of so many words
unfoldable pub turns_in : ℕ → List ℕ
turns_in words = record_of 5 (7 ∷ words ∷ 0 ∷ 3 ∷ [])

-- 206 bytes and the frames: a latest fault and a running flag
unfoldable pub guest : ℕ → ℕ → List ℕ → List ℕ
guest fault flag frames = record_of 6 (replicate 46 0 ++ (fault ∷ flag ∷ 2 ∷ 4 ∷ frames))

unfoldable pub queue : List ℕ → List ℕ
queue tickets = record_of 7 tickets

-- 4,106 bytes: its first word, and the others
unfoldable pub frame : ℕ → ℕ → ℕ → List ℕ
frame i a b = record_of 3 (i ∷ a ∷ replicate 1023 b)

unfoldable pub end : List ℕ
end = record_of 4 []

-- a memory of 5 words has no frame
unfoldable pub five : List ℕ
five = 91 ∷ 92 ∷ 93 ∷ 94 ∷ 95 ∷ []

-- one partition, without tickets: 22, 206 and 6 bytes, and what follows
unfoldable pub one : ℕ → List ℕ → List ℕ
one words rest = turns_in words ++ (guest 6 1 [] ++ (queue [] ++ rest))

-- the first wrong record starts there, and the memory is this one
unfoldable pub is_wrong : ℕ → List ℕ → Says → Bool
is_wrong at m (other_size m') = false
is_wrong at m (wrong a m') = eqb a at && same m m'
is_wrong at m (right a w) = false

-- kind 4 starts there
unfoldable pub is_right : ℕ → Says → Bool
is_right at (other_size m) = false
is_right at (wrong a m) = false
is_right at (right a w) = eqb a at

unfoldable pub is_other : List ℕ → Says → Bool
is_other m (other_size m') = same m m'
is_other m (wrong a m') = false
is_other m (right a w) = false

unfoldable pub wrong_at : ℕ → List ℕ → Bool
wrong_at at f = is_wrong at five (says_of five f)

unfoldable pub right_to : ℕ → List ℕ → Bool
right_to at f = is_right at (says_of five f)

-- an answer's number and detail, and the memory with it
unfoldable pub gives : ℕ → ℕ → List ℕ → Answered → Bool
gives number detail m a = eqb a.verdict.number number && eqb a.verdict.detail detail && same a.world.memory m && eqb a.world.house.count 0

-- byte by byte too
unfoldable pub bytes_wrong : ℕ → List ℕ → Bool
bytes_wrong at f = wrong_at at f && gives 17 at five (finished (fed (begun five) f))

-- ---- the examples

unfoldable pub files : List Bool
files =
    -- [saved file] [saved frames]
    same (file_of small) small_bytes
    ∷ same (file_of framed) framed_bytes
    ∷ []

unfoldable pub fronts : List Bool
fronts =
    -- [saved: kind 5] none; another kind, of its length and of its own; 12 bytes and 20; a second one
    bytes_wrong 0 []
    ∷ bytes_wrong 0 (record_of 1 (7 ∷ 5 ∷ 0 ∷ 3 ∷ []))
    ∷ bytes_wrong 0 (record_of 4 [])
    ∷ wrong_at 0 (guest 6 1 [] ++ (queue [] ++ end))
    ∷ bytes_wrong 0 (record_of 5 (7 ∷ 5 ∷ 0 ∷ []) ++ (guest 6 1 [] ++ (queue [] ++ end)))
    ∷ bytes_wrong 0 (record_of 5 (7 ∷ 5 ∷ 0 ∷ 3 ∷ 1 ∷ []) ++ (guest 6 1 [] ++ (queue [] ++ end)))
    ∷ bytes_wrong 22 (turns_in 5 ++ (turns_in 5 ++ (guest 6 1 [] ++ (queue [] ++ end))))
    -- [saved: kind 6] none; 196 bytes, 202, 1,224 and 1,228; eight, and a ninth; one behind a kind 7; a running flag of 0, of 1, of 2, and of 2 in the second
    ∷ bytes_wrong 22 (turns_in 5 ++ (queue [] ++ end))
    ∷ bytes_wrong 22 (turns_in 5 ++ end)
    ∷ wrong_at 22 (turns_in 5 ++ (record_of 6 (replicate 49 0) ++ (queue [] ++ end)))
    ∷ wrong_at 22 (turns_in 5 ++ (made 6 (replicate 202 0) ++ (queue [] ++ end)))
    ∷ right_to 1258 (turns_in 5 ++ (guest 6 1 (replicate 256 3) ++ (queue [] ++ end)))
    ∷ wrong_at 22 (turns_in 5 ++ (guest 6 1 (replicate 257 3) ++ (queue [] ++ end)))
    ∷ right_to 1718 (turns_in 5 ++ (times 8 (guest 6 1 []) ++ (times 8 (queue []) ++ end)))
    ∷ wrong_at 1670 (turns_in 5 ++ (times 9 (guest 6 1 []) ++ (times 9 (queue []) ++ end)))
    ∷ wrong_at 234 (one 5 (guest 6 1 [] ++ (queue [] ++ end)))
    ∷ right_to 234 (turns_in 5 ++ (guest 6 0 [] ++ (queue [] ++ end)))
    ∷ right_to 234 (one 5 end)
    ∷ wrong_at 22 (turns_in 5 ++ (guest 6 2 [] ++ (queue [] ++ end)))
    ∷ wrong_at 228 (turns_in 5 ++ (guest 6 1 [] ++ (guest 6 2 [] ++ (queue [] ++ (queue [] ++ end)))))
    ∷ []

unfoldable pub backs : List Bool
backs =
    -- [saved: kind 7] 128 bytes, 132, and 6; none; one of two; two of one
    right_to 362 (turns_in 5 ++ (guest 6 1 [] ++ (queue (replicate 32 8) ++ end)))
    ∷ wrong_at 228 (turns_in 5 ++ (guest 6 1 [] ++ (queue (replicate 33 8) ++ end)))
    ∷ wrong_at 228 (turns_in 5 ++ (guest 6 1 [] ++ (made 7 (replicate 6 0) ++ end)))
    ∷ wrong_at 228 (turns_in 5 ++ (guest 6 1 [] ++ end))
    ∷ wrong_at 440 (turns_in 5 ++ (guest 6 1 [] ++ (guest 6 1 [] ++ (queue [] ++ end))))
    ∷ wrong_at 234 (one 5 (queue [] ++ end))
    -- [saved: kind 4] 4 bytes; none; a byte behind it, which is told before damage
    ∷ wrong_at 234 (one 5 (record_of 4 (0 ∷ [])))
    ∷ wrong_at 234 (one 5 [])
    ∷ wrong_at 240 (one 5 (end ++ (0 ∷ [])))
    -- [saved: cut short] a head; a body; a body that is wrong besides
    ∷ wrong_at 234 (one 5 (take 5 end))
    ∷ wrong_at 228 (turns_in 5 ++ (guest 6 1 [] ++ take 9 (queue (8 ∷ []))))
    ∷ wrong_at 22 (turns_in 5 ++ take 205 (guest 6 2 []))
    -- [saved: other kinds] 0, 8 and 260
    ∷ wrong_at 234 (one 5 (record_of 0 [] ++ end))
    ∷ wrong_at 234 (one 5 (record_of 8 [] ++ end))
    ∷ wrong_at 234 (one 5 (record_of 260 [] ++ end))
    ∷ []

-- a memory of two frames
unfoldable pub two : List ℕ
two = replicate 2048 9

unfoldable pub memories : List Bool
memories =
    -- [saved: kind 3] none where the memory has no frame; one too few; one too many; 4,096 bytes
    wrong_at 234 (one 5 (frame 0 7 8 ++ end))
    ∷ is_wrong 4340 (7 ∷ replicate 1023 8 ++ replicate 1024 9) (says_of two (one 2048 (frame 0 7 8 ++ end)))
    ∷ is_wrong 4340 (7 ∷ replicate 1023 8) (says_of (replicate 1024 9) (one 1024 (frame 0 7 8 ++ (frame 1 7 8 ++ end))))
    ∷ is_wrong 234 two (says_of two (one 2048 (record_of 3 (replicate 1024 0) ++ end)))
    -- frame 1 first, and frame 0 twice: the memory has what stood before
    ∷ is_wrong 234 two (says_of two (one 2048 (frame 1 7 8 ++ (frame 0 5 6 ++ end))))
    ∷ is_wrong 4340 (7 ∷ replicate 1023 8 ++ replicate 1024 9) (says_of two (one 2048 (frame 0 7 8 ++ (frame 0 5 6 ++ end))))
    -- a kind 7 and a kind 6 behind one
    ∷ is_wrong 4340 (7 ∷ replicate 1023 8) (says_of (replicate 1024 9) (one 1024 (frame 0 7 8 ++ (queue [] ++ end))))
    ∷ is_wrong 4340 (7 ∷ replicate 1023 8) (says_of (replicate 1024 9) (one 1024 (frame 0 7 8 ++ (guest 6 1 [] ++ end))))
    -- both
    ∷ is_right 8446 (says_of two (one 2048 (frame 0 7 8 ++ (frame 1 5 6 ++ end))))
    ∷ []

unfoldable pub refusals : List Bool
refusals =
    -- [saved: damage] q 0, a current partition and steps left that no house has, a fault of 8, frame 0 and a frame outside are no wrong records
    right_to 242 (record_of 5 (0 ∷ 5 ∷ 9 ∷ 0 ∷ []) ++ (guest 8 1 (0 ∷ 99 ∷ []) ++ (queue [] ++ end)))
    -- where all records are right and the house is damaged: the place of kind 4
    ∷ gives 17 234 five (answer_to (says_of five (one 5 end)))
    ∷ gives 17 234 five (finished (fed (begun five) (one 5 end)))
    -- [saved: other size] as soon as kind 5 is read, whatever follows
    ∷ is_other five (says_of five (turns_in 6))
    ∷ is_other five (says_of five (turns_in 4 ++ (guest 6 2 [] ++ end)))
    ∷ gives 9 0 five (finished (fed (begun five) (turns_in 6 ++ (0 ∷ []))))
    ∷ gives 17 0 five (finished (fed (begun five) (take 21 (turns_in 6))))
    -- [saved: later piece] a memory of another size, before kind 5 and after it; with a piece of no bytes; after a refusal
    ∷ gives 17 22 five (finished (read_piece (read_piece (begun two) two (take 21 (turns_in 5))) five (5 ∷ 0 ∷ [])))
    ∷ gives 9 0 (4 ∷ 4 ∷ []) (finished (read_piece (read_piece (begun five) five (turns_in 5)) (4 ∷ 4 ∷ []) end))
    ∷ gives 9 0 (4 ∷ 4 ∷ []) (finished (read_piece (read_piece (begun five) five (turns_in 5)) (4 ∷ 4 ∷ []) []))
    ∷ gives 17 22 (4 ∷ 4 ∷ []) (finished (read_piece (read_piece (begun five) five (turns_in 5 ++ end)) (4 ∷ 4 ∷ []) []))
    -- [saved: piece's length] what the output has room for, what there is, and 64 KiB
    ∷ eqb (piece_length small 3 7) 7
    ∷ eqb (piece_length small 479 7) 1
    ∷ eqb (piece_length small 480 7) 0
    ∷ eqb (piece_length small 481 7) 0
    ∷ []

-- One partition in a memory of two frames; kind 4 is at 8,450, and 4 further with each frame more. q, current partition and steps left; running flag, register 0,
-- MODE, EMODE, latest fault, frames.
unfoldable pub housed : ℕ → ℕ → ℕ → ℕ → ℕ → ℕ → ℕ → ℕ → List ℕ → List ℕ
housed q current left flag r0 mode emode fault frames =
    record_of 5 (q ∷ 2048 ∷ current ∷ left ∷ [])
    ++ (record_of 6 (r0 ∷ replicate 39 0 ++ (mode ∷ 0 ∷ 0 ∷ emode ∷ 0 ∷ 0 ∷ fault ∷ flag ∷ 2 ∷ 4 ∷ frames)) ++ (queue [] ++ (frame 0 7 8 ++ (frame 1 5 6 ++ end))))

unfoldable pub told : ℕ → ℕ → List ℕ → Bool
told number detail f =
    let a = answer_to (says_of two f) in
    eqb a.verdict.number number && eqb a.verdict.detail detail

-- it would be one of a house in which the damage that is meant here is not
unfoldable pub undamaged_so : Says → Bool
undamaged_so (other_size m) = false
undamaged_so (wrong at m) = false
undamaged_so (right at w) = not (outside_limits w.house || frame_twice w.house || turn_wrong w.house || registers_wrong w.house)

unfoldable pub damages : List Bool
damages =
    -- what a house may have: all stopped, or the largest of each
    undamaged_so (says_of two (housed 1 0 0 0 0 0 0 6 (1 ∷ [])))
    ∷ undamaged_so (says_of two (housed 10000 0 10000 1 0 1 1 7 (1 ∷ [])))
    ∷ undamaged_so (says_of two (housed 7 0 3 1 0 0 0 6 (1 ∷ [])))
    -- [saved: each damage] and what it may not: q of 0 and of 10,001
    ∷ told 17 8450 (housed 0 0 0 0 0 0 0 6 (1 ∷ []))
    ∷ told 17 8450 (housed 10001 0 3 1 0 0 0 6 (1 ∷ []))
    -- a current partition that is not there, or is stopped; more steps left than q; none current while one runs
    ∷ told 17 8450 (housed 7 1 3 1 0 0 0 6 (1 ∷ []))
    ∷ told 17 8450 (housed 7 0 3 0 0 0 0 6 (1 ∷ []))
    ∷ told 17 8450 (housed 7 0 8 1 0 0 0 6 (1 ∷ []))
    ∷ told 17 8450 (housed 7 0 0 1 0 0 0 6 (1 ∷ []))
    -- register 0, MODE, EMODE and the latest fault
    ∷ told 17 8450 (housed 7 0 3 1 1 0 0 6 (1 ∷ []))
    ∷ told 17 8450 (housed 7 0 3 1 0 2 0 6 (1 ∷ []))
    ∷ told 17 8450 (housed 7 0 3 1 0 0 2 6 (1 ∷ []))
    ∷ told 17 8450 (housed 7 0 3 1 0 0 0 8 (1 ∷ []))
    -- no frame; frame 0, one that the memory does not have, and one twice
    ∷ told 17 8446 (housed 7 0 3 1 0 0 0 6 [])
    ∷ told 17 8450 (housed 7 0 3 1 0 0 0 6 (0 ∷ []))
    ∷ told 17 8450 (housed 7 0 3 1 0 0 0 6 (2 ∷ []))
    ∷ told 17 8454 (housed 7 0 3 1 0 0 0 6 (1 ∷ 1 ∷ []))
    ∷ []

-- a memory of 16 frames: a file of 65,724 bytes
unfoldable pub large : World
large = world (with_layout no_house (layout 0 0 16384 [])) (replicate 16384 9)

unfoldable pub lengths : List Bool
lengths =
    eqb (piece_length large 0 65535) 65535
    ∷ eqb (piece_length large 0 65537) 65536
    ∷ eqb (piece_length large 65536 70000) 188
    ∷ []

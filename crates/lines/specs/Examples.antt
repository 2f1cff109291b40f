-- Worked examples. proofs/Checked.antt checks them by a single claim.
use Rattle.std.specs.Prelude.{Bool, true, not, ◌&&◌, List, [], ◌∷◌, ◌++◌, ℕ, eqb, replicate}
use Prim.Native.String.{String}
use Rattle.decimal.specs.Texts.{ascii, same}
use Rattle.lines.specs.Lines.{line_of, candidate, right}
use Rattle.lines.specs.Listings.{listing, assembled}

-- a word is written so, and read back
unfoldable pub reads : ℕ → String → Bool
reads w t = same (line_of w) (ascii t) && right (ascii t) && eqb (candidate (ascii t)) w

unfoldable pub wrong : String → Bool
wrong t = not (right (ascii t))

-- a text of lines with an output of so many words, each 9, gives this number, detail, count and output
unfoldable pub gives : List ℕ → ℕ → ℕ → ℕ → ℕ → List ℕ → Bool
gives t room n d k out = let a = assembled t (replicate room 9) in eqb a.number n && eqb a.detail d && eqb a.count k && same a.out out

-- [every name] one of every row, every operand another number
unfoldable pub rows : List Bool
rows =
    reads 2372074503 "lw r2 r11 -1017"
    ∷ reads 2923628513 "sw r3 r18 2017"
    ∷ reads 2200237111 "lb r4 r25 -3017"
    ∷ reads 2217021361 "lh r5 r1 4017"
    ∷ reads 2433150055 "lbu r6 r8 -5017"
    ∷ reads 2514950017 "lhu r7 r15 6017"
    ∷ reads 2731074711 "sb r8 r22 -7017"
    ∷ reads 2812878673 "sh r9 r29 8017"
    ∷ reads 548068551 "addi r10 r5 -9017"
    ∷ reads 696985377 "subi r11 r12 10017"
    ∷ reads 845993207 "andi r12 r19 -11017"
    ∷ reads 927805169 "ori r13 r26 12017"
    ∷ reads 944688423 "xori r14 r2 -13017"
    ∷ reads 1630484161 "clr r15 r9 14017"
    ∷ reads 1714472279 "sgr r16 r17 -15017"
    ∷ reads 1794195089 "seq r17 r23 16017"
    ∷ reads 1876082055 "sge r18 r30 -17017"
    ∷ reads 1892894305 "sls r19 r6 18017"
    ∷ reads 1974777271 "sne r20 r13 -19017"
    ∷ reads 2056605233 "sle r21 r20 20017"
    ∷ reads 2138484199 "set r22 r27 -21017"
    ∷ reads 8370208 "add r23 r3 r31"
    ∷ reads 21741602 "sub r24 r10 r11"
    ∷ reads 37144612 "and r25 r17 r22"
    ∷ reads 50516005 "or r26 r24 r2"
    ∷ reads 65919014 "xor r27 r31 r13"
    ∷ reads 16310312 "clr r28 r7 r24"
    ∷ reads 29681705 "sgr r29 r14 r4"
    ∷ reads 45084714 "seq r30 r21 r15"
    ∷ reads 60487723 "sge r31 r28 r26"
    ∷ reads 8783916 "sls r1 r4 r6"
    ∷ reads 24186925 "sne r2 r11 r17"
    ∷ reads 39589934 "sle r3 r18 r28"
    ∷ reads 52961327 "set r4 r25 r8"
    ∷ reads 1007262784 "lhgi r9 40000"
    ∷ reads 304151764 "beqz r17 -812"
    ∷ reads 373293868 "bnez r18 812"
    ∷ reads 1516240896 "jr r19"
    ∷ reads 1585446912 "jalr r20"
    ∷ reads 201256592 "j -70000"
    ∷ reads 201396596 "jal 70004"
    ∷ reads 4160749825 "trap 257"
    ∷ reads 4227858432 "rfe"
    ∷ reads 43536 "movs2i r21 8"
    ∷ reads 46138001 "movi2s 10 r22"
    ∷ []

-- [ends of operands] [words without a name]
unfoldable pub rights : List Bool
rights =
    reads 536936453 "addi r1 r0 5"
    ∷ reads 2885746696 "sw r1 r0 8"
    ∷ reads 4160749575 "trap 7"
    ∷ reads 4227858431 "trap -1"
    ∷ reads 2234400 "add r3 r1 r2"
    ∷ reads 268500988 "beqz r0 -4"
    ∷ reads 4227858432 "rfe"
    ∷ reads 4227858433 "word 4227858433"
    ∷ reads 1006764031 "lhgi r1 65535"
    ∷ reads 1008861183 "word 1008861183"
    ∷ reads 0 "word 0"
    ∷ reads 4294967295 "word 4294967295"
    ∷ reads 2097617 "movi2s 7 r1"
    ∷ reads 2192 "movs2i r1 2"
    ∷ reads 2832 "word 2832"
    ∷ reads 1614905344 "clr r1 r2 -32768"
    ∷ reads 4393000 "clr r1 r2 r3"
    ∷ reads 2145353727 "set r31 r30 32767"
    ∷ reads 2151743491 "lb r1 r2 3"
    ∷ reads 1541406720 "jr r31"
    ∷ reads 167772160 "j -33554432"
    ∷ reads 234881023 "jal 33554431"
    ∷ reads 2768 "movs2i r1 11"
    ∷ reads 2832 "word 2832"
    ∷ reads 603947008 "addi r31 r31 -32768"
    ∷ []

-- [wrong lines]
unfoldable pub wrongs : List Bool
wrongs =
    wrong ""
    ∷ wrong "word 536936453"
    ∷ wrong "addi r1 r0 05"
    ∷ wrong "addi r01 r0 5"
    ∷ wrong "addi r1 r0 -0"
    ∷ wrong "addi r1 r0 +5"
    ∷ wrong "addi r1 r0 32768"
    ∷ wrong "addi r1 r0 -32769"
    ∷ wrong "addi r1  r0 5"
    ∷ wrong " addi r1 r0 5"
    ∷ wrong "addi r1 r0 5 "
    ∷ wrong "ADDI r1 r0 5"
    ∷ wrong "addi r1 r0"
    ∷ wrong "addi r1 r0 5 6"
    ∷ wrong "addi r32 r0 5"
    ∷ wrong "add r1 r2 3"
    ∷ wrong "sls r1 r2"
    ∷ wrong "clri r1 r2 3"
    ∷ wrong "lhgi r1 -1"
    ∷ wrong "lhgi r1 65536"
    ∷ wrong "movs2i r1 12"
    ∷ wrong "movi2s pto r1"
    ∷ wrong "rfe 0"
    ∷ wrong "rfe r0"
    ∷ wrong "word -1"
    ∷ wrong "word 4294967296"
    ∷ wrong "word 00"
    ∷ wrong "word"
    ∷ wrong "trap 33554432"
    ∷ wrong "j 0x10"
    ∷ wrong "nop"
    ∷ wrong "addi r1 r0 5#"
    ∷ []

-- [texts] newline, return, NUL, and 81 bytes; a last line without a newline; the first wrong line before a short output
unfoldable pub texts : List Bool
texts =
    gives [] 0 0 0 0 []
    ∷ gives [] 1 0 0 0 (9 ∷ [])
    ∷ gives (ascii "rfe" ++ (10 ∷ [])) 2 0 0 1 (4227858432 ∷ 9 ∷ [])
    ∷ gives (ascii "rfe") 2 0 0 1 (4227858432 ∷ 9 ∷ [])
    ∷ gives (ascii "rfe" ++ (10 ∷ ascii "jr r1")) 2 0 0 2 (4227858432 ∷ 1478492160 ∷ [])
    ∷ gives (10 ∷ []) 2 18 1 0 (9 ∷ 9 ∷ [])
    ∷ gives (ascii "rfe" ++ (10 ∷ 10 ∷ [])) 2 18 2 0 (9 ∷ 9 ∷ [])
    ∷ gives (ascii "rfe" ++ (13 ∷ 10 ∷ [])) 1 18 1 0 (9 ∷ [])
    ∷ gives (ascii "rfe" ++ (0 ∷ [])) 1 18 1 0 (9 ∷ [])
    ∷ gives (ascii "rfe" ++ (10 ∷ ascii "nop" ++ (10 ∷ ascii "nop"))) 0 18 2 0 []
    ∷ gives (ascii "rfe" ++ (10 ∷ ascii "rfe")) 1 13 0 0 (9 ∷ [])
    ∷ gives (replicate 81 32) 1 18 1 0 (9 ∷ [])
    ∷ same (listing (4227858432 ∷ 0 ∷ [])) (ascii "rfe" ++ (10 ∷ ascii "word 0" ++ (10 ∷ [])))
    ∷ []

unfoldable pub all : List Bool → Bool
all [] = true
all (b ∷ bs) = b && all bs

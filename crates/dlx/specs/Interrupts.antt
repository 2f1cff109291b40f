-- Interrupts. A cause word has the bit of each cause: 1 ill, 2 mal, 3 pff, 4 pfls, 5 trap, 6 ovf, 13 the timer's.
use Rattle.std.specs.Prelude.{Bool, ◌||◌, ℕ, ◌/◌, ◌%◌, ◌^◌, eqb}
use Rattle.std.specs.Int.Count.{count_trailing_zeros}
use Rattle.dlx.specs.Choice.{when◌then◌else◌}
use Rattle.dlx.specs.Processor.{behind}
use Rattle.dlx.specs.declared.partition.Processor.{Processor}

abbrev pub ill : ℕ
ill = 2 ^ 1

abbrev pub mal : ℕ
mal = 2 ^ 2

abbrev pub pff : ℕ
pff = 2 ^ 3

abbrev pub pfls : ℕ
pfls = 2 ^ 4

abbrev pub trap : ℕ
trap = 2 ^ 5

abbrev pub ovf : ℕ
ovf = 2 ^ 6

abbrev pub timer : ℕ
timer = 2 ^ 13

-- only ovf and the timer are maskable, cause n by SR bit n: it interrupts where the bit is 1
abbrev pub unmasked : ℕ → ℕ → Bool
unmasked n sr = eqb (sr / 2 ^ n % 2) 1

-- the lowest set bit of the masked cause word, 32 for 0
unfoldable pub level_of : ℕ → ℕ
level_of causes = count_trailing_zeros 32 causes

-- for 1, 2, 3 and 4 the saved pair is the old one, as in the board's log sheets; for 13 too, since entry then comes behind the instruction, and finds the new one
abbrev pub saves_old : ℕ → Bool
saves_old l = eqb l 1 || eqb l 2 || eqb l 3 || eqb l 4 || eqb l 13

-- trap brings its immediate, pff DPC, pfls the data address; else EDATA is kept
abbrev pub brings_datum : ℕ → Bool
brings_datum l = eqb l 3 || eqb l 4 || eqb l 5

abbrev pub entered : Processor → ℕ → ℕ → ℕ → ℕ → Processor
entered p causes edpc epc edata = record {
  dpc = 0;
  pc = 4;
  sr = 0;
  esr = p.sr;
  eca = causes;
  epc = epc;
  edpc = edpc;
  edata = edata;
  mode = 0;
  emode = p.mode;
}

-- interrupt entry
unfoldable pub interrupted : Processor → ℕ → ℕ → Processor
interrupted p causes datum =
    let l = level_of causes in
    entered p causes
    (when saves_old l then p.dpc else p.pc)
    (when saves_old l then p.pc else behind p)
    (when brings_datum l then datum else p.edata)

-- rfe
abbrev pub returned : Processor → Processor
returned p = record {
  dpc = p.edpc;
  pc = p.epc;
  sr = p.esr;
  esr = p.esr;
  eca = p.eca;
  epc = p.epc;
  edpc = p.edpc;
  edata = p.edata;
  mode = p.emode;
  emode = p.emode;
}

-- Every promise used on a closed life: two guests run, one of them is stopped, a shadow is filled; the house is saved and read back, and goes on.
use mathlib.Core.Path.{◌≡◌, refl, sym, ap, subst, ◌∙◌}
use mathlib.Core.Bool.{false}
use mathlib.Core.List.{List, [], ◌∷◌, ◌++◌, append-nil}
use Prim.Native.Nat.{ℕ, zero, suc, ◌^◌, ◌<◌}
use native.Mathlib.Omega.{arith}
use borrow.Author.Tests.{ne_eqb}
use lib.ListN.{length, get_or, take, drop, replicate, length-replicate, take-append-drop}
use Rattle.dlx.specs.Parts.{inner}
use Rattle.addresses.specs.Entries.{entry_of}
use Rattle.house.specs.House.{no_house, fresh_shadows, shadow_of}
use Rattle.house.specs.Damage.{damaged}
use Rattle.house.specs.Boot.{verdict, first_of}
use Rattle.house.specs.Turns.{World, world}
use Rattle.house.specs.Calls.{answered}
use Rattle.demands.specs.Histories.{booted, Call, run, after, history, steps_made, turns_made, lone_of, log_of}
use Rattle.demands.proofs.Demands.{never_damaged}
use Rattle.demands.proofs.Instances.TwoGuests.{two_guests, memory_words, full, grown_full, by_store}
use Rattle.housefile.specs.Records.{number, words_of}
use Rattle.save.specs.Saved.{little, all_bytes, record_of, file_of}
use Rattle.save.specs.Reading.{Reading, begun, turned, may_come, content_right, taken, settled, took, fed}
use Rattle.save.specs.Calls.{save_verdict, save_call, read_piece, read_verdict, finished}
use Rattle.save.specs.Whole.{says_of, answer_to}
use Rattle.save.specs.Promises.{Savable, emptied, Bytes, whole, pieces_read, SaveOf, RestoreOf, emptyings, Life, begins, calls, resumes, Nothing}
use Rattle.save.proofs.Bytes.{below_append, record_below}
use Rattle.save.proofs.Promises.{read_back, file_bytes, one_file, gives_whole, one_house, cut_anywhere, right_alone}
use Rattle.save.proofs.WholeFile.{whole_file}
use Rattle.save.proofs.Lives.{restores, lives_on, lives_grown, grown_savable, steps_then, turns_then, log_then, emptyings_nothing, refused, saves}

-- ---- saved

abbrev saved : World
saved = full

-- the history of it
abbrev calls_made : List Call
calls_made = grown_full.0

savable : Savable saved
savable = grown_savable two_guests memory_words saved grown_full

kept : SaveOf saved (file_of saved) × RestoreOf (file_of saved) (emptied saved)
kept = saves saved savable

-- a shadow was filled, and comes back empty
pub shadow_filled : get_or (shadow_of saved.house 0) 1 0 ≡ entry_of 1 0
shadow_filled = by_store.0

pub shadow_empty : get_or (shadow_of (emptied saved).house 0) 1 0 ≡ 0
unfolding fresh_shadows inner
shadow_empty = refl

-- over a memory of sevens, in two pieces
pub over_sevens : finished (pieces_read (begun (replicate saved.house.words 7)) (take 100 (file_of saved) ∷ drop 100 (file_of saved) ∷ [])) ≡ answered (verdict 0 0) (emptied saved)
unfolding whole
over_sevens =
    read_back saved savable (replicate saved.house.words 7) (length-replicate {A = ℕ} saved.house.words 7) (take 100 (file_of saved) ∷ drop 100 (file_of saved) ∷ [])
    (ap (λ (l : List ℕ). take 100 (file_of saved) ++ l) (append-nil (drop 100 (file_of saved))) ∙ take-append-drop 100 (file_of saved))

-- ---- the life

first : Life two_guests calls_made saved
first = subst (Life two_guests calls_made) (sym grown_full.1) (lives_on two_guests calls_made [] (booted two_guests) begins)

abbrev before : List Call
before = calls_made ++ emptyings saved.house.count

second : Life two_guests before (emptied saved)
second = resumes first kept.0 kept.1

third : Life two_guests (before ++ (run 4 ∷ [])) (after (run 4) (emptied saved))
third = calls second (run 4)

pub grown : after (run 4) (emptied saved) ≡ history (before ++ (run 4 ∷ [])) (booted two_guests)
grown = lives_grown two_guests memory_words (before ++ (run 4 ∷ [])) (after (run 4) (emptied saved)) third

pub still_whole : damaged (after (run 4) (emptied saved)).house ≡ false
still_whole = never_damaged two_guests memory_words (after (run 4) (emptied saved)) (before ++ (run 4 ∷ []), grown)

-- each lone machine stands where it stood, and no step is counted twice
pub same_machine : (i : ℕ) → lone_of (emptied saved) i ≡ lone_of saved i
same_machine i =
    ap (λ (w : World). lone_of w i) (restores saved (emptied saved) (file_of saved) savable.typed kept.0 kept.1) ∙ (emptyings_nothing saved.house.count saved).lone i

nothing : Nothing (emptyings saved.house.count) (history calls_made (booted two_guests))
nothing = emptyings_nothing saved.house.count (history calls_made (booted two_guests))

pub same_steps : steps_made before (booted two_guests) ≡ steps_made calls_made (booted two_guests)
same_steps = steps_then calls_made (emptyings saved.house.count) (booted two_guests) ∙ omega (arith, nothing.steps)

pub same_turns : (i : ℕ) → turns_made before (booted two_guests) i ≡ turns_made calls_made (booted two_guests) i
same_turns i = turns_then calls_made (emptyings saved.house.count) (booted two_guests) i ∙ omega (arith, nothing.turns i)

pub same_log : log_of before (booted two_guests) ≡ log_of calls_made (booted two_guests)
same_log = log_then calls_made (emptyings saved.house.count) (booted two_guests) ∙ ap (λ l. log_of calls_made (booted two_guests) ++ l) nothing.log ∙ append-nil (log_of calls_made (booted two_guests))

-- ---- a file that is cut, over a memory of nines

abbrev cut : List ℕ
cut = record_of 5 (7 ∷ 2048 ∷ 0 ∷ 3 ∷ []) ++ (4 ∷ 16 ∷ [])

cut_bytes : (i : ℕ) → get_or cut i 0 < 256
cut_bytes = below_append 256 (record_of 5 (7 ∷ 2048 ∷ 0 ∷ 3 ∷ [])) (4 ∷ 16 ∷ []) (record_below 5 (7 ∷ 2048 ∷ 0 ∷ 3 ∷ [])) rest
  where
    rest : (i : ℕ) → get_or (4 ∷ 16 ∷ []) i 0 < 256
    rest zero = omega arith
    rest (suc zero) = omega arith
    rest (suc (suc i)) = omega arith

cut_long : length cut < 2 ^ 64
cut_long = unfold record_of little all_bytes in omega arith

abbrev nines : List ℕ
nines = replicate 2048 9

-- no frame of it has come, and every word of the memory is there
pub nothing_lost : get_or (fed (begun nines) cut).progress.memory 1000 0 ≡ 9
nothing_lost =
    (right_alone nines cut cut_bytes cut_long).kept 1000
    (unfold record_of little all_bytes fed took number words_of may_come content_right settled taken turned in omega arith)

-- in three pieces, one of them of no bytes, it comes to the same; and what it comes to is what its records say
pub in_pieces : pieces_read (begun nines) (take 3 cut ∷ [] ∷ drop 3 cut ∷ []) ≡ fed (begun nines) cut
in_pieces =
    let e : whole (take 3 cut ∷ [] ∷ drop 3 cut ∷ []) ≡ cut = unfold whole in ap (λ (l : List ℕ). take 3 cut ++ l) (append-nil (drop 3 cut)) ∙ take-append-drop 3 cut in
    cut_anywhere nines (take 3 cut ∷ [] ∷ drop 3 cut ∷ []) (subst Bytes (sym e) cut_bytes) ∙ ap (fed (begun nines)) e

pub by_records : finished (fed (begun nines) cut) ≡ answer_to (says_of nines cut)
by_records = whole_file nines cut cut_long

cut_refused : (finished (fed (begun nines) cut)).verdict.number ≡ 17
cut_refused = unfold record_of little all_bytes fed took number words_of may_come content_right settled taken turned finished read_verdict first_of in refl

-- it gives no house, over the memory as it is
pub no_house_back : (finished (fed (begun nines) cut)).world ≡ world no_house (fed (begun nines) cut).progress.memory
no_house_back = refused.reading (fed (begun nines) cut) (λ z. let n = cut_refused in omega arith)

-- kind 5 alone has come: a later piece over a memory of one word is 9, and leaves it
abbrev opened : Reading
opened = fed (begun nines) (record_of 5 (7 ∷ 2048 ∷ 0 ∷ 3 ∷ []))

pub other_memory : finished (read_piece opened (4 ∷ []) (9 ∷ [])) ≡ answered (verdict 9 0) (world no_house (4 ∷ []))
other_memory =
    refused.sizes opened (4 ∷ []) (9 ∷ [])
    (unfold record_of little all_bytes fed took number words_of may_come content_right settled taken turned in refl)
    (unfold record_of little all_bytes fed took number words_of may_come content_right settled taken turned in refl)
    (unfold record_of little all_bytes fed took number words_of may_come content_right settled taken turned in λ z. omega arith)

-- a save of a house in a memory with a word too many is refused, and writes nothing
abbrev astray : World
astray = world saved.house (7 ∷ saved.memory)

nine : (save_call astray 0 (1 ∷ 2 ∷ [])).verdict.number ≡ 9
unfolding save_call save_verdict first_of
nine = simp (savable.whole, ne_eqb (length (7 ∷ saved.memory)) saved.house.words (λ e. omega (arith, savable.size)))

pub nothing_written : let r = save_call astray 0 (1 ∷ 2 ∷ []) in (r.count ≡ 0) × (r.house ≡ saved.house) × (r.output ≡ 1 ∷ 2 ∷ [])
nothing_written = refused.saving astray 0 (1 ∷ 2 ∷ []) (λ z. omega (arith, nine))

-- ---- the file of the saved house, and no other

abbrev sevens : List ℕ
sevens = replicate saved.house.words 7

whole_again : whole (file_of saved ∷ []) ≡ file_of saved
unfolding whole
whole_again = append-nil (file_of saved)

back : finished (fed (begun sevens) (file_of saved)) ≡ answered (verdict 0 0) (emptied saved)
back =
    ap (λ (f : List ℕ). finished (fed (begun sevens) f)) (sym whole_again)
    ∙ ap finished (sym (cut_anywhere sevens (file_of saved ∷ []) (subst Bytes (sym whole_again) (file_bytes saved))))
    ∙ read_back saved savable sevens (length-replicate {A = ℕ} saved.house.words 7) (file_of saved ∷ []) whole_again

-- what comes back has the same file, in which no shadow is; it is whole, in a memory of the size that was lent
pub same_file : file_of (emptied saved) ≡ file_of saved
same_file = one_file sevens (file_of saved) (emptied saved) (file_bytes saved) back

pub whole_back : (damaged (emptied saved).house ≡ false) × (length (emptied saved).memory ≡ (emptied saved).house.words) × (length (emptied saved).memory ≡ length sevens)
whole_back = gives_whole sevens (file_of saved) (emptied saved) (file_bytes saved) back

-- whatever has this file has its registers, its tickets and its memory
pub no_other : (w : World) → Savable w → file_of saved ≡ file_of w → (w.memory ≡ saved.memory) × (w.house.regs ≡ saved.house.regs) × (w.house.tickets ≡ saved.house.tickets)
no_other w s e =
    let h = one_house saved w savable s e in
    (sym (ap (λ (x : World). x.memory) h), sym (ap (λ (x : World). x.house.regs) h), sym (ap (λ (x : World). x.house.tickets) h))

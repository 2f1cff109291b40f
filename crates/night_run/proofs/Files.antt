-- What a file comes to.
use Rattle.std.specs.Prelude.{Result, Ok, Err}
use mathlib.Core.Path.{◌≡◌, refl, ap, sym, subst, ◌∙◌}
use mathlib.Core.Bool.{Bool, true, false, not, ◌&&◌, ◌||◌}
use mathlib.Core.List.{List, [], ◌∷◌, ◌++◌, append-nil}
use Prim.Native.Nat.{ℕ, min, ◌+◌, ◌-◌, ◌≤◌}
use native.Mathlib.Omega.{arith}
use borrow.Author.Tests.{ne_eqb, eqb-false, leb-true}
use lib.Dec.{eqb, ltb, leb}
use lib.ListN.{length, get_or, take, replicate, length-append, length-replicate, replicate-append-replicate}
use lib.Seq.{take-append-le, take_all, take_at, length-take-le}
use Rattle.dlx.specs.Choice.{when◌then◌else◌}
use Rattle.dlx.proofs.Tests.{by_test}
use Rattle.house.proofs.Lists.Bounded.{one_way}
use Rattle.house.specs.Boot.{Verdict, verdict}
use Rattle.house.specs.House.{no_house}
use Rattle.house.specs.Turns.{World, world}
use Rattle.house.specs.declared.House.{House}
use Rattle.house.specs.Calls.{Answered, answered, boot_call, run_call}
use Rattle.house.specs.Refusals.{refusal, answer_of as Refusals·answer_of}
use Rattle.house.specs.declared.Done.{Done}
use Rattle.house.specs.declared.refusal.Refusal.{Refusal}
use Rattle.house.proofs.Refusals.{not_0}
use Rattle.demands.specs.Histories.{booted}
use Rattle.demands.proofs.Demands.{every_boot}
use Rattle.unshadowed_run.specs.Calls.{run_by}
use Rattle.engines.specs.Promises.{emptied_by}
use Rattle.engines.proofs.Booted.{booted_runs}
use Rattle.housefile.specs.Records.{Reading, wrong, right, File, verdict_of, reading_of}
use Rattle.housefile.specs.Reader.{Read, read, no_reader, no_read, fed, answer_of}
use Rattle.housefile.specs.declared.Reader.{Reader}
use Rattle.housefile.proofs.WholeFile.{reads, wrong_fixed}
use Rattle.housefile.proofs.Parts.{take_there}
use Rattle.housefile.proofs.Machine.{fed_pieces}
use Rattle.save.specs.Reading.{begun, took}
use Rattle.save.specs.Reading.{fed as Reading·fed}
use Rattle.save.specs.Reading.{Reading as Save-as-Reading}
use Rattle.save.specs.Calls.{read_piece, finished}
use Rattle.save.specs.Promises.{pieces_read}
use Rattle.save.specs.Promises.{whole as Save·whole}
use Rattle.save.proofs.Promises.{cut_anywhere}
use Rattle.save.proofs.Machine.{fed_pieces as Save·fed-pieces}
use Rattle.night_run.specs.Pieces.{Bytes, OneRead, fixed, Going, AllOf, Reads, FileOf}
use Rattle.night_run.specs.Ran.{none_ran, outcome_of, after_boot, ran_of, held_of, is_saved, room_for, lent_for, Way, refused_over, house_file_of, house_file, ran_by, house_file_by, held_file, saved_over, saved_file, saved_or, either_file, HouseGoing, HouseRead, SavedGoing, SavedRead, no_frames, answer_in, handed, Handed, HandedFrom, Left, Told}
use Rattle.night_run.proofs.Pieces.{bytes_left, going_more, reads_over}
use Rattle.night_run.specs.declared.input.Taken.{Taken}
use Rattle.night_run.specs.declared.Ran.{Ran}

-- ---- boot and run

-- the lists, taken as far as they go, are the file's
pub lists_taken : (lists total : ℕ) (pages frames memory : List ℕ) (q n k : ℕ) → n ≡ min lists (length pages) → k ≡ min total (length frames) →
    boot_call (take n pages) q (take k frames) memory ≡ boot_call (take lists pages) q (take total frames) memory
lists_taken lists total pages frames memory q n k l t =
    rw (ap (λ (i : ℕ). take i pages) l ∙ take_there lists pages, ap (λ (i : ℕ). take i frames) t ∙ take_there total frames)

after_refused : (v : Verdict) (w : World) (steps : ℕ) → eqb v.number 0 ≡ false → after_boot (answered v w) steps ≡ answered v w
unfolding after_boot
after_refused v w steps z = rw z

after_done : (d : ℕ) (w : World) (steps : ℕ) → after_boot (answered (verdict 0 d) w) steps ≡ run_call w steps
unfolding after_boot
after_done d w steps = refl

-- the house of no partitions has nothing to empty
none_emptied : (u : Bool) (v : Verdict) (m : List ℕ) → answered v (world no_house m) ≡ emptied_by u (answered v (world no_house m))
unfolding emptied_by
none_emptied true v m = refl
none_emptied false v m = refl

module _ (u : Bool) (steps : ℕ) (ps : List ℕ) (q : ℕ) (fr m : List ℕ) where
  pub boot_refused : (r : Refusal) → answered (refusal r) (world no_house m) ≡ boot_call ps q fr m
      → answered (refusal r) (world no_house m) ≡ emptied_by u (after_boot (boot_call ps q fr m) steps)
  boot_refused r e =
      none_emptied u (refusal r) m
      ∙ ap (emptied_by u) (sym (after_refused (refusal r) (world no_house m) steps (not_0 r)) ∙ ap (λ (a : Answered). after_boot a steps) e)

  pub boot_done : (d : ℕ) (w : World) → answered (verdict 0 d) w ≡ boot_call ps q fr m → run_by u w steps ≡ emptied_by u (after_boot (boot_call ps q fr m) steps)
  boot_done d w e =
      let b = every_boot ps q fr m (ap (λ (a : Answered). a.verdict.number) (sym e)) in
      let there : w ≡ booted b.boot = ap (λ (a : Answered). a.world) e ∙ b.left in
      ap (λ (x : World). run_by u x steps) there
      ∙ booted_runs u b.boot steps
      ∙ ap (λ (x : World). emptied_by u (run_call x steps)) (sym there)
      ∙ ap (emptied_by u) (sym (after_done d w steps) ∙ ap (λ (a : Answered). after_boot a steps) e)

-- ---- what is made of a house file

-- of a wrong one nothing is
abbrev Refuses : (Reading → Answered) → Type 0
Refuses of = (at : ℕ) → none_ran 15 at ≡ of (wrong at)

pub ran_refuses : (u : Bool) → Refuses (ran_by u)
unfolding ran_of
ran_refuses u at = none_emptied u (verdict 15 at) []

pub held_refuses : Refuses held_of
unfolding held_of
held_refuses at = refl

file_refused : (of : Reading → Answered) → Refuses of → (r : Refusal) (x : Reading) → refusal r ≡ verdict_of x → answered (refusal r) (world no_house []) ≡ of x
unfolding verdict_of
file_refused of f r (wrong o) e = ap (λ (v : Verdict). answered v (world no_house [])) e ∙ f o
file_refused of f r (right _) e = one_way false (sym (not_0 r) ∙ ap (λ (v : Verdict). eqb v.number 0) e) refl

chosen : (of : Reading → Answered) (b : Bool) (f : File) (o : ℕ) → verdict 0 0 ≡ verdict_of (when b then right f else wrong o) → of (right f) ≡ of (when b then right f else wrong o)
unfolding verdict_of
chosen of true f o e = refl
chosen of false f o e = absurd (let k : ◌≡◌ {A = ℕ} 0 15 = ap (λ (v : Verdict). v.number) e in omega arith)

pub file_done : (u : Bool) (s : Read) → verdict 0 0 ≡ verdict_of (answer_of s) →
    emptied_by u (after_boot (boot_call (take s.reader.lists s.pages) (get_or s.turns 0 0) (take s.reader.total s.frames) s.memory) (get_or s.turns 1 0))
    ≡ ran_by u (answer_of s)
unfolding ran_of answer_of
file_done u s e = chosen (ran_by u) (not s.reader.wrong && eqb s.reader.last 4) _ s.reader.start e

file_held : (s : Read) → verdict 0 0 ≡ verdict_of (answer_of s) → answered (verdict 0 0) (world no_house s.memory) ≡ held_of (answer_of s)
unfolding held_of answer_of
file_held s e = chosen held_of (not s.reader.wrong && eqb s.reader.last 4) _ s.reader.start e

-- ---- the whole file

-- where the reads are over and the input has not ended, a record is wrong, and 22 bytes have come
stopped : (w : List ℕ → Bool) (t : Taken) (bs : List ℕ) → AllOf w t bs → t.ended ≡ false → (22 ≤ length bs) × (w bs ≡ true)
stopped w t bs all e = both t.ended (leb 22 (length bs)) (w bs) e refl all.over
  where
    both : (a b c : Bool) → a ≡ false → leb 22 (length bs) ≡ b → (a || (b && c)) ≡ true → (22 ≤ length bs) × (c ≡ true)
    both true b c e l o = one_way true refl e
    both false false c e l o = one_way false o refl
    both false true c e l o = (leb-true 22 (length bs) l, o)

-- what holds of the bytes, and of them with any that follow a wrong record, holds of the file
module _ {A : Type 0} (answer : List ℕ → A) (w : List ℕ → Bool) (t : Taken) (bs file : List ℕ) (all : AllOf w t bs) (of : FileOf t bs file)
    (stays : 22 ≤ length bs → w bs ≡ true → answer (bs ++ of.more) ≡ answer bs) where
  of_file : answer bs ≡ answer file
  of_file =
      by_test t.ended
      (λ e. sym (ap (λ (l : List ℕ). answer (bs ++ l)) (of.ended e) ∙ ap answer (append-nil bs)))
      (λ e. let s = stopped w t bs all e in sym (stays s.0 s.1))
      ∙ sym (ap answer of.whole)

first_same : (w : List ℕ → Bool) (t : Taken) (bs file : List ℕ) → AllOf w t bs → FileOf t bs file → take 22 bs ≡ take 22 file
first_same w t bs file all of = of_file (take 22) w t bs file all of (λ l _. take-append-le 22 bs of.more l)

-- a house file: the answer at the end of the reads is what the file says, however it goes on
house_whole : (t : Taken) (bs file : List ℕ) → AllOf house_file.wrong t bs → FileOf t bs file → answer_of (fed no_read bs) ≡ reading_of file
house_whole t bs file all of =
    reads bs all.behind.bytes all.behind.fits
    ∙ of_file reading_of house_file.wrong t bs file all of
    (λ _ w. wrong_fixed bs of.more all.behind.bytes (λ i. rw of.whole at (of.bytes i)) (rw of.whole at of.fits) w)

-- ---- what is handed on

abbrev ran_with : Taken → ℕ → House → Result ℕ Refusal → Ran
ran_with t k h o = record { taken = t; words = k; house = h; outcome = o }

handed_failed : (way : Way) (t : Taken) (file : List ℕ) → t.failed ≡ true → none_ran 0 0 ≡ handed way t file
handed_failed way t file e = rw e

handed_read : (way : Way) (t : Taken) (file : List ℕ) (a : Answered) → t.failed ≡ false → a ≡ way.answer file → a ≡ handed way t file
handed_read way t file a f e = rw f e

pub from_failed : (way : Way) (head : List ℕ) (t : Taken) (x : Ran) (memory bs : List ℕ) → Reads way.wrong head t bs → t.failed ≡ true
    → x ≡ ran_with t 0 no_house (Ok 0) → HandedFrom way head x memory
from_failed way head t x memory bs r f is = subst (λ (y : Ran). HandedFrom way head y memory) (sym is) (bs, r, λ file _. handed_failed way t file f)

-- a house file
module _ (of : Reading → Answered) (head : List ℕ) (t : Taken) (r : Reader) (turns pages frames memory bs : List ℕ) (all : Reads house_file.wrong head t bs)
    (e : read r turns pages frames memory ≡ fed no_read bs) (f : t.failed ≡ false) where
  house_answer : (a : Answered) → a ≡ of (answer_of (read r turns pages frames memory)) → (file : List ℕ) → FileOf t bs file → a ≡ handed (house_file_of of) t file
  house_answer a h file is = handed_read (house_file_of of) t file a f (h ∙ ap (λ (s : Read). of (answer_of s)) e ∙ ap of (house_whole t bs file all.all is))

  pub house_wrong : Refuses of → (w : Refusal) → refusal w ≡ verdict_of (answer_of (read r turns pages frames memory)) → (x : Ran) (m : List ℕ)
      → x ≡ ran_with t 0 no_house (Err w) → HandedFrom (house_file_of of) head x m
  house_wrong refuses w v x m is =
      subst (λ (y : Ran). HandedFrom (house_file_of of) head y m) (sym is)
      (bs, all, house_answer (answered (refusal w) (world no_house [])) (file_refused of refuses w (answer_of (read r turns pages frames memory)) v))

  pub house_right : (o : Result ℕ Refusal) (words : ℕ) (h : House) (m : List ℕ) → words ≡ length m
      → answered (outcome_of o) (world h m) ≡ of (answer_of (read r turns pages frames memory)) → HandedFrom (house_file_of of) head (ran_with t words h o) m
  house_right o words h m l a = (
    bs,
    all,
    house_answer (answered (outcome_of o) (world h (take words m)))
        (ap (λ (y : List ℕ). answered (outcome_of o) (world h y)) (take_all words m (omega arith)) ∙ a),
  )

-- and its memory, where no house is booted of it
pub house_held : (head : List ℕ) (t : Taken) (r : Reader) (turns pages frames memory bs : List ℕ) → Reads house_file.wrong head t bs
    → read r turns pages frames memory ≡ fed no_read bs → t.failed ≡ false → verdict 0 0 ≡ verdict_of (answer_of (read r turns pages frames memory))
    → (words : ℕ) (h : House) → h ≡ no_house → words ≡ length memory → HandedFrom held_file head (ran_with t words h (Ok 0)) memory
house_held head t r turns pages frames memory bs all e f v words h is l =
    house_right held_of head t r turns pages frames memory bs all e f (Ok 0) words h memory l
    (ap (λ (y : House). answered (verdict 0 0) (world y memory)) is ∙ file_held (read r turns pages frames memory) v)

-- ---- while a house file is read

pub house_start : (m : List ℕ) → m ≡ replicate 16384 0 → read no_reader (replicate 2 0) (replicate 8 0) (replicate 2048 0) m ≡ no_read
house_start m e = ap (λ (x : List ℕ). read no_reader (replicate 2 0) (replicate 8 0) (replicate 2048 0) x) e

pub none_read : (r : Reader) (turns pages frames m : List ℕ) → r ≡ no_reader → read no_reader turns pages frames m ≡ no_read → read r turns pages frames m ≡ no_read
none_read r turns pages frames m e f = ap (λ (x : Reader). read x turns pages frames m) e ∙ f

pub house_begun : (head : List ℕ) (t : Taken) (s start : Read) → start ≡ no_read → s ≡ fed start head → Going house_file.wrong head t head → HouseGoing head t s
house_begun head t s start e f g = (head, g, f ∙ ap (λ (x : Read). fed x head) e)

pub house_more : (head : List ℕ) (t t' : Taken) (s s' : Read) (n : ℕ) (b : List ℕ) → OneRead t t' n b → length b ≡ 65536 → s' ≡ fed s (take n b)
    → t.ended ≡ false → s.reader.wrong ≡ false → HouseGoing head t s → HouseGoing head t' s'
house_more head t t' s s' n b r l e o w (bs, g, h) = (
  bs ++ take n b,
  going_more house_file.wrong head t t' bs n b r l o (sym (ap (λ (x : Read). x.reader.wrong) h) ∙ w) g,
  e ∙ ap (λ (x : Read). fed x (take n b)) h ∙ sym (fed_pieces no_read bs (take n b)),
)

pub house_over : (head : List ℕ) (t : Taken) (s : Read) → (not t.ended && not s.reader.wrong) ≡ false → HouseGoing head t s → HouseRead head t s
house_over head t s e (bs, g, h) = (bs, reads_over house_file.wrong head t bs s.reader.wrong (ap (λ (x : Read). x.reader.wrong) h) e g, h)

-- ---- a saved file

stuck : (s : Save-as-Reading) (bs : List ℕ) → (s.progress.refusal ≡ 0 → ⊥) → Reading·fed s bs ≡ s
unfolding Reading·fed took
stuck s [] n = refl
stuck s (b ∷ bs) n = simp (ne_eqb s.progress.refusal 0 n) (stuck s bs n)

-- a piece behind others comes to the same as all their bytes
piece_behind : (m bs x : List ℕ) → Bytes (bs ++ x) → let s = Reading·fed (begun m) bs in read_piece s s.progress.memory x ≡ Reading·fed (begun m) (bs ++ x)
unfolding pieces_read Save·whole
piece_behind m bs x g =
    let one : pieces_read (begun m) (bs ∷ []) ≡ Reading·fed (begun m) bs =
    cut_anywhere m (bs ∷ []) (rw (append-nil bs) (bytes_left bs x g)) ∙ ap (Reading·fed (begun m)) (append-nil bs) in
    let two : pieces_read (begun m) (bs ∷ x ∷ []) ≡ Reading·fed (begun m) (bs ++ x) =
    cut_anywhere m (bs ∷ x ∷ []) (rw (append-nil x) g) ∙ ap (λ (l : List ℕ). Reading·fed (begun m) (bs ++ l)) (append-nil x) in
    ap (λ (s : Save-as-Reading). read_piece s s.progress.memory x) (sym one) ∙ two

first_piece : (m head : List ℕ) → Bytes head → read_piece (begun m) m head ≡ Reading·fed (begun m) head
unfolding pieces_read Save·whole
first_piece m head g = cut_anywhere m (head ∷ []) (rw (append-nil head) g) ∙ ap (Reading·fed (begun m)) (append-nil head)

pub saved_begun : (m head : List ℕ) (t : Taken) (s start : Save-as-Reading) → start ≡ begun m → s ≡ read_piece start m head → Going (refused_over m) head t head → SavedGoing m head t s
saved_begun m head t s start e f g = (head, g, f ∙ ap (λ (x : Save-as-Reading). read_piece x m head) e ∙ first_piece m head g.behind.bytes)

pub saved_more : (m head : List ℕ) (t t' : Taken) (s s' : Save-as-Reading) (n : ℕ) (b : List ℕ) → OneRead t t' n b → length b ≡ 65536 → s' ≡ read_piece s s.progress.memory (take n b)
    → t.ended ≡ false → not (eqb s.progress.refusal 0) ≡ false → SavedGoing m head t s → SavedGoing m head t' s'
saved_more m head t t' s s' n b r l e o w (bs, g, h) =
    let y = going_more (refused_over m) head t t' bs n b r l o (sym (ap (λ (x : Save-as-Reading). not (eqb x.progress.refusal 0)) h) ∙ w) g in (
      bs ++ take n b,
      y,
      e ∙ ap (λ (x : Save-as-Reading). read_piece x x.progress.memory (take n b)) h ∙ piece_behind m bs (take n b) y.behind.bytes,
    )

pub saved_over_lem : (m head : List ℕ) (t : Taken) (s : Save-as-Reading) → (not t.ended && not (not (eqb s.progress.refusal 0))) ≡ false → SavedGoing m head t s → SavedRead m head t s
saved_over_lem m head t s e (bs, g, h) =
    (bs, reads_over (refused_over m) head t bs (not (eqb s.progress.refusal 0)) (ap (λ (x : Save-as-Reading). not (eqb x.progress.refusal 0)) h) e g, h)

saved_whole : (m : List ℕ) (t : Taken) (bs file : List ℕ) → AllOf (refused_over m) t bs → FileOf t bs file → Reading·fed (begun m) bs ≡ Reading·fed (begun m) file
saved_whole m t bs file all of =
    of_file (Reading·fed (begun m)) (refused_over m) t bs file all of
    (λ _ w. Save·fed-pieces (begun m) bs of.more ∙ stuck (Reading·fed (begun m) bs) of.more (eqb-false _ 0 (not-true (eqb (Reading·fed (begun m) bs).progress.refusal 0) w)))
  where
    not-true : (b : Bool) → not b ≡ true → b ≡ false
    not-true false e = refl
    not-true true e = one_way false e refl

-- the answer over the memory that the pieces left
pub saved_right : (m head : List ℕ) (t : Taken) (s : Save-as-Reading) (o : Result ℕ Refusal) (words : ℕ) (h : House) (m' : List ℕ) → SavedRead m head t s → t.failed ≡ false
    → words ≡ length m' → answered (outcome_of o) (world h m') ≡ finished s → HandedFrom (saved_over m) head (ran_with t words h o) m'
saved_right m head t s o words h m' (bs, all, e) f l a = (
  bs,
  all,
  λ file of. handed_read (saved_over m) t file _ f
      (ap (λ (y : List ℕ). answered (outcome_of o) (world h y)) (take_all words m' (omega arith)) ∙ a ∙ ap finished (e ∙ saved_whole m t bs file all.all of)),
)

-- ---- by the first bytes

module _ (w w' : List ℕ → Bool) (head : List ℕ) (same : (xs : List ℕ) → take 22 xs ≡ head → w xs ≡ w' xs) where
  fixed_turned : (xs ys bs : List ℕ) → bs ≡ xs ++ ys → take 22 bs ≡ head → fixed w xs ≡ fixed w' xs
  fixed_turned xs ys bs e f =
      by_test (leb 22 (length xs))
      (λ l. rw l (same xs (sym (take-append-le 22 xs ys (leb-true 22 (length xs) l)) ∙ ap (take 22) (sym e) ∙ f)))
      (λ l. rw l)

  all_turned : (t : Taken) (bs : List ℕ) → Reads w head t bs → AllOf w' t bs
  all_turned t bs r =
      let b = r.all.behind in
      record {
        behind = record {
          bytes = b.bytes;
          count = b.count;
          fits = b.fits;
          before = b.before;
          last = b.last;
          whole = b.whole;
          piece = b.piece;
          needed = sym (fixed_turned b.before b.last bs b.whole r.first) ∙ b.needed;
        };
        over = ap (λ (x : Bool). t.ended || x) (sym (fixed_turned bs [] bs (sym (append-nil bs)) r.first)) ∙ r.all.over;
      }

-- a way that says the same of every file with these first bytes
way_turned : (way way' : Way) (head : List ℕ) (x : Ran) (m : List ℕ) → ((xs : List ℕ) → take 22 xs ≡ head → way.wrong xs ≡ way'.wrong xs)
    → ((xs : List ℕ) → take 22 xs ≡ head → way.answer xs ≡ way'.answer xs) → HandedFrom way head x m → Handed way' x m
way_turned way way' head x m same alike (bs, r, h) = (
  bs,
  all_turned way.wrong way'.wrong head same x.taken bs r,
  λ file of.
      h file of
      ∙ ap (λ (a : Answered). when x.taken.failed then none_ran 0 0 else a) (alike file (sym (first_same way.wrong x.taken bs file r.all of) ∙ r.first)),
)

-- the lent memory comes back with the rest of it behind
longer : (way : Way) (x : Ran) (m rest : List ℕ) → x.words ≤ length m → Handed way x m → Handed way x (m ++ rest) × (x.words ≤ length (m ++ rest))
longer way x m rest l (bs, r, h) = (
  (
    bs,
    r,
    λ file of. ap (λ (y : List ℕ). answered (outcome_of x.outcome) (world x.house y)) (take-append-le x.words m rest l) ∙ h file of,
  ),
  omega (arith, length-append m rest),
)

pub from_house : (of : Reading → Answered) (head : List ℕ) (x : Ran) (m rest : List ℕ) → x.words ≤ length m → HandedFrom (house_file_of of) head x m
    → Handed (house_file_of of) x (m ++ rest) × (x.words ≤ length (m ++ rest))
from_house of head x m rest l h =
    let way = house_file_of of in longer way x m rest l (way_turned way way head x m (λ _ _. refl) (λ _ _. refl) h)

module _ (first head : List ℕ) (is : first ≡ replicate (room_for head) 0) where
  lent_same : (xs : List ℕ) → take 22 xs ≡ head → first ≡ lent_for xs
  unfolding lent_for
  lent_same xs e = is ∙ ap (λ (l : List ℕ). replicate (room_for l) 0) (sym e)

  pub from_saved : (x : Ran) (m rest : List ℕ) → x.words ≤ length m → HandedFrom (saved_over first) head x m → Handed saved_file x (m ++ rest) × (x.words ≤ length (m ++ rest))
  from_saved x m rest l h =
      longer saved_file x m rest l
      (way_turned (saved_over first) saved_file head x m
      (λ xs e. ap (λ (y : List ℕ). (saved_over y).wrong xs) (lent_same xs e))
      (λ xs e. ap (λ (y : List ℕ). (saved_over y).answer xs) (lent_same xs e)) h)

  pub either_saved : (of : Reading → Answered) (x : Ran) (m rest : List ℕ) → is_saved head ≡ true → x.words ≤ length m → HandedFrom (saved_over first) head x m
      → Handed (saved_or (house_file_of of)) x (m ++ rest) × (x.words ≤ length (m ++ rest))
  either_saved of x m rest s l h =
      longer (saved_or (house_file_of of)) x m rest l
      (way_turned (saved_over first) (saved_or (house_file_of of)) head x m
      (λ xs e. ap (λ (y : List ℕ). (saved_over y).wrong xs) (lent_same xs e) ∙ sym (rw (ap is_saved e ∙ s)))
      (λ xs e. ap (λ (y : List ℕ). (saved_over y).answer xs) (lent_same xs e) ∙ sym (rw (ap is_saved e ∙ s))) h)

pub either_house : (of : Reading → Answered) (head : List ℕ) (x : Ran) (m rest : List ℕ) → is_saved head ≡ false → x.words ≤ length m → HandedFrom (house_file_of of) head x m
    → Handed (saved_or (house_file_of of)) x (m ++ rest) × (x.words ≤ length (m ++ rest))
either_house of head x m rest s l h =
    longer (saved_or (house_file_of of)) x m rest l
    (way_turned (house_file_of of) (saved_or (house_file_of of)) head x m (λ xs e. sym (rw (ap is_saved e ∙ s))) (λ xs e. sym (rw (ap is_saved e ∙ s))) h)

-- the engine with shadows is the one that is meant where none is named
pub either_ran : (head : List ℕ) (x : Ran) (m rest : List ℕ) → is_saved head ≡ false → x.words ≤ length m → HandedFrom (house_file_by false) head x m
    → Handed either_file x (m ++ rest) × (x.words ≤ length (m ++ rest))
unfolding emptied_by
either_ran head x m rest s l h = either_house ran_of head x m rest s l h

-- ---- the lent memory

room_most : (head : List ℕ) → room_for head ≤ 1048576
unfolding room_for
room_most head = by_test (ltb (length head) 22) (λ e. rw e (omega arith)) (λ e. rw e (omega arith))

pub room_fits : (r : ℕ) (head : List ℕ) → r ≡ room_for head → r ≤ 1048576
room_fits r head e = omega (arith, room_most head)

pub zeros : (k : ℕ) (m : List ℕ) → m ≡ no_frames → k ≤ 1048576 → take k m ≡ replicate k 0
unfolding no_frames
zeros k m e l =
    let s : k + (1048576 - k) ≡ 1048576 = omega arith in
    ap (take k) (e ∙ ap (λ (n : ℕ). replicate n 0) (sym s) ∙ sym (replicate-append-replicate k (1048576 - k) 0))
    ∙ take_at (replicate k 0) (replicate (1048576 - k) 0) k (length-replicate k 0)

pub lent_zeros : (r : ℕ) (head m : List ℕ) → m ≡ no_frames → r ≡ room_for head → take r m ≡ replicate (room_for head) 0
lent_zeros r head m e f = zeros r m e (room_fits r head f) ∙ ap (λ (n : ℕ). replicate n 0) f

zeros_long : (n : ℕ) (m : List ℕ) → m ≡ replicate n 0 → length m ≡ n
zeros_long n m e = ap length e ∙ length-replicate n 0

pub frames_long : (m : List ℕ) → m ≡ no_frames → length m ≡ 1048576
unfolding no_frames
frames_long m e = zeros_long 1048576 m e

pub front_long : (k : ℕ) (m : List ℕ) → m ≡ no_frames → k ≤ 1048576 → k ≤ length m
front_long k m e l = omega (arith, frames_long m e)

pub front_count : (k : ℕ) (m : List ℕ) → m ≡ no_frames → k ≤ 1048576 → k ≡ length (take k m)
front_count k m e l = sym (length-take-le k m (front_long k m e l))

-- ---- what a program prints for it

read_on : (way : Way) (t : Taken) (file : List ℕ) → t.failed ≡ false → handed way t file ≡ way.answer file
read_on way t file e = rw e

-- one that tells nothing of shadows prints the same by either engine
module _ (u : Bool) (printed : Answered → List ℕ) (same : (a : Answered) → printed (emptied_by u a) ≡ printed a) (t : Taken) where
  pub told_by_lem : (text : List ℕ) → Told (house_file_by u) printed t text → Told house_file printed t text
  told_by_lem text (bs, all, h) = (bs, all, λ file is. h file is ∙ ap (λ (x : List ℕ). when t.failed then [] else x) (same (ran_of (reading_of file))))

module _ (way : Way) (printed : Answered → List ℕ) (x : Ran) (m : List ℕ) (h : Handed way x m) where
  pub told_nothing : x.taken.failed ≡ true → Told way printed x.taken []
  told_nothing f = (h.0, h.1, λ file _. rw f)

  pub told_answer : x.taken.failed ≡ false → Told way printed x.taken (printed (answer_in x m))
  told_answer f = (h.0, h.1, λ file of. ap printed (h.2 file of ∙ read_on way x.taken file f) ∙ rw f)

  -- and what it may save
  pub left_world : x.taken.failed ≡ false → (detail : ℕ) → x.outcome ≡ Ok detail → Left way x.taken (world x.house (take x.words m))
  left_world f detail o = (
    h.0,
    h.1,
    λ file of. (
      detail,
      sym (read_on way x.taken file f) ∙ sym (h.2 file of) ∙ ap (λ (r : Result ℕ Refusal). answered (outcome_of r) (world x.house (take x.words m))) o,
    ),
  )

  -- both of the answer as a program takes it
  module _ (f : x.taken.failed ≡ false) (a : Result Done Refusal) (is : (n : List ℕ) → Refusals·answer_of x.house a n ≡ answered (outcome_of x.outcome) (world x.house n)) where
    pub told_as : Told way printed x.taken (printed (Refusals·answer_of x.house a (take x.words m)))
    told_as = subst (λ (y : Answered). Told way printed x.taken (printed y)) (sym (is (take x.words m))) (told_answer f)

    pub left_as : (done : Done) → a ≡ Ok done → Left way x.taken (world done.house (take x.words m))
    left_as done e = (
      h.0,
      h.1,
      λ file of. (
        done.detail,
        sym (read_on way x.taken file f) ∙ sym (h.2 file of) ∙ sym (is (take x.words m)) ∙ ap (λ (y : Result Done Refusal). Refusals·answer_of x.house y (take x.words m)) e,
      ),
    )

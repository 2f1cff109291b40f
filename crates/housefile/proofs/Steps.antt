-- One byte at a time: where the reading stands within a record.
use Rattle.std.proofs.Common.{◌≡◌, ℕ, ◌+◌, ◌%◌, ◌<◌, true, false, not, ◌||◌, eqb, ltb, List, [], ◌∷◌, get_or, drop, refl, ap, ◌∙◌, get_or-drop}
use Rattle.housefile.specs.Records.{wrong}
use Rattle.housefile.specs.Reader.{Read, read, within, further, spoils, placed, settled, took, fed, answer_of}
use Rattle.housefile.specs.declared.Record.{Record}
use Rattle.housefile.specs.declared.Reader.{Reader}

-- every element is a byte
abbrev pub Bytes : List ℕ → Type 0
Bytes bs = (i : ℕ) → get_or bs i 0 < 256

pub drop_bytes : (n : ℕ) (bs : List ℕ) → Bytes bs → Bytes (drop n bs)
drop_bytes n bs h i = rw (get_or-drop n bs i 0) (h (n + i))

-- ---- a state in which the record n stands at hand

abbrev pub on : Read → Record → Read
on s n = read (within s.reader n) s.turns s.pages s.frames s.memory

abbrev pub of : ℕ → ℕ → ℕ → ℕ → ℕ → Record
of bytes size kind frame word = record { bytes = bytes; size = size; kind = kind; frame = frame; word = word }

-- on through the byte that makes the record c, whatever stood at hand before it
pub through : (s t u : Read) (c : Record) (bs : List ℕ) → (n : Record) × (u ≡ fed (settled (on s n) c) bs)
    → ((n : Record) → settled (on s n) c ≡ t) → u ≡ fed t bs
through s t u c bs x e = x.1 ∙ ap (λ (y : Read). fed y bs) (e x.0)

-- bytes are taken: nothing wrong so far, and no kind 4
pub record Open (r : Reader) : Type 0 where
  pub not_wrong : r.wrong ≡ false
  pub not_last : eqb r.last 4 ≡ false

-- ---- a wrong record: nothing after it is looked at

pub stuck : (s : Read) (bs : List ℕ) → s.reader.wrong ≡ true → fed s bs ≡ s
unfolding fed took
stuck s [] e = refl
stuck s (b ∷ bs) e = simp e (stuck s bs e)

pub wrong_answer : (s : Read) (bs : List ℕ) → s.reader.wrong ≡ true → answer_of (fed s bs) ≡ wrong s.reader.start
unfolding answer_of
wrong_answer s bs e = ap answer_of (stuck s bs e) ∙ rw e

module _ (s : Read) (o : Open s.reader) where
  pub took_on : (n : Record) (b : ℕ) → took (on s n) b ≡ settled (on s n) (further n b)
  unfolding took
  took_on n b = simp (o.not_wrong, o.not_last)

  pub spoils_wrong : (n c : Record) (bs : List ℕ) → spoils (within s.reader n) c ≡ true → answer_of (fed (settled (on s n) c) bs) ≡ wrong s.reader.start
  unfolding settled
  spoils_wrong n c bs e = rw e (wrong_answer _ bs refl)

  -- no word is whole, nor the record
  pub quiet : (n c : Record) → eqb c.bytes 6 ≡ false → eqb c.bytes 10 ≡ false → (ltb c.bytes 10 || not (eqb (c.bytes % 4) 2)) ≡ true
      → (not (eqb c.bytes (6 + c.size)) || ltb c.bytes 6) ≡ true → settled (on s n) c ≡ on s c
  unfolding settled spoils placed
  quiet n c six ten word whole = simp (six, ten, word, whole)

  pub open_answer : (n : Record) → answer_of (on s n) ≡ wrong s.reader.start
  unfolding answer_of
  open_answer n = simp (o.not_wrong, o.not_last)

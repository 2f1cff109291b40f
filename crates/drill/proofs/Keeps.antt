-- Saving and reading back: what is kept, and what is told.
use Rattle.std.proofs.Common.{◌≡◌, ℕ, List, [], ◌++◌, take, drop, sym, ap, ◌∙◌, subst}
use Rattle.std.specs.Prelude.{Result, Ok, Err}
use Rattle.house.specs.declared.House.{House}
use Rattle.house.specs.Refusals.{answer_of}
use Rattle.house.specs.declared.Done.{Done}
use Rattle.house.specs.declared.refusal.Refusal.{Refusal}
use Rattle.decimal.specs.Texts.{Puts}
use Rattle.save.specs.Reading.{Reading, begun, lent}
use Rattle.save.specs.Calls.{read_piece, finished}
use Rattle.restore.specs.declared.Reader.{Reader}
use Rattle.restore.specs.Standing.{progress_at, reading_at}
use Rattle.drill_script.specs.declared.commands.Command.{Command}
use Rattle.drill_script.specs.declared.commands.Op.TheVariants.{Save, Piece}
use Rattle.drill_script.specs.Commands.{number_of}
use Rattle.drill_script.proofs.Ops.{is_no}
use Rattle.drill.specs.Told.{most_told, told_of, answer_told}
use Rattle.drill.specs.Saving.{save_text_of, begun_by, piece_of, detail_of, piece_text_of, finish_text_of, apart, Keeps, keeps, kept_of, saving_text_of}

-- a piece: the memory of the reading before it does not matter
pub taken_is : (c : Command) (more held m : List ℕ) (n : ℕ) (r : Reader) (h : House) (s z : Reading) → n ≡ c.a → reading_at r h held [] ≡ begun_by c.b s
    → z ≡ read_piece (reading_at r h held m) m (take n more) → z ≡ piece_of c more s m
unfolding piece_of read_piece lent
taken_is c more held m n r h s z en es e = e ∙ ap (λ (k : ℕ). read_piece (reading_at r h held []) m (take k more)) en ∙ ap (λ (x : Reading). read_piece x m (take c.a more)) es

module _ {text text' : List ℕ} {used end : ℕ} (c : Command) where
  pub piece_told : (more : List ℕ) (h : House) (s : Reading) (m : List ℕ) (x : Reader) (g : House) (held m' : List ℕ) (d : ℕ) → reading_at x g held m' ≡ piece_of c more s m → d ≡ detail_of (progress_at x g m')
      → Puts text used text' end (told_of (number_of c.op) x.refusal d h m') most_told → Puts text used text' end (piece_text_of c more h s m) most_told
  unfolding piece_text_of
  piece_told more h s m x g held m' d e ed p =
      subst (λ (z : Reading). Puts text used text' end (told_of (number_of c.op) z.progress.refusal (detail_of z.progress) h z.progress.memory) most_told) e
      (subst (λ (y : ℕ). Puts text used text' end (told_of (number_of c.op) x.refusal y h m') most_told) ed p)

  -- the answer at the end says the same over the memory that is told of
  pub finish_told : (s : Reading) (m : List ℕ) (g : House) (a : Result Done Refusal) → answer_of g a [] ≡ finished s
      → Puts text used text' end (answer_told (number_of c.op) (answer_of g a m) m) most_told → Puts text used text' end (finish_text_of c s m) most_told
  unfolding finish_text_of
  finish_told s m g (Ok done) e p = rw (← e) p
  finish_told s m g (Err r) e p = rw (← e) p

module _ (c : Command) (more : List ℕ) (lent : ℕ) (h : House) (m : List ℕ) (s : Reading) where
  abbrev Now : Keeps → Type 0
  Now k = k ≡ kept_of c more lent (keeps h m s)

  abbrev Told : List ℕ → Type 0
  Told t = t ≡ saving_text_of c more lent (keeps h m s)

  pub kept_save : c.op ≡ Save → Now (keeps h m s) × Told (save_text_of c h (take lent m) c.c)
  unfolding kept_of saving_text_of
  kept_save e = (sym (rw e), sym (rw e))

  pub kept_piece : c.op ≡ Piece → (x : Reader) (g : House) (held m' : List ℕ) → reading_at x g held m' ≡ piece_of c more s (take lent m)
      → Now (keeps h (m' ++ drop lent m) (reading_at x g held [])) × Told (piece_text_of c more h s (take lent m))
  unfolding kept_of saving_text_of
  kept_piece e x g held m' q = (ap (λ (z : Reading). keeps h (z.progress.memory ++ drop lent m) (apart z)) q ∙ sym (rw e), sym (rw e))

  pub kept_finish : (c.op ≡ Save → ⊥) → (c.op ≡ Piece → ⊥) → (g : House) (b : Reading) → g ≡ (finished s).world.house → b ≡ begun [] → Now (keeps g m b) × Told (finish_text_of c s (take lent m))
  unfolding kept_of saving_text_of
  kept_finish n o g b e q =
      let a = is_no c.op Save n in
      let d = is_no c.op Piece o in
      (ap (λ (y : House). keeps y m b) e ∙ ap (keeps (finished s).world.house m) q ∙ sym (rw (a, d)), sym (rw (a, d)))

-- a text, and the same by another name
pub named : {text text' : List ℕ} {used end k : ℕ} {t t' : List ℕ} → t ≡ t' → Puts text used text' end t k → Puts text used text' end t' k
named {text} {text'} {used} {end} {k} e p = subst (λ (x : List ℕ). Puts text used text' end x k) e p

-- What the calls of a function give together, as laws over plain variables.
use Rattle.std.proofs.Common.{◌≡◌, ℕ, ◌+◌, ◌*◌, ◌%◌, ◌^◌, ◌<◌, ◌≤◌, Bool, true, false, List, [], ◌∷◌, ◌++◌, length, get_or, take, drop, set, sym, refl, ap, ◌∙◌, add-one, arith, length-append, length-set, drop_of_length-le, length-take-le, drop-cons, take-suc-set, take_at, le-ltb, lt-ltb, eq-eqb, ne_eqb, Option, Some, None, is_some}
use Rattle.decimal.specs.Raw.{low_first, raw}
use Rattle.decimal.specs.Texts.{Text, text, put}
use Rattle.decimal.proofs.Texts.{put_behind, exactly, whole}
use Rattle.lines.specs.Listings.{Answer, answer}
use Rattle.texts.specs.Numbers.{idle, right_by, word_by}
use Rattle.texts.specs.Reading.{no_words, Going, going, start, held, Fits, longer, ended, took, fed, finished, answer_of, Behind, Whole, words_of, Told}
use Rattle.texts.specs.declared.reading.At.{At}
use Rattle.texts.proofs.Whole.{read_whole}

abbrev at : ℕ → ℕ → Option ℕ → At
at k n w = record { length = k; lines = n; wrong = w }

-- ---- one byte of a line more

module _ (a : At) (line : List ℕ) (b : ℕ) (f : Fits a line) where
  pub held_length : length (take a.length line) ≡ a.length
  held_length = length-take-le a.length line (omega (arith, f.size, f.within))

  pub longer_not : 81 ≤ a.length → (words : List ℕ) → held a line words ≡ longer (held a line words) b
  unfolding longer
  longer_not l words = rw (le-ltb (length (take a.length line)) 81 (omega (arith, held_length)))

  pub longer_fits : a.length < 81 → Fits (at (a.length + 1) a.lines a.wrong) (set line a.length b)
  longer_fits l = record { size = length-set line a.length b ∙ f.size; within = omega arith }

  pub longer_is : a.length < 81 → (words : List ℕ) → held (at (a.length + 1) a.lines a.wrong) (set line a.length b) words ≡ longer (held a line words) b
  unfolding longer
  longer_is l words =
      let e : take (a.length + 1) (set line a.length b) ≡ take a.length line ++ (b ∷ []) = rw (add-one a.length) (take-suc-set line a.length b (omega (arith, f.size))) in
      rw (lt-ltb (length (take a.length line)) 81 (omega (arith, held_length)), e)

-- ---- the line has ended

module _ (d : Bool) (a : At) (line words : List ℕ) (f : Fits a line) {n : ℕ} (e : n ≡ (a.lines + 1) % 2 ^ 64) {r : Bool} (q : r ≡ right_by d (take a.length line)) where
  pub ended_wrong : r ≡ false → held (at a.length n (Some n)) line words ≡ ended d (held a line words)
  unfolding ended
  ended_wrong z = rw (← q, z, ← e)

  pub ended_right : {w : ℕ} {o : List ℕ} → r ≡ true → w ≡ word_by d (take a.length line) → o ≡ set words a.lines w → held (at 0 n None) line o ≡ ended d (held a line words)
  unfolding ended
  ended_right z c s = rw (← q, z, ← e, s, c)

pub fits_same : (a : At) (line : List ℕ) (n : ℕ) (w : Option ℕ) → Fits a line → Fits (at a.length n w) line
fits_same a line n w f = record { size = f.size; within = f.within }

pub fits_none : (a : At) (line : List ℕ) (n : ℕ) (w : Option ℕ) → Fits a line → Fits (at 0 n w) line
fits_none a line n w f = record { size = f.size; within = omega arith }

-- ---- one byte

module _ (d : Bool) (g : Going) (b : ℕ) where
  pub took_wrong : is_some g.wrong ≡ true → g ≡ took d g b
  unfolding took
  took_wrong z = rw z

  module _ (z : is_some g.wrong ≡ false) where
    pub took_end : {x : Going} → b ≡ 10 → x ≡ ended d g → x ≡ took d g b
    unfolding took
    took_end n e = rw (z, eq-eqb b 10 n) e

    module _ (n : b ≡ 10 → ⊥) {r : Bool} (q : r ≡ idle d g.line b) where
      pub took_idle : r ≡ true → g ≡ took d g b
      unfolding took
      took_idle t = rw (z, ne_eqb b 10 n, ← q, t)

      pub took_more : {x : Going} → r ≡ false → x ≡ longer g b → x ≡ took d g b
      unfolding took
      took_more f e = rw (z, ne_eqb b 10 n, ← q, f) e

-- ---- a piece: what is left from here is what was to do from the start

module _ (d : Bool) (piece : List ℕ) (i : ℕ) (g : Going) {t : Going} where
  pub fed_on : {x : Going} → i < length piece → fed d g (drop i piece) ≡ t → x ≡ took d g (get_or piece i 0) → fed d x (drop (i + 1) piece) ≡ t
  unfolding fed
  fed_on l e q = rw (add-one i, q) (rw (drop-cons piece i 0 l) at e)

  pub fed_done : length piece ≤ i → fed d g (drop i piece) ≡ t → g ≡ t
  unfolding fed
  fed_done l e = rw (drop_of_length-le piece l) at e

pub fed_more : (d : Bool) (g : Going) (a b : List ℕ) → fed d g (a ++ b) ≡ fed d (fed d g a) b
unfolding fed
fed_more d g [] b = refl
fed_more d g (x ∷ a) b = fed_more d (took d g x) a b

-- ---- the end of the text

module _ (d : Bool) (a : At) (line words : List ℕ) (f : Fits a line) where
  pub finished_wrong : is_some a.wrong ≡ true → held a line words ≡ finished d (held a line words)
  unfolding finished
  finished_wrong z = rw z

  module _ (z : is_some a.wrong ≡ false) where
    pub finished_none : a.length ≡ 0 → held a line words ≡ finished d (held a line words)
    unfolding finished
    finished_none n = rw (z, eq-eqb (length (take a.length line)) 0 (held_length a line 0 f ∙ n))

    pub finished_line : {x : Going} → (a.length ≡ 0 → ⊥) → x ≡ ended d (held a line words) → x ≡ finished d (held a line words)
    unfolding finished
    finished_line n e = rw (z, ne_eqb (length (take a.length line)) 0 (λ q. n (sym (held_length a line 0 f) ∙ q))) e

-- ---- all pieces

pub behind_none : (d : Bool) (line words : List ℕ) → words ≡ no_words → Behind d (held (at 0 0 None) line words) 0
unfolding fed
behind_none d line words e = ([], refl, ap (λ (ws : List ℕ). going [] 0 None ws) e)

pub behind_more : (d : Bool) (g x : Going) (n k : ℕ) (piece : List ℕ) → Behind d g n → x ≡ fed d g piece → k ≡ length piece → Behind d x (n + k)
behind_more d g x n k piece (t, l, e) q z =
    (t ++ piece, length-append t piece ∙ rw (l, ← z), q ∙ ap (λ (y : Going). fed d y piece) e ∙ sym (fed_more d start t piece))

pub whole_of : (d : Bool) (g x : Going) (n : ℕ) → Behind d g n → n + 1 < 2 ^ 64 → x ≡ finished d g → Whole d x
whole_of d g x n (t, l, e) h q = (t, omega (arith, l), q ∙ ap (finished d) e)

-- ---- what may be said and written

module _ (d : Bool) (g : Going) (w : Whole d g) where
  told_of : (a : Answer) → answer_of g ≡ a → (t : List ℕ) × (length t + 1 < 2 ^ 64) × (words_of d t ≡ a)
  told_of a e = (w.0, w.1, sym (read_whole d w.0 w.1) ∙ ap answer_of (sym w.2) ∙ e)

  pub told_wrong : (n : ℕ) → g.wrong ≡ Some n → Told d 18 n 0 no_words
  unfolding answer_of
  told_wrong n z = told_of (answer 18 n 0 no_words) (rw (z, answer_of))

  module _ (z : g.wrong ≡ None) where
    pub told_short : 262144 < g.lines → Told d 13 0 0 no_words
    unfolding answer_of
    told_short l = told_of (answer 13 0 0 no_words) (rw (z, lt-ltb 262144 g.lines l))

    pub told_done : g.lines ≤ 262144 → Told d 0 0 g.lines g.words
    unfolding answer_of
    told_done l = told_of (answer 0 0 g.lines g.words) (rw (z, le-ltb 262144 g.lines l))

-- ---- raw words: what is left to put from here is what was to put from the start

module _ (ws : List ℕ) (i : ℕ) where
  pub raw_on : {t : Text} {o : List ℕ} {r : ℕ} (out : List ℕ) (end : ℕ) → i < length ws → put (text out end) (raw (drop i ws)) ≡ t → text o r ≡ put (text out end) (low_first (get_or ws i 0))
      → put (text o r) (raw (drop (i + 1) ws)) ≡ t
  unfolding raw
  raw_on {t} {o} {r} out end l e f =
      let s : raw (drop i ws) ≡ low_first (get_or ws i 0) ++ raw (drop (i + 1) ws) = rw (drop-cons ws i 0 l, add-one i) in
      put_behind (text out end) (low_first (get_or ws i 0)) (raw (drop (i + 1) ws)) f refl ∙ sym (ap (put (text out end)) s) ∙ e

  pub raw_done : {t : Text} (out : List ℕ) (end : ℕ) → length ws ≤ i → put (text out end) (raw (drop i ws)) ≡ t → text out end ≡ t
  unfolding raw put
  raw_done out end l e = rw (drop_of_length-le ws l) at e

raw_length : (ws : List ℕ) → length (raw ws) ≡ 4 * length ws
unfolding raw low_first
raw_length [] = refl
raw_length (w ∷ ws) = let e = raw_length ws in omega arith

-- 1,024 words have room in 4,096 bytes
pub raw_in : (ws b o : List ℕ) (end : ℕ) → length b ≡ 4096 → length ws ≤ 1024 → text o end ≡ put (text b 0) (raw ws)
    → (end ≡ length (raw ws)) × (take end o ≡ raw ws) × (end ≤ length o)
raw_in ws b o end n l e =
    let p = whole (exactly e) (omega (arith, raw_length ws)) in
    let m : length (raw ws) ≡ end = omega (arith, p.0) in
    let d = drop (0 + length (raw ws)) b in
    let q : o ≡ raw ws ++ d = p.1 in
    (sym m, rw q (take_at (raw ws) d end m), omega (arith, ap length q, length-append (raw ws) d))

-- What a command that was read says of itself.
use Rattle.std.proofs.Common.{◌≡◌, ℕ, ◌+◌, ◌-◌, ◌*◌, ◌/◌, ◌≤◌, Bool, true, false, ◌&&◌, leb, ltb, List, ◌++◌, Option, None, Some, IfSome, length, take, drop, refl, ap, subst, ◌∙◌, arith, length-drop, take-append-drop, length-take-le, leb-true}
use Rattle.std.specs.Bool.{then_some}
use Rattle.dlx.specs.Choice.{when◌then◌else◌}
use Rattle.dlx.proofs.Kept.{either}
use Rattle.house.specs.declared.House.{House}
use Rattle.house.specs.Turns.{World, world}
use Rattle.drill_script.specs.declared.commands.Command.{Command}
use Rattle.drill_script.specs.declared.commands.Op.{Op}
use Rattle.drill_script.specs.declared.commands.Op.TheVariants.{Boot, Run, Start, Stop, Empty, ReadOut, PokeMemory, SetLength, PokeHouse, FillMemory, Clear, Audit, Mend, Save, Piece, Finish, Unshadowed}
use Rattle.drill_script.specs.Words.{word_at}
use Rattle.drill_script.specs.Commands.{◌is◌, op_of, size_of, sized, named, command_of}
use Rattle.drill.specs.declared.reading.Reading.{Reading}
use Rattle.drill.specs.Fit.{size_in, Stands, Plays, Boots}
use Rattle.drill.specs.Player.{Player, player, changes_nothing, lent_of, more_of, played_of}

-- it has the size that its op says, and so many bytes
abbrev Right : List ℕ → Option Command → Type 0
Right bs o = IfSome o (λ c. size_of c.op c.a c.c ≡ Some c.size) × (size_in o ≤ length bs)

sized_right : (bs : List ℕ) (o : Op) (n : Option ℕ) → size_of o (word_at bs 4) (word_at bs 12) ≡ n → Right bs (sized bs o n)
unfolding sized
sized_right bs o None e = (tt, omega arith)
sized_right bs o (Some n) e = go (leb n (length bs)) refl
  where
    go : (b : Bool) → leb n (length bs) ≡ b → Right bs (then_some b (record { op = o; a = word_at bs 4; b = word_at bs 8; c = word_at bs 12; size = n }))
    go true t = (e, leb-true n (length bs) t)
    go false t = (tt, omega arith)

named_right : (bs : List ℕ) (o : Option Op) → Right bs (named bs o)
unfolding named
named_right bs None = (tt, omega arith)
named_right bs (Some o) = sized_right bs o (size_of o (word_at bs 4) (word_at bs 12)) refl

pub command_right : (bs : List ℕ) → Right bs (command_of bs)
unfolding command_of
command_right bs = either (Right bs) (ltb (length bs) 16) (λ _. (tt, omega arith)) (λ _. named_right bs (op_of (word_at bs 0)))

pub stands_still : {r : Reading} {b l : ℕ} → Stands r b l → Stands r b r.lent
stands_still p = record { inside = p.inside; held = p.held; sized = p.sized; lends = refl }

pub lent_within : (c : Command) (lent words : ℕ) → lent ≤ words → lent_of c lent words ≤ words
unfolding lent_of
lent_within c lent words l = either (λ x. x ≤ words) (c.op is SetLength) (λ _. omega arith) (λ _. l)

-- ---- what the size of a right command says

-- a test that lets a value through
through : (b : Bool) {x n : ℕ} → then_some b x ≡ Some n → (b ≡ true) × (x ≡ n)
through true e = (refl, cc)
through false e = cc

both : (a b : Bool) → (a && b) ≡ true → (a ≡ true) × (b ≡ true)
both true b e = (refl, e)
both false b e = cc

pub sized_read : (a c n : ℕ) → size_of ReadOut a c ≡ Some n → (c ≤ 4096) × (n ≡ 24)
unfolding size_of
sized_read a c n e = let t = through (leb c 4096) e in (leb-true c 4096 t.0, omega (arith, t.1))

pub sized_boot : (a c n : ℕ) → size_of Boot a c ≡ Some n → (a ≤ 16) × (c ≤ 4096) × (n ≡ 16 + 4 * (a + c))
unfolding size_of
sized_boot a c n e =
    let t = through (leb a 16 && leb c 4096) e in
    let q = both (leb a 16) (leb c 4096) t.0 in
    (leb-true a 16 q.0, leb-true c 4096 q.1, omega (arith, t.1))

pub sized_save : (a c n : ℕ) → size_of Save a c ≡ Some n → (c ≤ 70000) × (n ≡ 16)
unfolding size_of
sized_save a c n e = let t = through (leb c 70000) e in (leb-true c 70000 t.0, omega (arith, t.1))

pub sized_piece : (a c n : ℕ) → size_of Piece a c ≡ Some n → n ≡ 16 + 4 * ((a + 3) / 4)
unfolding size_of
sized_piece a c n e = let t = through (leb a 16384) e in omega (arith, t.1)

-- of an op that adds no words
plain : {n : ℕ} → ◌≡◌ {A = Option ℕ} (Some 16) (Some n) → 16 ≤ n
plain {n} e = let q : 16 ≡ n = cc in omega arith

pub sized_sixteen : (o : Op) (a c n : ℕ) → size_of o a c ≡ Some n → 16 ≤ n
unfolding size_of
sized_sixteen Boot a c n e = omega (arith, sized_boot a c n e)
sized_sixteen ReadOut a c n e = omega (arith, sized_read a c n e)
sized_sixteen Save a c n e = omega (arith, sized_save a c n e)
sized_sixteen Piece a c n e = omega (arith, sized_piece a c n e)
sized_sixteen Run a c n e = plain e
sized_sixteen Start a c n e = plain e
sized_sixteen Stop a c n e = plain e
sized_sixteen Empty a c n e = plain e
sized_sixteen PokeMemory a c n e = plain e
sized_sixteen SetLength a c n e = plain e
sized_sixteen PokeHouse a c n e = plain e
sized_sixteen FillMemory a c n e = plain e
sized_sixteen Clear a c n e = plain e
sized_sixteen Audit a c n e = plain e
sized_sixteen Mend a c n e = plain e
sized_sixteen Finish a c n e = plain e
sized_sixteen Unshadowed a c n e = plain e

-- ---- of a command that is played

module _ {r : Reading} {c : Command} {b w : ℕ} (p : Plays r c b w) where
  plays_sized : {o : Op} → c.op ≡ o → size_of o c.a c.c ≡ Some c.size
  plays_sized e = subst (λ (x : Op). size_of x c.a c.c ≡ Some c.size) e (subst (λ (x : Option Command). IfSome x (λ k. size_of k.op k.a k.c ≡ Some k.size)) p.right p.stands.sized)

  pub plays_sixteen : 16 ≤ c.size
  plays_sixteen = sized_sixteen c.op c.a c.c c.size (plays_sized refl)

  pub plays_inside : r.at + c.size ≤ b
  plays_inside = omega (arith, p.stands.inside, p.stands.held, ap size_in p.right)

  pub plays_read : c.op ≡ ReadOut → (c.c ≤ 4096) × (c.size ≡ 24)
  plays_read e = sized_read c.a c.c c.size (plays_sized e)

  pub plays_save : c.op ≡ Save → c.c ≤ 70000
  plays_save e = (sized_save c.a c.c c.size (plays_sized e)).0

  pub plays_piece : (more : ℕ) → more ≡ c.size - 16 → c.op ≡ Piece → c.a ≤ more
  plays_piece more m e = omega (arith, m, sized_piece c.a c.c c.size (plays_sized e))

  pub plays_boot : (more : ℕ) → more ≡ c.size - 16 → c.op ≡ Boot → Boots c more
  plays_boot more m e = let q = sized_boot c.a c.c c.size (plays_sized e) in record { pages = q.0; frames = q.1; stands = omega (arith, m, q.2) }

  pub more_length : (input : List ℕ) → length input ≡ b → length (more_of r c input) ≡ c.size - 16
  more_length input e =
      let l = plays_sixteen in
      let i = plays_inside in
      let n : r.at + c.size - (r.at + 16) ≤ length (drop (r.at + 16) input) = simp length-drop (omega arith) in
      length-take-le (r.at + c.size - (r.at + 16)) (drop (r.at + 16) input) n ∙ omega arith

-- no more words are lent after a command of the house
played_lent : (c : Command) (more : List ℕ) (p : Player) → (played_of c more p).lent ≤ p.lent
unfolding played_of
played_lent c more p =
    either P (c.op is PokeHouse) (λ _. omega arith) λ _.
    either P (c.op is Clear) (λ _. omega arith) λ _.
    either P (changes_nothing c) (λ _. omega arith) (λ _. omega arith)
  where
    P : Player → Type 0
    P x = x.lent ≤ p.lent

pub played_within : (c : Command) (more : List ℕ) (p q : Player) (words : ℕ) → q ≡ played_of c more p → p.lent ≤ words → q.lent ≤ words
played_within c more p q words e l = omega (arith, ap (λ (x : Player). x.lent) e, played_lent c more p)

-- a call changes the lent words alone
pub made_played : (b : Bool) (h g : House) (m k : List ℕ) (n : ℕ) (w : World) → world g k ≡ (when b then world h (take n m) else w)
    → player g (k ++ drop n m) n ≡ (when b then player h m n else player w.house (w.memory ++ drop n m) n)
made_played true h g m k n w e =
    ap (λ (x : World). player x.house (x.memory ++ drop n m) n) e ∙ ap (λ (x : List ℕ). player h x n) (take-append-drop n m)
made_played false h g m k n w e = ap (λ (x : World). player x.house (x.memory ++ drop n m) n) e

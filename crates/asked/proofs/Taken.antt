-- One of noon's words more.
use Rattle.std.proofs.Common.{◌≡◌, ℕ, ◌+◌, ◌-◌, ◌*◌, ◌%◌, ◌<◌, Option, None, Some, Result, Ok, Err, Bool, ◌&&◌, true, false, List, length, take, drop, set, sym, ap, ◌∙◌, arith, length-drop, take_all, eq-eqb, ne_eqb, lt-ltb}
use lib.Dec.{eqb, ltb}
use Rattle.dlx.specs.Words.{plus}
use Rattle.command.specs.Words.{number_of}
use Rattle.decimal.specs.Texts.{ascii, same}
use Rattle.asked.specs.Words.{row_of, counted, name_length, address_of}
use Rattle.asked.specs.Asked.{going, framed, imaged, took_next, took_word}
use Rattle.asked.specs.declared.asked.Asked.{Asked}
use Rattle.asked.specs.declared.asked.Awaits.{Awaits}
use Rattle.asked.specs.declared.asked.Awaits.TheVariants.{Image, ImageOrPartition}

-- ---- frames

module _ (a : Asked) (pages frames table word frames' : List ℕ) (e : frames' ≡ (row_of a.total frames word).frames) where
  pub framed_wrong : (n : Option ℕ) → Err n ≡ counted (row_of a.total frames word) → going (Err a) pages frames' table ≡ framed a (going (Ok a) pages frames table) word
  unfolding framed
  framed_wrong n q = rw (← q, framed, e)

  pub framed_right : (n : ℕ) → Ok n ≡ counted (row_of a.total frames word)
      → going (Ok (record { awaits = Image; owner = a.owner; total = plus a.total n; images = a.images })) (set pages a.owner n) frames' table ≡ framed a (going (Ok a) pages frames table) word
  unfolding framed
  framed_right n q = rw (← q, framed, e)

-- ---- images

module _ (a : Asked) (pages frames table word : List ℕ) (n : ℕ) where
  pub imaged_unsaid : None ≡ address_of word → going (Err a) pages frames table ≡ imaged a (going (Ok a) pages frames table) n word
  unfolding imaged
  imaged_unsaid e = rw (← e, imaged)

  module _ (x : ℕ) (e : Some x ≡ address_of word) where
    pub imaged_wrong : (eqb (x % 4) 0 && ltb a.images 64) ≡ false → going (Err a) pages frames table ≡ imaged a (going (Ok a) pages frames table) n word
    unfolding imaged
    imaged_wrong q = rw (← e, imaged, q)

    -- the three numbers of an image, one after the other
    pub imaged_right : x % 4 ≡ 0 → a.images < 64 → (t₁ t₂ t₃ : List ℕ) → t₁ ≡ set table (3 * a.images + 0) a.owner → t₂ ≡ set t₁ (3 * a.images + 1) x → t₃ ≡ set t₂ (3 * a.images + 2) n
        → going (Ok (record { awaits = ImageOrPartition; owner = a.owner; total = a.total; images = a.images + 1 })) pages frames t₃ ≡ imaged a (going (Ok a) pages frames table) n word
    unfolding imaged
    imaged_right m l t₁ t₂ t₃ e₁ e₂ e₃ =
        let z : 3 * a.images + 0 ≡ 3 * a.images = omega arith in
        let q : (eqb (x % 4) 0 && ltb a.images 64) ≡ true = simp (eq-eqb (x % 4) 0 m, lt-ltb a.images 64 l) in
        rw (← e, imaged, q, e₃, e₂, e₁, z)

-- ---- an address

pub address_none : (word : List ℕ) (n : ℕ) → n ≡ name_length word → n ≡ length word → Some 0 ≡ address_of word
unfolding address_of
address_none word n e f = simp (eq-eqb (name_length word) (length word) (sym e ∙ f))

pub address_said : (word : List ℕ) (n : ℕ) (x : Option ℕ) → n ≡ name_length word → (n ≡ length word → ⊥) → x ≡ number_of 4294967295 (take (length word - (n + 1)) (drop (n + 1) word)) → x ≡ address_of word
unfolding address_of
address_said word n x e f g =
    let all : take (length word - (n + 1)) (drop (n + 1) word) ≡ drop (n + 1) word = take_all (length word - (n + 1)) (drop (n + 1) word) (omega (arith, length-drop (n + 1) word)) in
    g ∙ ap (number_of 4294967295) all ∙ simp (← e, ne_eqb n (length word) f)

-- ---- a word

pub took_as : (a : Asked) (pages frames table word : List ℕ) (n : ℕ) (b : Bool) → b ≡ same word (ascii "partition") → (w : Awaits) (v : Bool) → a.awaits ≡ w → b ≡ v
    → took_next w v a (going (Ok a) pages frames table) n word ≡ took_word (going (Ok a) pages frames table) n word
unfolding took_word
took_as a pages frames table word n b e w v i t =
    ap (λ (x : Awaits). took_next x v a (going (Ok a) pages frames table) n word) (sym i)
    ∙ ap (λ (x : Bool). took_next a.awaits x a (going (Ok a) pages frames table) n word) (sym t ∙ e)

pub took_wrong : (a : Result Asked Asked) (at : Asked) (pages frames table word : List ℕ) (n : ℕ) → a ≡ Err at → going (Err at) pages frames table ≡ took_word (going a pages frames table) n word
unfolding took_word
took_wrong a at pages frames table word n e = ap (λ (x : Result Asked Asked). took_word (going x pages frames table) n word) (sym e)

-- Feeds of answers: an answer that is not asked for changes nothing, so a machine depends on the answers that it asks for alone.
use mathlib.Core.Path.{◌≡◌, refl, sym, ap, subst, ◌∙◌}
use mathlib.Core.List.{List, [], ◌∷◌, ◌++◌}
use Prim.{Unit, tt}
use Prim.Native.Nat.{ℕ, zero, suc, ◌<◌}
use native.Mathlib.Omega.{arith}
use lib.ListN.{length, get_or, length-append, get_or-append}
use Rattle.dlx.specs.Machine.{Reply, Ops, Core, accessed, fetched, settled, retabled, step, steps, Request, nothing, sends, takes, request_of, asked, reply}
use Rattle.dlx.specs.declared.execute.Change.{Change}
use Rattle.dlx.specs.declared.execute.Effect.{Effect}
use Rattle.dlx.specs.declared.execute.Effect.TheVariants.{Done, Load, Store, Send, Take}

-- nothing is asked, which a send and a take are not
abbrev Silent : Request → Type 0
Silent nothing = Unit
Silent (sends v to) = ⊥
Silent takes = ⊥

module _ {S : Type 0} (O : Ops S) where
  silent : (a b : Reply) (c : Core) (e : Effect) (s : S) → Silent (request_of e) → accessed O a c e s ≡ accessed O b c e s
  unfolding accessed request_of
  silent a b c (Done x) s h = refl
  silent a b c (Load d x o) s h = refl
  silent a b c (Store o x v) s h = refl
  silent a b c (Send v to) s h = absurd h
  silent a b c Take s h = absurd h

  pub unasked : (a b : Reply) (m : Core × S) → asked O m ≡ nothing → step O a m ≡ step O b m
  unfolding step asked
  unasked a b m e =
      let n = subst Silent (sym e) tt in
      let f = fetched O m in
      ap (λ (g : (Change × Core) × S). (settled g.0.1 g.0.0, retabled O g.0.0 g.1)) (silent a b f.0.1 f.0.0 f.1 n)

  -- feeds that agree so far
  pub steps_same : (f g : ℕ → Reply) (n : ℕ) (m : Core × S) → ((k : ℕ) → k < n → f k ≡ g k) → steps O f n m ≡ steps O g n m
  unfolding steps
  steps_same f g zero m h = refl
  steps_same f g (suc n) m h =
      ap (λ (x : Core × S). let o = step O (f n) x in (o.0.core, o.1)) (steps_same f g n m (λ k l. h k (omega arith)))
      ∙ ap (λ (y : Reply). let o = step O y (steps O g n m) in (o.0.core, o.1)) (h n (omega arith))

-- ---- a feed read off a list

abbrev pub fed : List Reply → ℕ → Reply
fed l k = get_or l k (reply 0 0)

fed_last : (l : List Reply) (a : Reply) → fed (l ++ (a ∷ [])) (length l) ≡ a
fed_last [] a = refl
fed_last (x ∷ l) a = fed_last l a

pub steps_more : {S : Type 0} (O : Ops S) (l : List Reply) (a : Reply) (m : Core × S)
    → steps O (fed (l ++ (a ∷ []))) (length (l ++ (a ∷ []))) m ≡ (let o = step O a (steps O (fed l) (length l) m) in (o.0.core, o.1))
unfolding steps
steps_more {S = S} O l a m =
    let e : length (l ++ (a ∷ [])) ≡ suc (length l) = length-append l (a ∷ []) ∙ omega arith in
    let s = steps_same O (fed (l ++ (a ∷ []))) (fed l) (length l) m (λ k h. get_or-append l (a ∷ []) (reply 0 0) k h) in
    let F = fed (l ++ (a ∷ [])) in
    ap (λ (n : ℕ). steps O F n m) e
    ∙ ap (λ (x : Core × S). let o = step O (F (length l)) x in (o.0.core, o.1)) s
    ∙ ap (λ (y : Reply). let o = step O y (steps O (fed l) (length l) m) in (o.0.core, o.1)) (fed_last l a)

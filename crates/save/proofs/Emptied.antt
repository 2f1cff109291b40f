-- A house with every shadow empty is what one emptying of each partition leaves.
use mathlib.Core.Path.{◌≡◌, refl, sym, ap, subst, ◌∙◌}
use mathlib.Core.Bool.{false}
use mathlib.Core.List.{List, [], ◌∷◌}
use Prim.Native.Nat.{ℕ, zero, suc, ◌*◌, ◌/◌, ◌%◌, ◌<◌, ◌≤◌}
use native.Mathlib.Omega.{arith}
use borrow.Author.Tests.{lt-leb}
use lib.ListN.{replicate}
use Rattle.dlx.specs.Parts.{inner}
use Rattle.dlx.proofs.Parts.{inner_replicate}
use Rattle.addresses.specs.Walk.{entries}
use Rattle.house.specs.House.{fresh_shadows, all_entries, with_shadows}
use Rattle.house.specs.Damage.{damaged}
use Rattle.house.specs.Boot.{first_of}
use Rattle.house.specs.Turns.{World, world}
use Rattle.house.specs.Calls.{one_verdict, empty_call, emptied_house}
use Rattle.house.specs.Sound.{Typed, Undamaged, Stays}
use Rattle.house.specs.declared.House.{House}
use Rattle.house.proofs.Damage.Updates.{fresh_long, fresh_at}
use Rattle.house.proofs.Damage.Undamaged.{undamaged_gives}
use Rattle.demands.specs.Histories.{empty, after, history}
use Rattle.demands.proofs.Histories.Grown.{history_then}
use Rattle.demands.proofs.Histories.Stays.{history_stays}
use Rattle.save.specs.Promises.{emptyings}
use Rattle.save.proofs.Joined.{joined, joined_outer, joined_all}
use Rattle.save.proofs.Restored.{part_zero}

fresh_part : (k : ℕ) → k < 8 → inner (k * entries) entries fresh_shadows ≡ replicate entries 0
unfolding fresh_shadows
fresh_part k l = inner_replicate (k * entries) entries all_entries (omega arith)

module _ (w : World) (typed : Typed w) (whole : damaged w.house ≡ false) where
  abbrev h : House
  h = w.house

  u : Undamaged h
  u = undamaged_gives h whole

  -- with the first n shadows empty
  abbrev emptied_to : ℕ → World
  emptied_to n = world (with_shadows h (joined (n * entries) fresh_shadows h.shadows)) w.memory

  emptied_next : (n : ℕ) → n < h.count → damaged (emptied_to n).house ≡ false → after (empty n) (emptied_to n) ≡ emptied_to (suc n)
  unfolding after empty_call one_verdict first_of emptied_house
  emptied_next n l e =
      simp (
        e,
        lt-leb h.count n l,
        ← fresh_part n (omega (arith, u.few)),
        joined_outer (n * entries) entries (suc n * entries) fresh_shadows h.shadows (omega arith) (omega (arith, fresh_long, u.few)) (omega (arith, typed.shaped.shadows, u.few)),
      )

  emptied_so_far : (n : ℕ) → n ≤ h.count → history (emptyings n) w ≡ emptied_to n
  unfolding emptyings history
  emptied_so_far zero l = refl
  emptied_so_far (suc n) l =
      let e = emptied_so_far n (omega arith) in
      history_then (emptyings n) (empty n ∷ []) w
      ∙ ap (after (empty n)) e
      ∙ emptied_next n l (subst (λ (x : World). damaged x.house ≡ false) e (history_stays w typed whole (emptyings n)).whole)

  pub all_emptied : history (emptyings h.count) w ≡ world (with_shadows h fresh_shadows) w.memory
  all_emptied =
      emptied_so_far h.count (omega arith)
      ∙ ap (λ (x : List ℕ). world (with_shadows h x) w.memory)
      (joined_all (h.count * entries) fresh_shadows h.shadows 0 (typed.shaped.shadows ∙ sym fresh_long) λ x l m.
      part_zero h.shadows entries (x / entries) (x % entries) x (omega arith) (omega arith)
      ((u.unused (x / entries) (omega arith) (omega (arith, fresh_long))).shadows (x % entries) (omega arith))
      ∙ sym (fresh_at x))

  pub emptied_stays : Stays w (world (with_shadows h fresh_shadows) w.memory)
  emptied_stays = subst (Stays w) all_emptied (history_stays w typed whole (emptyings h.count))

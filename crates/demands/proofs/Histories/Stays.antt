-- Every call, done or refused, leaves a house that is not damaged where it is given one, of the same layout, in a memory of the same length.
use mathlib.Core.Path.{◌≡◌, refl, ◌∙◌}
use mathlib.Core.Bool.{true, false}
use mathlib.Core.List.{List}
use Prim.Native.Nat.{ℕ}
use Rattle.dlx.proofs.Tests.{by_eq}
use Rattle.house.specs.Damage.{damaged}
use Rattle.house.specs.Turns.{World, host_steps}
use Rattle.house.specs.House.{turn_now}
use Rattle.house.specs.Calls.{started, stopped, emptied_house}
use Rattle.house.specs.Sound.{LaidOut, Typed, Stays}
use Rattle.house.proofs.Lists.Bounded.{one_way}
use Rattle.demands.specs.Histories.{Call, after, history}
use Rattle.house.proofs.Damage.Undamaged.{undamaged_gives}
use Rattle.house.proofs.Calls.Verdicts.{RunDone}
use Rattle.house.proofs.Turns.SameLayout.{same_layout, layout_on, steps_layout, changed_layout}
use Rattle.demands.proofs.Histories.LeftByCalls.{Done, after_keeps, history_keeps}
use Rattle.house.proofs.Turns.HostStep.{steps_stay}
use Rattle.house.proofs.Calls.StartStopEmpty.{started_stays, stopped_stays, emptied_stays}

unchanged : (w : World) → Typed w → damaged w.house ≡ false → Stays w w
unchanged w t e = record { typed = t; whole = e; layout = same_layout w.house; size = refl }

ran_stays : (w : World) (k : ℕ) → Typed w → RunDone w k → Stays w (host_steps k w)
unfolding host_steps
ran_stays w k t d =
    by_eq k 0
    (λ z. rw z (unchanged w t d.whole))
    (λ n. steps_stay k w (record { typed = t; whole = undamaged_gives w.house d.whole; size = d.size; busy = d.busy n }))

stays_on : (w w' w'' : World) → Stays w w' → Stays w' w'' → Stays w w''
stays_on w w' w'' a b = record { typed = b.typed; whole = b.whole; layout = layout_on w.house w'.house w''.house a.layout b.layout; size = b.size ∙ a.size }

call_stays : (v w : World) → Stays v w → Done (Stays v) w
call_stays v w s = record {
  run = λ k d. stays_on v w _ s (ran_stays w k s.typed d);
  start = λ i d. stays_on v w _ s (started_stays w i s.typed d);
  stop = λ i d. stays_on v w _ s (stopped_stays w i s.typed d);
  empty = λ i d. stays_on v w _ s (emptied_stays w i s.typed d);
}

-- the layout, of any house
pub after_layout : (w : World) (c : Call) → LaidOut w.house (after c w).house
unfolding started stopped emptied_house
after_layout w =
    let h = w.house in
    after_keeps (λ x. LaidOut h x.house) w (same_layout h) (record {
      run = λ k _. steps_layout k w;
      start = λ i _. changed_layout h _ _ h.shadows;
      stop = λ i _. changed_layout h _ _ h.shadows;
      empty = λ i _. changed_layout h h.running (turn_now h) _;
    })

-- a damaged house stays as it is, since every call is refused
pub after_damaged : (w : World) → damaged w.house ≡ true → (c : Call) → after c w ≡ w
after_damaged w e = after_keeps (λ x. x ≡ w) w refl (record {
  run = λ k d. one_way (damaged w.house) e d.whole;
  start = λ i d. one_way (damaged w.house) e d.whole;
  stop = λ i d. one_way (damaged w.house) e d.whole;
  empty = λ i d. one_way (damaged w.house) e d.whole;
})

module _ (w : World) (t : Typed w) (e : damaged w.house ≡ false) where
  pub after_stays : (c : Call) → Stays w (after c w)
  after_stays = let s = unchanged w t e in after_keeps (Stays w) w s (call_stays w w s)

  pub history_stays : (cs : List Call) → Stays w (history cs w)
  history_stays cs = history_keeps (Stays w) (call_stays w) cs w (unchanged w t e)

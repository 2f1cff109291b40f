-- Each partition stands where a lone machine stands after as many steps as the history's turns gave it, fed the answers of its log; and the tickets sent
-- to it are those that it took and then those that wait.
use mathlib.Core.Path.{◌≡◌, refl, sym, ap, subst, ◌∙◌}
use mathlib.Core.List.{List, [], ◌∷◌, ◌++◌, append_assoc, append-nil}
use Prim.Native.Nat.{ℕ, zero, suc, ◌%◌, ◌^◌, ◌<◌}
use native.Mathlib.Omega.{arith}
use borrow.Author.Tests.{eq-eqb, ne_eqb}
use lib.Dec.{eqb}
use lib.ListN.{length, get_or, length-append}
use Rattle.dlx.specs.Choice.{when◌then◌else◌}
use Rattle.dlx.specs.Machine.{Reply, Core, step, steps}
use Rattle.dlx.specs.declared.partition.Partition.{Partition}
use Rattle.dlx.proofs.Feeds.{fed, steps_more}
use Rattle.dlx.proofs.Kept.{either}
use Rattle.addresses.specs.Memory.{Lone, lone_memory}
use Rattle.dlx.proofs.Tests.{by_test, by_eq, get_or_replicate_same}
use Rattle.house.specs.House.{partition}
use Rattle.house.specs.Boot.{booted_house}
use Rattle.tickets.specs.Queues.{queue_of, sent_to, taken_by}
use Rattle.house.specs.Turns.{World, world, host_step, host_steps}
use Rattle.house.specs.Calls.{run_verdict, run_call, one_verdict, started, stopped, emptied_house, start_call, stop_call, empty_call, read_call}
use Rattle.demands.specs.Histories.{Boot, booted, Call, run, start, stop, empty, read_out, after, history, turns_in, steps_of, turns_made, lone_of, lone_at_boot, queue_in, lone_asks, lone_answer, Event, event_of, log_in, log_of, each, answers_to, tickets_to, tickets_off}
use Rattle.demands.specs.Demands.{StepOf}
use Rattle.demands.proofs.Booted.FreshHouse.{booted_partition, booted_pages}
use Rattle.demands.proofs.Booted.FreshGuests.{booted_lone}
use Rattle.demands.proofs.Histories.Grown.{standing_boot, standing_steps, standing_after}
use Rattle.demands.proofs.Histories.Standing.{Standing, step_of, queues_kept, firm}

-- ---- logs

each_append : {A : Type 0} (f : Event → List A) (xs ys : List Event) → each f (xs ++ ys) ≡ each f xs ++ each f ys
unfolding each
each_append f [] ys = refl
each_append f (x ∷ xs) ys = ap (λ l. f x ++ l) (each_append f xs ys) ∙ sym (append_assoc (f x) (each f xs) (each f ys))

each_one : {A : Type 0} (f : Event → List A) (x : Event) → each f (x ∷ []) ≡ f x
unfolding each
each_one f x = append-nil (f x)

-- one event more
each_more : {A : Type 0} (f : Event → List A) (xs : List Event) (x : Event) → each f (xs ++ (x ∷ [])) ≡ each f xs ++ f x
each_more f xs x = each_append f xs (x ∷ []) ∙ ap (λ l. each f xs ++ l) (each_one f x)

-- how many steps of i a log has is how many turns the history gave it
module _ (i : ℕ) where
  abbrev mine : Event → List Reply
  mine e = when eqb e.who i then e.answer ∷ [] else []

  mine_one : (w : World) → length (mine (event_of w)) ≡ (when eqb w.house.current i then 1 else 0)
  unfolding event_of
  mine_one w = by_test (eqb w.house.current i) (λ e. rw e) (λ e. rw e)

  turns_logged : (k : ℕ) (w : World) → length (answers_to i (log_in k w)) ≡ turns_in k w i
  unfolding log_in turns_in each
  turns_logged zero w = refl
  turns_logged (suc k) w =
      ap length (each_more mine (log_in k w) (event_of (host_steps k w)))
      ∙ length-append (each mine (log_in k w)) (mine (event_of (host_steps k w)))
      ∙ omega (arith, turns_logged k w, mine_one (host_steps k w))

  pub answers_made : (cs : List Call) (w : World) → length (answers_to i (log_of cs w)) ≡ turns_made cs w i
  unfolding log_of turns_made each
  answers_made [] w = refl
  answers_made (c ∷ cs) w =
      ap length (each_append mine (log_in (steps_of c w) w) (log_of cs (after c w)))
      ∙ length-append (each mine (log_in (steps_of c w) w)) (each mine (log_of cs (after c w)))
      ∙ omega (arith, turns_logged (steps_of c w) w, answers_made cs (after c w))

module _ (b : Boot) (i : ℕ) (l : i < length b.pages) where
  -- partition i after the host steps of a log
  pub record At (w : World) (log : List Event) : Type 0 where
    pub lone : lone_of w i ≡ steps (lone_memory (get_or b.pages i 0)) (fed (answers_to i log)) (length (answers_to i log)) (lone_at_boot b i)
    pub counter : (partition w.house i).counter ≡ length (answers_to i log) % 2 ^ 64
    pub tickets : tickets_to i log ≡ tickets_off i log ++ queue_in w i

  at_boot : At (booted b) []
  unfolding steps each queue_of booted_house
  at_boot = record {
    lone = booted_lone b i l;
    counter = ap (λ (p : Partition). p.counter) (booted_partition b i l);
    tickets = rw (get_or_replicate_same 8 0 i);
  }

  -- ---- host steps

  -- one host step more, of partition i or not
  module _ (w : World) (st : Standing b w) (log : List Event) (a : At w log) where
    below : i < w.house.count
    unfolding booted_house
    below = omega (arith, st.layout.count)

    own_answers : w.house.current ≡ i → answers_to i (log ++ (event_of w ∷ [])) ≡ answers_to i log ++ (lone_answer w i ∷ [])
    unfolding event_of
    own_answers e =
        each_more (mine i) log (event_of w)
        ∙ ap (λ l. answers_to i log ++ l) (rw (eq-eqb w.house.current i e) (ap (λ (k : ℕ). lone_answer w k ∷ []) e))

    other_answers : (w.house.current ≡ i → ⊥) → answers_to i (log ++ (event_of w ∷ [])) ≡ answers_to i log
    unfolding event_of
    other_answers d =
        each_more (mine i) log (event_of w)
        ∙ ap (λ l. answers_to i log ++ l) (rw (ne_eqb w.house.current i d))
        ∙ append-nil (answers_to i log)

    lone_own : w.house.current ≡ i → lone_of (host_step w) i ≡ steps (lone_memory (get_or b.pages i 0)) (fed (answers_to i log ++ (lone_answer w i ∷ []))) (length (answers_to i log ++ (lone_answer w i ∷ []))) (lone_at_boot b i)
    lone_own e =
        let s = subst (StepOf w (host_step w)) e (step_of w (firm b w st)) in
        let O = lone_memory (get_or b.pages i 0) in
        s.own
        ∙ ap (λ (n : ℕ). let o = step (lone_memory n) (lone_answer w i) (lone_of w i) in (o.0.core, o.1)) (st.layout.pages i ∙ booted_pages b i l)
        ∙ ap (λ (x : Core × Lone). let o = step O (lone_answer w i) x in (o.0.core, o.1)) a.lone
        ∙ sym (steps_more O (answers_to i log) (lone_answer w i) (lone_at_boot b i))

    tickets_on : tickets_to i (log ++ (event_of w ∷ [])) ≡ tickets_off i (log ++ (event_of w ∷ [])) ++ queue_in (host_step w) i
    unfolding event_of
    tickets_on =
        let c = w.house.current in
        let S = sent_to (lone_asks w c) (lone_answer w c) i in
        let T = taken_by c (lone_asks w c) (lone_answer w c) i in
        each_more (λ e. sent_to e.asks e.answer i) log (event_of w)
        ∙ ap (λ x. x ++ S) a.tickets
        ∙ append_assoc (tickets_off i log) (queue_in w i) S
        ∙ ap (λ x. tickets_off i log ++ x) (queues_kept w (firm b w st) i below)
        ∙ sym (append_assoc (tickets_off i log) T (queue_in (host_step w) i))
        ∙ ap (λ x. x ++ queue_in (host_step w) i) (sym (each_more (λ e. taken_by e.who e.asks e.answer i) log (event_of w)))

    at_own : w.house.current ≡ i → At (host_step w) (log ++ (event_of w ∷ []))
    at_own e =
        let s = subst (StepOf w (host_step w)) e (step_of w (firm b w st)) in
        record {
          lone = lone_own e ∙ ap (λ (x : List Reply). steps (lone_memory (get_or b.pages i 0)) (fed x) (length x) (lone_at_boot b i)) (sym (own_answers e));
          counter = s.counters i below ∙ rw (eq-eqb i i refl) (omega (arith, a.counter, length-append (answers_to i log) (lone_answer w i ∷ []), ap length (own_answers e)));
          tickets = tickets_on;
        }

    at_other : (w.house.current ≡ i → ⊥) → At (host_step w) (log ++ (event_of w ∷ []))
    at_other d =
        let s = step_of w (firm b w st) in
        record {
          lone = s.others i below (λ e. d (sym e)) ∙ a.lone ∙ ap (λ (x : List Reply). steps (lone_memory (get_or b.pages i 0)) (fed x) (length x) (lone_at_boot b i)) (sym (other_answers d));
          counter = s.counters i below ∙ rw (ne_eqb i w.house.current (λ e. d (sym e))) (a.counter ∙ ap (λ (x : List Reply). length x % 2 ^ 64) (sym (other_answers d)));
          tickets = tickets_on;
        }

    at_step : At (host_step w) (log ++ (event_of w ∷ []))
    at_step = by_eq w.house.current i at_own at_other

  at_steps : (k : ℕ) (log : List Event) (w : World) → Standing b w → At w log → At (host_steps k w) (log ++ log_in k w)
  unfolding host_steps log_in
  at_steps zero log w st a = subst (At w) (sym (append-nil log)) a
  at_steps (suc k) log w st a =
      subst (At (host_step (host_steps k w))) (append_assoc log (log_in k w) (event_of (host_steps k w) ∷ []))
      (at_step (host_steps k w) (standing_steps b k w st) (log ++ log_in k w) (at_steps k log w st a))

  -- ---- calls

  -- a call that makes no step leaves every guest and every queue
  module _ (w : World) (st : Standing b w) (log : List Event) (a : At w log) where
    at_started : (j : ℕ) → At (world (started w.house j) w.memory) log
    unfolding started lone_of
    at_started j = record { lone = a.lone; counter = a.counter; tickets = a.tickets }

    at_stopped : (j : ℕ) → At (world (stopped w.house j) w.memory) log
    unfolding stopped lone_of
    at_stopped j = record { lone = a.lone; counter = a.counter; tickets = a.tickets }

    at_emptied : (j : ℕ) → At (world (emptied_house w.house j) w.memory) log
    unfolding emptied_house lone_of
    at_emptied j = record { lone = a.lone; counter = a.counter; tickets = a.tickets }

    none : {x : World} → At x log → At x (log ++ [])
    none {x} y = subst (At x) (sym (append-nil log)) y

    at_run : (k : ℕ) → At (run_call w k).world (log ++ log_in (steps_of (run k) w) w)
    unfolding run_call steps_of log_in
    at_run k =
        by_test (eqb (run_verdict w k).number 0)
        (λ e. rw e (at_steps k log w st a))
        (λ e. rw e (none a))

    at_after : (c : Call) → At (after c w) (log ++ log_in (steps_of c w) w)
    unfolding after start_call stop_call empty_call read_call steps_of log_in
    at_after (run k) = at_run k
    at_after (start j) = none (either (λ (v : World). At v log) (eqb (one_verdict w.house j).number 0) (λ _. at_started j) (λ _. a))
    at_after (stop j) = none (either (λ (v : World). At v log) (eqb (one_verdict w.house j).number 0) (λ _. at_stopped j) (λ _. a))
    at_after (empty j) = none (either (λ (v : World). At v log) (eqb (one_verdict w.house j).number 0) (λ _. at_emptied j) (λ _. a))
    at_after (read_out j x m out) = none a

  at_history : (cs : List Call) (log : List Event) (w : World) → Standing b w → At w log → At (history cs w) (log ++ log_of cs w)
  unfolding history log_of
  at_history [] log w st a = subst (At w) (sym (append-nil log)) a
  at_history (c ∷ cs) log w st a =
      subst (At (history cs (after c w))) (append_assoc log (log_in (steps_of c w) w) (log_of cs (after c w)))
      (at_history cs (log ++ log_in (steps_of c w) w) (after c w) (standing_after b w st c) (at_after w st log a c))

  pub at_end : (cs : List Call) → At (history cs (booted b)) (log_of cs (booted b))
  at_end cs = at_history cs [] (booted b) (standing_boot b) at_boot

  -- by the turns that the history made
  pub end_lone : (cs : List Call) → lone_of (history cs (booted b)) i ≡ steps (lone_memory (get_or b.pages i 0)) (fed (answers_to i (log_of cs (booted b)))) (turns_made cs (booted b) i) (lone_at_boot b i)
  end_lone cs = (at_end cs).lone ∙ ap (λ (n : ℕ). steps (lone_memory (get_or b.pages i 0)) (fed (answers_to i (log_of cs (booted b)))) n (lone_at_boot b i)) (answers_made i cs (booted b))

  pub end_counter : (cs : List Call) → (partition (history cs (booted b)).house i).counter ≡ turns_made cs (booted b) i % 2 ^ 64
  end_counter cs = (at_end cs).counter ∙ ap (λ (n : ℕ). n % 2 ^ 64) (answers_made i cs (booted b))

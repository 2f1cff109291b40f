-- Steps ahead of the general one: plain ones within a stretch, a leg's end, rfe and a trap.
use Rattle.std.proofs.Common.{◌≡◌, ℕ, zero, suc, ◌+◌, ◌-◌, ◌/◌, ◌%◌, ◌<◌, ◌≤◌, Bool, true, false, ◌&&◌, eqb, List, [], ◌∷◌, length, get_or, set, sym, refl, ap, ◌∙◌, subst, add-zero, arith, eq-eqb, ne_eqb}
use Rattle.dlx.specs.Choice.{when◌then◌else◌}
use Rattle.dlx.specs.Words.{extended}
use Rattle.dlx.specs.Processor.{no_timer, special_of}
use Rattle.dlx.specs.Interrupts.{interrupted, returned}
use Rattle.dlx.specs.Timer.{ticked, raised}
use Rattle.dlx.specs.Instructions.{instruction_of}
use Rattle.dlx.specs.Execute.{effect_of, trap_of}
use Rattle.dlx.specs.Machine.{Ops, Core, core, Outcome, outcome, step_at, settled, changed, left, handled, fetched, retabled, Desk, Stretch, stretch_from}
use Rattle.dlx.specs.Spells.{sunk, timed, ended, Spell, spell, spell_from}
use Rattle.dlx.specs.declared.partition.Processor.{Processor}
use Rattle.dlx.specs.declared.partition.Table.{Table}
use Rattle.dlx.specs.declared.partition.Timer.{Timer}
use Rattle.dlx.specs.declared.execute.Change.{Change}
use Rattle.dlx.specs.declared.execute.Change.TheVariants.{Plain, Cause, Return}
use Rattle.dlx.specs.declared.execute.Effect.{Effect}
use Rattle.dlx.specs.declared.execute.Effect.TheVariants.{Done}
use Rattle.dlx.proofs.Spells.{Within, spell_some, spell_stretch, still_ticked, still_raised}
use Rattle.tickets.specs.Queues.{Queues, desk, Seated}
use Rattle.addresses.specs.Memory.{Host, host, host_memory}
use Rattle.plain.specs.Plain.{pair_of, Numbered}
use Rattle.quick.specs.Quick.{Goes, Found}
use Rattle.engine.specs.declared.Turned.{Turned}
use Rattle.addresses.proofs.Steps.{Whole}
use Rattle.engine.specs.Answers.{Fits, turned_of, list_of, processor_at, table_at, timer_at, Arrived, Leads, Happened}
use Rattle.engine.proofs.Parts.{leg_is, Roomy, step_done, stretch_step, stretch_on, turn_called, turn_on, after_step}

-- ---- the list

numbers : (s : List ℕ) (n : ℕ) → n < 10 → get_or s n 0 ≡ special_of (processor_at s) (table_at s) no_timer n
unfolding special_of list_of processor_at table_at timer_at
numbers s zero l = refl
numbers s (suc zero) l = refl
numbers s (suc (suc zero)) l = refl
numbers s (suc (suc (suc zero))) l = refl
numbers s (suc (suc (suc (suc zero)))) l = refl
numbers s (suc (suc (suc (suc (suc zero))))) l = refl
numbers s (suc (suc (suc (suc (suc (suc zero)))))) l = refl
numbers s (suc (suc (suc (suc (suc (suc (suc zero))))))) l = refl
numbers s (suc (suc (suc (suc (suc (suc (suc (suc zero)))))))) l = refl
numbers s (suc (suc (suc (suc (suc (suc (suc (suc (suc zero))))))))) l = refl
numbers s (suc (suc (suc (suc (suc (suc (suc (suc (suc (suc n)))))))))) l = absurd (omega (arith, l))

pub numbered : (s : List ℕ) → length s ≡ 14 → Numbered s (processor_at s) (table_at s)
numbered s e = (e, numbers s)

pub filled : (s : List ℕ) (p : Processor) (t : Table) (k : Timer) → length s ≡ 14 → set (set (set (set (set (set (set (set (set (set (set (set (set (set s 0 p.sr) 1 p.esr) 2 p.eca) 3 p.epc) 4 p.edpc) 5 p.edata) 6 p.mode) 7 t.pto) 8 t.ptl) 9 p.emode) 10 k.tcount) 11 k.tload) 12 p.dpc) 13 p.pc ≡ list_of p t k
unfolding list_of processor_at table_at timer_at
filled ([]) p t k e = absurd (omega (arith, e))
filled (a0 ∷ []) p t k e = absurd (omega (arith, e))
filled (a0 ∷ a1 ∷ []) p t k e = absurd (omega (arith, e))
filled (a0 ∷ a1 ∷ a2 ∷ []) p t k e = absurd (omega (arith, e))
filled (a0 ∷ a1 ∷ a2 ∷ a3 ∷ []) p t k e = absurd (omega (arith, e))
filled (a0 ∷ a1 ∷ a2 ∷ a3 ∷ a4 ∷ []) p t k e = absurd (omega (arith, e))
filled (a0 ∷ a1 ∷ a2 ∷ a3 ∷ a4 ∷ a5 ∷ []) p t k e = absurd (omega (arith, e))
filled (a0 ∷ a1 ∷ a2 ∷ a3 ∷ a4 ∷ a5 ∷ a6 ∷ []) p t k e = absurd (omega (arith, e))
filled (a0 ∷ a1 ∷ a2 ∷ a3 ∷ a4 ∷ a5 ∷ a6 ∷ a7 ∷ []) p t k e = absurd (omega (arith, e))
filled (a0 ∷ a1 ∷ a2 ∷ a3 ∷ a4 ∷ a5 ∷ a6 ∷ a7 ∷ a8 ∷ []) p t k e = absurd (omega (arith, e))
filled (a0 ∷ a1 ∷ a2 ∷ a3 ∷ a4 ∷ a5 ∷ a6 ∷ a7 ∷ a8 ∷ a9 ∷ []) p t k e = absurd (omega (arith, e))
filled (a0 ∷ a1 ∷ a2 ∷ a3 ∷ a4 ∷ a5 ∷ a6 ∷ a7 ∷ a8 ∷ a9 ∷ a10 ∷ []) p t k e = absurd (omega (arith, e))
filled (a0 ∷ a1 ∷ a2 ∷ a3 ∷ a4 ∷ a5 ∷ a6 ∷ a7 ∷ a8 ∷ a9 ∷ a10 ∷ a11 ∷ []) p t k e = absurd (omega (arith, e))
filled (a0 ∷ a1 ∷ a2 ∷ a3 ∷ a4 ∷ a5 ∷ a6 ∷ a7 ∷ a8 ∷ a9 ∷ a10 ∷ a11 ∷ a12 ∷ []) p t k e = absurd (omega (arith, e))
filled (a0 ∷ a1 ∷ a2 ∷ a3 ∷ a4 ∷ a5 ∷ a6 ∷ a7 ∷ a8 ∷ a9 ∷ a10 ∷ a11 ∷ a12 ∷ a13 ∷ []) p t k e = refl
filled (a0 ∷ a1 ∷ a2 ∷ a3 ∷ a4 ∷ a5 ∷ a6 ∷ a7 ∷ a8 ∷ a9 ∷ a10 ∷ a11 ∷ a12 ∷ a13 ∷ a14 ∷ r) p t k e = absurd (omega (arith, e))

-- ---- plain steps within a stretch

within_rest : (k rest t : ℕ) → rest ≤ k → (0 < t → k ≤ t) → 0 < t - (k - rest) → rest ≤ t - (k - rest)
within_rest k rest t l w h = let y = w (omega (arith, h)) in omega (arith, y, l)

less : (x d a b : ℕ) → b ≡ d + a → x - d - a ≡ x - b
less x d a b e = omega (arith, e)

between : (made d m : ℕ) → made + d < m → m - made - 1 ≡ d + (m - (made + d) - 1)
between made d m l = omega (arith, l)

module _ {S T : Type 0} (O : Ops S) (D : Desk T) where
  abbrev on : ℕ → ℕ → Outcome → S → T → Stretch S T
  on n made o s t =
      when o.calls then record { made = made; called = true; core = o.core; memory = s; desk = t } else stretch_from O D n made (o.core, s) t

  abbrev resumed : ℕ → ℕ → Timer → Spell S T → Stretch S T
  resumed total before k p =
      on (total - p.made) p.made (ended (timed p.core (sunk k (p.made - before - 1))) p.change) (retabled O p.change p.memory) p.desk

  -- rest of k steps of a spell are still to make
  pub partly : (k rest r made : ℕ) (c c' : Core) (s s' : S) (q : T) → 0 < rest → rest ≤ k → Within c.timer k → c'.timer ≡ sunk c.timer (k - rest) → spell_from O D rest (made + (k - rest)) (c', s') q ≡ spell_from O D k made (c, s) q → stretch_from O D (rest + r) (made + (k - rest)) (c', s') q ≡ stretch_from O D (k + r) made (c, s) q
  partly k rest r made c c' s s' q some most w h e =
      let d = k - rest in
      let p = spell_from O D k made (c, s) q in
      let f : made + d < p.made = subst (λ (x : Spell S T). made + d < x.made) e (spell_some O D rest (made + d) (c', s') q some).0 in
      let g : rest + r + (made + d) ≡ k + r + made = omega (arith, most) in
      let a = less c.timer.tcount d (p.made - (made + d) - 1) (p.made - made - 1) (between made d p.made f) in
      let b : sunk c'.timer (p.made - (made + d) - 1) ≡ sunk c.timer (p.made - made - 1) = ap (λ (j : Timer). sunk j (p.made - (made + d) - 1)) h ∙ ap (λ (j : ℕ). record { tcount = j; tload = c.timer.tload }) a in
      let v : Within c'.timer rest = subst (λ (j : Timer). Within j rest) (sym h) (within_rest k rest c.timer.tcount most w) in
      spell_stretch O D rest r (made + d) c' s' q some v
      ∙ ap (λ (x : Spell S T). resumed (rest + r + (made + d)) (made + d) c'.timer x) e
      ∙ ap (λ (j : ℕ). resumed j (made + d) c'.timer p) g
      ∙ ap (λ (j : Timer). on (k + r + made - p.made) p.made (ended (timed p.core j) p.change) (retabled O p.change p.memory) p.desk) b
      ∙ sym (spell_stretch O D k r made c s q (omega (arith, some, most)) w)

-- ---- some steps, and more

module _ (fr : List ℕ) (n : ℕ) (sh : List ℕ) where
  pub leads_none : (k : ℕ) (s regs ws : List ℕ) → Leads fr n sh k k s regs ws s regs ws
  leads_none k s regs ws =
      record { most = omega arith; same = λ latest count i made q. let e : made + (k - k) ≡ made = omega arith in ap (λ (j : ℕ). stretch_from (host_memory fr n) (desk count i) k j (core (processor_at s) regs latest (timer_at s), host (table_at s) ws sh) q) e }

  pub leads_then : (k a b : ℕ) (s s₁ s₂ regs regs₁ regs₂ ws ws₁ ws₂ : List ℕ) → Leads fr n sh k a s regs ws s₁ regs₁ ws₁ → Leads fr n sh a b s₁ regs₁ ws₁ s₂ regs₂ ws₂ → Leads fr n sh k b s regs ws s₂ regs₂ ws₂
  leads_then k a b s s₁ s₂ regs regs₁ regs₂ ws ws₁ ws₂ f g = record {
    most = omega (arith, f.most, g.most);
    same = λ latest count i made q.
        let e : made + (k - b) ≡ made + (k - a) + (a - b) = omega (arith, f.most, g.most) in
        ap (λ (j : ℕ). stretch_from (host_memory fr n) (desk count i) b j (core (processor_at s₂) regs₂ latest (timer_at s₂), host (table_at s₂) ws₂ sh) q) e
        ∙ g.same latest count i (made + (k - a)) q
        ∙ f.same latest count i made q;
  }

  -- within a stretch of m steps
  pub leads_within : (m k a : ℕ) (s s₁ regs regs₁ ws ws₁ : List ℕ) (latest count i : ℕ) (q : Queues) → k ≤ m → Leads fr n sh k a s regs ws s₁ regs₁ ws₁ → stretch_from (host_memory fr n) (desk count i) a (m - a) (core (processor_at s₁) regs₁ latest (timer_at s₁), host (table_at s₁) ws₁ sh) q ≡ stretch_from (host_memory fr n) (desk count i) k (m - k) (core (processor_at s) regs latest (timer_at s), host (table_at s) ws sh) q
  leads_within m k a s s₁ regs regs₁ ws ws₁ latest count i q l f =
      let e : m - a ≡ m - k + (k - a) = omega (arith, f.most, l) in
      ap (λ (j : ℕ). stretch_from (host_memory fr n) (desk count i) a j (core (processor_at s₁) regs₁ latest (timer_at s₁), host (table_at s₁) ws₁ sh) q) e
      ∙ f.same latest count i (m - k) q

  -- plain steps short of the leg's end
  pub leads_part : (k most rest d e : ℕ) (s s' regs regs' ws ws' : List ℕ) → Roomy (timer_at s) k most → 0 < rest → Goes fr n (table_at s) sh most rest (processor_at s) regs ws (pair_of (processor_at s) d e) regs' ws' → s' ≡ list_of (pair_of (processor_at s) d e) (table_at s) (sunk (timer_at s) (most - rest)) → Leads fr n sh k (k - (most - rest)) s regs ws s' regs' ws'
  unfolding list_of processor_at table_at timer_at
  leads_part k most rest d e s s' regs regs' ws ws' room some g f =
      subst (λ (z : List ℕ). Leads fr n sh k (k - (most - rest)) s regs ws z regs' ws') (sym f) (record {
        most = omega arith;
        same = λ latest count i made q.
            let c = core (processor_at s) regs latest (timer_at s) in
            let c' = core (pair_of (processor_at s) d e) regs' latest (sunk (timer_at s) (most - rest)) in
            let x : k - (most - rest) ≡ rest + (k - most) = omega (arith, room.1, g.0) in
            let y : made + (k - (k - (most - rest))) ≡ made + (most - rest) = omega (arith, room.1, g.0) in
            let z : most + (k - most) ≡ k = omega (arith, room.1) in
            ap (λ (j : ℕ). stretch_from (host_memory fr n) (desk count i) (k - (most - rest)) j (c', host (table_at s) ws' sh) q) y
            ∙ ap (λ (j : ℕ). stretch_from (host_memory fr n) (desk count i) j (made + (most - rest)) (c', host (table_at s) ws' sh) q) x
            ∙ partly (host_memory fr n) (desk count i) most rest (k - most) made c c' (host (table_at s) ws sh) (host (table_at s) ws' sh) q some g.0 room.2 refl (g.1 latest count i made (timer_at s) q)
            ∙ ap (λ (j : ℕ). stretch_from (host_memory fr n) (desk count i) j made (c, host (table_at s) ws sh) q) z;
      })

  -- a leg of plain steps, and its end
  all_plain : (most rest d e : ℕ) (s regs regs' ws ws' : List ℕ) → rest ≡ 0 → Goes fr n (table_at s) sh most rest (processor_at s) regs ws (pair_of (processor_at s) d e) regs' ws' → (latest count i : ℕ) (q : Queues) → spell most (Plain 0 0 0) (core (pair_of (processor_at s) d e) regs' latest (sunk (timer_at s) most)) (host (table_at s) ws' sh) q ≡ spell_from (host_memory fr n) (desk count i) most 0 (core (processor_at s) regs latest (timer_at s), host (table_at s) ws sh) q
  unfolding spell_from
  all_plain most rest d e s regs regs' ws ws' none g latest count i q =
      let h : Goes fr n (table_at s) sh most 0 (processor_at s) regs ws (pair_of (processor_at s) d e) regs' ws' = subst (λ (z : ℕ). Goes fr n (table_at s) sh most z (processor_at s) regs ws (pair_of (processor_at s) d e) regs' ws') none g in
      let x : most ≡ most - 0 = omega arith in
      let y : most ≡ 0 + (most - 0) = omega arith in
      ap (λ (j : ℕ). spell j (Plain 0 0 0) (core (pair_of (processor_at s) d e) regs' latest (sunk (timer_at s) most)) (host (table_at s) ws' sh) q) y
      ∙ ap (λ (j : ℕ). spell (0 + (most - 0)) (Plain 0 0 0) (core (pair_of (processor_at s) d e) regs' latest (sunk (timer_at s) j)) (host (table_at s) ws' sh) q) x
      ∙ h.1 latest count i 0 (timer_at s) q

  unmoved : (h : Host) → h ≡ retabled (host_memory fr n) (Plain 0 0 0) h
  unfolding retabled
  unmoved h = refl

  pub leads_arrived : (k most rest d e : ℕ) (s s' regs regs' ws ws' : List ℕ) → Roomy (timer_at s) k most → rest ≡ 0 → Goes fr n (table_at s) sh most rest (processor_at s) regs ws (pair_of (processor_at s) d e) regs' ws' → Arrived s d e most s' → Leads fr n sh k (k - (most - rest)) s regs ws s' regs' ws'
  leads_arrived k most rest d e s s' regs regs' ws ws' room none g a =
      let w : most ≡ most - rest = omega (arith, none) in
      subst (λ (z : ℕ). Leads fr n sh k (k - z) s regs ws s' regs' ws') w (record {
        most = omega arith;
        same = λ latest count i made q.
            let O = host_memory fr n in
            let c = core (processor_at s) regs latest (timer_at s) in
            let c₁ = core (pair_of (processor_at s) d e) regs' latest (sunk (timer_at s) most) in
            let c' = core (processor_at s') regs' latest (timer_at s') in
            let h = host (table_at s) ws sh in
            let h' = host (table_at s) ws' sh in
            let x : made + (k - (k - most)) ≡ made + k - (k - most) = omega (arith, room.1) in
            let y : made + k - k ≡ made = omega arith in
            let l = leg_is O (desk count i) most most c c₁ h h' h' q q (Plain 0 0 0) (outcome c' false) (sunk (timer_at s) (most - 1)) (all_plain most rest d e s regs regs' ws ws' none g latest count i q) refl (a.ends regs' latest) (unmoved h') in
            ap (λ (t : Table). stretch_from O (desk count i) (k - most) (made + (k - (k - most))) (c', host t ws' sh) q) a.table
            ∙ ap (λ (j : ℕ). stretch_from O (desk count i) (k - most) j (c', h') q) x
            ∙ stretch_on O (desk count i) (made + k) k c h q most most c' h' q false room (omega arith) l refl
            ∙ ap (λ (j : ℕ). stretch_from O (desk count i) k j (c, h) q) y;
      })

-- ---- a leg's end, by the timer

module _ (s s' : List ℕ) (d e made : ℕ) where
  abbrev here : Processor
  here = pair_of (processor_at s) d e

  -- it stands still
  pub arrived_still : (timer_at s).tcount ≡ 0 → s' ≡ list_of here (table_at s) (timer_at s) → Arrived s d e made s'
  unfolding ended left list_of processor_at table_at timer_at
  arrived_still z f =
      let k = timer_at s in
      let a : k.tcount - (made - 1) ≡ 0 = omega (arith, z) in
      let b : sunk k (made - 1) ≡ k = ap (λ (j : ℕ). record { tcount = j; tload = k.tload }) (a ∙ sym z) in
      subst (λ (x : List ℕ). Arrived s d e made x) (sym f) (record { ends = λ regs latest. sym (simp (b, still_ticked k z, still_raised k (get_or s 0 0) z)); table = refl; long = refl })

  -- it falls
  pub arrived_falls : 0 < made → made < (timer_at s).tcount → s' ≡ list_of here (table_at s) (sunk (timer_at s) made) → Arrived s d e made s'
  unfolding ended left ticked raised list_of processor_at table_at timer_at
  arrived_falls some l f =
      let k = timer_at s in
      let a : eqb (k.tcount - (made - 1)) 1 ≡ false = ne_eqb (k.tcount - (made - 1)) 1 (λ q. omega (arith, q, l, some)) in
      let b : k.tcount - (made - 1) - 1 ≡ k.tcount - made = omega (arith, some) in
      subst (λ (x : List ℕ). Arrived s d e made x) (sym f) (record { ends = λ regs latest. sym (simp (a, b)); table = refl; long = refl })

  -- it reaches 0, masked or not
  last : 0 < (timer_at s).tcount → (timer_at s).tcount ≤ made → Within (timer_at s) made → eqb ((timer_at s).tcount - (made - 1)) 1 ≡ true
  unfolding list_of processor_at table_at timer_at
  last some l w = let h = w some in eq-eqb ((timer_at s).tcount - (made - 1)) 1 (omega (arith, some, l, h))

  pub arrived_fires : 0 < (timer_at s).tcount → (timer_at s).tcount ≤ made → Within (timer_at s) made → (processor_at s).sr / 8192 % 2 ≡ 1 → s' ≡ list_of (interrupted here 8192 0) (table_at s) (record { tcount = (timer_at s).tload; tload = (timer_at s).tload }) → Arrived s d e made s'
  unfolding ended left ticked raised list_of processor_at table_at timer_at
  arrived_fires some l w b f =
      subst (λ (x : List ℕ). Arrived s d e made x) (sym f) (record { ends = λ regs latest. sym (simp (last some l w, eq-eqb _ _ b)); table = refl; long = refl })

  pub arrived_masked : 0 < (timer_at s).tcount → (timer_at s).tcount ≤ made → Within (timer_at s) made → ((processor_at s).sr / 8192 % 2 ≡ 1 → ⊥) → s' ≡ list_of here (table_at s) (record { tcount = (timer_at s).tload; tload = (timer_at s).tload }) → Arrived s d e made s'
  unfolding ended left ticked raised list_of processor_at table_at timer_at
  arrived_masked some l w b f =
      subst (λ (x : List ℕ). Arrived s d e made x) (sym f) (record { ends = λ regs latest. sym (simp (last some l w, ne_eqb _ _ b)); table = refl; long = refl })

-- the same by what the code reads of the list
module _ (s s' : List ℕ) (d e made : ℕ) (p₀ p : Processor) (t : Table) (k : Timer) (a : p₀ ≡ processor_at s) (b : p ≡ pair_of p₀ d e) (c : t ≡ table_at s) (f : k ≡ timer_at s) where
  here_is : p ≡ pair_of (processor_at s) d e
  here_is = b ∙ ap (λ (x : Processor). pair_of x d e) a

  as_list : (q q' : Processor) (k' k'' : Timer) → q ≡ q' → k' ≡ k'' → s' ≡ list_of q t k' → s' ≡ list_of q' (table_at s) k''
  as_list q q' k' k'' o g h =
      h
      ∙ ap (λ (x : Processor). list_of x t k') o
      ∙ ap (λ (x : Table). list_of q' x k') c
      ∙ ap (λ (x : Timer). list_of q' (table_at s) x) g

  pub advanced : (k' : Timer) → k' ≡ sunk k made → s' ≡ list_of p t k' → s' ≡ list_of (pair_of (processor_at s) d e) (table_at s) (sunk (timer_at s) made)
  advanced k' g h = as_list p _ k' _ here_is (g ∙ ap (λ (x : Timer). sunk x made) f) h

  pub still : k.tcount ≡ 0 → s' ≡ list_of p t k → Arrived s d e made s'
  still z h = arrived_still s s' d e made (sym (ap (λ (x : Timer). x.tcount) f) ∙ z) (as_list p _ k _ here_is f h)

  pub falls : 0 < made → made < k.tcount → (k' : Timer) → k' ≡ sunk k made → s' ≡ list_of p t k' → Arrived s d e made s'
  falls some l k' g h = arrived_falls s s' d e made some (subst (λ (x : Timer). made < x.tcount) f l) (advanced k' g h)

  abbrev again : Timer → Timer
  again x = record { tcount = x.tload; tload = x.tload }

  loaded : again k ≡ again (timer_at s)
  loaded = ap (λ (x : Timer). again x) f

  pub fires : Fits (timer_at s) made → (k.tcount ≡ 0 → ⊥) → k.tcount ≤ made → p.sr / 8192 % 2 ≡ 1 → (q : Processor) → q ≡ interrupted p 8192 0 → s' ≡ list_of q t (record { tcount = k.tload; tload = k.tload }) → Arrived s d e made s'
  fires w z l m q o h =
      arrived_fires s s' d e made (subst (λ (x : Timer). 0 < x.tcount) f (omega (arith, z))) (subst (λ (x : Timer). x.tcount ≤ made) f l) w.1 (subst (λ (x : Processor). x.sr / 8192 % 2 ≡ 1) here_is m)
      (as_list q _ _ _ (o ∙ ap (λ (x : Processor). interrupted x 8192 0) here_is) loaded h)

  pub masked : Fits (timer_at s) made → (k.tcount ≡ 0 → ⊥) → k.tcount ≤ made → (p.sr / 8192 % 2 ≡ 1 → ⊥) → s' ≡ list_of p t (record { tcount = k.tload; tload = k.tload }) → Arrived s d e made s'
  masked w z l m h =
      arrived_masked s s' d e made (subst (λ (x : Timer). 0 < x.tcount) f (omega (arith, z))) (subst (λ (x : Timer). x.tcount ≤ made) f l) w.1 (subst (λ (x : Processor). x.sr / 8192 % 2 ≡ 1 → ⊥) here_is m)
      (as_list p _ _ _ here_is loaded h)

-- ---- rfe in system mode, and a trap in user mode

and_false : (b : Bool) → (b && false) ≡ false
and_false true = refl
and_false false = refl

module _ (s s' : List ℕ) (w : ℕ) where
  happened : (x : Change) (p' : Processor) → s' ≡ list_of p' (table_at s) (sunk (timer_at s) 1) → 62 ≤ w / 67108864 → ((regs : List ℕ) (k : Timer) → effect_of (processor_at s) (table_at s) k regs (instruction_of w) ≡ Done x) → ((regs : List ℕ) (latest : ℕ) → settled (core (processor_at s) regs latest (timer_at s)) x ≡ outcome (core p' regs latest (sunk (timer_at s) 1)) false) → ((fr : List ℕ) (n : ℕ) (h : Host) → retabled (host_memory fr n) x h ≡ h) → Happened s w s'
  unfolding desk list_of processor_at table_at timer_at
  happened x p' f o e b r =
      subst (λ (y : List ℕ). Happened s w y) (sym f) (record {
        leads = λ fr n sh regs ws k found some. record {
          most = omega arith;
          same = λ latest count i made q.
              let O = host_memory fr n in
              let c = core (processor_at s) regs latest (timer_at s) in
              let h = host (table_at s) ws sh in
              let a : made + (k - (k - 1)) ≡ suc made = omega (arith, some) in
              let g : fetched O (c, h) ≡ ((Done x, c), h) = found o latest (timer_at s) ∙ ap (λ (y : Effect). ((y, c), h)) (e regs (timer_at s)) in
              ap (λ (j : ℕ). stretch_from O (desk count i) (k - 1) j (core p' regs latest (sunk (timer_at s) 1), h) q) a
              ∙ sym (stretch_step O (desk count i) k made c h h q q (outcome (core p' regs latest (sunk (timer_at s) 1)) false) some (step_done O (desk count i) c h q x _ g (b regs latest) (r fr n h) (λ y. refl)));
        };
        long = refl;
      })

  module _ (calm : (timer_at s).tcount ≡ 1 → ⊥) where
    one_off : eqb (timer_at s).tcount 1 ≡ false
    one_off = ne_eqb _ _ calm

    pub happened_return : w / 67108864 ≡ 63 → ((processor_at s).mode ≡ 1 → ⊥) → s' ≡ list_of (returned (processor_at s)) (table_at s) (sunk (timer_at s) 1) → Happened s w s'
    unfolding instruction_of effect_of settled changed left ticked raised retabled list_of processor_at table_at timer_at
    happened_return o u f =
        happened Return (returned (processor_at s)) f (omega (arith, o)) (λ regs k. simp (o, ne_eqb _ _ u)) (λ regs latest. simp one_off) (λ fr n h. refl)

    pub happened_trap : w / 67108864 ≡ 62 → (processor_at s).mode ≡ 1 → (imm : ℕ) → imm ≡ extended 26 w → s' ≡ list_of (interrupted (processor_at s) 32 imm) (table_at s) (sunk (timer_at s) 1) → Happened s w s'
    unfolding instruction_of effect_of trap_of settled changed handled ticked raised retabled list_of processor_at table_at timer_at
    happened_trap o u imm v f =
        happened (Cause 32 imm) (interrupted (processor_at s) 32 imm) f (omega (arith, o)) (λ regs k. simp (o, eq-eqb _ _ u, v)) (λ regs latest. simp (one_off, eq-eqb _ _ u, add-zero, and_false)) (λ fr n h. refl)

-- the same by what the code reads of the list
module _ (s s' : List ℕ) (w : ℕ) (p q : Processor) (t : Table) (k k' : Timer) (a : p ≡ processor_at s) (b : t ≡ table_at s) (c : k ≡ timer_at s) (d : k' ≡ sunk k 1) where
  pub returning : q ≡ returned p → s' ≡ list_of q t k' → ((timer_at s).tcount ≡ 1 → ⊥) → w / 67108864 ≡ 63 → (p.mode ≡ 1 → ⊥) → Happened s w s'
  returning e h calm o u =
      happened_return s s' w calm o (subst (λ (x : Processor). x.mode ≡ 1 → ⊥) a u)
      (h
      ∙ ap (λ (x : Processor). list_of x t k') (e ∙ ap (λ (x : Processor). returned x) a)
      ∙ ap (λ (x : Table). list_of (returned (processor_at s)) x k') b
      ∙ ap (λ (x : Timer). list_of (returned (processor_at s)) (table_at s) x) (d ∙ ap (λ (x : Timer). sunk x 1) c))

  pub trapping : (imm : ℕ) → imm ≡ extended 26 w → q ≡ interrupted p 32 imm → s' ≡ list_of q t k' → ((timer_at s).tcount ≡ 1 → ⊥) → w / 67108864 ≡ 62 → p.mode ≡ 1 → Happened s w s'
  trapping imm v e h calm o u =
      happened_trap s s' w calm o (subst (λ (x : Processor). x.mode ≡ 1) a u) imm v
      (h
      ∙ ap (λ (x : Processor). list_of x t k') (e ∙ ap (λ (x : Processor). interrupted x 32 imm) a)
      ∙ ap (λ (x : Table). list_of (interrupted (processor_at s) 32 imm) x k') b
      ∙ ap (λ (x : Timer). list_of (interrupted (processor_at s) 32 imm) (table_at s) x) (d ∙ ap (λ (x : Timer). sunk x 1) c))

-- ---- what a leap hands on

pub some_left : {l : ℕ} → (l ≡ 0 → ⊥) → 0 < l
some_left e = omega (arith, e)

pub list_long : (s : List ℕ) (p : Processor) (t : Table) (k : Timer) → s ≡ list_of p t k → length s ≡ 14
unfolding list_of processor_at table_at timer_at
list_long s p t k e = ap (λ (x : List ℕ). length x) e

pub numbered_as : (s : List ℕ) (p : Processor) (t : Table) → length s ≡ 14 → p ≡ processor_at s → t ≡ table_at s → Numbered s p t
numbered_as s p t l a b =
    subst (λ (x : Processor). Numbered s x t) (sym a) (subst (λ (x : Table). Numbered s (processor_at s) x) (sym b) (numbered s l))

pub roomy_at : (s : List ℕ) (k : Timer) (rest n : ℕ) → k ≡ timer_at s → Roomy k rest n → Roomy (timer_at s) rest n
roomy_at s k rest n e r = subst (λ (x : Timer). Roomy x rest n) e r

pub goes_at : (fr : List ℕ) (n : ℕ) (sh : List ℕ) (k r : ℕ) (p : Processor) (s : List ℕ) (t : Table) (d e : ℕ) (regs ws regs' ws' : List ℕ) → p ≡ processor_at s → t ≡ table_at s → Goes fr n t sh k r p regs ws (pair_of p d e) regs' ws' → Goes fr n (table_at s) sh k r (processor_at s) regs ws (pair_of (processor_at s) d e) regs' ws'
goes_at fr n sh k r p s t d e regs ws regs' ws' a b g =
    subst (λ (x : Processor). Goes fr n (table_at s) sh k r x regs ws (pair_of x d e) regs' ws') a (subst (λ (x : Table). Goes fr n x sh k r p regs ws (pair_of p d e) regs' ws') b g)

pub found_at : (fr : List ℕ) (n : ℕ) (sh : List ℕ) (p : Processor) (s s₁ : List ℕ) (t : Table) (d e : ℕ) (k : Timer) (regs ws : List ℕ) (w : ℕ) → p ≡ processor_at s → t ≡ table_at s → s₁ ≡ list_of (pair_of (processor_at s) d e) (table_at s) k → Found fr n t sh (pair_of p d e) regs ws w → Found fr n (table_at s₁) sh (processor_at s₁) regs ws w
unfolding list_of processor_at table_at timer_at
found_at fr n sh p s s₁ t d e k regs ws w a b f g =
    subst (λ (x : List ℕ). Found fr n (table_at x) sh (processor_at x) regs ws w) (sym f)
    (subst (λ (x : Processor). Found fr n (table_at s) sh (pair_of x d e) regs ws w) a (subst (λ (x : Table). Found fr n x sh (pair_of p d e) regs ws w) b g))

pub calm_at : (s s₁ : List ℕ) (p : Processor) (t : Table) (most rest : ℕ) → s₁ ≡ list_of p t (sunk (timer_at s) (most - rest)) → Within (timer_at s) most → rest ≤ most → (rest ≡ 0 → ⊥) → (rest ≡ 1 → ⊥) → (timer_at s₁).tcount ≡ 1 → ⊥
unfolding list_of processor_at table_at timer_at
calm_at s s₁ p t most rest f w l a b q =
    let x : (timer_at s).tcount - (most - rest) ≡ 1 = sym (ap (λ (z : List ℕ). (timer_at z).tcount) f) ∙ q in
    let y : most ≤ (timer_at s).tcount = w (omega (arith, x)) in
    let z : 0 < rest = some_left a in
    let v : 0 < rest - 1 = some_left (λ m. b (omega (arith, m, z))) in
    omega (arith, x, y, l, v)

-- ---- what the general step hands on

module _ (fr : List ℕ) (pages count i n rest : ℕ) (s s' regs regs' ws ws' sh sh' : List ℕ) (latest latest' : ℕ) (q q' : Queues) (p p' : Processor) (t t' : Table) (k k' : Timer) (b : Bool) (a₁ : p ≡ processor_at s) (a₂ : t ≡ table_at s) (a₃ : k ≡ timer_at s) (walked : ((outcome (core p' regs' latest' k') b, host t' ws' sh'), q') ≡ step_at (host_memory fr pages) (desk count i) (core p regs latest k, host t ws sh) q) (full : s' ≡ list_of p' t' k') (some : 0 < rest) (most : rest ≤ n) where
  walked_at : ((outcome (core (processor_at s') regs' latest' (timer_at s')) b, host (table_at s') ws' sh'), q') ≡ step_at (host_memory fr pages) (desk count i) (core (processor_at s) regs latest (timer_at s), host (table_at s) ws sh) q
  unfolding list_of processor_at table_at timer_at
  walked_at =
      subst (λ (z : List ℕ). ((outcome (core (processor_at z) regs' latest' (timer_at z)) b, host (table_at z) ws' sh'), q') ≡ step_at (host_memory fr pages) (desk count i) (core (processor_at s) regs latest (timer_at s), host (table_at s) ws sh) q) (sym full)
      (walked
      ∙ ap (λ (x : Processor). step_at (host_memory fr pages) (desk count i) (core x regs latest k, host t ws sh) q) a₁
      ∙ ap (λ (x : Table). step_at (host_memory fr pages) (desk count i) (core (processor_at s) regs latest k, host x ws sh) q) a₂
      ∙ ap (λ (x : Timer). step_at (host_memory fr pages) (desk count i) (core (processor_at s) regs latest x, host (table_at s) ws sh) q) a₃)

  pub called_at : b ≡ true → record { made = n - (rest - 1); called = true; core = core (processor_at s') regs' latest' (timer_at s'); memory = host (table_at s') ws' sh'; desk = q' } ≡ stretch_from (host_memory fr pages) (desk count i) rest (n - rest) (core (processor_at s) regs latest (timer_at s), host (table_at s) ws sh) q
  called_at e = turn_called (host_memory fr pages) (desk count i) n rest _ _ _ _ _ (outcome (core (processor_at s') regs' latest' (timer_at s')) b) some most walked_at e

  pub on_at : b ≡ false → stretch_from (host_memory fr pages) (desk count i) (rest - 1) (n - (rest - 1)) (core (processor_at s') regs' latest' (timer_at s'), host (table_at s') ws' sh') q' ≡ stretch_from (host_memory fr pages) (desk count i) rest (n - rest) (core (processor_at s) regs latest (timer_at s), host (table_at s) ws sh) q
  on_at e = turn_on (host_memory fr pages) (desk count i) n rest _ _ _ _ _ (outcome (core (processor_at s') regs' latest' (timer_at s')) b) some most walked_at e

  pub whole_at : (size : ℕ) → Whole fr pages size (host (table_at s) ws sh) → Seated count i q → Whole fr pages size (host (table_at s') ws' sh') × Seated count i q'
  whole_at size w l = after_step fr pages size count i _ _ _ _ _ _ w l walked_at

pub leads_first : (fr : List ℕ) (n : ℕ) (sh : List ℕ) (k a : ℕ) (s s₁ regs regs₁ ws ws₁ : List ℕ) (latest count i : ℕ) (q : Queues) → Leads fr n sh k a s regs ws s₁ regs₁ ws₁ → stretch_from (host_memory fr n) (desk count i) a (k - a) (core (processor_at s₁) regs₁ latest (timer_at s₁), host (table_at s₁) ws₁ sh) q ≡ stretch_from (host_memory fr n) (desk count i) k 0 (core (processor_at s) regs latest (timer_at s), host (table_at s) ws sh) q
leads_first fr n sh k a s s₁ regs regs₁ ws ws₁ latest count i q f =
    let e : k - a ≡ 0 + (k - a) = omega arith in
    ap (λ (j : ℕ). stretch_from (host_memory fr n) (desk count i) a j (core (processor_at s₁) regs₁ latest (timer_at s₁), host (table_at s₁) ws₁ sh) q) e
    ∙ f.same latest count i 0 q

-- a stretch of lent numbers, by value
pub stretched_is : (fr : List ℕ) (pages count i n : ℕ) (s₀ s₁ : List ℕ) (p p' : Processor) (t t' : Table) (k k' : Timer) (regs regs' ws ws' sh sh' : List ℕ) (latest latest' : ℕ) (r : Turned) (q q' : Queues) → s₀ ≡ list_of p t k → p' ≡ processor_at s₁ → t' ≡ table_at s₁ → k' ≡ timer_at s₁ → turned_of r s₁ regs' latest' ws' sh' q' ≡ stretch_from (host_memory fr pages) (desk count i) n 0 (core (processor_at s₀) regs latest (timer_at s₀), host (table_at s₀) ws sh) q → record { made = r.made; called = r.called; core = core p' regs' latest' k'; memory = host t' ws' sh'; desk = q' } ≡ stretch_from (host_memory fr pages) (desk count i) n 0 (core p regs latest k, host t ws sh) q
unfolding list_of processor_at table_at timer_at
stretched_is fr pages count i n s₀ s₁ p p' t t' k k' regs regs' ws ws' sh sh' latest latest' r q q' f a b c e =
    ap (λ (x : Processor). record { made = r.made; called = r.called; core = core x regs' latest' k'; memory = host t' ws' sh'; desk = q' }) a
    ∙ ap (λ (x : Table). record { made = r.made; called = r.called; core = core (processor_at s₁) regs' latest' k'; memory = host x ws' sh'; desk = q' }) b
    ∙ ap (λ (x : Timer). record { made = r.made; called = r.called; core = core (processor_at s₁) regs' latest' x; memory = host (table_at s₁) ws' sh'; desk = q' }) c
    ∙ e
    ∙ ap (λ (x : List ℕ). stretch_from (host_memory fr pages) (desk count i) n 0 (core (processor_at x) regs latest (timer_at x), host (table_at x) ws sh) q) f

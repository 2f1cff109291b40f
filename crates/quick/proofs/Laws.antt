-- The fetch in a page that is seen, and plain steps on end.
use Rattle.std.proofs.Common.{◌≡◌, ℕ, suc, ◌+◌, ◌-◌, ◌*◌, ◌/◌, ◌%◌, ◌^◌, ◌<◌, ◌≤◌, Bool, true, false, not, ◌||◌, eqb, ltb, leb, List, length, get_or, take, drop, sym, refl, ap, ◌∙◌, subst, true≢false, arith, length-drop, length-take-le, get_or-drop, get_or-take, ltb-false, ltb-true, le-ltb, lt-ltb, eq-eqb, eqb-true, leb-false}
use Rattle.dlx.specs.Choice.{when◌then◌else◌}
use Rattle.dlx.specs.Words.{plus}
use Rattle.dlx.specs.Fields.{aligned}
use Rattle.dlx.specs.Processor.{user, special_of}
use Rattle.dlx.specs.Instructions.{instruction_of}
use Rattle.dlx.specs.Execute.{effect_of}
use Rattle.dlx.specs.Machine.{Ops, Core, core, executed, after_read, fetched, Desk, accessed_at}
use Rattle.dlx.specs.Spells.{sunk, timed, plainly, passed, spell, passed_at, spell_from}
use Rattle.dlx.specs.declared.partition.Table.{Table}
use Rattle.dlx.specs.declared.partition.Timer.{Timer}
use Rattle.dlx.specs.declared.partition.Processor.{Processor}
use Rattle.dlx.specs.declared.execute.Effect.{Effect}
use Rattle.dlx.proofs.Tests.{by_test}
use Rattle.tickets.specs.Queues.{desk}
use Rattle.addresses.specs.Entries.{number, valid, fault, found}
use Rattle.addresses.specs.Walk.{direct}
use Rattle.addresses.specs.Memory.{word_in, host, host_read, host_reads, host_memory}
use Rattle.addresses.specs.Premises.{Placed, Shadowed}
use Rattle.plain.specs.Plain.{seen_of, Numbered, pair_of, performed, Does}
use Rattle.plain.proofs.Laws.{not_false, seen_served, seen_inside}
use Rattle.quick.specs.Quick.{away_of, Cached, Goes, Found}

-- ---- an address in the page

or_false : (a b : Bool) → (a || b) ≡ false → (a ≡ false) × (b ≡ false)
or_false true b e = absurd (true≢false e)
or_false false b e = (refl, e)

pub not_away : (x : ℕ) → away_of x ≡ false → (x % 4 ≡ 0) × (x < 4096)
unfolding away_of
not_away x e =
    let o = or_false (not (eqb (x % 4) 0)) (leb 4096 x) e in
    (eqb-true (x % 4) 0 (not_false _ o.0), leb-false 4096 x o.1)

page_high : (page : ℕ) → page < 2 ^ 32 → page % 4096 ≡ 0 → page + 4096 ≤ 2 ^ 32
page_high page p f = omega arith

sum_low : (page x : ℕ) → page + 4096 ≤ 2 ^ 32 → x < 4096 → plus x page ≡ page + x
sum_low page x p o = omega arith

inside_page : (page off : ℕ) → page % 4096 ≡ 0 → off % 4 ≡ 0 → off < 4096 → ((page + off) / 4096 ≡ page / 4096) × ((page + off) % 4 ≡ 0) × ((page + off) / 4 % 1024 ≡ off / 4)
inside_page page off f e l =
    let q : page ≡ page / 4096 * 4096 = omega arith in
    (omega (arith, q), omega (arith, q), omega (arith, q))

inside : (page x : ℕ) → page < 2 ^ 32 → page % 4096 ≡ 0 → away_of x ≡ false → (plus x page / 4096 ≡ page / 4096) × (plus x page % 4 ≡ 0) × (plus x page / 4 % 1024 ≡ x / 4)
inside page x p f e =
    let t = not_away x e in
    let m = sum_low page x (page_high page p f) t.1 in
    let i = inside_page page x f t.0 t.1 in
    (subst (λ z. z / 4096 ≡ page / 4096) (sym m) i.0, subst (λ z. z % 4 ≡ 0) (sym m) i.1, subst (λ z. z / 4 % 1024 ≡ x / 4) (sym m) i.2)

-- ---- the page's words, lent

whole_page : (base : ℕ) → base + 1024 - base ≡ 1024
whole_page base = omega arith

pub page_long : (ws : List ℕ) (base : ℕ) → base + 1024 ≤ length ws → length (take (base + 1024 - base) (drop base ws)) ≡ 1024
page_long ws base h = ap (λ (n : ℕ). length (take n (drop base ws))) (whole_page base) ∙ length-take-le 1024 (drop base ws) (omega (arith, length-drop base ws))

pub page_word : (ws : List ℕ) (base x w : ℕ) → x < 4096 → w ≡ get_or (take (base + 1024 - base) (drop base ws)) (x / 4) 0 → w ≡ get_or ws (base + x / 4) 0
page_word ws base x w l e =
    e
    ∙ ap (λ (n : ℕ). get_or (take n (drop base ws)) (x / 4) 0) (whole_page base)
    ∙ get_or-take 1024 (drop base ws) (x / 4) 0 (omega arith)
    ∙ get_or-drop base ws (x / 4) 0

-- ---- what is seen

direct_page : (n a : ℕ) → direct n a ≡ (when ltb (a / 4096) n then found (a / 4096) 0 else fault 7)
unfolding direct
direct_page n a =
    by_test (ltb a (4096 * n))
    (λ e. let h : a < 4096 * n = ltb-true a (4096 * n) e in simp (e, lt-ltb (a / 4096) n (omega arith)))
    (λ e. let h : 4096 * n ≤ a = ltb-false a (4096 * n) e in simp (e, le-ltb (a / 4096) n (omega arith)))

module _ (fr : List ℕ) (n : ℕ) where
  fetched_seen : (p : Processor) (regs : List ℕ) (latest : ℕ) (k : Timer) (t : Table) (ws sh : List ℕ) → aligned 32 p.dpc ≡ true → valid (seen_of fr n sh (user p) p.dpc) ≡ true → fetched (host_memory fr n) (core p regs latest k, host t ws sh) ≡ ((effect_of p t k regs (instruction_of (get_or ws (word_in (number (seen_of fr n sh (user p) p.dpc)) p.dpc) 0)), core p regs latest k), host t ws sh)
  unfolding fetched executed after_read host_reads host_read
  fetched_seen p regs latest k t ws sh al v = simp (al, seen_served fr n t ws sh (user p) p.dpc v, v)

  -- what is seen of an address is what is seen of its page
  pub seen_same : (sh : List ℕ) (u : Bool) (a b : ℕ) → a / 4096 ≡ b / 4096 → seen_of fr n sh u a ≡ seen_of fr n sh u b
  unfolding seen_of
  seen_same sh true a b e = simp e
  seen_same sh false a b e = simp (direct_page n a, direct_page n b, e)

-- ---- a step whose fetch is seen

module _ {S T : Type 0} (O : Ops S) (D : Desk T) where
  spell_performed : (k made : ℕ) (c c' : Core) (s s' : S) (q q' : T) (e : Effect) → fetched O (c, s) ≡ ((e, c), s) → (((true, c'), s'), q') ≡ performed O D c e s q → spell_from O D (suc k) made (c, s) q ≡ spell_from O D k (suc made) (timed c' (sunk c'.timer 1), s') q'
  unfolding spell_from passed_at performed
  spell_performed k made c c' s s' q q' e f p =
      ap (λ (f : (Effect × Core) × S). let g = accessed_at O D f.0.1 f.0.0 f.1 q in let d = passed g.0.0.1 g.0.0.0 in when plainly g.0.0.0 then spell_from O D k (suc made) (timed d (sunk d.timer 1), g.0.1) g.1 else spell (suc made) g.0.0.0 d g.0.1 g.1) f
      ∙ ap (λ (g : ((Bool × Core) × S) × T). when g.0.0.0 then spell_from O D k (suc made) (timed g.0.0.1 (sunk g.0.0.1.timer 1), g.0.1) g.1 else spell (suc made) (accessed_at O D c e s q).0.0.0 g.0.0.1 g.0.1 g.1) (sym p)

module _ (fr : List ℕ) (n : ℕ) (sh : List ℕ) (page base : ℕ) where
  -- a cached frame lies in the memory
  pub cached_inside : (t : Table) (ws : List ℕ) (u : Bool) → Placed fr n (length ws) → Shadowed fr n sh → Cached fr n sh u page base → base + 1024 ≤ length ws
  cached_inside t ws u p s k = rw k.begins (seen_inside fr n t ws sh u page (seen_of fr n sh u page) p s refl k.good)

  module _ (t : Table) (p : Processor) (low : page < 2 ^ 32) (cached : Cached fr n sh (user p) page base) where
    -- the fetch in a cached page
    pub cached_fetch : (x y w : ℕ) (regs ws : List ℕ) (latest : ℕ) (k : Timer) → away_of x ≡ false → w ≡ get_or ws (base + x / 4) 0 → fetched (host_memory fr n) (core (pair_of p (plus x page) (plus y page)) regs latest k, host t ws sh) ≡ ((effect_of (pair_of p (plus x page) (plus y page)) t k regs (instruction_of w), core (pair_of p (plus x page) (plus y page)) regs latest k), host t ws sh)
    cached_fetch x y w regs ws latest k a e =
        let i = inside page x low cached.first a in
        let q = seen_same fr n sh (user p) (plus x page) page i.0 in
        let v : valid (seen_of fr n sh (user p) (plus x page)) ≡ true = rw q cached.good in
        let z : get_or ws (word_in (number (seen_of fr n sh (user p) (plus x page))) (plus x page)) 0 ≡ w = simp (q, i.2, e, cached.begins) in
        fetched_seen fr n (pair_of p (plus x page) (plus y page)) regs latest k t ws sh (eq-eqb _ _ i.1) v ∙ rw z refl

    -- one plain step more
    pub goes_on : (k rest x y y' w : ℕ) (regs₀ ws₀ regs ws regs' ws' : List ℕ) → 0 < rest → away_of x ≡ false → w ≡ get_or ws (base + x / 4) 0 → Does fr n p t page y y' regs regs' ws ws' sh (λ k c. effect_of c t k regs (instruction_of w)) → Goes fr n t sh k rest p regs₀ ws₀ (pair_of p (plus x page) (plus y page)) regs ws → Goes fr n t sh k (rest - 1) p regs₀ ws₀ (pair_of p (plus y page) (plus y' page)) regs' ws'
    goes_on k rest x y y' w regs₀ ws₀ regs ws regs' ws' some a e d g =
        let l : rest ≤ k = g.0 in (
          omega (arith, l),
          λ latest count i made c q.
              let one : rest ≡ suc (rest - 1) = omega arith in
              let more : suc (made + (k - rest)) ≡ made + (k - (rest - 1)) = omega (arith, l) in
              let fall : c.tcount - (k - rest) - 1 ≡ c.tcount - (k - (rest - 1)) = omega (arith, l) in
              let b = spell_performed (host_memory fr n) (desk count i) (rest - 1) (made + (k - rest)) _ _ _ _ q q _ (cached_fetch x y w regs ws latest (sunk c (k - rest)) a e) (d (plus x page) latest count i (sunk c (k - rest)) q) in
              ap (λ (j : ℕ). spell_from (host_memory fr n) (desk count i) (rest - 1) j (core (pair_of p (plus y page) (plus y' page)) regs' latest (sunk c (k - (rest - 1))), host t ws' sh) q) (sym more)
              ∙ ap (λ (j : ℕ). spell_from (host_memory fr n) (desk count i) (rest - 1) (suc (made + (k - rest))) (core (pair_of p (plus y page) (plus y' page)) regs' latest (record { tcount = j; tload = c.tload }), host t ws' sh) q) (sym fall)
              ∙ sym b
              ∙ ap (λ (j : ℕ). spell_from (host_memory fr n) (desk count i) j (made + (k - rest)) (core (pair_of p (plus x page) (plus y page)) regs latest (sunk c (k - rest)), host t ws sh) q) (sym one)
              ∙ g.1 latest count i made c q,
        )

-- ---- no step, and the way out

module _ (fr : List ℕ) (n : ℕ) (t : Table) (sh : List ℕ) (k : ℕ) (p : Processor) where
  pub goes_none : (d q : ℕ) (regs ws : List ℕ) → d ≡ p.dpc → q ≡ p.pc → Goes fr n t sh k k p regs ws (pair_of p d q) regs ws
  goes_none d q regs ws a b = (
    omega arith,
    λ latest count i made c z.
        let e : made + (k - k) ≡ made = omega arith in
        let f : c.tcount - (k - k) ≡ c.tcount = omega arith in
        ap (λ (j : ℕ). spell_from (host_memory fr n) (desk count i) k j (core (pair_of p d q) regs latest (sunk c (k - k)), host t ws sh) z) e
        ∙ ap (λ (j : ℕ). spell_from (host_memory fr n) (desk count i) k made (core (pair_of p d q) regs latest (record { tcount = j; tload = c.tload }), host t ws sh) z) f
        ∙ ap (λ (j : ℕ). spell_from (host_memory fr n) (desk count i) k made (core (pair_of p j q) regs latest c, host t ws sh) z) a
        ∙ ap (λ (j : ℕ). spell_from (host_memory fr n) (desk count i) k made (core (pair_of p p.dpc j) regs latest c, host t ws sh) z) b,
  )

  pub goes_quit : (d q d' q' rest rest' w w' : ℕ) (regs₀ ws₀ regs ws : List ℕ) → (d ≡ d') × (q ≡ q') × (rest ≡ rest') × (w ≡ w') → Goes fr n t sh k rest' p regs₀ ws₀ (pair_of p d' q') regs ws → Goes fr n t sh k rest p regs₀ ws₀ (pair_of p d q) regs ws
  goes_quit d q d' q' rest rest' w w' regs₀ ws₀ regs ws (a, b, c, _) g =
      subst (λ (j : ℕ). Goes fr n t sh k rest p regs₀ ws₀ (pair_of p j q) regs ws) (sym a)
      (subst (λ (j : ℕ). Goes fr n t sh k rest p regs₀ ws₀ (pair_of p d' j) regs ws) (sym b)
      (subst (λ (j : ℕ). Goes fr n t sh k j p regs₀ ws₀ (pair_of p d' q') regs ws) (sym c) g))

  pub found_quit : (d q d' q' rest rest' w w' : ℕ) (regs ws : List ℕ) → (d ≡ d') × (q ≡ q') × (rest ≡ rest') × (w ≡ w') → Found fr n t sh (pair_of p d' q') regs ws w' → Found fr n t sh (pair_of p d q) regs ws w
  found_quit d q d' q' rest rest' w w' regs ws (a, b, c, e) g =
      subst (λ (j : ℕ). Found fr n t sh (pair_of p j q) regs ws w) (sym a)
      (subst (λ (j : ℕ). Found fr n t sh (pair_of p d' j) regs ws w) (sym b)
      (subst (λ (j : ℕ). Found fr n t sh (pair_of p d' q') regs ws j) (sym e) g))

  pub found_none : (q : Processor) (regs ws : List ℕ) → Found fr n t sh q regs ws 0
  found_none q regs ws l = absurd (omega (arith, l))

  -- steps in one page, and then in another
  pub goes_more : (d q d' q' rest rest' : ℕ) (regs₀ ws₀ regs ws regs' ws' : List ℕ) → Goes fr n t sh k rest p regs₀ ws₀ (pair_of p d q) regs ws → Goes fr n t sh rest rest' (pair_of p d q) regs ws (pair_of p d' q') regs' ws' → Goes fr n t sh k rest' p regs₀ ws₀ (pair_of p d' q') regs' ws'
  goes_more d q d' q' rest rest' regs₀ ws₀ regs ws regs' ws' g f =
      let l : rest ≤ k = g.0 in
      let m : rest' ≤ rest = f.0 in (
        omega (arith, l, m),
        λ latest count i made c z.
            let a : made + (k - rest) + (rest - rest') ≡ made + (k - rest') = omega (arith, l, m) in
            let b : c.tcount - (k - rest) - (rest - rest') ≡ c.tcount - (k - rest') = omega (arith, l, m) in
            ap (λ (j : ℕ). spell_from (host_memory fr n) (desk count i) rest' j (core (pair_of p d' q') regs' latest (sunk c (k - rest')), host t ws' sh) z) (sym a)
            ∙ ap (λ (j : ℕ). spell_from (host_memory fr n) (desk count i) rest' (made + (k - rest) + (rest - rest')) (core (pair_of p d' q') regs' latest (record { tcount = j; tload = c.tload }), host t ws' sh) z) (sym b)
            ∙ f.1 latest count i (made + (k - rest)) (sunk c (k - rest)) z
            ∙ g.1 latest count i made c z,
      )

-- the special registers are the same at another pair
pub numbered_pair : (s : List ℕ) (p : Processor) (t : Table) (d q : ℕ) → Numbered s p t → Numbered s (pair_of p d q) t
unfolding special_of
numbered_pair s p t d q e = e

-- ---- the page of an address

pub cached_here : (fr : List ℕ) (n : ℕ) (sh : List ℕ) (u : Bool) (dpc page base e : ℕ) → e ≡ seen_of fr n sh u dpc → valid e ≡ true → page ≡ dpc / 4096 * 4096 → base ≡ number e * 1024 → Cached fr n sh u page base
cached_here fr n sh u dpc page base e s v g b =
    let q : dpc / 4096 ≡ page / 4096 = omega (arith, g) in
    let m : e ≡ seen_of fr n sh u page = s ∙ seen_same fr n sh u dpc page q in
    record { first = omega (arith, g); good = subst (λ z. valid z ≡ true) m v; begins = subst (λ z. base ≡ number z * 1024) m b }

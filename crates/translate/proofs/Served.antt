-- What the code of a look and of a store cites.
use Prim.{tt}
use Rattle.std.specs.Prelude.{Ok}
use mathlib.Core.Path.{◌≡◌, sym, ap, subst, ◌∙◌}
use mathlib.Core.Bool.{Bool, true, false}
use mathlib.Core.List.{List}
use Prim.Native.Nat.{ℕ, ◌+◌, ◌*◌, ◌/◌, ◌%◌, ◌<◌, ◌≤◌}
use native.Mathlib.Omega.{arith}
use lib.Dec.{eqb}
use borrow.Rule.Slice.PartMut.{mid_of, put_mid, set_mid_at}
use lib.ListN.{length, get_or, set, drop, get_or-eq_default}
use lib.Seq.{get_or-take, get_or-drop}
use Rattle.dlx.specs.declared.partition.Table.{Table}
use Rattle.addresses.specs.Entries.{number, valid, protection}
use Rattle.addresses.specs.Walk.{entries}
use Rattle.addresses.specs.Memory.{word_in, updated, Host, host, given, filled, looked, served, emptied, host_written}
use Rattle.addresses.specs.Premises.{Placed, Shadowed}
use Rattle.addresses.proofs.Entries.{Owned, given_outside, own_inside}
use Rattle.addresses.proofs.Shadow.{served_own}

-- a page that no user's address can name: its fault
pub looked_none : (fr : List ℕ) (n : ℕ) (t : Table) (ws sh : List ℕ) (px : ℕ) → length sh ≡ entries → entries ≤ px → looked fr n (host t ws sh) px ≡ (given fr n t ws px, host t ws sh)
unfolding looked filled
looked_none fr n t ws sh px l h =
    let e : get_or sh px 0 ≡ 0 = get_or-eq_default sh 0 (omega arith) in
    simp (e, given_outside fr n t ws px h)

-- one word updated in a part that is lent is that word updated
pub update_mid : (a k j : ℕ) (xs : List ℕ) (f : ℕ → ℕ) → j < k → j < length (mid_of a k xs) → put_mid a k xs (updated (mid_of a k xs) j f) ≡ updated xs (a + j) f
update_mid a k j xs f l h =
    set_mid_at a k j xs _ h ∙ ap (λ (y : ℕ). set xs (a + j) (f y)) (get_or-take k (drop a xs) j 0 l ∙ get_or-drop a xs j 0)

-- a store that is made
pub written_is : (fr : List ℕ) (n : ℕ) (t : Table) (ws ws' sh sh' : List ℕ) (e a : ℕ) (f : ℕ → ℕ) → valid e ≡ true → eqb (protection e) 1 ≡ false → ws' ≡ updated ws (word_in (number e) a) f → sh' ≡ emptied fr n t (number e) (a / 4 % 1024) sh → (Ok tt, host t ws' sh') ≡ host_written fr n (host t ws sh) a f e
unfolding host_written
written_is fr n t ws ws' sh sh' e a f h p w s = simp (h, p, w, s)

-- the frame of a valid entry that serves lies in the memory
pub served_inside : (fr : List ℕ) (n : ℕ) (h h' : Host) (user : Bool) (a : ℕ) {size e : ℕ} → Placed fr n size → Shadowed fr n h.shadow → (e, h') ≡ served fr n h user a → valid e ≡ true → number e * 1024 + 1024 ≤ size
served_inside fr n h h' user a p s q v =
    own_inside p (subst (λ (g : ℕ × Host). Owned fr n g.0) (sym q) (served_own fr n h s user a) v)

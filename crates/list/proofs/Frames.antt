-- The lines of one frame, put at a buffer's start.
use mathlib.Core.Path.{◌≡◌, refl, sym, ap, ◌∙◌}
use mathlib.Core.List.{List, [], ◌∷◌, ◌++◌}
use Prim.Native.Nat.{ℕ, ◌+◌, ◌-◌, ◌*◌, ◌<◌, ◌≤◌}
use native.Mathlib.Nat.{add-sub_cancel_left}
use native.Mathlib.Omega.{arith}
use borrow.Author.Tests.{le-ltb}
use lib.ListN.{length, take, drop, length-append, length-take, length-drop, drop_of_length-le}
use lib.Seq.{length-take-le, take_all}
use Rattle.dlx.specs.Parts.{inner}
use Rattle.lines.specs.Lines.{line_of}
use Rattle.lines.specs.Listings.{listing, Answer, answer, listed}
use Rattle.lines.proofs.Lines.{line_short}
use Rattle.listing.specs.Answers.{answer_of}
use Rattle.listing.specs.declared.Refusal.{Refusal}
use Rattle.listing.specs.declared.Refusal.TheVariants.{ShortOutput, WrongLine}
use Rattle.std.proofs.Common.{Result, Ok, Err}
use Rattle.std.specs.Result.{result_unwrap_or}
use Rattle.report.specs.Put.{Counts, put}
use Rattle.report.proofs.Texts.{put_as}

lines_short : (ws : List ℕ) → length (listing ws) ≤ 43 * length ws
unfolding listing
lines_short [] = omega arith
lines_short (w ∷ ws) = omega (arith, lines_short ws, line_short w, length-append (line_of w) (10 ∷ listing ws))

-- so 1,024 of them have room
frame_put : (ws out o : List ℕ) (n d k : ℕ) → length ws ≤ 1024 → length out ≡ 44032 → answer n d k o ≡ listed ws out
    → ((k, o) ≡ put (listing ws) out) × Counts k o
unfolding listed
frame_put ws out o n d k w l e =
    let t = listing ws in
    let fits : length t ≤ length out = omega (arith, lines_short ws) in
    let done : answer n d k o ≡ answer 0 0 (length t) (t ++ drop (length t) out) = e ∙ rw (le-ltb (length out) (length t) fits) in
    let count : k ≡ length t = ap (λ (a : Answer). a.count) done in
    let text : o ≡ t ++ drop (length t) out = ap (λ (a : Answer). a.out) done in
    let there : k ≤ length o = omega (arith, ap length text, length-append t (drop (length t) out)) in
    (put_as t t out k o count text refl, (there, sym (length-take-le k o there)))

-- what the call counts: nothing where it is refused
pub counted : (r : Result ℕ Refusal) (o : List ℕ) {k : ℕ} → k ≡ result_unwrap_or r 0 → (n : ℕ) × ((d : ℕ) × (answer_of r o ≡ answer n d k o))
counted (Ok k) o e = (0, (0, ap (λ (x : ℕ). answer 0 0 x o) (sym e)))
counted (Err ShortOutput) o e = (13, (0, ap (λ (x : ℕ). answer 13 0 x o) (sym e)))
counted (Err (WrongLine k)) o e = (18, (k, ap (λ (x : ℕ). answer 18 k x o) (sym e)))

-- of a memory that ends before the frame, or in it
pub frame_none : (frame : ℕ) (m out : List ℕ) → length m ≤ frame * 1024 → (0, out) ≡ put (listing (inner (frame * 1024) 1024 m)) out
unfolding inner listing
frame_none frame m out l = put_as [] (listing (inner (frame * 1024) 1024 m)) out 0 out refl refl (sym (rw (drop_of_length-le m l)))

pub frame_part : (frame : ℕ) (m out o : List ℕ) (n d k : ℕ) → length m - frame * 1024 < 1024 → length out ≡ 44032
    → answer n d k o ≡ listed (take (length m - frame * 1024) (drop (frame * 1024) m)) out → ((k, o) ≡ put (listing (inner (frame * 1024) 1024 m)) out) × Counts k o
unfolding inner
frame_part frame m out o n d k l r e =
    let ws = drop (frame * 1024) m in
    let w = length-drop (frame * 1024) m in
    let same : take (length m - frame * 1024) ws ≡ take 1024 ws = take_all (length m - frame * 1024) ws (omega (arith, w)) ∙ sym (take_all 1024 ws (omega (arith, w))) in
    frame_put (take 1024 ws) out o n d k (omega (arith, length-take 1024 ws)) r (e ∙ ap (λ (x : List ℕ). listed x out) same)

pub frame_whole : (frame : ℕ) (m out o : List ℕ) (n d k : ℕ) → length out ≡ 44032 → answer n d k o ≡ listed (take (frame * 1024 + 1024 - frame * 1024) (drop (frame * 1024) m)) out
    → ((k, o) ≡ put (listing (inner (frame * 1024) 1024 m)) out) × Counts k o
unfolding inner
frame_whole frame m out o n d k r e =
    let ws = drop (frame * 1024) m in
    frame_put (take 1024 ws) out o n d k (omega (arith, length-take 1024 ws)) r (e ∙ ap (λ (x : ℕ). listed (take x ws) out) (add-sub_cancel_left (frame * 1024) 1024))

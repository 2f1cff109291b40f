-- Records of the file put one behind the other.
use mathlib.Core.Path.{◌≡◌, refl, sym, ap, ◌∙◌}
use mathlib.Core.List.{List, [], ◌∷◌, ◌++◌, append_assoc}
use Prim.Native.Nat.{ℕ, ◌+◌, ◌-◌, ◌*◌, ◌<◌, ◌≤◌}
use native.Mathlib.Omega.{arith}
use lib.ListN.{length, get_or, take, drop, length-append, length-drop}
use lib.Seq.{take_at}
use Rattle.dlx.specs.Parts.{inner}
use Rattle.dlx.proofs.Parts.{inner_length}
use Rattle.decimal.specs.Texts.{Puts, joined}
use Rattle.decimal.proofs.Texts.{roomy, ◌then◌, whole}
use Rattle.house.specs.Boot.{sum, offset}
use Rattle.house.proofs.Boot.Offsets.{offset_in}
use Rattle.housefile.specs.Records.{File}
use Rattle.save.specs.Saved.{little, all_bytes, record_of, records, frame_words}
use Rattle.saver.proofs.Heads.{record_put}
use Rattle.saver.proofs.Pieces.{joined_records}
use Rattle.contents.specs.Contents.{list_words, list_record, frame_record, before_frames, contents_file, Listed}

-- ---- a frame

pub frame_put : {s t v o : List ℕ} {u w x r : ℕ} (m : List ℕ) (f b e : ℕ) → b ≡ f * 1024 → e ≡ b + 1024 → f < 16 → length m ≡ 16384
    → Puts s u t w (little 4 4100 ++ little 2 3) 6 → Puts t w v x (little 4 f) 4
    → Puts v x o r (all_bytes (take (e - b) (drop b m))) (4 * length (take (e - b) (drop b m)))
    → Puts s u o r (frame_record m f) 4106
unfolding frame_words all_bytes inner
frame_put {s} {t} {v} {o} {u} {w} {x} {r} m f b e eb ee l long p q k =
    let y : e - b ≡ 1024 = omega arith in
    let n : length (take 1024 (drop (f * 1024) m)) ≡ 1024 = inner_length m (f * 1024) 1024 (omega arith) in
    let k' : Puts v x o r (all_bytes (take 1024 (drop (f * 1024) m))) (4 * length (take 1024 (drop (f * 1024) m))) = rw (y, eb) at k in
    roomy 4106 (record_put 3 4100 (f ∷ take 1024 (drop (f * 1024) m)) (omega arith) p (roomy _ (q then k') (omega arith))) (omega arith)

-- ---- a list

pub list_put : {s o : List ℕ} {u r : ℕ} (pages frames : List ℕ) (i from to : ℕ) → from ≡ offset pages i → to ≡ from + get_or pages i 0 → get_or pages i 0 ≤ 256 → length frames ≡ sum pages
    → Puts s u o r (record_of 2 (take (to - from) (drop from frames))) (6 + 4 * length (take (to - from) (drop from frames)))
    → Puts s u o r (list_record pages frames i) 1030
unfolding list_words inner
list_put {s} {o} {u} {r} pages frames i from to ef et l long p =
    let y : to - from ≡ get_or pages i 0 = omega arith in
    let n : length (take (get_or pages i 0) (drop (offset pages i) frames)) ≡ get_or pages i 0 =
    inner_length frames (offset pages i) (get_or pages i 0) (omega (arith, offset_in pages i)) in
    let p' : Puts s u o r (record_of 2 (take (get_or pages i 0) (drop (offset pages i) frames))) (6 + 4 * length (take (get_or pages i 0) (drop (offset pages i) frames))) = rw (y, ef) at p in
    roomy 1030 p' (omega arith)

-- ---- all of it

pub all_put : {out o a₁ a₂ a₃ : List ℕ} {r b₁ b₂ b₃ : ℕ} (f : File) → Listed f.pages f.frames → length out ≡ 73956
    → Puts out 0 a₁ b₁ (record_of 1 (f.q ∷ f.run ∷ [])) (6 + 4 * 2)
    → Puts a₁ b₁ a₂ b₂ (joined (list_record f.pages f.frames) (length f.pages)) (1030 * length f.pages)
    → Puts a₂ b₂ a₃ b₃ (joined (frame_record f.memory) 16) (4106 * 16)
    → Puts a₃ b₃ o r (little 4 0 ++ little 2 4) 6
    → (take r o ≡ contents_file f) × (r ≤ length o)
unfolding contents_file before_frames
all_put {out} {o} {a₁} {a₂} {a₃} {r} f listed room p₁ p₂ p₃ p₄ =
    let L = list_record f.pages f.frames in
    let F = frame_record f.memory in
    let c = length f.pages in
    let T = record_of 1 (f.q ∷ f.run ∷ []) in
    let E = little 4 0 ++ little 2 4 in
    let bs = T ++ (joined L c ++ (joined F 16 ++ E)) in
    let e : bs ≡ (T ++ records 2 (list_words f.pages f.frames) c) ++ (records 3 (frame_words f.memory) 16 ++ record_of 4 []) =
    rw (joined_records 2 (list_words f.pages f.frames) L c (λ i. refl), joined_records 3 (frame_words f.memory) F 16 (λ i. refl), last_record)
    (sym (append_assoc T (records 2 (list_words f.pages f.frames) c) (records 3 (frame_words f.memory) 16 ++ record_of 4 []))) in
    let p = roomy 73956 (p₁ then p₂ then p₃ then p₄) (omega (arith, listed.few)) in
    let w = whole p (omega arith) in
    let z : r ≡ length bs = w.0 ∙ omega arith in
    let n : length o ≡ 73956 = ap length w.1 ∙ length-append bs (drop (0 + length bs) out) ∙ omega (arith, length-drop (0 + length bs) out, p.short) in
    (ap (take r) w.1 ∙ take_at bs (drop (0 + length bs) out) r (sym z) ∙ e, omega (arith, p.short))
  where
    last_record : little 4 0 ++ little 2 4 ≡ record_of 4 []
    last_record = unfold record_of all_bytes little in refl

use mathlib.Core.Path.{refl, ap}
use Prim.Native.Nat.{ℕ, ◌*◌}
use Rattle.contents.proofs.Put.{frame_put}
use Rattle.contents.proofs.put_frame.Goals as goal

-- src/lib.rt:37:1
pub returns : goal.returns
returns c = let a = c.args in frame_put a.memory.now a.f _ _ (ap (λ (x : ℕ). x * 1024) c.wide-b.ensures) refl c.requires.f_bound c.requires.memory_length c.put_front-front.ensures c.put_word-number.ensures c.put_words.ensures

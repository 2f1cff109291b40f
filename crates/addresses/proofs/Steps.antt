-- A step of the shadowed machine keeps the memory's length and a shadow of own frames, part by part.
use mathlib.Core.Path.{◌≡◌, ◌∙◌}
use mathlib.Core.List.{List}
use Prim.Native.Nat.{ℕ}
use lib.ListN.{length}
use Rattle.dlx.specs.Fields.{aligned, placed}
use Rattle.dlx.specs.Machine.{Reply, Core, fetched, accessed, retabled, step}
use Rattle.dlx.specs.declared.execute.Change.{Change}
use Rattle.dlx.specs.declared.execute.Change.TheVariants.{Plain, Special, Retable, Cause, Return}
use Rattle.dlx.specs.declared.execute.Effect.{Effect}
use Rattle.dlx.specs.declared.execute.Effect.TheVariants.{Done, Load, Store, Send, Take}
use Rattle.dlx.proofs.Kept.{either}
use Rattle.addresses.specs.Memory.{Host, host_memory}
use Rattle.addresses.specs.Premises.{Shadowed}
use Rattle.addresses.proofs.Entries.{fresh_shadowed}
use Rattle.addresses.proofs.Kept.{reads_words, reads_shadowed, writes_shadowed, writes_length}

-- what is kept of a memory of so many words
pub record Whole (fr : List ℕ) (n size : ℕ) (h : Host) : Type 0 where
  pub long : length h.words ≡ size
  pub shadowed : Shadowed fr n h.shadow

module _ (fr : List ℕ) (n size : ℕ) where
  pub fetched_whole : (c : Core) (h : Host) → Whole fr n size h → Whole fr n size (fetched (host_memory fr n) (c, h)).1
  unfolding fetched
  fetched_whole c h w =
      either (λ (g : (Effect × Core) × Host). Whole fr n size g.1) (aligned 32 c.processor.dpc)
      (λ _. record { long = rw (reads_words fr n) w.long; shadowed = reads_shadowed fr n h w.shadowed _ _ })
      (λ _. w)

  pub accessed_whole : (y : Reply) (c : Core) (e : Effect) (h : Host) → Whole fr n size h → Whole fr n size (accessed (host_memory fr n) y c e h).1
  unfolding accessed
  accessed_whole y c (Done x) h w = w
  accessed_whole y c (Send v to) h w = w
  accessed_whole y c Take h w = w
  accessed_whole y c (Load d a o) h w =
      record { long = rw (reads_words fr n) w.long; shadowed = reads_shadowed fr n h w.shadowed _ _ }
  accessed_whole y c (Store o a v) h w =
      record { long = writes_length fr n h _ a (placed o a v) ∙ w.long; shadowed = writes_shadowed fr n h w.shadowed _ a (placed o a v) }

  pub retabled_whole : (c : Change) (h : Host) → Whole fr n size h → Whole fr n size (retabled (host_memory fr n) c h)
  unfolding retabled
  retabled_whole (Plain d v target) h w = w
  retabled_whole (Special k v) h w = w
  retabled_whole (Retable t) h w = record { long = w.long; shadowed = fresh_shadowed }
  retabled_whole (Cause causes datum) h w = w
  retabled_whole Return h w = w

  pub step_whole : (y : Reply) (c : Core) (h : Host) → Whole fr n size h → Whole fr n size (step (host_memory fr n) y (c, h)).1
  unfolding step
  step_whole y c h w = retabled_whole _ _ (accessed_whole y _ _ _ (fetched_whole c h w))

use Rattle.plain.proofs.link.Goals as goal

-- src/lib.rt:101:1
pub returns : goal.returns
returns c = simp (c.write.ensures, c.wrapping_add_u32.ensures.value, c.wrapping_add_u32-pc.ensures.value)

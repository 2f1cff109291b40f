use Rattle.drill.proofs.told.flushed.Goals as goal

pub written-requires : goal.written-requires
written-requires c = c.requires

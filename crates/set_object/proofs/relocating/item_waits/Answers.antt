use Rattle.set_object.proofs.relocating.item_waits.Goals as goal

pub wants_move-requires : goal.wants_move-requires
wants_move-requires g c = c.requires.live c.loop-at.at _ c.entry.ensures.found

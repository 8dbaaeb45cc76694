use Rattle.std.proofs.Common.{ap, map, ◌∙◌, ◌++◌}
use Rattle.cmd_keys.specs.Slabs.{class_used}
use Rattle.plain_model.specs.ConnectionSteps.{slab_table}
use Rattle.cmd_keys.proofs.Told.{table_is_reply}
use Rattle.cmd_keys.proofs.slabs.memory_slabs.Goals as goal

pub into_reply-requires : goal.into_reply-requires
into_reply-requires g c = table_is_reply _ _ _ c.new-parts.ensures c.in_ok-push_classes.ensures

pub returns : goal.returns
returns g c = c.into_reply.ensures ∙ c.in_ok-push_classes.ensures ∙ ap (λ l. l ++ slab_table (map class_used c.in_ok-uses.uses.items)) c.new-parts.ensures ∙ ap slab_table c.in_ok-uses.ensures

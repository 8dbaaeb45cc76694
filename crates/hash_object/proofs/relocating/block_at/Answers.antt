use Rattle.std.proofs.Common.{◌∙◌, sym, ap}
use Rattle.collection_walk.proofs.Ending.{no_item}
use Rattle.hash_object.proofs.Marks.{key_slot, value_slot, even_at, odd_at, none_at}
use Rattle.hash_object.proofs.relocating.block_at.Goals as goal

pub returns-then-not-is_entry : goal.returns-then-not-is_entry
returns-then-not-is_entry c = sym (none_at c.args.table.now.items c.args.mark (no_item c.args.table.now _ _ c.if-not-is_entry.true c.is_entry.ensures))

pub returns-then-mark-eq0 : goal.returns-then-mark-eq0
returns-then-mark-eq0 c = sym (even_at c.args.table.now.items c.args.mark c.if-mark-eq0.true ∙ ap key_slot c.entry.ensures.found)

pub returns-else-mark-eq0 : goal.returns-else-mark-eq0
returns-else-mark-eq0 c = sym (odd_at c.args.table.now.items c.args.mark c.if-mark-eq0.false ∙ ap value_slot c.entry.ensures.found)

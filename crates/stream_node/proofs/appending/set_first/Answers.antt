use Rattle.std.proofs.Common.{◌∙◌}
use Rattle.stream_node.specs.Entry.{number}
use Rattle.stream_node.proofs.Edited.{first_room}
use Rattle.stream_node.proofs.appending.set_first.Goals as goal

pub insert-requires-clause-fits : goal.insert-requires-clause-fits
insert-requires-clause-fits c = first_room c.args.pack.now.items c.remove.new.pack.items c.as_bytes.result.now (number c.args.count) _ c.requires.packed c.requires.some
    c.remove.ensures.entries (c.as_bytes.ensures.value ∙ c.format.ensures.text) c.requires.room

use Rattle.listpack.specs.Pack.{spellings_of}
use Rattle.listpack.specs.Writing.{spelling}
use Rattle.std.specs.Prelude.{slice_set}
use Rattle.stream_node.specs.Entry.{number}
use Rattle.stream_node.specs.Written.{entry_texts}
use Rattle.stream_node.proofs.Written.{when_ok}
use Rattle.stream_node.proofs.Appendings.{behind_first, behind_room, is_behind}
use Rattle.stream_node.proofs.appending.put_behind.Goals as goal

pub set_first-requires-clause-room : goal.set_first-requires-clause-room
set_first-requires-clause-room c =
    behind_first (slice_set (spellings_of c.args.pack.now.items) 0 (spelling (number c.args.live))) (entry_texts c.args.key c.args.id c.args.same c.args.pairs.now) c.requires.room

pub put_entry-requires-clause-room : goal.put_entry-requires-clause-room
put_entry-requires-clause-room c =
    behind_room c.args.pack.now.items c.set_first.new.pack.items (number c.args.live) (entry_texts c.args.key c.args.id c.args.same c.args.pairs.now) c.in_ok-set_first.ensures c.requires.room

pub returns : goal.returns
returns c =
    when_ok c.put_entry.result
    (is_behind c.args.pack.now.items c.set_first.new.pack.items c.put_entry.new.pack.items (number c.args.live) (entry_texts c.args.key c.args.id c.args.same c.args.pairs.now)
    c.in_ok-set_first.ensures)
    c.put_entry.ensures

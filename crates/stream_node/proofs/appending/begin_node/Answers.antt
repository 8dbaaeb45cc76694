use Rattle.std.proofs.Common.{true}
use Rattle.stream_node.specs.Written.{head_texts, entry_texts}
use Rattle.stream_node.proofs.Written.{when_ok, put_on, room_first, room_next}
use Rattle.stream_node.proofs.appending.begin_node.Goals as goal

pub put_head-requires-clause-room : goal.put_head-requires-clause-room
put_head-requires-clause-room c = room_first c.args.pack.now.items (head_texts c.args.pairs.now) (entry_texts c.args.key c.args.id true c.args.pairs.now) c.requires.room

pub put_entry-requires-clause-room : goal.put_entry-requires-clause-room
put_entry-requires-clause-room c =
    room_next c.args.pack.now.items c.put_head.new.pack.items (head_texts c.args.pairs.now) (entry_texts c.args.key c.args.id true c.args.pairs.now) c.requires.packed
    c.in_ok-put_head.ensures c.requires.room

pub returns : goal.returns
returns c =
    when_ok c.put_entry.result
    (put_on c.args.pack.now.items c.put_head.new.pack.items c.put_entry.new.pack.items (head_texts c.args.pairs.now) (entry_texts c.args.key c.args.id true c.args.pairs.now) c.in_ok-put_head.ensures)
    c.put_entry.ensures

use Rattle.std.proofs.Common.{length, ap, arith, inr}
use Rattle.stream_node.specs.Ids.{IsId}
use Rattle.stream_object.proofs.Marking.{above_held, joined_room, over_grown}
use Rattle.stream_object.proofs.node.joined.Goals as goal

pub entry_behind-requires-clause-node : goal.entry_behind-requires-clause-node
entry_behind-requires-clause-node c = inr c.requires.is_node.node

pub entry_behind-requires-clause-above : goal.entry_behind-requires-clause-above
entry_behind-requires-clause-above c =
    let id : IsId c.args.id = record { ms = omega arith; seq = omega arith } in
    above_held c.args.key c.args.id c.args.bytes.now id c.requires.is_node c.requires.below

pub entry_behind-requires-clause-room : goal.entry_behind-requires-clause-room
entry_behind-requires-clause-room c = joined_room c.args.key c.args.id c.args.bytes.now c.args.pairs.now c.requires.is_node.pack (omega arith) c.requires.short

pub written_anew-requires-clause-few : goal.written_anew-requires-clause-few
written_anew-requires-clause-few c = omega (arith, ap length c.entries.ensures)

pub written_anew-requires-then-len-gt-MOST_BYTES-clause-few : goal.written_anew-requires-then-len-gt-MOST_BYTES-clause-few
written_anew-requires-then-len-gt-MOST_BYTES-clause-few c = omega (arith, ap length c.entries.ensures)

pub returns : goal.returns
returns c =
    let over = rw c.in-Some.is at c.in_ok-behind.ensures in
    let behind = c.in-Some.behind in
    over_grown c.args.key c.args.id c.args.bytes.now behind c.args.pairs.now c.requires.is_node c.requires.below over (omega (arith, ap length c.entries.ensures))
    (omega (arith, over.some, over.short))

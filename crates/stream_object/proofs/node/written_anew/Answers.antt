use Rattle.std.proofs.Common.{arith, inr}
use Rattle.stream_node.specs.Ids.{IsId}
use Rattle.stream_object.proofs.Marking.{above_held, joined_grown, joined_room}
use Rattle.stream_object.proofs.node.written_anew.Goals as goal

pub with_entry-requires-clause-node : goal.with_entry-requires-clause-node
with_entry-requires-clause-node c = inr c.requires.is_node.node

pub with_entry-requires-clause-above : goal.with_entry-requires-clause-above
with_entry-requires-clause-above c =
    let id : IsId c.args.id = record { ms = omega arith; seq = omega arith } in
    above_held c.args.key c.args.id c.args.bytes.now id c.requires.is_node c.requires.below

pub with_entry-requires-clause-room : goal.with_entry-requires-clause-room
with_entry-requires-clause-room c = joined_room c.args.key c.args.id c.args.bytes.now c.args.pairs.now c.requires.is_node.pack c.requires.bytes c.requires.short

pub returns : goal.returns
returns c =
    joined_grown c.args.key c.args.id c.args.bytes.now c.in_ok-pack.pack.items c.args.pairs.now c.requires.is_node c.requires.below c.in_ok-pack.ensures c.requires.few
    (omega (arith, c.in_ok-pack.pack.ok.0))

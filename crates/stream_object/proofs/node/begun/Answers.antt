use Rattle.std.proofs.Common.{sym, subst}
use Rattle.stream_node.specs.Node.{IsAfter}
use Rattle.stream_node.proofs.Appendings.{last_none}
use Rattle.stream_object.proofs.Marking.{begun_grown, begun_room}
use Rattle.stream_object.proofs.node.begun.Goals as goal

pub append-requires-clause-above : goal.append-requires-clause-above
append-requires-clause-above c = subst (λ o. IsAfter o c.args.id) (sym (last_none c.args.id c.in_ok-pack.pack.items c.in_ok-pack.ensures.entries)) tt

pub append-requires-clause-room : goal.append-requires-clause-room
append-requires-clause-room c = begun_room c.args.id c.in_ok-pack.pack.items c.args.pairs.now c.in_ok-pack.ensures.entries c.requires.short

pub returns : goal.returns
returns c = begun_grown c.args.id c.in_ok-pack.pack.items c.append.new.pack.items c.args.pairs.now c.in_ok-pack.ensures.entries c.in_ok-append.ensures.appended c.requires.short

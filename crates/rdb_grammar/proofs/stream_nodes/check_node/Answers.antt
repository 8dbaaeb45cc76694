use Rattle.std.proofs.Common.{◌∙◌, sym}
use Rattle.stream_node.specs.Views.{entries}
use Rattle.rdb_grammar.proofs.NodesRead.{node_behind, no_node_behind}
use Rattle.rdb_grammar.proofs.stream_nodes.check_node.Goals as goal

pub returns-in-Err-clause-fault : goal.returns-in-Err-clause-fault
returns-in-Err-clause-fault c made last = no_node_behind c.args.key c.args.payload.now made c.in-Err.kind c.in-Err.ensures.fault

pub returns-then-is_behind-clause-found : goal.returns-then-is_behind-clause-found
returns-then-is_behind-clause-found c made last =
    node_behind c.args.key c.args.payload.now made (entries c.in-Ok.node) c.args.before _ c.in-Ok.ensures.found last (sym c.is_behind.ensures ∙ c.if-is_behind.true)

pub returns-else-is_behind-clause-fault : goal.returns-else-is_behind-clause-fault
returns-else-is_behind-clause-fault c made last =
    node_behind c.args.key c.args.payload.now made (entries c.in-Ok.node) c.args.before _ c.in-Ok.ensures.found last (sym c.is_behind.ensures ∙ c.if-is_behind.false)

use Rattle.std.proofs.Common.{◌-◌, length, ap, ◌∙◌, sym, subst}
use Rattle.std.specs.List.{remove_range}
use Rattle.quicklist.specs.Nodes.{IsHeld, held}
use Rattle.quicklist.proofs.Rests.{if_ok, rest_counted}
use Rattle.quicklist.proofs.ranges.node_rest.Goals as goal

pub bytes-requires : goal.bytes-requires
bytes-requires g c = c.requires.readable

pub rest_of-requires-clause-held : goal.rest_of-requires-clause-held
rest_of-requires-clause-held g c = subst (IsHeld c.args.node.container) c.bytes.ensures c.requires.readable.is_node.is_held

pub rest_of-requires-clause-counted : goal.rest_of-requires-clause-counted
rest_of-requires-clause-counted g c = c.requires.readable.is_node.counted ∙ ap (λ xs. length (held c.args.node.container xs)) c.bytes.ensures

pub returns-clause-rest : goal.returns-clause-rest
returns-clause-rest g c = if_ok _ _ c.rest_of.result (rest_counted c.args.node.count (c.args.to - c.args.from)) c.rest_of.ensures.packed

pub returns-clause-list : goal.returns-clause-list
returns-clause-list g c =
    if_ok _ _ c.rest_of.result (λ o h. h ∙ ap (λ xs. remove_range (held c.args.node.container xs) c.args.from c.args.to) (sym c.bytes.ensures)) c.rest_of.ensures.list

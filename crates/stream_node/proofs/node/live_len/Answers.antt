use Rattle.std.proofs.Common.{sym, ◌∙◌}
use Rattle.listpack.specs.View.{list_of}
use Rattle.stream_node.proofs.Markings.{live_told}
use Rattle.stream_node.proofs.node.live_len.Goals as goal

pub unreachable-requires : goal.unreachable-requires
unreachable-requires c =
    let n = c.requires.1 in
    let h = n.head in
    c.in-None.ensures.none n.live _ h.live_fits (c.all.ensures ∙ h.elements)

pub returns : goal.returns
returns c =
    λ key n. live_told key (list_of c.args.pack.now) c.in-Some.live _ n (sym c.all.ensures ∙ c.in-Some.ensures.some) c.in-Some.ensures.small

use Rattle.std.proofs.Common.{◌∙◌, sym, ap}
use Rattle.stream_node.specs.Views.{left_of}
use Rattle.rdb_streams.specs.declared.nodes.Seen.{Seen}
use Rattle.rdb_streams.specs.Seeing.{seen_behind}
use Rattle.rdb_streams.proofs.nodes.behind_node.Goals as goal

pub loop-entry-preserved : goal.loop-entry-preserved
loop-entry-preserved c =
    ap (λ (s : Seen). seen_behind s (left_of c.next.new.self)) c.with_entry-more.ensures
    ∙ ap (seen_behind c.loop-entry.more) (sym c.in-Some.ensures.steps) ∙ c.loop-entry.invariant

pub returns : goal.returns
returns c =
    ap (seen_behind c.loop-entry.more) (sym c.in-None.ensures.steps.0) ∙ c.loop-entry.invariant
    ∙ ap (seen_behind c.args.seen) (ap left_of c.into_iter-entry-iterator.ensures.into_iter_gives ∙ c.entries-entry-items.ensures)

use Rattle.std.proofs.Common.{◌∙◌, ap, sym}
use Rattle.std.specs.Prelude.{not, ◌&&◌}
use Rattle.stream_node.specs.View.{stored}
use Rattle.stream_object.specs.Ranges.{is_between, seen}
use Rattle.stream_object.proofs.Picks.{is_out, is_in}
use Rattle.stream_object.proofs.picking.is_picked.Goals as goal

pub returns-then-deleted : goal.returns-then-deleted
returns-then-deleted c =
    sym (ap (λ b. not b && is_between c.args.from c.args.to (seen c.args.entry.now)) (sym c.deleted.ensures ∙ c.if-deleted.true))

pub returns-then-is_below : goal.returns-then-is_below
returns-then-is_below c = is_out c.args.from c.args.to (stored c.args.entry.now) c.id-id.result c.id-id.ensures c.is_below.result c.is_below.ensures.0 c.is_below.ensures.1 c.if-is_below.true

pub returns : goal.returns
returns c =
    is_in c.args.from c.args.to (stored c.args.entry.now) (sym c.deleted.ensures ∙ c.if-deleted.false) c.id-id.result c.id-id.ensures
    c.is_below.result c.is_below.ensures.0 c.is_below.ensures.1 c.if-is_below.false c.is_below-2.result c.is_below-2.ensures.0 c.is_below-2.ensures.1

use Rattle.std.proofs.Common.{◌∙◌, ap, sym}
use Rattle.std.specs.Prelude.{not, ◌&&◌}
use Rattle.std.specs.Ordering.{is_lt}
use Rattle.stream_groups.specs.Groups.{id_cmp}
use Rattle.stream_node.specs.declared.id.Id.{Id}
use Rattle.stream_object.specs.Streams.{pair_of}
use Rattle.stream_object.specs.Ranges.{seen}
use Rattle.stream_object.specs.Below.{is_low}
use Rattle.stream_object.proofs.Picks.{below_is}
use Rattle.stream_object.proofs.below.is_below.Goals as goal

pub returns-then-deleted : goal.returns-then-deleted
returns-then-deleted c = sym (ap (λ b. not b && is_low c.args.least (seen c.args.entry.now)) (sym c.deleted.ensures ∙ c.if-deleted.true))

pub returns : goal.returns
returns c =
    sym (ap (λ b. not b && is_low c.args.least (seen c.args.entry.now)) (sym c.deleted.ensures ∙ c.if-deleted.false)
    ∙ sym (ap (λ (i : Id). is_lt (id_cmp (pair_of i) (pair_of c.args.least))) c.id.ensures)
    ∙ below_is c.id.result c.args.least c.is_below.result c.is_below.ensures.0 c.is_below.ensures.1)

use Rattle.std.proofs.Common.{◌∙◌, ap}
use Rattle.std.specs.Prelude.{not}
use Rattle.stream_groups.specs.Groups.{Id as Pair, changed, with_again}
use Rattle.stream_object.specs.Streams.{pair_of}
use Rattle.stream_object.proofs.Agains.{none_once, some_once}
use Rattle.stream_object.proofs.redelivering.count_one.Goals as goal

pub returns-then-is_none : goal.returns-then-is_none
returns-then-is_none c = none_once c.args.groups.now c.args.name.now c.args.moment (pair_of c.args.again.now.id) c.args.again.now.pairs (c.is_none.ensures ∙ ap not c.if-is_none.true)

pub returns : goal.returns
returns c =
    some_once c.args.groups.now c.again.new.self c.args.name.now c.args.moment (pair_of c.args.again.now.id) c.args.again.now.pairs (c.is_none.ensures ∙ ap not c.if-is_none.false)
    (c.again.ensures.new ∙ ap (λ (p : Pair). changed c.args.groups.now c.args.name.now (with_again p c.args.moment)) c.pair.ensures)

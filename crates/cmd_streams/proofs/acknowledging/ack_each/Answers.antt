use Rattle.std.proofs.Common.{◌<◌, length, rules, ap, ◌∙◌, arith}
use Rattle.std.proofs.lemmas.List.{take_all}
use Rattle.stream_groups.specs.Groups.{Groups, changed}
use Rattle.stream_object.proofs.Agains.{unchanged}
use Rattle.plain_model.specs.GroupSteps.{without_ids}
use Rattle.cmd_streams.proofs.Acking.{more_at}
use Rattle.cmd_streams.proofs.acknowledging.ack_each.Goals as goal

pub loop-id-init : goal.loop-id-init
loop-id-init c = record {
  is = ap (λ (g : Groups). record c.args.stream.now { groups = g }) (unchanged c.args.stream.now.groups c.args.name.now);
  counted = omega arith;
  few = omega arith;
}

pub returns-clause-new : goal.returns-clause-new
returns-clause-new c =
    c.loop-id.invariant.is
    ∙ ap (λ xs. record c.args.stream.now { groups = changed c.args.stream.now.groups c.args.name.now (without_ids xs) }) (take_all c.loop-id.id-index c.args.ids.now c.loop-id-test.false)

pub loop-id-preserved : goal.loop-id-preserved
loop-id-preserved c =
    let ids = c.args.ids.now in
    let i = c.loop-id.id-index in
    let inside : i < length ids = search rules in
    record {
      is = more_at c.args.stream.now c.loop-id.stream c.ack_one-one.new.stream c.args.name.now ids i _ inside c.loop-id.invariant.is c.ack_one-one.ensures.new;
      counted = omega (arith, c.ack_one-one.ensures.counted, c.loop-id.invariant.counted);
      few = omega (arith, c.ack_one-one.ensures.few, c.loop-id.invariant.few);
    }

use Rattle.std.proofs.Common.{◌≡◌, ◌+◌, true, false, length, sym, ap, ◌∙◌, arith}
use Rattle.std.specs.List.{filter}
use Rattle.std.proofs.lemmas.List.{length_push}
use Rattle.plain_model.specs.SetSteps.{in_all, at_most}
use Rattle.keyspace.specs.Commands.{visible}
use Rattle.cmd_sets.specs.Joined.{sets_here}
use Rattle.cmd_sets.proofs.Counted.{one_passes, one_fails, none_passes, at_limit, below_limit}
use Rattle.cmd_sets.proofs.joining.count_shared.Goals as goal

pub names-preserved-then-not-in_each : goal.names-preserved-then-not-in_each
names-preserved-then-not-in_each g c =
    let test = in_all (sets_here (visible g.B.BlockStore.blocks c.args.keyspace.now c.args.at.now) c.args.keys.now) in
    let inv = c.names.invariant in
    let rest = c.pop.new.self.items in
    let is = c.in-Some.ensures.items in
    let fails : test c.in-Some.name ≡ false = ap test (sym c.as_slice.ensures) ∙ sym c.if-not-in_each.ensures in
    let longer : length c.names.rest.items ≡ length rest + 1 = ap length is ∙ length_push rest c.in-Some.name in
    record {
      sum = ap (λ n. c.names.count + n) (sym (one_fails test c.names.rest.items rest c.in-Some.name is fails)) ∙ inv.sum;
      below = inv.below;
      most = omega (arith, longer, inv.most);
    }

pub returns-then-count-limit : goal.returns-then-count-limit
returns-then-count-limit g c =
    let test = in_all (sets_here (visible g.B.BlockStore.blocks c.args.keyspace.now c.args.at.now) c.args.keys.now) in
    let passes : test c.in-Some.name ≡ true = ap test (sym c.as_slice.ensures) ∙ sym c.if-not-in_each.ensures in
    let more = one_passes test c.names.rest.items c.pop.new.self.items c.in-Some.name c.in-Some.ensures.items passes in
    at_limit c.args.limit c.names.count (length (filter test c.args.names.items)) c.if-count-limit.true (omega (arith, more, c.names.invariant.sum))

pub names-preserved-else-count-limit : goal.names-preserved-else-count-limit
names-preserved-else-count-limit g c =
    let test = in_all (sets_here (visible g.B.BlockStore.blocks c.args.keyspace.now c.args.at.now) c.args.keys.now) in
    let inv = c.names.invariant in
    let rest = c.pop.new.self.items in
    let is = c.in-Some.ensures.items in
    let passes : test c.in-Some.name ≡ true = ap test (sym c.as_slice.ensures) ∙ sym c.if-not-in_each.ensures in
    let more = one_passes test c.names.rest.items rest c.in-Some.name is passes in
    let longer : length c.names.rest.items ≡ length rest + 1 = ap length is ∙ length_push rest c.in-Some.name in
    record {
      sum = omega (arith, more, inv.sum);
      below = λ some. let less = inv.below some in omega (arith, less, c.if-count-limit.false);
      most = omega (arith, longer, inv.most);
    }

pub returns : goal.returns
returns g c =
    let test = in_all (sets_here (visible g.B.BlockStore.blocks c.args.keyspace.now c.args.at.now) c.args.keys.now) in
    let none = none_passes test c.names.rest.items (sym c.names.rest.ok.0 ∙ c.in_default.ensures.cases.0) in
    let all : c.names.count ≡ length (filter test c.args.names.items) = omega (arith, none, c.names.invariant.sum) in
    below_limit c.args.limit c.names.count c.names.invariant.below ∙ ap (at_most c.args.limit) all

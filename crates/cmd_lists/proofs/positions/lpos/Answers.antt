use Rattle.std.proofs.Common.{[], ap, ◌∙◌, refl}
use Rattle.plain_model.specs.Outcomes.{tells}
use Rattle.plain_model.specs.ListSteps.{or_none, at_most, matches, positions}
use Rattle.keyspace.specs.Commands.{visible}
use Rattle.quicklist.specs.Chain.{elements}
use Rattle.cmd_lists.specs.Met.{told_at_most}
use Rattle.cmd_lists.proofs.Looking.{told_none, told_list}
use Rattle.cmd_lists.proofs.Places.{none_told}
use Rattle.cmd_lists.proofs.positions.lpos.Goals as goal

pub returns-in-Missing : goal.returns-in-Missing
returns-in-Missing g c =
    let world = visible g.B.BlockStore.blocks c.args.keyspace.now c.args.at.now in
    let o = c.args.options in
    record {
      gives = told_none world c.args.key.now (λ before. tells (positions o.count (matches o.rank o.most c.args.element.now (or_none before))) world) c.positions_reply.result c.in-Missing.ensures
          (c.positions_reply.ensures (matches o.rank o.most c.args.element.now []) (none_told (told_at_most o.count) o.rank o.most c.args.element.now)) refl;
    }

pub returns-in_ok-found-in-There : goal.returns-in_ok-found-in-There
returns-in_ok-found-in-There g c =
    let world = visible g.B.BlockStore.blocks c.args.keyspace.now c.args.at.now in
    let m = g.B.BlockStore.blocks c.args.keyspace.now.store in
    let q = c.in-There.list.now in
    let o = c.args.options in
    let all = matches o.rank o.most c.args.element.now (elements m q) in
    record {
      gives = told_list world m c.args.key.now q (λ before. tells (positions o.count (matches o.rank o.most c.args.element.now (or_none before))) world) c.positions_reply-in-There.result
          c.in-There.ensures
          (c.positions_reply-in-There.ensures all (c.deref.ensures.value ∙ c.in_ok-found-in-There.ensures ∙ ap (λ n. at_most n all) c.most_told-wanted.ensures)) refl;
    }

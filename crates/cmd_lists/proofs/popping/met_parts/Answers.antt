use Rattle.std.proofs.Common.{◌≡◌, length, take, sym, arith}
use Rattle.std.proofs.lemmas.List.{length-take-le}
use Rattle.quicklist.specs.Chain.{elements}
use Rattle.plain_model.specs.ListSteps.{from_end}
use Rattle.cmd_lists.proofs.Ranges.{listed_parts}
use Rattle.cmd_lists.proofs.Meeting.{met_length}
use Rattle.cmd_lists.proofs.popping.met_parts.Goals as goal

pub returns : goal.returns
returns g c =
    let xs = elements (g.B.BlockStore.blocks c.args.store.now) c.args.list.now in
    let list = take c.args.count (from_end c.args.end xs) in
    let size : c.args.count ≡ length list = sym (length-take-le c.args.count (from_end c.args.end xs) (omega (arith, c.requires.inside, met_length c.args.end xs))) in
    listed_parts list c.args.count _ c.push_met.new.parts size c.in_ok-parts.ensures c.in_ok-push_met.ensures

use Rattle.std.proofs.Common.{◌≡◌, ◌-◌, ◌<◌, length, take, drop, map}
use Rattle.quicklist.specs.Chain.{elements}
use Rattle.plain_model.specs.ListSteps.{from_end, index_from, places}
use Rattle.cmd_lists.specs.Met.{IsMet}
use Rattle.cmd_lists.proofs.positions.find_matches.Given as goal

abbrev pub invariant-loop-met : goal.invariant-loop-met
invariant-loop-met g l =
    let m = g.B.BlockStore.blocks l.store in
    let list = elements m l.list in
    let so_far = places 0 l.text (take l.met (from_end l.end list)) in
    record {
      next : IsMet l.end m l.list l.met l.place;
      skips : l.skipped ≡ l.first - length so_far;
      finds : l.found.items ≡ map (index_from l.end (length list)) (drop l.first so_far);
      fewer : 0 < l.wanted → length l.found.items < l.wanted;
    }

use Rattle.std.proofs.Common.{◌≡◌, ◌+◌, ◌-◌, ◌≤◌, map, length, take, drop}
use Rattle.rax_packed.specs.Costs.{cost_under, costs, costs_below, going, pass_over}
use Rattle.rax_packed.specs.Trees.{node_at}
use Rattle.rax_packed.specs.Ways.{links_in, prefix_in}
use Rattle.rax_packed.proofs.pass.+pass_rest.Given as goal

abbrev pub decreases-pass_rest : goal.decreases-pass_rest
decreases-pass_rest g l = 16 - l.depth

abbrev pub invariant-loop-turn : goal.invariant-loop-turn
invariant-loop-turn g l = record {
  same : pass_over (going l.pass)
      (map (cost_under (take l.depth l.path))
      (costs_below (costs (16 - l.depth) (g.B.BlockStore.blocks l.store)) l.least (prefix_in (node_at (g.B.BlockStore.blocks l.store) l.fn.at))
      (drop l.next (links_in (node_at (g.B.BlockStore.blocks l.store) l.fn.at)))))
      ≡ pass_over (going l.initial.pass)
      (map (cost_under (take l.depth l.path))
      (costs_below (costs (16 - l.depth) (g.B.BlockStore.blocks l.store)) l.initial.least (prefix_in (node_at (g.B.BlockStore.blocks l.store) l.fn.at))
      (drop l.initial.next (links_in (node_at (g.B.BlockStore.blocks l.store) l.fn.at)))));
  within : l.next ≤ length (links_in (node_at (g.B.BlockStore.blocks l.store) l.fn.at));
  few : l.least ≤ l.depth + 2;
}

abbrev pub decreases-loop-turn : goal.decreases-loop-turn
decreases-loop-turn g l = length (links_in (node_at (g.B.BlockStore.blocks l.store) l.fn.at)) - l.next

use Rattle.std.proofs.Common.{◌≡◌, ◌-◌, ◌^◌, ◌<◌, ◌≤◌}
use Rattle.std.specs.Prelude.{count_by}
use Rattle.blocks.specs.Slabs.{Calmer}
use Rattle.collection_walk.specs.Marks.{is_within}
use Rattle.stream_node.specs.Ids.{id_number}
use Rattle.stream_object.specs.Parts.{all_refs}
use Rattle.stream_object.specs.Relocation.{Moves, PassesAll, tree_marks}
use Rattle.stream_object.proofs.relocating.pass_keys.Given as goal

abbrev pub invariant-keys : goal.invariant-keys
invariant-keys g l = record {
  moves : Moves (g.B.BlockStore.blocks l.initial.store) (g.B.BlockStore.blocks l.store) l.initial.tree l.tree;
  passed : PassesAll (g.B.BlockStore.heap l.store) (is_within l.from (id_number l.at)) (tree_marks (g.B.BlockStore.blocks l.initial.store) l.initial.tree)
      (all_refs (g.B.BlockStore.blocks l.initial.store) l.initial.tree) (all_refs (g.B.BlockStore.blocks l.store) l.tree);
  counted : l.used ≡ count_by (is_within l.from (id_number l.at)) (tree_marks (g.B.BlockStore.blocks l.initial.store) l.initial.tree);
  within : l.used ≤ l.room;
  low : l.from ≤ id_number l.at;
  on : 0 < l.used → l.from < id_number l.at;
  calmer : Calmer (g.B.BlockStore.heap l.initial.store) (g.B.BlockStore.heap l.store);
}

abbrev pub decreases-keys : goal.decreases-keys
decreases-keys g l = 2 ^ 128 - id_number l.at

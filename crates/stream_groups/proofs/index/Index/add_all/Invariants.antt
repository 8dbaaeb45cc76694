use Rattle.std.proofs.Common.{◌≡◌, ◌≤◌, ℕ, List, true, length, drop}
use Rattle.std.specs.Vec.{vec_capacity}
use Rattle.stream_groups.specs.Groups.{Id}
use Rattle.stream_groups.specs.Index.{marked, Marks}
use Rattle.stream_groups.proofs.Indexing.{AreNew}
use Rattle.stream_groups.proofs.index.Index.add_all.Given as goal

abbrev pub invariant-loop-id : goal.invariant-loop-id
invariant-loop-id l = record {
  few : length l.fresh.items ≤ l.id-index;
  room : length l.ids ≤ vec_capacity l.fresh;
  new_ones : AreNew l.fn.self l.name l.fresh.items;
  so_far : Marks true l.name l.fresh.items l.fn.self l.self;
  whole : (n : List ℕ) (q : Id) → marked true l.name (drop l.id-index l.ids) l.self n q ≡ marked true l.name l.ids l.fn.self n q;
}

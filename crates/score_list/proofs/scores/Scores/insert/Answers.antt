use Rattle.std.proofs.Common.{refl, sym, ap, subst, to_z, of_z, w64, unwrap_or, []}
use Rattle.std.proofs.lemmas.Int.{to_z-of_z}
use Rattle.blocks.specs.Blocks.{bytes_at}
use Rattle.score_list.specs.Linked.{items}
use Rattle.score_list.specs.Sorted.{IsSorted, Misses, place_of}
use Rattle.score_list.proofs.Sortings.{sorted_parted, all_live, sorted_rising, after_insert}
use Rattle.score_list.proofs.scores.Scores.insert.Goals as goal

pub insert-requires-clause-parted : goal.insert-requires-clause-parted
insert-requires-clause-parted g c = sorted_parted (g.B.BlockStore.blocks c.args.store.now) (to_z w64 (of_z w64 c.args.score), c.bytes-bytes.result.now) (items c.self.inside.towers)
    (subst (IsSorted (g.B.BlockStore.blocks c.args.store.now)) (sym c.self.view_is) c.requires.sorted)

pub insert-requires-clause-compares : goal.insert-requires-clause-compares
insert-requires-clause-compares g c = all_live (g.B.BlockStore.blocks c.args.store.now) (items c.self.inside.towers)
    (subst (IsSorted (g.B.BlockStore.blocks c.args.store.now)) (sym c.self.view_is) c.requires.sorted)

pub invariant_of-self : goal.invariant_of-self
invariant_of-self g c = (
  c.insert.ensures.linked,
  sorted_rising (g.B.BlockStore.blocks c.args.store.now) (items c.insert.new.self)
      (after_insert c.insert.result (g.B.BlockStore.blocks c.args.store.now) (items c.self.inside.towers) (items c.insert.new.self) c.args.score (to_z w64 (of_z w64 c.args.score))
      c.bytes-bytes.result.now c.args.member (place_of (g.B.BlockStore.blocks c.args.store.now) (to_z w64 (of_z w64 c.args.score), c.bytes-bytes.result.now) (items c.self.inside.towers))
      (to_z-of_z w64 c.args.score c.ranges.score) (sym (ap (λ o. unwrap_or o []) c.bytes-bytes.ensures)) refl c.requires.live
      (subst (IsSorted (g.B.BlockStore.blocks c.args.store.now)) (sym c.self.view_is) c.requires.sorted)
      (subst (Misses (g.B.BlockStore.blocks c.args.store.now) (c.args.score, bytes_at (g.B.BlockStore.blocks c.args.store.now) c.args.member)) (sym c.self.view_is) c.requires.fresh)
      c.insert.ensures.ok c.insert.ensures.err),
)

pub returns-clause-sorted : goal.returns-clause-sorted
returns-clause-sorted g c =
    (after_insert c.insert.result (g.B.BlockStore.blocks c.args.store.now) (items c.self.inside.towers) (items c.insert.new.self) c.args.score (to_z w64 (of_z w64 c.args.score))
    c.bytes-bytes.result.now c.args.member (place_of (g.B.BlockStore.blocks c.args.store.now) (to_z w64 (of_z w64 c.args.score), c.bytes-bytes.result.now) (items c.self.inside.towers))
    (to_z-of_z w64 c.args.score c.ranges.score) (sym (ap (λ o. unwrap_or o []) c.bytes-bytes.ensures)) refl c.requires.live
    (subst (IsSorted (g.B.BlockStore.blocks c.args.store.now)) (sym c.self.view_is) c.requires.sorted)
    (subst (Misses (g.B.BlockStore.blocks c.args.store.now) (c.args.score, bytes_at (g.B.BlockStore.blocks c.args.store.now) c.args.member)) (sym c.self.view_is) c.requires.fresh)
    c.insert.ensures.ok c.insert.ensures.err)

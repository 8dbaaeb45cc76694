use Rattle.std.proofs.Common.{◌≡◌, ◌+◌, ◌≤◌, ℕ, List, length, Some, sym, ap, ◌∙◌, subst, arith}
use Rattle.std.specs.Prelude.{slice_get}
use Rattle.std.specs.List.{remove_range as range_removed}
use Rattle.blocks.specs.Blocks.{Served}
use Rattle.blocks.proofs.Serve.{served_then}
use Rattle.score_list.specs.Linked.{Element as Scored}
use Rattle.score_table.specs.Scored.{LeavesRange, table_of}
use Rattle.score_table.proofs.Ranges.{cursor_on, range_begun, named, range_left}
use Rattle.score_table.proofs.removing.forget_range.Goals as goal

pub loop-init : goal.loop-init
loop-init g c = record {
  begun = omega arith;
  bound = c.requires.order;
  next = c.cursor-next.ensures;
  leaves = range_begun (g.B.BlockStore.blocks c.args.store.now) c.args.table.now c.args.list.now c.args.from c.requires.sound;
  served = Served.no_step;
}

pub unreachable-requires : goal.unreachable-requires
unreachable-requires g c =
    let over : length c.args.list.now ≤ c.loop.counter = rw c.in-None.is at c.loop.invariant.next in
    omega (arith, over, c.loop-test.true, c.requires.inside)

pub forget-requires : goal.forget-requires
forget-requires g c =
    let m = g.B.BlockStore.blocks c.loop.store in
    let place = rw c.in-Some.is at c.loop.invariant.next in
    let there : slice_get c.args.list.now c.loop.counter ≡ Some c.get.result = ap (λ (p : List Scored × ℕ). slice_get p.0 p.1) (sym place.0) ∙ c.get.ensures in
    let it = named (g.B.BlockStore.blocks c.args.store.now) m (table_of c.args.table.now c.args.list.now) c.loop.table c.args.from c.loop.counter c.get.result c.loop.invariant.leaves
    c.loop.invariant.begun place.1 there in
    record {
      keyed = c.loop.invariant.leaves.changed.sound.keyed;
      there = (it.0, c.get.result.0, it.1);
    }

pub loop-preserved : goal.loop-preserved
loop-preserved g c =
    let m = g.B.BlockStore.blocks c.loop.store in
    let place = rw c.in-Some.is at c.loop.invariant.next in
    let there : slice_get c.args.list.now c.loop.counter ≡ Some c.get.result = ap (λ (p : List Scored × ℕ). slice_get p.0 p.1) (sym place.0) ∙ c.get.ensures in
    record {
      begun = omega (arith, c.loop.invariant.begun);
      bound = omega (arith, c.loop-test.true);
      next = cursor_on c.next-next.result c.in-Some.cursor c.args.list.now c.loop.counter (c.loop.counter + 1) place.0 (omega arith) c.next-next.ensures;
      leaves = range_left (g.B.BlockStore.blocks c.args.store.now) m (table_of c.args.table.now c.args.list.now) c.loop.table c.args.from c.loop.counter c.get.result
          c.loop.invariant.leaves c.loop.invariant.begun place.1 there (g.B.BlockStore.blocks c.forget.new.store) c.forget.new.table (c.loop.counter + 1) (omega arith) c.forget.ensures.forgets;
      served = served_then _ _ _ c.loop.invariant.served c.forget.ensures.served;
    }

pub returns-clause-leaves : goal.returns-clause-leaves
returns-clause-leaves g c =
    let blocks = g.B.BlockStore.blocks in
    let old = table_of c.args.table.now c.args.list.now in
    let end : c.loop.counter ≡ c.args.to = omega (arith, c.loop-test.false, c.loop.invariant.bound) in
    subst (λ n. LeavesRange (blocks c.args.store.now) (blocks c.loop.store) old (table_of c.loop.table (range_removed c.args.list.now c.args.from n)) c.args.from n) end
    c.loop.invariant.leaves

use Rattle.std.proofs.Common.{◌≡◌, ◌≤◌, ◌+◌, ◌-◌, ℕ, refl, sym, subst, arith}
use Rattle.blocks.specs.Blocks.{no_step}
use Rattle.blocks.proofs.Serve.{served_then}
use Rattle.stream_node.specs.Ids.{IsId}
use Rattle.stream_object.specs.Below.{is_low}
use Rattle.stream_object.specs.Streams.{entries, IsChanged, dropping, stream_of}
use Rattle.stream_object.proofs.Rises.{length_kept, len_left, low_after, low_out}
use Rattle.stream_object.proofs.Trims.{dropped_none, dropped_then, told_err}
use Rattle.stream_object.proofs.stream.Stream.trim_id.Goals as goal

pub nodes-init : goal.nodes-init
nodes-init g c =
    let m = g.B.BlockStore.blocks c.args.store.now in
    let s = c.args.self.now in
    let none : s.len - s.len ≡ 0 = omega arith in
    record {
      fewer = omega arith;
      few = omega (arith, none);
      changed = subst (λ (k : ℕ). IsChanged m m s s (dropping (stream_of m s) k)) (sym none) (dropped_none m s c.requires);
      served = no_step;
    }

pub drop_front-requires-clause-within : goal.drop_front-requires-clause-within
drop_front-requires-clause-within g c =
    let mid = g.B.BlockStore.blocks c.nodes.store in
    omega (arith, c.first_below-low.ensures.within, c.nodes.invariant.changed.is_stream.counted, length_kept (is_low c.args.least) (entries mid c.nodes.self))

pub returns-in_err-drop_front-clause-served : goal.returns-in_err-drop_front-clause-served
returns-in_err-drop_front-clause-served g c = served_then _ _ _ c.nodes.invariant.served c.drop_front.ensures.served

pub returns-in_err-drop_front-clause-err_some : goal.returns-in_err-drop_front-clause-err_some
returns-in_err-drop_front-clause-err_some g c =
    let m = g.B.BlockStore.blocks c.args.store.now in
    let mid = g.B.BlockStore.blocks c.nodes.store in
    let after = g.B.BlockStore.blocks c.drop_front.new.store in
    let least : IsId c.args.least = record { ms = omega arith; seq = omega arith } in
    let i = c.nodes.invariant in
    let n = c.args.self.now.len - c.nodes.self.len in
    let left = low_after m mid c.args.self.now c.nodes.self n c.requires i.changed c.args.least least i.few in
    let s = c.in_err-drop_front.ensures.err_some in
    told_err c.from_residual.result
    (n + s.0, omega (arith, s.1, left, c.first_below-low.ensures.within), dropped_then m mid after c.args.self.now c.nodes.self c.drop_front.new.self n s.0 (n + s.0) refl i.changed s.2)

pub nodes-preserved : goal.nodes-preserved
nodes-preserved g c =
    let m = g.B.BlockStore.blocks c.args.store.now in
    let mid = g.B.BlockStore.blocks c.nodes.store in
    let after = g.B.BlockStore.blocks c.drop_front.new.store in
    let least : IsId c.args.least = record { ms = omega arith; seq = omega arith } in
    let i = c.nodes.invariant in
    let low = c.first_below-low.result in
    let n = c.args.self.now.len - c.nodes.self.len in
    let left = low_after m mid c.args.self.now c.nodes.self n c.requires i.changed c.args.least least i.few in
    let len = len_left mid after c.nodes.self c.drop_front.new.self low i.changed.is_stream c.in_ok-drop_front.ensures.dropped in
    let inside : low ≤ c.nodes.self.len = omega (arith, c.first_below-low.ensures.within, i.changed.is_stream.counted, length_kept (is_low c.args.least) (entries mid c.nodes.self)) in
    let sum : c.args.self.now.len - c.drop_front.new.self.len ≡ n + low = omega (arith, len, inside, i.fewer) in
    record {
      fewer = omega (arith, len, i.fewer);
      few = omega (arith, sum, left, c.first_below-low.ensures.within);
      changed = dropped_then m mid after c.args.self.now c.nodes.self c.drop_front.new.self n low (c.args.self.now.len - c.drop_front.new.self.len) sum i.changed c.in_ok-drop_front.ensures.dropped;
      served = served_then _ _ _ i.served c.drop_front.ensures.served;
    }

pub nodes-smaller : goal.nodes-smaller
nodes-smaller g c =
    let mid = g.B.BlockStore.blocks c.nodes.store in
    let after = g.B.BlockStore.blocks c.drop_front.new.store in
    let is = c.nodes.invariant.changed.is_stream in
    let left = len_left mid after c.nodes.self c.drop_front.new.self c.first_below-low.result is c.in_ok-drop_front.ensures.dropped in
    omega (arith, left, c.first_below-low.ensures.within, is.counted, length_kept (is_low c.args.least) (entries mid c.nodes.self), c.if-low-eq0.false)

pub overflow_sub-result : goal.overflow_sub-result
overflow_sub-result g c = c.nodes.invariant.fewer

pub returns-then-low-eq0-clause-count : goal.returns-then-low-eq0-clause-count
returns-then-low-eq0-clause-count g c =
    let m = g.B.BlockStore.blocks c.args.store.now in
    let mid = g.B.BlockStore.blocks c.nodes.store in
    let least : IsId c.args.least = record { ms = omega arith; seq = omega arith } in
    let i = c.nodes.invariant in
    let left = low_after m mid c.args.self.now c.nodes.self (c.args.self.now.len - c.nodes.self.len) c.requires i.changed c.args.least least i.few in
    omega (arith, left, c.first_below-low.ensures.none c.if-low-eq0.true)

pub returns-then-low-eq0-clause-trimmed : goal.returns-then-low-eq0-clause-trimmed
returns-then-low-eq0-clause-trimmed g c =
    let m = g.B.BlockStore.blocks c.args.store.now in
    let mid = g.B.BlockStore.blocks c.nodes.store in
    let least : IsId c.args.least = record { ms = omega arith; seq = omega arith } in
    let i = c.nodes.invariant in
    let n = c.args.self.now.len - c.nodes.self.len in
    let left = low_after m mid c.args.self.now c.nodes.self n c.requires i.changed c.args.least least i.few in
    low_out m mid c.args.self.now c.nodes.self n c.requires i.changed c.args.least least (omega (arith, left, c.first_below-low.ensures.none c.if-low-eq0.true))

use Rattle.std.proofs.Common.{◌≡◌, ℕ, ◌-◌, sym, subst, arith}
use Rattle.blocks.specs.Blocks.{no_step}
use Rattle.blocks.proofs.Serve.{served_then}
use Rattle.stream_object.specs.Streams.{IsChanged, stream_of, dropping}
use Rattle.stream_object.proofs.Trims.{dropped_none, dropped_then}
use Rattle.stream_object.proofs.stream.Stream.drop_front.Goals as goal

pub loop-left-init : goal.loop-left-init
loop-left-init g c =
    let m = g.B.BlockStore.blocks c.args.store.now in
    let none : c.args.count - c.args.count ≡ 0 = omega arith in
    record {
      few = omega arith;
      len = c.requires.within;
      changed = subst (λ (k : ℕ). IsChanged m m c.args.self.now c.args.self.now (dropping (stream_of m c.args.self.now) k)) (sym none) (dropped_none m c.args.self.now c.requires.is_stream);
      served = no_step;
    }

pub returns-in_err-left-clause-served : goal.returns-in_err-left-clause-served
returns-in_err-left-clause-served g c = served_then _ _ _ c.loop-left.invariant.served c.drop_some.ensures.served

pub loop-left-preserved : goal.loop-left-preserved
loop-left-preserved g c =
    let m = g.B.BlockStore.blocks c.args.store.now in
    let mid = g.B.BlockStore.blocks c.loop-left.store in
    let after = g.B.BlockStore.blocks c.drop_some.new.store in
    let n = c.in_ok-left.field-0 in
    let i = c.loop-left.invariant in
    let h = c.in_ok-left.ensures in
    record {
      few = omega (arith, i.few);
      len = omega (arith, i.len, h.len);
      changed = dropped_then m mid after c.args.self.now c.loop-left.self c.drop_some.new.self (c.args.count - c.loop-left.left) n (c.args.count - (c.loop-left.left - n))
          (omega (arith, i.few, h.within)) i.changed h.dropped;
      served = served_then _ _ _ i.served c.drop_some.ensures.served;
    }

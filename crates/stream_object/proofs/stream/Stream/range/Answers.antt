use Rattle.std.proofs.Common.{◌∙◌, ◌++◌, Some, length, map, take, sym, ap, arith}
use Rattle.stream_object.specs.Ranges.{taken, wanted_in, ahead, steps_left, range_of}
use Rattle.stream_object.specs.Streams.{nodes, stream_of}
use Rattle.stream_object.proofs.Walks.{ended, want}
use Rattle.stream_object.proofs.stream.Stream.range.Goals as goal

pub loop-next-init : goal.loop-next-init
loop-next-init g c =
    let m = g.B.BlockStore.blocks c.args.store.now in
    let w = want c.args.from c.args.to c.args.back c.args.limit in
    record {
      same = ap (λ xs. take c.args.limit (map taken xs ++ wanted_in w (ahead c.args.back (Some c.begin.result) (nodes m c.args.self.now)))) c.new-found.ensures.items
          ∙ ap (take c.args.limit) c.begin.ensures;
      within = omega (arith, ap length c.new-found.ensures.items);
    }

pub step-requires-clause-within : goal.step-requires-clause-within
step-requires-clause-within g c = c.loop-next.invariant.within

pub loop-next-preserved : goal.loop-next-preserved
loop-next-preserved g c =
    let m = g.B.BlockStore.blocks c.args.store.now in
    let w = want c.args.from c.args.to c.args.back c.args.limit in
    record {
      same = c.in_ok-next.ensures.same
          ∙ ap (λ n. take c.args.limit (map taken c.loop-next.found.items ++ wanted_in w (ahead c.args.back n (nodes m c.args.self.now)))) (sym c.in-Some.is)
          ∙ c.loop-next.invariant.same;
      within = c.in_ok-next.ensures.within;
    }

pub loop-next-smaller : goal.loop-next-smaller
loop-next-smaller g c =
    let m = g.B.BlockStore.blocks c.args.store.now in
    omega (arith, c.in_ok-next.ensures.fewer, ap (λ n. steps_left c.args.back n (nodes m c.args.self.now)) c.in-Some.is)

pub returns : goal.returns
returns g c =
    let m = g.B.BlockStore.blocks c.args.store.now in
    let w = want c.args.from c.args.to c.args.back c.args.limit in
    ended w (nodes m c.args.self.now) c.loop-next.found.items (range_of (stream_of m c.args.self.now) c.args.from c.args.to c.args.back c.args.limit) c.loop-next.next c.in_default.is
    c.loop-next.invariant.within c.loop-next.invariant.same

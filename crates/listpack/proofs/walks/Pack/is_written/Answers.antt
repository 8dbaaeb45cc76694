use Rattle.std.proofs.Common.{◌<◌, length, refl, sym, arith}
use Rattle.std.specs.Prelude.{IsTrue}
use Rattle.listpack.specs.Pack.{IsAt, texts}
use Rattle.listpack.proofs.Offsets.{step_at}
use Rattle.listpack.proofs.Written.{written_more, not_written, all_written}
use Rattle.listpack.proofs.walks.Pack.is_written.Goals as goal

pub spelling_at-spelled-requires : goal.spelling_at-spelled-requires
spelling_at-spelled-requires c = (c.loop.counter, (omega (arith, c.loop-test.true, c.len-end.ensures), c.loop.invariant.place))

pub is_as_written-requires-clause-small : goal.is_as_written-requires-clause-small
is_as_written-requires-clause-small c =
    let bytes = c.args.self.now.bytes.now in
    let i = c.loop.counter in
    let here : IsAt bytes i c.loop.at = (omega (arith, c.loop-test.true, c.len-end.ensures), c.loop.invariant.place) in
    let far = step_at bytes c.spelling_at-spelled.result.now i c.loop.at c.args.self.now.packed here.0 here.1 (c.spelling_at-spelled.ensures.value i here) in
    omega (arith, far.0, far.1, c.args.self.now.small)

pub returns-then-not-is_as_written : goal.returns-then-not-is_as_written
returns-then-not-is_as_written c =
    let bytes = c.args.self.now.bytes.now in
    let i = c.loop.counter in
    let here : IsAt bytes i c.loop.at = (omega (arith, c.loop-test.true, c.len-end.ensures), c.loop.invariant.place) in
    let other = not_written bytes c.spelling_at-spelled.result.now i here.0 (c.spelling_at-spelled.ensures.value i here)
    (λ is. let t : IsTrue c.is_as_written.result = c.is_as_written.ensures.1 is in let f = c.if-not-is_as_written.true in let never : ⊥ = cc in never) in
    (λ t. absurd cc, λ written. absurd (other written))

pub len_spelled-at-requires-clause-offset : goal.len_spelled-at-requires-clause-offset
len_spelled-at-requires-clause-offset c = (c.loop.counter, (omega (arith, c.loop-test.true, c.len-end.ensures), c.loop.invariant.place))

pub loop-preserved : goal.loop-preserved
loop-preserved c =
    let bytes = c.args.self.now.bytes.now in
    let i = c.loop.counter in
    let here : IsAt bytes i c.loop.at = (omega (arith, c.loop-test.true, c.len-end.ensures), c.loop.invariant.place) in
    record {
      place = sym (c.len_spelled-at.ensures.next i here);
      written = written_more bytes c.spelling_at-spelled.result.now i here.0 (c.spelling_at-spelled.ensures.value i here) c.loop.invariant.written
          (c.is_as_written.ensures.0 c.if-not-is_as_written.false);
    }

pub returns : goal.returns
returns c =
    (λ t. all_written c.args.self.now.bytes.now c.loop.counter (omega (arith, c.loop-test.false, c.len-end.ensures)) c.loop.invariant.written, λ is. refl)

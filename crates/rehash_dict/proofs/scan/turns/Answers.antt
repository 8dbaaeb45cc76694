use Rattle.std.proofs.Common.{◌^◌, ◌+◌, ◌-◌, ◌/◌, ◌∙◌, sym, ap, arith}
use Rattle.rehash_dict.specs.Sides.{side_rows}
use Rattle.rehash_dict.proofs.Edited.{side_size}
use Rattle.rehash_dict.proofs.Turns.{measured}
use Rattle.rehash_dict.proofs.scan.turns.Goals as goal

pub bits-small-requires-clause-size : goal.bits-small-requires-clause-size
bits-small-requires-clause-size g c = side_size c.smaller.result c.args.chains.now c.requires

pub bits-large-requires-clause-size : goal.bits-large-requires-clause-size
bits-large-requires-clause-size g c = side_size c.larger.result c.args.chains.now c.requires

pub overflow_add-last : goal.overflow_add-last
overflow_add-last g c =
    let m = measured c.args.chains.now.items c.args.chains.now.older c.args.chains.now.newer c.args.cursor c.requires (side_rows c.smaller.result c.args.chains.now)
    (side_rows c.larger.result c.args.chains.now) c.bits-small.result c.bits-large.result c.place-start.result
    (omega (arith, c.buckets.ensures, c.if-buckets-eq0.false)) (omega (arith, c.buckets-2.ensures, c.if-buckets-eq0-2.false)) c.smaller.ensures c.larger.ensures c.bits-small.ensures.bits
    c.bits-large.ensures.bits c.place-start.ensures in
    omega (arith, m.wide.block_fits)

pub overflow_sub-last-2 : goal.overflow_sub-last-2
overflow_sub-last-2 g c =
    (measured c.args.chains.now.items c.args.chains.now.older c.args.chains.now.newer c.args.cursor c.requires (side_rows c.smaller.result c.args.chains.now)
    (side_rows c.larger.result c.args.chains.now) c.bits-small.result c.bits-large.result c.place-start.result
    (omega (arith, c.buckets.ensures, c.if-buckets-eq0.false)) (omega (arith, c.buckets-2.ensures, c.if-buckets-eq0-2.false)) c.smaller.ensures c.larger.ensures c.bits-small.ensures.bits
    c.bits-large.ensures.bits c.place-start.ensures).order

pub overflow_sub-result-2 : goal.overflow_sub-result-2
overflow_sub-result-2 g c =
    let m = measured c.args.chains.now.items c.args.chains.now.older c.args.chains.now.newer c.args.cursor c.requires (side_rows c.smaller.result c.args.chains.now)
    (side_rows c.larger.result c.args.chains.now) c.bits-small.result c.bits-large.result c.place-start.result
    (omega (arith, c.buckets.ensures, c.if-buckets-eq0.false)) (omega (arith, c.buckets-2.ensures, c.if-buckets-eq0-2.false)) c.smaller.ensures c.larger.ensures c.bits-small.ensures.bits
    c.bits-large.ensures.bits c.place-start.ensures in
    omega (arith, m.wide.whole, m.wide.more)

pub overflow_add-result : goal.overflow_add-result
overflow_add-result g c =
    let m = measured c.args.chains.now.items c.args.chains.now.older c.args.chains.now.newer c.args.cursor c.requires (side_rows c.smaller.result c.args.chains.now)
    (side_rows c.larger.result c.args.chains.now) c.bits-small.result c.bits-large.result c.place-start.result
    (omega (arith, c.buckets.ensures, c.if-buckets-eq0.false)) (omega (arith, c.buckets-2.ensures, c.if-buckets-eq0-2.false)) c.smaller.ensures c.larger.ensures c.bits-small.ensures.bits
    c.bits-large.ensures.bits c.place-start.ensures in
    omega (arith, m.wide.whole, m.wide.within, m.wide.below)

pub returns : goal.returns
returns g c =
    let m = measured c.args.chains.now.items c.args.chains.now.older c.args.chains.now.newer c.args.cursor c.requires (side_rows c.smaller.result c.args.chains.now)
    (side_rows c.larger.result c.args.chains.now) c.bits-small.result c.bits-large.result c.place-start.result
    (omega (arith, c.buckets.ensures, c.if-buckets-eq0.false)) (omega (arith, c.buckets-2.ensures, c.if-buckets-eq0-2.false)) c.smaller.ensures c.larger.ensures c.bits-small.ensures.bits
    c.bits-large.ensures.bits c.place-start.ensures in
    ap (λ n. 1 + (n - c.place-start.result / 2 ^ (64 - c.bits-large.result))) m.wide.whole ∙ sym m.turns

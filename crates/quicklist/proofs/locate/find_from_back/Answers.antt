use Rattle.std.proofs.Common.{◌≡◌, ◌+◌, ◌-◌, length, take, ap, arith, rules}
use Rattle.std.specs.Prelude.{sum_by}
use Rattle.quicklist.specs.Nodes.{count_of}
use Rattle.quicklist.proofs.Places.{sum_whole, sum_next, place_after}
use Rattle.quicklist.proofs.locate.find_from_back.Goals as goal

pub loop-k-init : goal.loop-k-init
loop-k-init c =
    let n : c.len-k.result ≡ length c.args.nodes.now.items = search rules in
    record { so_far = omega (arith, sum_whole c.args.nodes.now.items c.len-k.result (omega (arith, n)), c.requires.whole); left = omega (arith, c.requires.inside, c.requires.whole) }

pub overflow_sub-end : goal.overflow_sub-end
overflow_sub-end c =
    let n : c.len-k.result ≡ length c.args.nodes.now.items = search rules in
    let back : c.loop-k.k - 1 + 1 ≡ c.loop-k.k = omega arith in
    let next = sum_next c.args.nodes.now.items (c.loop-k.k - 1) c.index.result.now (omega (arith, n)) c.index.ensures in
    omega (arith, next, c.loop-k.invariant.so_far, ap (λ k. sum_by count_of (take k c.args.nodes.now.items)) back)

pub returns-then-end-index : goal.returns-then-end-index
returns-then-end-index c =
    let nodes = c.args.nodes.now.items in
    let n : c.len-k.result ≡ length nodes = search rules in
    let back : c.loop-k.k - 1 + 1 ≡ c.loop-k.k = omega arith in
    let next = sum_next nodes (c.loop-k.k - 1) c.index.result.now (omega (arith, n)) c.index.ensures in
    let at = ap (λ k. sum_by count_of (take k nodes)) back in
    place_after nodes c.args.index (c.loop-k.k - 1) (c.loop-k.end - c.index.result.now.count) c.index.result.now (omega (arith, n)) c.index.ensures
    (omega (arith, next, c.loop-k.invariant.so_far, at)) c.if-end-index.true (omega (arith, next, c.loop-k.invariant.so_far, c.loop-k.invariant.left, at))

pub loop-k-preserved : goal.loop-k-preserved
loop-k-preserved c =
    let nodes = c.args.nodes.now.items in
    let n : c.len-k.result ≡ length nodes = search rules in
    let back : c.loop-k.k - 1 + 1 ≡ c.loop-k.k = omega arith in
    let next = sum_next nodes (c.loop-k.k - 1) c.index.result.now (omega (arith, n)) c.index.ensures in
    let at = ap (λ k. sum_by count_of (take k nodes)) back in
    record { so_far = omega (arith, next, c.loop-k.invariant.so_far, at); left = c.if-end-index.false }

pub unreachable-requires : goal.unreachable-requires
unreachable-requires c =
    let none : c.loop-k.k ≡ 0 = omega arith in
    omega (arith, c.loop-k.invariant.so_far, c.loop-k.invariant.left, ap (λ k. sum_by count_of (take k c.args.nodes.now.items)) none)

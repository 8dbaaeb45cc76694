use Rattle.std.proofs.Common.{◌≡◌, ◌+◌, length, arith, rules}
use Rattle.std.proofs.lemmas.List.Sums.{sum_by-take-le}
use Rattle.quicklist.specs.Nodes.{count_of}
use Rattle.quicklist.proofs.Places.{sum_whole, sum_next, place_after}
use Rattle.quicklist.proofs.locate.find_from_front.Goals as goal

pub overflow_sub-index : goal.overflow_sub-index
overflow_sub-index c = c.loop-k.invariant.passed

pub returns-then-index-before : goal.returns-then-index-before
returns-then-index-before c =
    let nodes = c.args.nodes.now.items in
    let n : c.len-k-end.result ≡ length nodes = search rules in
    place_after nodes c.args.index c.loop-k.k c.loop-k.before c.index.result.now (omega (arith, n)) c.index.ensures c.loop-k.invariant.so_far c.loop-k.invariant.passed c.if-index-before.true

pub overflow_add-before : goal.overflow_add-before
overflow_add-before c =
    let nodes = c.args.nodes.now.items in
    let n : c.len-k-end.result ≡ length nodes = search rules in
    let next = sum_next nodes c.loop-k.k c.index.result.now (omega (arith, n)) c.index.ensures in
    omega (arith, next, c.loop-k.invariant.so_far, sum_by-take-le count_of nodes (c.loop-k.k + 1), c.requires.small)

pub loop-k-preserved : goal.loop-k-preserved
loop-k-preserved c =
    let nodes = c.args.nodes.now.items in
    let n : c.len-k-end.result ≡ length nodes = search rules in
    let next = sum_next nodes c.loop-k.k c.index.result.now (omega (arith, n)) c.index.ensures in
    record { so_far = omega (arith, next, c.loop-k.invariant.so_far); passed = omega (arith, c.if-index-before.false, c.loop-k.invariant.passed) }

pub unreachable-requires : goal.unreachable-requires
unreachable-requires c =
    let nodes = c.args.nodes.now.items in
    let n : c.len-k-end.result ≡ length nodes = search rules in
    omega (arith, sum_whole nodes c.loop-k.k (omega (arith, n)), c.loop-k.invariant.so_far, c.loop-k.invariant.passed, c.requires.inside)

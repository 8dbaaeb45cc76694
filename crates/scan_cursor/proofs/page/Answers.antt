use Rattle.std.proofs.Common.{arith, ◌-◌, ◌+◌, ◌*◌, refl}
use Rattle.scan_cursor.proofs.page.Goals.{else-loop-test, then-loop-test+then-next-eq0, then-next-eq0-via-then-next-eq0, then-next-eq0-via-else-next-eq0+then-len-count}
use Rattle.scan_cursor.proofs.Joined.{scan_more, scan_at_zero, scan_at_enough, scan_at_end, joined_step, starts_step}
use Rattle.scan_cursor.proofs.page.Goals as goal

pub loop-init : goal.loop-init
loop-init g c = record {
  span = λ place_of can. rw (c.in_ok-next.ensures.next, c.in_ok-next.ensures.found, c.new-items.ensures.items) (c.scan_at.ensures.spans place_of can);
  list = rw (c.from-end.ensures, c.in_ok-next.ensures.next, c.in_ok-next.ensures.found, c.new-items.ensures.items) refl;
  starts = λ place_of can. starts_step place_of (g.S.BucketScan.move_at c.args.target.now) (g.S.BucketScan.after c.args.target.now c.args.cursor) c.in_ok-next.next
      c.in_ok-next.ensures.next (c.scan_at.ensures.starts place_of can);
}

pub loop-preserved : goal.loop-preserved
loop-preserved g c = record {
  span = λ place_of can. joined_step place_of c.args.cursor c.loop.next (g.S.BucketScan.after c.args.target.now c.loop.next) c.in_ok-next-2.next c.loop.items.items
      (g.S.BucketScan.move_at c.args.target.now c.loop.next) c.scan_at-in-loop.new.found.items
      c.if-next-eq0.false (c.loop.invariant.span place_of can) (c.in_ok-next-2.ensures.spans place_of can) (c.loop.invariant.starts place_of can) c.in_ok-next-2.ensures.found
      c.in_ok-next-2.ensures.next;
  list = scan_more (g.S.BucketScan.move_at c.args.target.now) (g.S.BucketScan.after c.args.target.now) (c.from-end.result * 10 - c.loop.counter)
      (c.from-end.result * 10 - (c.loop.counter + 1)) c.args.count c.loop.next c.in_ok-next-2.next c.loop.items.items c.scan_at-in-loop.new.found.items _ (omega arith) c.if-next-eq0.false
      (omega arith) c.in_ok-next-2.ensures.found c.in_ok-next-2.ensures.next c.loop.invariant.list;
  starts = λ place_of can. starts_step place_of (g.S.BucketScan.move_at c.args.target.now) (g.S.BucketScan.after c.args.target.now c.loop.next) c.in_ok-next-2.next
      c.in_ok-next-2.ensures.next (c.in_ok-next-2.ensures.starts place_of can);
}

pub returns-clause-list : goal.returns-clause-list
returns-clause-list g c = elim c.loop-test.branch [
  | else-loop-test w ↦ scan_at_end (g.S.BucketScan.move_at c.args.target.now) (g.S.BucketScan.after c.args.target.now) (c.from-end.result * 10 - c.loop.counter) c.args.count c.loop.next
      c.loop.items.items _ (omega arith) c.loop.invariant.list
  | then-loop-test+then-next-eq0 w ↦ elim w.then-next-eq0.branch [
    | then-next-eq0-via-then-next-eq0 u ↦ scan_at_zero (g.S.BucketScan.move_at c.args.target.now) (g.S.BucketScan.after c.args.target.now) (c.from-end.result * 10 - c.loop.counter)
        c.args.count c.loop.next c.loop.items.items _ u.if-next-eq0.true c.loop.invariant.list
    | then-next-eq0-via-else-next-eq0+then-len-count u ↦ scan_at_enough (g.S.BucketScan.move_at c.args.target.now) (g.S.BucketScan.after c.args.target.now)
        (c.from-end.result * 10 - c.loop.counter) c.args.count c.loop.next c.loop.items.items _ u.if-next-eq0.false (omega arith) c.loop.invariant.list
  ]
]

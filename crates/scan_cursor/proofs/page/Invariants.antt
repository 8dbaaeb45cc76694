use Rattle.std.proofs.Common.{◌≡◌, ◌-◌, ℕ, Option}
use Rattle.rev_cursor.specs.Span.{Span, StartsAt}
use Rattle.scan_cursor.specs.Page.{scan_from, scan_list}
use Rattle.scan_cursor.proofs.page.Given as goal

abbrev pub invariant-loop : goal.invariant-loop
invariant-loop g l = record {
  span : (place_of : ℕ → Option ℕ) → g.S.BucketScan.can_stand l.target place_of → Span place_of l.cursor l.next l.items.items;
  list : scan_from (g.S.BucketScan.move_at l.target) (g.S.BucketScan.after l.target) (l.end - l.counter) l.count l.items.items l.next ≡ scan_list (g.S.BucketScan.move_at l.target)
      (g.S.BucketScan.after l.target) l.cursor l.count;
  starts : (place_of : ℕ → Option ℕ) → g.S.BucketScan.can_stand l.target place_of → StartsAt place_of l.next (g.S.BucketScan.move_at l.target l.next);
}

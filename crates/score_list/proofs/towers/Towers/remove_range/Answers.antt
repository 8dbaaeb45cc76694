use Rattle.std.proofs.Common.{◌≡◌, ◌+◌, ◌<◌, ◌≤◌, length, get_or, sym, ap, ◌∙◌, arith}
use Rattle.std.specs.List.{remove_range as range_removed}
use Rattle.std.proofs.lemmas.List.{take-append-drop}
use Rattle.score_list.specs.Linked.{element_at, next_at, order, items, no_place, without_at}
use Rattle.score_list.proofs.Searching.{lowest_next, length_of_map}
use Rattle.score_list.proofs.Ranges.{lowest_reaches, range_on, some_left}
use Rattle.score_list.proofs.towers.Towers.remove_range.Goals as goal

pub path_to-requires-clause-rank : goal.path_to-requires-clause-rank
path_to-requires-clause-rank c = omega (arith, c.requires.order, c.requires.inside)

pub loop-init : goal.loop-init
loop-init c = record {
  linked = c.requires.linked;
  path = c.path_to.ensures.path;
  begun = omega arith;
  bound = c.requires.order;
  items_are = sym (take-append-drop c.args.from (items c.args.self.now));
}

pub link-link-requires : goal.link-link-requires
link-link-requires c =
    let place = get_or c.path_to.new.path 0 no_place in
    lowest_reaches c.loop.self c.args.from place.owner place.rank c.loop.invariant.linked (c.loop.invariant.path 0 (omega arith))

pub overflow_sub-key : goal.overflow_sub-key
overflow_sub-key c =
    let place = get_or c.path_to.new.path 0 no_place in
    let inside : c.args.to ≤ length (items c.args.self.now) = omega (arith, c.requires.inside, length_of_map (element_at c.args.self.now) (order c.args.self.now)) in
    let some = some_left c.loop.self (items c.args.self.now) c.args.from c.loop.counter c.args.to c.loop.invariant.items_are c.loop.invariant.begun c.loop-test.true inside in
    let to : c.link-link.result.next ≡ next_at c.loop.self 0 place.owner = ap (λ l. l.next) c.link-link.ensures in
    omega (arith, to, lowest_next c.loop.self c.loop.invariant.linked c.args.from place.owner place.rank (c.loop.invariant.path 0 (omega arith)) some)

pub remove_at-requires : goal.remove_at-requires
remove_at-requires c =
    let place = get_or c.path_to.new.path 0 no_place in
    let inside : c.args.to ≤ length (items c.args.self.now) = omega (arith, c.requires.inside, length_of_map (element_at c.args.self.now) (order c.args.self.now)) in
    let some = some_left c.loop.self (items c.args.self.now) c.args.from c.loop.counter c.args.to c.loop.invariant.items_are c.loop.invariant.begun c.loop-test.true inside in
    let to : c.link-link.result.next ≡ next_at c.loop.self 0 place.owner = ap (λ l. l.next) c.link-link.ensures in
    let next = lowest_next c.loop.self c.loop.invariant.linked c.args.from place.owner place.rank (c.loop.invariant.path 0 (omega arith)) some in
    record {
      linked = c.loop.invariant.linked;
      path = c.loop.invariant.path;
      rank = some;
      key = omega (arith, to, next);
      fits = omega (arith, to, next);
    }

pub loop-preserved : goal.loop-preserved
loop-preserved c =
    let old = items c.args.self.now in
    let less : c.loop.counter < length old = omega (arith, c.loop-test.true, c.requires.inside, length_of_map (element_at c.args.self.now) (order c.args.self.now)) in
    record {
      linked = c.remove_at.ensures.linked;
      path = c.remove_at.ensures.path;
      begun = omega (arith, c.loop.invariant.begun);
      bound = omega (arith, c.loop-test.true);
      items_are = c.remove_at.ensures.items ∙ ap (λ xs. without_at xs c.args.from) c.loop.invariant.items_are
          ∙ range_on old c.args.from c.loop.counter (c.loop.counter + 1) c.loop.invariant.begun less (omega arith);
    }

pub returns-clause-items : goal.returns-clause-items
returns-clause-items c =
    let end : c.loop.counter ≡ c.args.to = omega (arith, c.loop-test.false, c.loop.invariant.bound) in
    c.loop.invariant.items_are ∙ ap (range_removed (items c.args.self.now) c.args.from) end

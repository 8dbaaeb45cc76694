use Rattle.std.proofs.Common.{◌<◌, ◌≤◌, ◌∙◌, ap, [], length, get_or, arith}
use Rattle.std.proofs.lemmas.List.{take_all}
use Rattle.set_object.specs.Members.{listed}
use Rattle.set_object.specs.Strings.{set_of}
use Rattle.set_object.proofs.Depends.{members_laws_hold}
use Rattle.quicklist.proofs.Going.{match_as}
use Rattle.told_values.proofs.Named.{set_begun, set_count, set_more}
use Rattle.told_values.proofs.sets.read_set.Goals as goal

pub loop-index-init : goal.loop-index-init
loop-index-init g c = record {
  next = match_as c.first-place.result (λ h. omega (arith, h)) (λ cursor h. h) c.first-place.ensures;
  so_far = set_begun (listed (g.B.BlockStore.blocks c.args.store.now) c.args.set.now) c.new-names.result.entries c.new-names.ensures.empty;
}

pub unreachable-requires : goal.unreachable-requires
unreachable-requires g c =
    let m = g.B.BlockStore.blocks c.args.store.now in
    let over : length (listed m c.args.set.now) ≤ c.loop-index.index = rw c.in-None.is at c.loop-index.invariant.next in
    omega (arith, over, c.loop-index-test.true, set_count m c.args.set.now c.requires.sound, c.len-count.ensures m c.requires.sound)

pub loop-index-preserved : goal.loop-index-preserved
loop-index-preserved g c =
    let m = g.B.BlockStore.blocks c.args.store.now in
    let xs = listed m c.args.set.now in
    let i = c.loop-index.index in
    let place = rw c.in-Some.is at c.loop-index.invariant.next in
    let inside : i < length xs = omega (arith, c.loop-index-test.true, set_count m c.args.set.now c.requires.sound, c.len-count.ensures m c.requires.sound) in
    record {
      next = match_as c.next-place.result (λ h. omega (arith, h, place.1)) (λ cursor h. (h.0, omega (arith, h.1, place.1))) c.next-place.ensures;
      so_far = set_more xs i c.loop-index.names.entries c.insert.new.self.entries c.in_ok-name-in-Some.name c.in_ok-insert-in-Some.ensures.was_ordered c.in_ok-insert-in-Some.ensures.ordered inside
          (c.in_ok-name-in-Some.ensures ∙ c.element.ensures ∙ ap (λ k. get_or xs k []) place.1) c.in_ok-insert-in-Some.ensures.entries c.loop-index.invariant.so_far;
    }

pub returns : goal.returns
returns g c =
    let m = g.B.BlockStore.blocks c.args.store.now in
    let xs = listed m c.args.set.now in
    c.loop-index.invariant.so_far
    ∙ ap set_of (take_all c.loop-index.index xs (omega (arith, c.loop-index-test.false, set_count m c.args.set.now c.requires.sound, c.len-count.ensures m c.requires.sound)))
    ∙ (members_laws_hold.arranged m c.args.set.now c.requires.sound).listed_are

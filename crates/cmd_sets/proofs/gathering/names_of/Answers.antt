use Rattle.std.proofs.Common.{◌<◌, ◌≤◌, ◌∙◌, ap, [], length, get_or, arith}
use Rattle.std.proofs.lemmas.List.{take_all}
use Rattle.set_object.specs.Members.{listed}
use Rattle.cmd_sets.proofs.Listed.{match_as, count_is}
use Rattle.cmd_sets.proofs.Gathered.{one_name}
use Rattle.cmd_sets.proofs.gathering.names_of.Goals as goal

pub loop-index-preserved : goal.loop-index-preserved
loop-index-preserved g c =
    let m = g.B.BlockStore.blocks c.args.store.now in
    let list = listed m c.args.set.now in
    let k = c.loop-index.index in
    let place = rw c.in-Some.is at c.loop-index.invariant.next in
    let inside : k < length list = omega (arith, c.loop-index-test.true, count_is m c.args.set.now c.requires.sound c.len-count.result (c.len-count.ensures m c.requires.sound)) in
    record {
      next = match_as c.next-place.result (λ h. omega (arith, h, place.1)) (λ cursor h. (h.0, omega (arith, h.1, place.1))) c.next-place.ensures;
      so_far = one_name list k c.loop-index.names.items c.push.new.self.items _ inside c.loop-index.invariant.so_far
          (c.in_ok-name-in-Some.ensures ∙ c.element.ensures ∙ ap (λ i. get_or list i []) place.1) c.in_ok-push-in-Some.ensures.items;
    }

pub unreachable-requires : goal.unreachable-requires
unreachable-requires g c =
    let m = g.B.BlockStore.blocks c.args.store.now in
    let over : length (listed m c.args.set.now) ≤ c.loop-index.index = rw c.in-None.is at c.loop-index.invariant.next in
    omega (arith, over, c.loop-index-test.true, count_is m c.args.set.now c.requires.sound c.len-count.result (c.len-count.ensures m c.requires.sound))

pub returns : goal.returns
returns g c =
    let m = g.B.BlockStore.blocks c.args.store.now in
    let all = count_is m c.args.set.now c.requires.sound c.len-count.result (c.len-count.ensures m c.requires.sound) in
    c.loop-index.invariant.so_far ∙ take_all c.loop-index.index (listed m c.args.set.now) (omega (arith, all, c.loop-index-test.false))

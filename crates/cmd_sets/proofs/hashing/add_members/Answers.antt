use Rattle.std.proofs.Common.{◌<◌, ◌≤◌, ◌∙◌, ap, [], length, get_or, arith}
use Rattle.std.proofs.lemmas.List.{take_all}
use Rattle.set_object.specs.Members.{listed, members}
use Rattle.plain_model.specs.SetSteps.{add_all}
use Rattle.cmd_sets.proofs.Listed.{match_as, count_is}
use Rattle.cmd_sets.proofs.Sifted.{added_more}
use Rattle.cmd_sets.proofs.hashing.add_members.Goals as goal

pub loop-index-preserved : goal.loop-index-preserved
loop-index-preserved g c =
    let m = g.A.BlockStore.blocks c.args.store.now in
    let list = listed m c.args.set.now in
    let k = c.loop-index.index in
    let place = rw c.in-Some.is at c.loop-index.invariant.next in
    let inside : k < length list = omega (arith, c.loop-index-test.true, count_is m c.args.set.now c.requires.sound c.len-count.result (c.len-count.ensures m c.requires.sound)) in
    let first = members (g.B.BlockStore.blocks c.args.own.now) c.args.all.now in
    let now = members (g.B.BlockStore.blocks c.loop-index.own) c.loop-index.all in
    let new = members (g.B.BlockStore.blocks c.add_element.new.store) c.add_element.new.set in
    record {
      next = match_as c.next-place.result (λ h. omega (arith, h, place.1)) (λ cursor h. (h.0, omega (arith, h.1, place.1))) c.next-place.ensures;
      sound = c.in_ok-add_element-in-Some.ensures.sound;
      so_far = added_more first now new list k _ inside c.loop-index.invariant.so_far (c.element.ensures ∙ ap (λ i. get_or list i []) place.1) c.in_ok-add_element-in-Some.ensures.members;
    }

pub unreachable-requires : goal.unreachable-requires
unreachable-requires g c =
    let m = g.A.BlockStore.blocks c.args.store.now in
    let over : length (listed m c.args.set.now) ≤ c.loop-index.index = rw c.in-None.is at c.loop-index.invariant.next in
    omega (arith, over, c.loop-index-test.true, count_is m c.args.set.now c.requires.sound c.len-count.result (c.len-count.ensures m c.requires.sound))

pub returns-clause-members : goal.returns-clause-members
returns-clause-members g c =
    let m = g.A.BlockStore.blocks c.args.store.now in
    let all = count_is m c.args.set.now c.requires.sound c.len-count.result (c.len-count.ensures m c.requires.sound) in
    c.loop-index.invariant.so_far ∙ ap (add_all (members (g.B.BlockStore.blocks c.args.own.now) c.args.all.now))
    (take_all c.loop-index.index (listed m c.args.set.now) (omega (arith, all, c.loop-index-test.false)))

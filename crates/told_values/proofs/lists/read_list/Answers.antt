use Rattle.std.proofs.Common.{◌<◌, ◌≤◌, ◌∙◌, ap, [], length, get_or, arith}
use Rattle.std.proofs.lemmas.List.{take_all}
use Rattle.quicklist.specs.Chain.{elements}
use Rattle.quicklist.proofs.Going.{match_as}
use Rattle.told_values.proofs.Named.{list_more}
use Rattle.told_values.proofs.lists.read_list.Goals as goal

pub unreachable-requires : goal.unreachable-requires
unreachable-requires g c =
    let over : length (elements (g.B.BlockStore.blocks c.args.store.now) c.args.list.now) ≤ c.loop-index.index = rw c.in-None.is at c.loop-index.invariant.next in
    omega (arith, over, c.loop-index-test.true, c.len-count.ensures, c.requires.sound.counted)

pub loop-index-preserved : goal.loop-index-preserved
loop-index-preserved g c =
    let xs = elements (g.B.BlockStore.blocks c.args.store.now) c.args.list.now in
    let i = c.loop-index.index in
    let place = rw c.in-Some.is at c.loop-index.invariant.next in
    let inside : i < length xs = omega (arith, c.loop-index-test.true, c.len-count.ensures, c.requires.sound.counted) in
    record {
      next = match_as c.next-place.result (λ h. omega (arith, h, place.1)) (λ cursor h. (h.0, omega (arith, h.1, place.1))) c.next-place.ensures;
      so_far = list_more xs i c.loop-index.texts.items c.push.new.self.items _ inside (c.in_ok-text-in-Some.ensures ∙ c.element.ensures ∙ ap (λ k. get_or xs k []) place.1)
          c.in_ok-push-in-Some.ensures.items c.loop-index.invariant.so_far;
    }

pub returns : goal.returns
returns g c =
    let xs = elements (g.B.BlockStore.blocks c.args.store.now) c.args.list.now in
    c.loop-index.invariant.so_far ∙ take_all c.loop-index.index xs (omega (arith, c.loop-index-test.false, c.len-count.ensures, c.requires.sound.counted))

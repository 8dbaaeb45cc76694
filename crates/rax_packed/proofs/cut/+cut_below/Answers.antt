use Rattle.std.proofs.Common.{◌<◌, ap, sym, subst, arith, length, IsSome, [], ◌∷◌, drop, refl, ◌∙◌}
use Rattle.std.proofs.lemmas.List.{take_rest}
use Rattle.blocks.proofs.Change.{counts_changed, live_ended}
use Rattle.blocks.specs.Blocks.{live}
use Rattle.blocks.proofs.Serve.{served_once, served_then}
use Rattle.rax_packed.proofs.Looks.{node_read, tree_live, tree_node, found_parts, found_missing, found_link, link_below, shorter}
use Rattle.rax_packed.proofs.Steps.{own_below, link_ready, less_left}
use Rattle.rax_packed.specs.Trees.{refs_at}
use Rattle.rax_packed.proofs.Frames.{leaf_refs}
use Rattle.rax_packed.proofs.Onces.{leaf_once, link_once}
use Rattle.rax_packed.proofs.Tallies.{many, step_many, written_live}
use Rattle.rax_packed.proofs.Cuts.{cut_leaf, cut_leaf_ended, cut_kept, mid_same, cut_alone, cut_alone_ended, cut_unlinked, no_value, was_kept, was_gone}
use Rattle.rax_packed.proofs.cut.+cut_below.Goals as goal

pub bytes-requires : goal.bytes-requires
bytes-requires g t c = tree_live _ _ _ _ c.requires.tree

pub way_of-requires : goal.way_of-requires
way_of-requires g t c = tree_node _ _ _ _ c.bytes.result.now c.requires.tree c.bytes.ensures

pub unreachable-requires : goal.unreachable-requires
unreachable-requires g t c = no_value
    (found_parts (g.B.BlockStore.blocks c.args.store.now) c.args.at c.bytes.result.now c.args.rest.now c.requires.tree c.bytes.ensures c.in-Parts.field-0 c.in-Parts.ensures)
    c.requires.stands

pub unreachable-requires-in-Missing : goal.unreachable-requires-in-Missing
unreachable-requires-in-Missing g t c = no_value
    (found_missing (g.B.BlockStore.blocks c.args.store.now) c.args.at c.bytes.result.now c.args.rest.now c.requires.tree c.bytes.ensures c.in-Missing.field-0 c.in-Missing.field-1
    c.in-Missing.ensures) c.requires.stands

pub cut_below-below-requires : goal.cut_below-below-requires
cut_below-below-requires g t c κs within =
    let all = take_rest c.args.rest.now c.in-Link.from in
    let b = g.B.BlockStore.blocks c.args.store.now in
    let less = shorter _ _ c.args.rest.now _ _ t c.decreases c.in-Link.ensures in
    let found = found_link b c.args.at c.bytes.result.now c.args.rest.now c.requires.tree c.bytes.ensures c.in-Link.place c.in-Link.from c.in-Link.to c.in-Link.ensures in (
      subst (λ xs. length xs < t) (sym all) less,
      (
        within,
        (
          rw all ((link_below b c.args.at c.bytes.result.now c.args.rest.now c.requires.tree c.bytes.ensures c.in-Link.place c.in-Link.from c.in-Link.to c.in-Link.ensures).tree),
          (
            rw all (own_below b c.args.at c.in-Link.to c.bytes.result.now c.args.rest.now c.in-Link.place c.in-Link.from c.requires.tree c.bytes.ensures c.in-Link.ensures c.requires.owned),
            (
              rw all (omega (arith, c.decreases)),
              rw all (subst (λ o. IsSome o) found c.requires.stands),
            ),
          ),
        ),
      ),
    )

pub unlink-gone-requires : goal.unlink-gone-requires
unlink-gone-requires g t c =
    let b = g.B.BlockStore.blocks c.args.store.now in
    let mid = g.B.BlockStore.blocks c.cut_below-below.new.store in
    let all = take_rest c.args.rest.now c.in-Link.from in
    let gone = (rw all at c.cut_below-below.ensures.gone) (was_gone c.cut_below-below.result.gone c.if-not-below.false) in
    let ended = (rw all at c.cut_below-below.ensures.ended) (was_gone c.cut_below-below.result.gone c.if-not-below.false) in
    let same = mid_same b c.args.at c.in-Link.to c.bytes.result.now c.args.rest.now c.in-Link.place c.in-Link.from c.requires.tree c.bytes.ensures c.in-Link.ensures c.requires.owned mid gone ended in
    let ready = link_ready b mid c.args.at c.in-Link.to c.bytes.result.now c.args.rest.now c.in-Link.place c.in-Link.from c.requires.tree c.bytes.ensures c.in-Link.ensures c.requires.short same in
    record { live = ready.live; inner = ready.inner; place = ready.within }

pub returns-then-not-below-clause-kept : goal.returns-then-not-below-clause-kept
returns-then-not-below-clause-kept g t c = λ h. (
    let b = g.B.BlockStore.blocks c.args.store.now in
    let mid = g.B.BlockStore.blocks c.cut_below-below.new.store in
    let below = (rw (take_rest c.args.rest.now c.in-Link.from) at c.cut_below-below.ensures.kept) (was_kept c.cut_below-below.result.gone c.if-not-below.true) in
    cut_kept b c.args.at c.in-Link.to c.bytes.result.now c.args.rest.now c.in-Link.place c.in-Link.from c.requires.tree c.bytes.ensures c.in-Link.ensures c.requires.owned mid below)

pub returns-in-Leaf-clause-gone : goal.returns-in-Leaf-clause-gone
returns-in-Leaf-clause-gone g t c = λ h. cut_leaf (g.B.BlockStore.blocks c.args.store.now) c.args.at c.in-Leaf.field-0 c.bytes.result.now c.args.rest.now c.bytes.ensures c.in-Leaf.ensures

pub returns-in-Leaf-clause-ended : goal.returns-in-Leaf-clause-ended
returns-in-Leaf-clause-ended g t c =
    λ h. cut_leaf_ended (g.B.BlockStore.blocks c.args.store.now) (g.B.BlockStore.blocks c.give_back.new.self) c.args.at c.in-Leaf.field-0 c.bytes.result.now c.args.rest.now c.requires.tree
    c.requires.owned c.bytes.ensures c.in-Leaf.ensures c.give_back.ensures.ended

pub returns-in-Leaf-clause-served : goal.returns-in-Leaf-clause-served
returns-in-Leaf-clause-served g t c = served_once _ _ c.give_back.ensures.step

pub returns-else-not-below-clause-gone : goal.returns-else-not-below-clause-gone
returns-else-not-below-clause-gone g t c = λ h. (
    let b = g.B.BlockStore.blocks c.args.store.now in
    let mid = g.B.BlockStore.blocks c.cut_below-below.new.store in
    let all = take_rest c.args.rest.now c.in-Link.from in
    let gone = (rw all at c.cut_below-below.ensures.gone) (was_gone c.cut_below-below.result.gone c.if-not-below.false) in
    let ended = (rw all at c.cut_below-below.ensures.ended) (was_gone c.cut_below-below.result.gone c.if-not-below.false) in
    cut_alone b c.args.at c.in-Link.to c.bytes.result.now c.args.rest.now c.in-Link.place c.in-Link.from c.requires.tree c.bytes.ensures c.in-Link.ensures c.requires.owned mid gone ended
    (c.unlink-gone.ensures.alone h))

pub returns-else-not-below-clause-ended : goal.returns-else-not-below-clause-ended
returns-else-not-below-clause-ended g t c = λ h. (
    let b = g.B.BlockStore.blocks c.args.store.now in
    let mid = g.B.BlockStore.blocks c.cut_below-below.new.store in
    let all = take_rest c.args.rest.now c.in-Link.from in
    let gone = (rw all at c.cut_below-below.ensures.gone) (was_gone c.cut_below-below.result.gone c.if-not-below.false) in
    let ended = (rw all at c.cut_below-below.ensures.ended) (was_gone c.cut_below-below.result.gone c.if-not-below.false) in
    cut_alone_ended b c.args.at c.in-Link.to c.bytes.result.now c.args.rest.now c.in-Link.place c.in-Link.from c.requires.tree c.bytes.ensures c.in-Link.ensures c.requires.owned mid gone
    ended (g.B.BlockStore.blocks c.unlink-gone.new.store) (c.unlink-gone.ensures.alone h) (c.unlink-gone.ensures.ended h))

pub returns-else-not-below-clause-kept : goal.returns-else-not-below-clause-kept
returns-else-not-below-clause-kept g t c = λ h. (
    let b = g.B.BlockStore.blocks c.args.store.now in
    let mid = g.B.BlockStore.blocks c.cut_below-below.new.store in
    let all = take_rest c.args.rest.now c.in-Link.from in
    let gone = (rw all at c.cut_below-below.ensures.gone) (was_gone c.cut_below-below.result.gone c.if-not-below.false) in
    let ended = (rw all at c.cut_below-below.ensures.ended) (was_gone c.cut_below-below.result.gone c.if-not-below.false) in
    cut_unlinked b c.args.at c.in-Link.to c.bytes.result.now c.args.rest.now c.in-Link.place c.in-Link.from c.requires.tree c.bytes.ensures c.in-Link.ensures c.requires.owned mid gone
    ended (g.B.BlockStore.blocks c.unlink-gone.new.store) (c.unlink-gone.ensures.others h) (c.unlink-gone.ensures.written h))

pub returns-else-not-below-clause-served : goal.returns-else-not-below-clause-served
returns-else-not-below-clause-served g t c = served_then _ _ _ c.cut_below-below.ensures.served c.unlink-gone.ensures.served

pub returns-in-Leaf-clause-ended_fewer : goal.returns-in-Leaf-clause-ended_fewer
returns-in-Leaf-clause-ended_fewer g t c =
    λ h. (let b = g.B.BlockStore.blocks c.args.store.now in
    ap length (leaf_refs (length c.args.rest.now) b c.args.at c.args.rest.now c.in-Leaf.field-0 (node_read b c.args.at c.bytes.result.now c.bytes.ensures ∙ c.in-Leaf.ensures)))

pub returns-in-Leaf-clause-once : goal.returns-in-Leaf-clause-once
returns-in-Leaf-clause-once g t c = leaf_once (g.B.BlockStore.blocks c.args.store.now) c.args.at c.in-Leaf.field-0 c.bytes.result.now c.args.rest.now c.bytes.ensures c.in-Leaf.ensures

pub returns-then-not-below-clause-once : goal.returns-then-not-below-clause-once
returns-then-not-below-clause-once g t c =
    let b = g.B.BlockStore.blocks c.args.store.now in
    let mid = g.B.BlockStore.blocks c.cut_below-below.new.store in
    let key = c.args.rest.now in
    let all = take_rest key c.in-Link.from in
    link_once b c.args.at c.in-Link.to c.bytes.result.now key c.in-Link.place c.in-Link.from c.requires.tree c.bytes.ensures c.in-Link.ensures (rw all at c.cut_below-below.ensures.once)

pub returns-else-not-below-clause-once : goal.returns-else-not-below-clause-once
returns-else-not-below-clause-once g t c =
    let b = g.B.BlockStore.blocks c.args.store.now in
    let mid = g.B.BlockStore.blocks c.cut_below-below.new.store in
    let key = c.args.rest.now in
    let all = take_rest key c.in-Link.from in
    link_once b c.args.at c.in-Link.to c.bytes.result.now key c.in-Link.place c.in-Link.from c.requires.tree c.bytes.ensures c.in-Link.ensures (rw all at c.cut_below-below.ensures.once)

pub returns-then-not-below-clause-kept_fewer : goal.returns-then-not-below-clause-kept_fewer
returns-then-not-below-clause-kept_fewer g t c = λ h. (
    let b = g.B.BlockStore.blocks c.args.store.now in
    let mid = g.B.BlockStore.blocks c.cut_below-below.new.store in
    let key = c.args.rest.now in
    let all = take_rest key c.in-Link.from in
    let below = (rw all at c.cut_below-below.ensures.kept) (was_kept c.cut_below-below.result.gone c.if-not-below.true) in
    let fewer = (rw all at c.cut_below-below.ensures.kept_fewer) (was_kept c.cut_below-below.result.gone c.if-not-below.true) in
    let part = own_below b c.args.at c.in-Link.to c.bytes.result.now key c.in-Link.place c.in-Link.from c.requires.tree c.bytes.ensures c.in-Link.ensures c.requires.owned in
    let done = cut_kept b c.args.at c.in-Link.to c.bytes.result.now key c.in-Link.place c.in-Link.from c.requires.tree c.bytes.ensures c.in-Link.ensures c.requires.owned mid below in
    let sum = step_many b mid mid (refs_at (length key) b c.args.at) (refs_at (length key) mid c.args.at) (refs_at (length (drop c.in-Link.from key)) b c.in-Link.to)
    (refs_at (length (drop c.in-Link.from key)) mid c.in-Link.to) c.requires.owned done.changes part below.changes (λ r. refl) in
    omega (arith, sum, fewer))

pub with_one-requires : goal.with_one-requires
with_one-requires g t c =
    let b = g.B.BlockStore.blocks c.args.store.now in
    let mid = g.B.BlockStore.blocks c.cut_below-below.new.store in
    let key = c.args.rest.now in
    let all = take_rest key c.in-Link.from in
    let few = rw all at c.cut_below-below.ensures.few in
    let shorter = less_left b c.args.at c.in-Link.to c.bytes.result.now key c.in-Link.place c.in-Link.from c.requires.tree c.bytes.ensures c.in-Link.ensures in
    omega (arith, few, shorter, c.requires.short)

pub returns-else-not-below-clause-few : goal.returns-else-not-below-clause-few
returns-else-not-below-clause-few g t c =
    let b = g.B.BlockStore.blocks c.args.store.now in
    let mid = g.B.BlockStore.blocks c.cut_below-below.new.store in
    let key = c.args.rest.now in
    let all = take_rest key c.in-Link.from in
    let few = rw all at c.cut_below-below.ensures.few in
    let shorter = less_left b c.args.at c.in-Link.to c.bytes.result.now key c.in-Link.place c.in-Link.from c.requires.tree c.bytes.ensures c.in-Link.ensures in
    omega (arith, few, shorter, c.with_one.ensures.few)

pub returns-then-not-below-clause-few : goal.returns-then-not-below-clause-few
returns-then-not-below-clause-few g t c =
    let b = g.B.BlockStore.blocks c.args.store.now in
    let mid = g.B.BlockStore.blocks c.cut_below-below.new.store in
    let key = c.args.rest.now in
    let all = take_rest key c.in-Link.from in
    let few = rw all at c.cut_below-below.ensures.few in
    let shorter = less_left b c.args.at c.in-Link.to c.bytes.result.now key c.in-Link.place c.in-Link.from c.requires.tree c.bytes.ensures c.in-Link.ensures in
    omega (arith, few, shorter)

pub returns-else-not-below-clause-ended_fewer : goal.returns-else-not-below-clause-ended_fewer
returns-else-not-below-clause-ended_fewer g t c = λ h. (
    let b = g.B.BlockStore.blocks c.args.store.now in
    let mid = g.B.BlockStore.blocks c.cut_below-below.new.store in
    let key = c.args.rest.now in
    let all = take_rest key c.in-Link.from in
    let later = g.B.BlockStore.blocks c.unlink-gone.new.store in
    let gone = (rw all at c.cut_below-below.ensures.gone) (was_gone c.cut_below-below.result.gone c.if-not-below.false) in
    let ended = (rw all at c.cut_below-below.ensures.ended) (was_gone c.cut_below-below.result.gone c.if-not-below.false) in
    let fewer = (rw all at c.cut_below-below.ensures.ended_fewer) (was_gone c.cut_below-below.result.gone c.if-not-below.false) in
    let part = own_below b c.args.at c.in-Link.to c.bytes.result.now key c.in-Link.place c.in-Link.from c.requires.tree c.bytes.ensures c.in-Link.ensures c.requires.owned in
    let same = mid_same b c.args.at c.in-Link.to c.bytes.result.now key c.in-Link.place c.in-Link.from c.requires.tree c.bytes.ensures c.in-Link.ensures c.requires.owned mid gone ended in
    let ready = link_ready b mid c.args.at c.in-Link.to c.bytes.result.now key c.in-Link.place c.in-Link.from c.requires.tree c.bytes.ensures c.in-Link.ensures c.requires.short same in
    let done = cut_alone_ended b c.args.at c.in-Link.to c.bytes.result.now key c.in-Link.place c.in-Link.from c.requires.tree c.bytes.ensures c.in-Link.ensures c.requires.owned mid gone
    ended later (c.unlink-gone.ensures.alone h) (c.unlink-gone.ensures.ended h) in
    let low = refs_at (length (drop c.in-Link.from key)) b c.in-Link.to in
    let sum = many b later (refs_at (length key) b c.args.at) [] (c.args.at ∷ low) [] c.requires.owned done
    (λ r. omega (arith, (counts_changed b mid low [] part ended).balance r, live_ended mid c.args.at ready.live r, ap (λ m. live m r) (c.unlink-gone.ensures.ended h))) in
    omega (arith, sum, fewer, c.with_one.ensures.gone h))

pub returns-else-not-below-clause-kept_fewer : goal.returns-else-not-below-clause-kept_fewer
returns-else-not-below-clause-kept_fewer g t c = λ h. (
    let b = g.B.BlockStore.blocks c.args.store.now in
    let mid = g.B.BlockStore.blocks c.cut_below-below.new.store in
    let key = c.args.rest.now in
    let all = take_rest key c.in-Link.from in
    let later = g.B.BlockStore.blocks c.unlink-gone.new.store in
    let gone = (rw all at c.cut_below-below.ensures.gone) (was_gone c.cut_below-below.result.gone c.if-not-below.false) in
    let ended = (rw all at c.cut_below-below.ensures.ended) (was_gone c.cut_below-below.result.gone c.if-not-below.false) in
    let fewer = (rw all at c.cut_below-below.ensures.ended_fewer) (was_gone c.cut_below-below.result.gone c.if-not-below.false) in
    let part = own_below b c.args.at c.in-Link.to c.bytes.result.now key c.in-Link.place c.in-Link.from c.requires.tree c.bytes.ensures c.in-Link.ensures c.requires.owned in
    let same = mid_same b c.args.at c.in-Link.to c.bytes.result.now key c.in-Link.place c.in-Link.from c.requires.tree c.bytes.ensures c.in-Link.ensures c.requires.owned mid gone ended in
    let ready = link_ready b mid c.args.at c.in-Link.to c.bytes.result.now key c.in-Link.place c.in-Link.from c.requires.tree c.bytes.ensures c.in-Link.ensures c.requires.short same in
    let done = cut_unlinked b c.args.at c.in-Link.to c.bytes.result.now key c.in-Link.place c.in-Link.from c.requires.tree c.bytes.ensures c.in-Link.ensures c.requires.owned mid gone ended
    later (c.unlink-gone.ensures.others h) (c.unlink-gone.ensures.written h) in
    let low = refs_at (length (drop c.in-Link.from key)) b c.in-Link.to in
    let sum = step_many b mid later (refs_at (length key) b c.args.at) (refs_at (length key) later c.args.at) low [] c.requires.owned done.changes part ended
    (written_live mid later c.args.at _ ready.live (c.unlink-gone.ensures.written h)) in
    omega (arith, sum, fewer, c.with_one.ensures.kept h))

use Rattle.std.proofs.Common.{◌∙◌, ◌<◌, refl, sym, subst, arith, length, drop}
use Rattle.std.proofs.lemmas.List.{take_rest}
use Rattle.blocks.proofs.Serve.{served_then}
use Rattle.rax_packed.specs.Trees.{refs_at}
use Rattle.rax_packed.specs.Ways.{Lacks, PartsAt}
use Rattle.rax_packed.proofs.Looks.{tree_live, tree_node, node_read, found_leaf, found_link, link_below, shorter}
use Rattle.rax_packed.proofs.Steps.{own_below, kept_block, add_link, link_ready}
use Rattle.rax_packed.proofs.Tallies.{step_many, written_live}
use Rattle.rax_packed.proofs.Exactly.{exact_write}
use Rattle.rax_packed.proofs.grow.+add_below.Goals as goal

pub bytes-requires : goal.bytes-requires
bytes-requires g t c = tree_live _ _ _ _ c.requires.tree

pub way_of-requires : goal.way_of-requires
way_of-requires g t c = tree_node _ _ _ _ c.bytes.result.now c.requires.tree c.bytes.ensures

pub unreachable-requires : goal.unreachable-requires
unreachable-requires g t c =
    let found = found_leaf (g.B.BlockStore.blocks c.args.store.now) c.args.at c.bytes.result.now c.args.rest.now c.requires.tree c.bytes.ensures c.in-Leaf.field-0 c.in-Leaf.ensures in
    let both = sym found ∙ c.requires.missing in cc

pub add_below-requires : goal.add_below-requires
add_below-requires g t c κs within =
    let all = take_rest c.args.rest.now c.in-Link.from in
    let b = g.B.BlockStore.blocks c.args.store.now in
    let less = shorter _ _ c.args.rest.now _ _ t c.decreases c.in-Link.ensures in
    let found = found_link b c.args.at c.bytes.result.now c.args.rest.now c.requires.tree c.bytes.ensures c.in-Link.place c.in-Link.from c.in-Link.to c.in-Link.ensures in (
      subst (λ xs. length xs < t) (sym all) less,
      (
        within,
        (
          rw all ((link_below b c.args.at c.bytes.result.now c.args.rest.now c.requires.tree c.bytes.ensures c.in-Link.place c.in-Link.from c.in-Link.to c.in-Link.ensures).tree),
          (
            rw all (own_below b c.args.at c.in-Link.to c.bytes.result.now c.args.rest.now c.in-Link.place c.in-Link.from c.requires.tree c.bytes.ensures c.in-Link.ensures c.requires.owned),
            (
              rw all (omega (arith, c.decreases)),
              rw all (sym found ∙ c.requires.missing),
            ),
          ),
        ),
      ),
    )

pub relink-requires : goal.relink-requires
relink-requires g t c =
    let b = g.B.BlockStore.blocks c.args.store.now in
    let mid = g.B.BlockStore.blocks c.add_below.new.store in
    let below = rw (take_rest c.args.rest.now c.in-Link.from) at c.in_ok-new-in-Link.ensures.added in
    let same = kept_block b c.args.at c.in-Link.to c.bytes.result.now c.args.rest.now c.in-Link.place c.in-Link.from c.requires.tree c.bytes.ensures c.in-Link.ensures mid
    (refs_at (length (drop c.in-Link.from c.args.rest.now)) mid c.in_ok-new-in-Link.new.at) c.requires.owned below.changes in
    let ready = link_ready b mid c.args.at c.in-Link.to c.bytes.result.now c.args.rest.now c.in-Link.place c.in-Link.from c.requires.tree c.bytes.ensures c.in-Link.ensures c.requires.short same in
    record { live = ready.live; inner = ready.inner; place = ready.within }

pub returns-in_ok-new-in-Link-clause-added : goal.returns-in_ok-new-in-Link-clause-added
returns-in_ok-new-in-Link-clause-added g t c =
    let b = g.B.BlockStore.blocks c.args.store.now in
    let mid = g.B.BlockStore.blocks c.add_below.new.store in
    let below = rw (take_rest c.args.rest.now c.in-Link.from) at c.in_ok-new-in-Link.ensures.added in
    add_link b mid (g.B.BlockStore.blocks c.relink.new.store) c.args.at c.in-Link.to c.in_ok-new-in-Link.new.at c.bytes.result.now c.args.rest.now c.in-Link.place c.in-Link.from
    c.args.value c.requires.tree c.bytes.ensures c.in-Link.ensures c.requires.owned below c.relink.ensures.fits c.relink.ensures.written

pub returns-in_ok-new-in-Link-clause-served : goal.returns-in_ok-new-in-Link-clause-served
returns-in_ok-new-in-Link-clause-served g t c = served_then _ _ _ c.in_ok-new-in-Link.ensures.served c.relink.ensures.served

pub returns-in_ok-new-in-Link-clause-more : goal.returns-in_ok-new-in-Link-clause-more
returns-in_ok-new-in-Link-clause-more g t c =
    let b = g.B.BlockStore.blocks c.args.store.now in
    let mid = g.B.BlockStore.blocks c.add_below.new.store in
    let later = g.B.BlockStore.blocks c.relink.new.store in
    let new = c.in_ok-new-in-Link.new.at in
    let key = c.args.rest.now in
    let all = take_rest key c.in-Link.from in
    let below = rw all at c.in_ok-new-in-Link.ensures.added in
    let more = rw all at c.in_ok-new-in-Link.ensures.more in
    let same = kept_block b c.args.at c.in-Link.to c.bytes.result.now key c.in-Link.place c.in-Link.from c.requires.tree c.bytes.ensures c.in-Link.ensures mid
    (refs_at (length (drop c.in-Link.from key)) mid new) c.requires.owned below.changes in
    let ready = link_ready b mid c.args.at c.in-Link.to c.bytes.result.now key c.in-Link.place c.in-Link.from c.requires.tree c.bytes.ensures c.in-Link.ensures c.requires.short same in
    let done = add_link b mid later c.args.at c.in-Link.to new c.bytes.result.now key c.in-Link.place c.in-Link.from c.args.value c.requires.tree c.bytes.ensures c.in-Link.ensures
    c.requires.owned below c.relink.ensures.fits c.relink.ensures.written in
    let part = own_below b c.args.at c.in-Link.to c.bytes.result.now key c.in-Link.place c.in-Link.from c.requires.tree c.bytes.ensures c.in-Link.ensures c.requires.owned in
    let sum = step_many b mid later (refs_at (length key) b c.args.at) (refs_at (length key) later c.args.at) (refs_at (length (drop c.in-Link.from key)) b c.in-Link.to)
    (refs_at (length (drop c.in-Link.from key)) mid new)
    c.requires.owned done.changes part below.changes (written_live mid later c.args.at _ ready.live (c.relink.ensures.written _ refl)) in
    omega (arith, sum, more)

pub returns-in_ok-new-in-Link-clause-exact : goal.returns-in_ok-new-in-Link-clause-exact
returns-in_ok-new-in-Link-clause-exact g t c =
    let b = g.B.BlockStore.blocks c.args.store.now in
    let mid = g.B.BlockStore.blocks c.add_below.new.store in
    exact_write b mid (g.B.BlockStore.blocks c.relink.new.store) c.args.at _ c.in_ok-new-in-Link.ensures.exact (tree_live _ _ b c.args.at c.requires.tree) (c.relink.ensures.written _ refl)

pub split-requires-clause-parts : goal.split-requires-clause-parts
split-requires-clause-parts g t c =
    subst (λ node. PartsAt node c.args.rest.now c.in-Parts.shared) (sym (node_read (g.B.BlockStore.blocks c.args.store.now) c.args.at c.bytes.result.now c.bytes.ensures)) c.in-Parts.ensures

pub attach-requires-clause-lacks : goal.attach-requires-clause-lacks
attach-requires-clause-lacks g t c =
    subst (λ node. Lacks node c.args.rest.now c.in-Missing.place c.in-Missing.from)
    (sym (node_read (g.B.BlockStore.blocks c.args.store.now) c.args.at c.bytes.result.now c.bytes.ensures)) c.in-Missing.ensures

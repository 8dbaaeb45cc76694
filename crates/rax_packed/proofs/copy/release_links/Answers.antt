use Rattle.std.proofs.Common.{◌≡◌, ◌∙◌, ◌<◌, ◌≤◌, suc, refl, sym, ap, subst, arith, length, take, get_or, IsSome, []}
use Rattle.std.proofs.lemmas.List.{length-take-le, get_or-take, take_all}
use Rattle.blocks.specs.Blocks.{Changes}
use Rattle.blocks.proofs.Change.{changes_same}
use Rattle.blocks.proofs.Serve.{served_same, served_next, served_then}
use Rattle.rax_packed.specs.Nodes.{Link, node_of}
use Rattle.rax_packed.specs.Trees.{node_at}
use Rattle.rax_packed.specs.Ways.{links_in}
use Rattle.rax_packed.proofs.Frames.{refs_below}
use Rattle.rax_packed.proofs.Looks.{node_read}
use Rattle.rax_packed.proofs.Releases.{mid_block, mid_child, mid_own, mid_next, last_block, all_gone}
use Rattle.rax_packed.proofs.copy.release_links.Goals as goal

pub loop-place-init : goal.loop-place-init
loop-place-init g c = record { changes = changes_same _ [] (λ r. omega arith); served = served_same _ _ refl }

no_link : Link
no_link = record { edge = 0; to = record { slab = 0; slot = 0 } }

pub bytes-requires : goal.bytes-requires
bytes-requires g c =
    let b = g.B.BlockStore.blocks c.args.store.now in
    let first = take c.args.count (links_in (node_at b c.args.at)) in
    let less = c.loop-place-test.true in
    let within : c.loop-place.place < length first = omega (arith, less, length-take-le c.args.count (links_in (node_at b c.args.at)) c.requires.count) in
    let same = mid_block (suc c.args.below) c.args.below b c.args.at first c.requires.trees c.requires.owned (g.B.BlockStore.blocks c.loop-place.store) c.loop-place.place no_link within
    c.loop-place.invariant.changes in
    subst (λ o. IsSome o) (sym same) c.requires.live

pub release_below-requires : goal.release_below-requires
release_below-requires g c =
    let b = g.B.BlockStore.blocks c.args.store.now in
    let mid = g.B.BlockStore.blocks c.loop-place.store in
    let first = take c.args.count (links_in (node_at b c.args.at)) in
    let less = c.loop-place-test.true in
    let within : c.loop-place.place < length first = omega (arith, less, length-take-le c.args.count (links_in (node_at b c.args.at)) c.requires.count) in
    let same = mid_block (suc c.args.below) c.args.below b c.args.at first c.requires.trees c.requires.owned mid c.loop-place.place no_link within c.loop-place.invariant.changes in
    let node : node_at b c.args.at ≡ node_of c.bytes.result.now = node_read b c.args.at c.bytes.result.now (sym same ∙ c.bytes.ensures) in
    let to : c.child_at-to.result ≡ (get_or first c.loop-place.place no_link).to = c.child_at-to.ensures no_link ∙ ap (λ m. (get_or (links_in m) c.loop-place.place no_link).to) (sym node)
    ∙ ap (λ (l : Link). l.to) (sym (get_or-take c.args.count (links_in (node_at b c.args.at)) c.loop-place.place no_link less)) in
    let child = mid_child (suc c.args.below) c.args.below b c.args.at first c.requires.trees c.requires.owned mid c.loop-place.place no_link within c.loop-place.invariant.changes in
    let owns = mid_own (suc c.args.below) c.args.below b c.args.at first c.requires.trees c.requires.owned mid c.loop-place.place no_link within c.loop-place.invariant.changes in
    record { tree = rw to child.tree; owned = rw to owns; short = c.requires.short }

pub loop-place-preserved : goal.loop-place-preserved
loop-place-preserved g c =
    let b = g.B.BlockStore.blocks c.args.store.now in
    let mid = g.B.BlockStore.blocks c.loop-place.store in
    let first = take c.args.count (links_in (node_at b c.args.at)) in
    let less = c.loop-place-test.true in
    let within : c.loop-place.place < length first = omega (arith, less, length-take-le c.args.count (links_in (node_at b c.args.at)) c.requires.count) in
    let same = mid_block (suc c.args.below) c.args.below b c.args.at first c.requires.trees c.requires.owned mid c.loop-place.place no_link within c.loop-place.invariant.changes in
    let node : node_at b c.args.at ≡ node_of c.bytes.result.now = node_read b c.args.at c.bytes.result.now (sym same ∙ c.bytes.ensures) in
    let to : c.child_at-to.result ≡ (get_or first c.loop-place.place no_link).to = c.child_at-to.ensures no_link ∙ ap (λ m. (get_or (links_in m) c.loop-place.place no_link).to) (sym node)
    ∙ ap (λ (l : Link). l.to) (sym (get_or-take c.args.count (links_in (node_at b c.args.at)) c.loop-place.place no_link less)) in
    record {
      changes = mid_next (suc c.args.below) c.args.below b c.args.at first c.requires.trees c.requires.owned mid c.loop-place.place no_link within c.loop-place.invariant.changes
          (g.B.BlockStore.blocks c.release_below.new.store) (rw to at c.release_below.ensures.changes);
      served = served_then _ _ _ c.loop-place.invariant.served c.release_below.ensures.served;
    }

pub returns-clause-changes : goal.returns-clause-changes
returns-clause-changes g c =
    let b = g.B.BlockStore.blocks c.args.store.now in
    let mid = g.B.BlockStore.blocks c.loop-place.store in
    let first = take c.args.count (links_in (node_at b c.args.at)) in
    let most : length first ≤ c.loop-place.place = (let past = c.loop-place-test.false in omega (arith, past, length-take-le c.args.count (links_in (node_at b c.args.at)) c.requires.count)) in
    let gone : Changes b mid (refs_below (suc c.args.below) b first) [] =
    subst (λ ls. Changes b mid (refs_below (suc c.args.below) b ls) []) (take_all c.loop-place.place first most) c.loop-place.invariant.changes in
    all_gone (suc c.args.below) c.args.below b c.args.at first c.requires.trees c.requires.owned mid (g.B.BlockStore.blocks c.give_back.new.self) gone c.give_back.ensures.ended

pub returns-clause-served : goal.returns-clause-served
returns-clause-served g c = served_next _ _ _ c.loop-place.invariant.served c.give_back.ensures.step

pub give_back-requires : goal.give_back-requires
give_back-requires g c =
    let b = g.B.BlockStore.blocks c.args.store.now in
    let mid = g.B.BlockStore.blocks c.loop-place.store in
    let first = take c.args.count (links_in (node_at b c.args.at)) in
    let most : length first ≤ c.loop-place.place = (let past = c.loop-place-test.false in omega (arith, past, length-take-le c.args.count (links_in (node_at b c.args.at)) c.requires.count)) in
    let gone : Changes b mid (refs_below (suc c.args.below) b first) [] =
    subst (λ ls. Changes b mid (refs_below (suc c.args.below) b ls) []) (take_all c.loop-place.place first most) c.loop-place.invariant.changes in
    subst (λ o. IsSome o) (sym (last_block (suc c.args.below) c.args.below b c.args.at first c.requires.trees c.requires.owned mid gone)) c.requires.live

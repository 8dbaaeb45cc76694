use Rattle.std.proofs.Common.{◌≡◌, ◌∙◌, is_some, ap}
use Rattle.blocks.proofs.Serve.{served_next}
use Rattle.rax_packed.specs.Packed.{with_entry, value_at}
use Rattle.rax_packed.specs.Maps.{entries_of}
use Rattle.stream_object.specs.Parts.{parts_of}
use Rattle.stream_object.proofs.Exchanging.{set_tree, set_value, set_live, becomes}
use Rattle.stream_object.proofs.nodes.exchange.Goals as goal

pub set-requires : goal.set-requires
set-requires g c =
    let m = c.requires.0 in
    let mid = g.B.BlockStore.blocks c.args.store.now in
    let b = c.requires.2 in
    set_tree m c.args.tree.now (parts_of m c.args.tree.now) c.args.key c.args.was b.parts b.stands mid mid mid c.args.tree.now c.args.at c.requires.1 b.put b.changes

pub give_back-requires : goal.give_back-requires
give_back-requires g c =
    let m = c.requires.0 in
    let mid = g.B.BlockStore.blocks c.args.store.now in
    let later = g.B.BlockStore.blocks c.set.new.store in
    let b = c.requires.2 in
    let es = entries_of mid c.args.tree.now in
    let value = ap (value_at es) c.key.ensures
    ∙ set_value m c.args.tree.now (parts_of m c.args.tree.now) c.args.key c.args.was b.parts b.stands mid mid mid c.args.tree.now c.args.at c.requires.1 b.put b.changes in
    let set : entries_of later c.set.new.self ≡ with_entry es c.key.result c.args.at = c.set.ensures.set (c.set.ensures.there ∙ ap is_some value) in
    set_live m c.args.tree.now (parts_of m c.args.tree.now) c.args.key c.args.was b.parts b.stands mid later later c.set.new.self c.args.at c.requires.1 b.put b.changes
    c.set.ensures.sound (set ∙ ap (λ k. with_entry es k c.args.at) c.key.ensures) c.set.ensures.changes

pub returns-clause-replaced : goal.returns-clause-replaced
returns-clause-replaced g c =
    let mid = g.B.BlockStore.blocks c.args.store.now in
    let later = g.B.BlockStore.blocks c.set.new.store in
    let after = g.B.BlockStore.blocks c.give_back.new.self in
    let es = entries_of mid c.args.tree.now in
    λ m bytes b s is rising. (let value = ap (value_at es) c.key.ensures
    ∙ set_value m c.args.tree.now (parts_of m c.args.tree.now) c.args.key c.args.was b.parts s mid mid mid c.args.tree.now c.args.at bytes b.put b.changes in
    let set : entries_of later c.set.new.self ≡ with_entry es c.key.result c.args.at = c.set.ensures.set (c.set.ensures.there ∙ ap is_some value) in
    becomes m c.args.tree.now (parts_of m c.args.tree.now) c.args.key c.args.was b.parts s mid later after c.set.new.self c.args.at bytes b.put b.changes
    c.set.ensures.sound (set ∙ ap (λ k. with_entry es k c.args.at) c.key.ensures) c.set.ensures.changes c.give_back.ensures.ended is rising)

pub returns-clause-served : goal.returns-clause-served
returns-clause-served g c = served_next _ _ _ c.set.ensures.served c.give_back.ensures.step

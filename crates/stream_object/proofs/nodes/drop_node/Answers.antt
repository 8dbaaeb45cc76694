use Rattle.std.proofs.Common.{◌∙◌, ap}
use Rattle.blocks.proofs.Serve.{served_next}
use Rattle.rax_packed.specs.Packed.{without}
use Rattle.rax_packed.specs.Maps.{entries_of}
use Rattle.stream_object.specs.Parts.{parts_of}
use Rattle.stream_object.proofs.Exchanging.{goes, goes_live}
use Rattle.stream_object.proofs.nodes.drop_node.Goals as goal

pub remove-requires : goal.remove-requires
remove-requires g c = c.requires.parts.stands

pub give_back-requires : goal.give_back-requires
give_back-requires g c =
    let m = g.B.BlockStore.blocks c.args.store.now in
    let mid = g.B.BlockStore.blocks c.remove.new.store in
    let removed = ap (without (entries_of m c.args.tree.now)) c.key.ensures in
    goes_live m c.args.tree.now (parts_of m c.args.tree.now) c.args.key c.args.was c.requires.parts c.requires.stands mid mid c.remove.new.self
    c.remove.ensures.sound (c.remove.ensures.removed ∙ removed) c.remove.ensures.changes

pub returns-clause-dropped : goal.returns-clause-dropped
returns-clause-dropped g c =
    let m = g.B.BlockStore.blocks c.args.store.now in
    let mid = g.B.BlockStore.blocks c.remove.new.store in
    let after = g.B.BlockStore.blocks c.give_back.new.self in
    let removed = ap (without (entries_of m c.args.tree.now)) c.key.ensures in
    λ s. goes m c.args.tree.now (parts_of m c.args.tree.now) c.args.key c.args.was c.requires.parts s mid after c.remove.new.self
    c.remove.ensures.sound (c.remove.ensures.removed ∙ removed) c.remove.ensures.changes c.give_back.ensures.ended

pub returns-clause-served : goal.returns-clause-served
returns-clause-served g c = served_next _ _ _ c.remove.ensures.served c.give_back.ensures.step

use Rattle.cmd_sets.proofs.Growing.{removed_goes, removed_is, removed_settled}
use Rattle.cmd_sets.proofs.removing.drop_one.Goals as goal

pub returns-in-Ok-clause-sound : goal.returns-in-Ok-clause-sound
returns-in-Ok-clause-sound g c =
    (removed_goes (g.B.BlockStore.blocks c.args.store.now) (g.B.BlockStore.blocks c.remove.new.store) c.args.set.now c.remove.new.self c.args.member.now c.remove.result c.requires
    c.remove.ensures.removed c.remove.ensures.same_set c.remove.ensures.same_blocks c.remove.ensures.err_set c.remove.ensures.err_blocks c.remove.ensures.err_removed).sound

pub returns-in-Ok-clause-settings : goal.returns-in-Ok-clause-settings
returns-in-Ok-clause-settings g c =
    (removed_goes (g.B.BlockStore.blocks c.args.store.now) (g.B.BlockStore.blocks c.remove.new.store) c.args.set.now c.remove.new.self c.args.member.now c.remove.result c.requires
    c.remove.ensures.removed c.remove.ensures.same_set c.remove.ensures.same_blocks c.remove.ensures.err_set c.remove.ensures.err_blocks c.remove.ensures.err_removed).settings

pub returns-in-Ok-clause-changes : goal.returns-in-Ok-clause-changes
returns-in-Ok-clause-changes g c =
    (removed_goes (g.B.BlockStore.blocks c.args.store.now) (g.B.BlockStore.blocks c.remove.new.store) c.args.set.now c.remove.new.self c.args.member.now c.remove.result c.requires
    c.remove.ensures.removed c.remove.ensures.same_set c.remove.ensures.same_blocks c.remove.ensures.err_set c.remove.ensures.err_blocks c.remove.ensures.err_removed).changes

pub returns-in-Err-clause-sound : goal.returns-in-Err-clause-sound
returns-in-Err-clause-sound g c =
    (removed_goes (g.B.BlockStore.blocks c.args.store.now) (g.B.BlockStore.blocks c.remove.new.store) c.args.set.now c.remove.new.self c.args.member.now c.remove.result c.requires
    c.remove.ensures.removed c.remove.ensures.same_set c.remove.ensures.same_blocks c.remove.ensures.err_set c.remove.ensures.err_blocks c.remove.ensures.err_removed).sound

pub returns-in-Err-clause-settings : goal.returns-in-Err-clause-settings
returns-in-Err-clause-settings g c =
    (removed_goes (g.B.BlockStore.blocks c.args.store.now) (g.B.BlockStore.blocks c.remove.new.store) c.args.set.now c.remove.new.self c.args.member.now c.remove.result c.requires
    c.remove.ensures.removed c.remove.ensures.same_set c.remove.ensures.same_blocks c.remove.ensures.err_set c.remove.ensures.err_blocks c.remove.ensures.err_removed).settings

pub returns-in-Err-clause-changes : goal.returns-in-Err-clause-changes
returns-in-Err-clause-changes g c =
    (removed_goes (g.B.BlockStore.blocks c.args.store.now) (g.B.BlockStore.blocks c.remove.new.store) c.args.set.now c.remove.new.self c.args.member.now c.remove.result c.requires
    c.remove.ensures.removed c.remove.ensures.same_set c.remove.ensures.same_blocks c.remove.ensures.err_set c.remove.ensures.err_blocks c.remove.ensures.err_removed).changes

pub returns-in-Ok-clause-members : goal.returns-in-Ok-clause-members
returns-in-Ok-clause-members g c =
    (removed_is (g.B.BlockStore.blocks c.args.store.now) (g.B.BlockStore.blocks c.remove.new.store) c.args.set.now c.remove.new.self c.args.member.now c.remove.result
    c.remove.ensures.there c.remove.ensures.removed c.remove.ensures.form c.remove.ensures.same_set c.remove.ensures.same_blocks _ c.in-Ok.is).0

pub returns-in-Ok-clause-form : goal.returns-in-Ok-clause-form
returns-in-Ok-clause-form g c =
    (removed_is (g.B.BlockStore.blocks c.args.store.now) (g.B.BlockStore.blocks c.remove.new.store) c.args.set.now c.remove.new.self c.args.member.now c.remove.result
    c.remove.ensures.there c.remove.ensures.removed c.remove.ensures.form c.remove.ensures.same_set c.remove.ensures.same_blocks _ c.in-Ok.is).1

pub returns-in-Ok-clause-grown : goal.returns-in-Ok-clause-grown
returns-in-Ok-clause-grown g c =
    (removed_goes (g.B.BlockStore.blocks c.args.store.now) (g.B.BlockStore.blocks c.remove.new.store) c.args.set.now c.remove.new.self c.args.member.now c.remove.result c.requires
    c.remove.ensures.removed c.remove.ensures.same_set c.remove.ensures.same_blocks c.remove.ensures.err_set c.remove.ensures.err_blocks c.remove.ensures.err_removed).grown

pub returns-in-Err-clause-grown : goal.returns-in-Err-clause-grown
returns-in-Err-clause-grown g c =
    (removed_goes (g.B.BlockStore.blocks c.args.store.now) (g.B.BlockStore.blocks c.remove.new.store) c.args.set.now c.remove.new.self c.args.member.now c.remove.result c.requires
    c.remove.ensures.removed c.remove.ensures.same_set c.remove.ensures.same_blocks c.remove.ensures.err_set c.remove.ensures.err_blocks c.remove.ensures.err_removed).grown

pub returns-in-Ok-clause-settles : goal.returns-in-Ok-clause-settles
returns-in-Ok-clause-settles g c =
    removed_settled (g.B.BlockStore.blocks c.args.store.now) (g.B.BlockStore.blocks c.remove.new.store) c.args.set.now c.remove.new.self c.args.member.now c.remove.result
    c.remove.ensures.settled c.remove.ensures.same_set c.remove.ensures.same_blocks _ c.in-Ok.is

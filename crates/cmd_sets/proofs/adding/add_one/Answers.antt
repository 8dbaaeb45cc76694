use Rattle.cmd_sets.proofs.Growing.{added_goes, added_is}
use Rattle.cmd_sets.proofs.adding.add_one.Goals as goal

pub returns-in-Ok-clause-sound : goal.returns-in-Ok-clause-sound
returns-in-Ok-clause-sound g c =
    (added_goes (g.B.BlockStore.blocks c.args.store.now) (g.B.BlockStore.blocks c.add.new.store) c.args.set.now c.add.new.self c.args.member.now c.add.result c.requires c.add.ensures.added
    c.add.ensures.same_set c.add.ensures.same_blocks).sound

pub returns-in-Ok-clause-settings : goal.returns-in-Ok-clause-settings
returns-in-Ok-clause-settings g c =
    (added_goes (g.B.BlockStore.blocks c.args.store.now) (g.B.BlockStore.blocks c.add.new.store) c.args.set.now c.add.new.self c.args.member.now c.add.result c.requires c.add.ensures.added
    c.add.ensures.same_set c.add.ensures.same_blocks).settings

pub returns-in-Ok-clause-changes : goal.returns-in-Ok-clause-changes
returns-in-Ok-clause-changes g c =
    (added_goes (g.B.BlockStore.blocks c.args.store.now) (g.B.BlockStore.blocks c.add.new.store) c.args.set.now c.add.new.self c.args.member.now c.add.result c.requires c.add.ensures.added
    c.add.ensures.same_set c.add.ensures.same_blocks).changes

pub returns-in-Ok-clause-members : goal.returns-in-Ok-clause-members
returns-in-Ok-clause-members g c =
    (added_is (g.B.BlockStore.blocks c.args.store.now) (g.B.BlockStore.blocks c.add.new.store) c.args.set.now c.add.new.self c.args.member.now c.add.result c.add.ensures.there
    c.add.ensures.added c.add.ensures.form c.add.ensures.same_set c.add.ensures.same_blocks _ c.in-Ok.is).0

pub returns-in-Ok-clause-form : goal.returns-in-Ok-clause-form
returns-in-Ok-clause-form g c =
    (added_is (g.B.BlockStore.blocks c.args.store.now) (g.B.BlockStore.blocks c.add.new.store) c.args.set.now c.add.new.self c.args.member.now c.add.result c.add.ensures.there
    c.add.ensures.added c.add.ensures.form c.add.ensures.same_set c.add.ensures.same_blocks _ c.in-Ok.is).1

pub returns-in-Err-clause-sound : goal.returns-in-Err-clause-sound
returns-in-Err-clause-sound g c =
    (added_goes (g.B.BlockStore.blocks c.args.store.now) (g.B.BlockStore.blocks c.add.new.store) c.args.set.now c.add.new.self c.args.member.now c.add.result c.requires c.add.ensures.added
    c.add.ensures.same_set c.add.ensures.same_blocks).sound

pub returns-in-Err-clause-settings : goal.returns-in-Err-clause-settings
returns-in-Err-clause-settings g c =
    (added_goes (g.B.BlockStore.blocks c.args.store.now) (g.B.BlockStore.blocks c.add.new.store) c.args.set.now c.add.new.self c.args.member.now c.add.result c.requires c.add.ensures.added
    c.add.ensures.same_set c.add.ensures.same_blocks).settings

pub returns-in-Err-clause-changes : goal.returns-in-Err-clause-changes
returns-in-Err-clause-changes g c =
    (added_goes (g.B.BlockStore.blocks c.args.store.now) (g.B.BlockStore.blocks c.add.new.store) c.args.set.now c.add.new.self c.args.member.now c.add.result c.requires c.add.ensures.added
    c.add.ensures.same_set c.add.ensures.same_blocks).changes

pub returns-in-Ok-clause-grown : goal.returns-in-Ok-clause-grown
returns-in-Ok-clause-grown g c =
    (added_goes (g.B.BlockStore.blocks c.args.store.now) (g.B.BlockStore.blocks c.add.new.store) c.args.set.now c.add.new.self c.args.member.now c.add.result c.requires c.add.ensures.added
    c.add.ensures.same_set c.add.ensures.same_blocks).grown

pub returns-in-Err-clause-grown : goal.returns-in-Err-clause-grown
returns-in-Err-clause-grown g c =
    (added_goes (g.B.BlockStore.blocks c.args.store.now) (g.B.BlockStore.blocks c.add.new.store) c.args.set.now c.add.new.self c.args.member.now c.add.result c.requires c.add.ensures.added
    c.add.ensures.same_set c.add.ensures.same_blocks).grown

use Rattle.std.specs.FinMap.{remove}
use Rattle.hash_object.specs.Fields.{fields}
use Rattle.cmd_hashes.proofs.Removed.{removed_keeps, removed_is, removed_settled}
use Rattle.cmd_hashes.proofs.deleting.unset_one.Goals as goal

pub returns-in_err-remove-clause-sound : goal.returns-in_err-remove-clause-sound
returns-in_err-remove-clause-sound g c =
    (removed_keeps (g.B.BlockStore.blocks c.args.store.now) (g.B.BlockStore.blocks c.remove.new.store) c.args.hash.now c.remove.new.self c.requires
    (remove (fields (g.B.BlockStore.blocks c.args.store.now) c.args.hash.now) c.args.field.now) c.remove.result c.remove.ensures.removed c.remove.ensures.same_fields
    c.remove.ensures.same_blocks c.remove.ensures.err_fields c.remove.ensures.err_blocks c.remove.ensures.err_removed).sound

pub returns-in_err-remove-clause-settings : goal.returns-in_err-remove-clause-settings
returns-in_err-remove-clause-settings g c =
    (removed_keeps (g.B.BlockStore.blocks c.args.store.now) (g.B.BlockStore.blocks c.remove.new.store) c.args.hash.now c.remove.new.self c.requires
    (remove (fields (g.B.BlockStore.blocks c.args.store.now) c.args.hash.now) c.args.field.now) c.remove.result c.remove.ensures.removed c.remove.ensures.same_fields
    c.remove.ensures.same_blocks c.remove.ensures.err_fields c.remove.ensures.err_blocks c.remove.ensures.err_removed).settings

pub returns-in_err-remove-clause-changes : goal.returns-in_err-remove-clause-changes
returns-in_err-remove-clause-changes g c =
    (removed_keeps (g.B.BlockStore.blocks c.args.store.now) (g.B.BlockStore.blocks c.remove.new.store) c.args.hash.now c.remove.new.self c.requires
    (remove (fields (g.B.BlockStore.blocks c.args.store.now) c.args.hash.now) c.args.field.now) c.remove.result c.remove.ensures.removed c.remove.ensures.same_fields
    c.remove.ensures.same_blocks c.remove.ensures.err_fields c.remove.ensures.err_blocks c.remove.ensures.err_removed).changes

pub returns-clause-sound : goal.returns-clause-sound
returns-clause-sound g c =
    (removed_keeps (g.B.BlockStore.blocks c.args.store.now) (g.B.BlockStore.blocks c.remove.new.store) c.args.hash.now c.remove.new.self c.requires
    (remove (fields (g.B.BlockStore.blocks c.args.store.now) c.args.hash.now) c.args.field.now) c.remove.result c.remove.ensures.removed c.remove.ensures.same_fields
    c.remove.ensures.same_blocks c.remove.ensures.err_fields c.remove.ensures.err_blocks c.remove.ensures.err_removed).sound

pub returns-clause-settings : goal.returns-clause-settings
returns-clause-settings g c =
    (removed_keeps (g.B.BlockStore.blocks c.args.store.now) (g.B.BlockStore.blocks c.remove.new.store) c.args.hash.now c.remove.new.self c.requires
    (remove (fields (g.B.BlockStore.blocks c.args.store.now) c.args.hash.now) c.args.field.now) c.remove.result c.remove.ensures.removed c.remove.ensures.same_fields
    c.remove.ensures.same_blocks c.remove.ensures.err_fields c.remove.ensures.err_blocks c.remove.ensures.err_removed).settings

pub returns-clause-changes : goal.returns-clause-changes
returns-clause-changes g c =
    (removed_keeps (g.B.BlockStore.blocks c.args.store.now) (g.B.BlockStore.blocks c.remove.new.store) c.args.hash.now c.remove.new.self c.requires
    (remove (fields (g.B.BlockStore.blocks c.args.store.now) c.args.hash.now) c.args.field.now) c.remove.result c.remove.ensures.removed c.remove.ensures.same_fields
    c.remove.ensures.same_blocks c.remove.ensures.err_fields c.remove.ensures.err_blocks c.remove.ensures.err_removed).changes

pub returns-clause-is : goal.returns-clause-is
returns-clause-is g c =
    removed_is (g.B.BlockStore.blocks c.args.store.now) (g.B.BlockStore.blocks c.remove.new.store) c.args.hash.now c.remove.new.self c.args.field.now c.in_ok-remove.field-0 c.remove.result
    c.in_ok-remove.was c.in_ok-remove.ensures.there c.remove.ensures.removed c.remove.ensures.same_fields c.remove.ensures.same_blocks

pub returns-in_err-remove-clause-grown : goal.returns-in_err-remove-clause-grown
returns-in_err-remove-clause-grown g c =
    (removed_keeps (g.B.BlockStore.blocks c.args.store.now) (g.B.BlockStore.blocks c.remove.new.store) c.args.hash.now c.remove.new.self c.requires
    (remove (fields (g.B.BlockStore.blocks c.args.store.now) c.args.hash.now) c.args.field.now) c.remove.result c.remove.ensures.removed c.remove.ensures.same_fields
    c.remove.ensures.same_blocks c.remove.ensures.err_fields c.remove.ensures.err_blocks c.remove.ensures.err_removed).grown

pub returns-clause-grown : goal.returns-clause-grown
returns-clause-grown g c =
    (removed_keeps (g.B.BlockStore.blocks c.args.store.now) (g.B.BlockStore.blocks c.remove.new.store) c.args.hash.now c.remove.new.self c.requires
    (remove (fields (g.B.BlockStore.blocks c.args.store.now) c.args.hash.now) c.args.field.now) c.remove.result c.remove.ensures.removed c.remove.ensures.same_fields
    c.remove.ensures.same_blocks c.remove.ensures.err_fields c.remove.ensures.err_blocks c.remove.ensures.err_removed).grown

pub returns-clause-settles : goal.returns-clause-settles
returns-clause-settles g c =
    removed_settled (g.B.BlockStore.blocks c.args.store.now) (g.B.BlockStore.blocks c.remove.new.store) c.args.hash.now c.remove.new.self c.remove.result c.remove.ensures.settled
    c.remove.ensures.same_fields c.remove.ensures.same_blocks c.in_ok-remove.field-0 c.in_ok-remove.was

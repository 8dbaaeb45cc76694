use Rattle.std.proofs.Common.{rules}
use Rattle.outside.specs.declared.faults.HostFault.{HostFault}
use Rattle.rdb_writer.specs.Saving.{saved}
use Rattle.rdb_writer.proofs.Whole.{file_kept, file_lost, lost_rose, lost_keeps, file_saved, file_keeps}
use Rattle.rdb_writer.proofs.saving.save.Goals as goal

pub returns-in_err-make-clause-saves : goal.returns-in_err-make-clause-saves
returns-in_err-make-clause-saves g c = let rose = c.in_err-make.ensures.tally.err in search (rules, rose)

pub returns-in_err-make-clause-others : goal.returns-in_err-make-clause-others
returns-in_err-make-clause-others g c = c.in_err-make.ensures.others

pub write_file-requires-clause-sound : goal.write_file-requires-clause-sound
write_file-requires-clause-sound g c = c.requires.sound

pub write_file-requires-clause-fit : goal.write_file-requires-clause-fit
write_file-requires-clause-fit g c = c.requires.fit

pub returns-in_err-keys-clause-saves : goal.returns-in_err-keys-clause-saves
returns-in_err-keys-clause-saves g c =
    let rose = lost_rose {D = HostFault} _ _ _ c.args.name.now c.in_ok-make.ensures c.in_err-keys.ensures.puts in
    search (rules, rose)

pub returns-in_err-keys-clause-others : goal.returns-in_err-keys-clause-others
returns-in_err-keys-clause-others g c = lost_keeps {D = HostFault} _ _ _ c.args.name.now c.in_ok-make.ensures c.in_err-keys.ensures.puts

pub returns-clause-saves : goal.returns-clause-saves
returns-clause-saves g c =
    let world = saved c.args.keyspace.now.bases (g.B.BlockStore.blocks c.args.keyspace.now.store) c.args.moment in
    file_saved {D = HostFault} _ _ _ c.args.name.now c.in_ok-make.ensures c.args.moment world (file_kept _ _ _ c.args.moment world c.in_ok-keys.ensures.puts c.in_ok-keep.ensures)

pub returns-clause-others : goal.returns-clause-others
returns-clause-others g c =
    let world = saved c.args.keyspace.now.bases (g.B.BlockStore.blocks c.args.keyspace.now.store) c.args.moment in
    file_keeps {D = HostFault} _ _ _ c.args.name.now c.in_ok-make.ensures c.args.moment world (file_kept _ _ _ c.args.moment world c.in_ok-keys.ensures.puts c.in_ok-keep.ensures)

pub returns-clause-keys : goal.returns-clause-keys
returns-clause-keys g c = c.in_ok-keys.ensures.keys

pub returns-in_err-keep-clause-saves : goal.returns-in_err-keep-clause-saves
returns-in_err-keep-clause-saves g c =
    let world = saved c.args.keyspace.now.bases (g.B.BlockStore.blocks c.args.keyspace.now.store) c.args.moment in
    let rose = lost_rose {D = HostFault} _ _ _ c.args.name.now c.in_ok-make.ensures (file_lost _ _ _ c.args.moment world _ c.in_ok-keys.ensures.puts c.in_err-keep.ensures) in
    search (rules, rose)

pub returns-in_err-keep-clause-others : goal.returns-in_err-keep-clause-others
returns-in_err-keep-clause-others g c =
    let world = saved c.args.keyspace.now.bases (g.B.BlockStore.blocks c.args.keyspace.now.store) c.args.moment in
    lost_keeps {D = HostFault} _ _ _ c.args.name.now c.in_ok-make.ensures (file_lost _ _ _ c.args.moment world _ c.in_ok-keys.ensures.puts c.in_err-keep.ensures)

use Rattle.std.proofs.Common.{rules}
use Rattle.rdb_parts.specs.Words.{header_word}
use Rattle.rdb_parts.proofs.Penned.{lost_then, adds_then}
use Rattle.rdb_writer.proofs.Whole.{file_put}
use Rattle.rdb_writer.proofs.saving.write_file.Goals as goal

pub write_databases-requires-clause-sound : goal.write_databases-requires-clause-sound
write_databases-requires-clause-sound g c = c.requires.sound

pub write_databases-requires-clause-fit : goal.write_databases-requires-clause-fit
write_databases-requires-clause-fit g c = c.requires.fit

pub returns-in_err-all-clause-puts : goal.returns-in_err-all-clause-puts
returns-in_err-all-clause-puts g c =
    let lost = lost_then _ _ _ c.new-pen.result c.write.new.self header_word c.in_ok-write.ensures c.in_err-all.ensures.writes in
    search (rules, lost)

pub returns-clause-puts : goal.returns-clause-puts
returns-clause-puts g c =
    let w = c.in_ok-all.ensures.writes in
    file_put c.args.keyspace.now.bases (g.B.BlockStore.blocks c.args.keyspace.now.store) c.args.moment c.requires.sound.arranged _ _ _ _ c.new-pen.result c.write.new.self c.write_databases.new.pen w.0
    c.new-pen.ensures.gathered c.new-pen.ensures.sum c.in_ok-write.ensures w.1 w.2 c.in_ok-close.ensures

pub returns-clause-keys : goal.returns-clause-keys
returns-clause-keys g c = c.in_ok-all.ensures.keys

pub returns-in_err-close-clause-puts : goal.returns-in_err-close-clause-puts
returns-in_err-close-clause-puts g c =
    let w = c.in_ok-all.ensures.writes in
    let lost = lost_then _ _ _ c.new-pen.result c.write_databases.new.pen _ (adds_then _ _ _ c.new-pen.result c.write.new.self c.write_databases.new.pen header_word w.0 c.in_ok-write.ensures w.1) c.in_err-close.ensures in
    search (rules, lost)

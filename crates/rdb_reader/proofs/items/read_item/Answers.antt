use Rattle.std.proofs.Common.{refl}
use Rattle.blocks.specs.Blocks.{no_step}
use Rattle.keyspace.proofs.Serving.{unmoved}
use Rattle.keyspace.specs.Databases.{means}
use Rattle.rdb_grammar.specs.Views.{text_of}
use Rattle.rdb_reader.specs.Loads.{any_key}
use Rattle.rdb_reader.proofs.Read.{key_part, fault_read, passed_read, deadline_read, database_read, key_kept, key_passed, key_again, key_fault, file_ends}
use Rattle.rdb_reader.proofs.items.read_item.Goals as goal

pub returns-in-Err-clause-reads : goal.returns-in-Err-clause-reads
returns-in-Err-clause-reads g c =
    let world = means 0 c.args.keyspace.now.bases (g.B.BlockStore.blocks c.args.keyspace.now.store) in
    rw c.not_read.ensures (fault_read c.args.bytes.now c.args.moment world c.args.so_far c.requires.held world c.in-Err.fault c.in-Err.ensures.fault)

pub returns-in-End-clause-reads : goal.returns-in-End-clause-reads
returns-in-End-clause-reads g c =
    let world = means 0 c.args.keyspace.now.bases (g.B.BlockStore.blocks c.args.keyspace.now.store) in
    let k = rw c.in-End.is at c.in-Ok.ensures.item in
    file_ends c.args.bytes.now c.args.moment world c.args.so_far c.requires.held k.0 k.1 _ k.2 k.3

pub returns-in-Passed-clause-reads : goal.returns-in-Passed-clause-reads
returns-in-Passed-clause-reads g c =
    let world = means 0 c.args.keyspace.now.bases (g.B.BlockStore.blocks c.args.keyspace.now.store) in
    passed_read c.args.bytes.now c.args.moment world c.args.so_far c.requires.held c.in-Ok.item.next (rw c.in-Passed.is at c.in-Ok.ensures.item)

pub returns-in-Deadline-clause-reads : goal.returns-in-Deadline-clause-reads
returns-in-Deadline-clause-reads g c =
    let world = means 0 c.args.keyspace.now.bases (g.B.BlockStore.blocks c.args.keyspace.now.store) in
    deadline_read c.args.bytes.now c.args.moment world c.args.so_far c.requires.held c.in-Ok.item.next _ (rw c.in-Deadline.is at c.in-Ok.ensures.item)

pub returns-in-Database-clause-reads : goal.returns-in-Database-clause-reads
returns-in-Database-clause-reads g c =
    let world = means 0 c.args.keyspace.now.bases (g.B.BlockStore.blocks c.args.keyspace.now.store) in
    database_read c.args.bytes.now c.args.moment world c.args.so_far c.requires.held c.in-Ok.item.next _ (rw c.in-Database.is at c.in-Ok.ensures.item)

pub read_key-requires-clause-stands : goal.read_key-requires-clause-stands
read_key-requires-clause-stands g c = key_part c.args.bytes.now c.args.so_far.at c.in-Ok.item.next _ _ (rw c.in-Key.is at c.in-Ok.ensures.item)

pub returns-in-Ok-Kept-default-clause-reads : goal.returns-in-Ok-Kept-default-clause-reads
returns-in-Ok-Kept-default-clause-reads g c =
    let blocks = g.B.BlockStore.blocks in
    let world = means 0 c.args.keyspace.now.bases (blocks c.args.keyspace.now.store) in
    let new = means 0 c.read_key.new.keyspace.bases (blocks c.read_key.new.keyspace.store) in
    let read = rw c.in-Ok-Kept-default.field-0-0-is at c.in-Ok-Kept-default.ensures.reads in
    key_kept c.args.bytes.now c.args.moment world c.args.so_far c.requires.held c.in-Ok-Kept-default.next _ read.value read.stands new read.puts

pub returns-in-Ok-Passed-default-clause-reads : goal.returns-in-Ok-Passed-default-clause-reads
returns-in-Ok-Passed-default-clause-reads g c =
    let blocks = g.B.BlockStore.blocks in
    let world = means 0 c.args.keyspace.now.bases (blocks c.args.keyspace.now.store) in
    let new = means 0 c.read_key.new.keyspace.bases (blocks c.read_key.new.keyspace.store) in
    let read = rw c.in-Ok-Passed-default.field-0-0-is at c.in-Ok-Passed-default.ensures.reads in
    key_passed c.args.bytes.now c.args.moment world c.args.so_far c.requires.held c.in-Ok-Passed-default.next _ read.value read.stands new read.puts

pub returns-in-Ok-Twice-default-clause-reads : goal.returns-in-Ok-Twice-default-clause-reads
returns-in-Ok-Twice-default-clause-reads g c =
    let blocks = g.B.BlockStore.blocks in
    let world = means 0 c.args.keyspace.now.bases (blocks c.args.keyspace.now.store) in
    let read = rw c.in-Ok-Twice-default.field-0-0-is at c.in-Ok-Twice-default.ensures.reads in
    key_again c.args.bytes.now c.args.moment world c.args.so_far c.requires.held c.in-Ok-Twice-default.field-0-1 _ read.value read.stands read.puts

pub returns-in-Err-read_key-clause-reads : goal.returns-in-Err-read_key-clause-reads
returns-in-Err-read_key-clause-reads g c =
    let blocks = g.B.BlockStore.blocks in
    let old = c.args.keyspace.now in
    let new = c.read_key.new.keyspace in
    key_fault c.args.bytes.now c.args.moment (means 0 old.bases (blocks old.store)) c.args.so_far c.requires.held (means c.args.so_far.db old.bases (blocks old.store))
    (means c.args.so_far.db new.bases (blocks new.store)) (means 0 new.bases (blocks new.store)) (text_of c.in-Key.name) c.in-Err-read_key.fault c.in-Err-read_key.ensures.reads

pub read_key-requires-clause-db : goal.read_key-requires-clause-db
read_key-requires-clause-db g c = c.requires.held.selected

pub read_key-requires-clause-latest : goal.read_key-requires-clause-latest
read_key-requires-clause-latest g c = c.requires.held.latest

pub read_key-requires-clause-sound : goal.read_key-requires-clause-sound
read_key-requires-clause-sound g c = c.requires.sound

pub returns-in-Err-clause-sound : goal.returns-in-Err-clause-sound
returns-in-Err-clause-sound g c = c.requires.sound

pub returns-in-Err-clause-served : goal.returns-in-Err-clause-served
returns-in-Err-clause-served g c = no_step

pub returns-in-Err-clause-settings : goal.returns-in-Err-clause-settings
returns-in-Err-clause-settings g c = record { limits = refl; seed = refl; turn = refl }

pub returns-in-Err-clause-within : goal.returns-in-Err-clause-within
returns-in-Err-clause-within g c = unmoved any_key c.args.keyspace.now.bases (g.B.BlockStore.blocks c.args.keyspace.now.store)

pub returns-in-Err-clause-form : goal.returns-in-Err-clause-form
returns-in-Err-clause-form g c = tt

pub returns-in-End-clause-sound : goal.returns-in-End-clause-sound
returns-in-End-clause-sound g c = c.requires.sound

pub returns-in-End-clause-served : goal.returns-in-End-clause-served
returns-in-End-clause-served g c = no_step

pub returns-in-End-clause-settings : goal.returns-in-End-clause-settings
returns-in-End-clause-settings g c = record { limits = refl; seed = refl; turn = refl }

pub returns-in-End-clause-within : goal.returns-in-End-clause-within
returns-in-End-clause-within g c = unmoved any_key c.args.keyspace.now.bases (g.B.BlockStore.blocks c.args.keyspace.now.store)

pub returns-in-End-clause-form : goal.returns-in-End-clause-form
returns-in-End-clause-form g c news = news

pub returns-in-Passed-clause-sound : goal.returns-in-Passed-clause-sound
returns-in-Passed-clause-sound g c = c.requires.sound

pub returns-in-Passed-clause-served : goal.returns-in-Passed-clause-served
returns-in-Passed-clause-served g c = no_step

pub returns-in-Passed-clause-settings : goal.returns-in-Passed-clause-settings
returns-in-Passed-clause-settings g c = record { limits = refl; seed = refl; turn = refl }

pub returns-in-Passed-clause-within : goal.returns-in-Passed-clause-within
returns-in-Passed-clause-within g c = unmoved any_key c.args.keyspace.now.bases (g.B.BlockStore.blocks c.args.keyspace.now.store)

pub returns-in-Passed-clause-form : goal.returns-in-Passed-clause-form
returns-in-Passed-clause-form g c news = news

pub returns-in-Deadline-clause-sound : goal.returns-in-Deadline-clause-sound
returns-in-Deadline-clause-sound g c = c.requires.sound

pub returns-in-Deadline-clause-served : goal.returns-in-Deadline-clause-served
returns-in-Deadline-clause-served g c = no_step

pub returns-in-Deadline-clause-settings : goal.returns-in-Deadline-clause-settings
returns-in-Deadline-clause-settings g c = record { limits = refl; seed = refl; turn = refl }

pub returns-in-Deadline-clause-within : goal.returns-in-Deadline-clause-within
returns-in-Deadline-clause-within g c = unmoved any_key c.args.keyspace.now.bases (g.B.BlockStore.blocks c.args.keyspace.now.store)

pub returns-in-Deadline-clause-form : goal.returns-in-Deadline-clause-form
returns-in-Deadline-clause-form g c news = news

pub returns-in-Database-clause-sound : goal.returns-in-Database-clause-sound
returns-in-Database-clause-sound g c = c.requires.sound

pub returns-in-Database-clause-served : goal.returns-in-Database-clause-served
returns-in-Database-clause-served g c = no_step

pub returns-in-Database-clause-settings : goal.returns-in-Database-clause-settings
returns-in-Database-clause-settings g c = record { limits = refl; seed = refl; turn = refl }

pub returns-in-Database-clause-within : goal.returns-in-Database-clause-within
returns-in-Database-clause-within g c = unmoved any_key c.args.keyspace.now.bases (g.B.BlockStore.blocks c.args.keyspace.now.store)

pub returns-in-Database-clause-form : goal.returns-in-Database-clause-form
returns-in-Database-clause-form g c news = news

pub returns-in-Ok-Kept-default-clause-sound : goal.returns-in-Ok-Kept-default-clause-sound
returns-in-Ok-Kept-default-clause-sound g c = c.read_key.ensures.sound

pub returns-in-Ok-Kept-default-clause-served : goal.returns-in-Ok-Kept-default-clause-served
returns-in-Ok-Kept-default-clause-served g c = c.read_key.ensures.served

pub returns-in-Ok-Kept-default-clause-settings : goal.returns-in-Ok-Kept-default-clause-settings
returns-in-Ok-Kept-default-clause-settings g c = c.read_key.ensures.settings

pub returns-in-Ok-Kept-default-clause-within : goal.returns-in-Ok-Kept-default-clause-within
returns-in-Ok-Kept-default-clause-within g c = c.read_key.ensures.within

pub returns-in-Ok-Kept-default-clause-form : goal.returns-in-Ok-Kept-default-clause-form
returns-in-Ok-Kept-default-clause-form g c = c.in-Ok-Kept-default.ensures.form

pub returns-in-Ok-Passed-default-clause-sound : goal.returns-in-Ok-Passed-default-clause-sound
returns-in-Ok-Passed-default-clause-sound g c = c.read_key.ensures.sound

pub returns-in-Ok-Passed-default-clause-served : goal.returns-in-Ok-Passed-default-clause-served
returns-in-Ok-Passed-default-clause-served g c = c.read_key.ensures.served

pub returns-in-Ok-Passed-default-clause-settings : goal.returns-in-Ok-Passed-default-clause-settings
returns-in-Ok-Passed-default-clause-settings g c = c.read_key.ensures.settings

pub returns-in-Ok-Passed-default-clause-within : goal.returns-in-Ok-Passed-default-clause-within
returns-in-Ok-Passed-default-clause-within g c = c.read_key.ensures.within

pub returns-in-Ok-Passed-default-clause-form : goal.returns-in-Ok-Passed-default-clause-form
returns-in-Ok-Passed-default-clause-form g c = c.in-Ok-Passed-default.ensures.form

pub returns-in-Ok-Twice-default-clause-sound : goal.returns-in-Ok-Twice-default-clause-sound
returns-in-Ok-Twice-default-clause-sound g c = c.read_key.ensures.sound

pub returns-in-Ok-Twice-default-clause-served : goal.returns-in-Ok-Twice-default-clause-served
returns-in-Ok-Twice-default-clause-served g c = c.read_key.ensures.served

pub returns-in-Ok-Twice-default-clause-settings : goal.returns-in-Ok-Twice-default-clause-settings
returns-in-Ok-Twice-default-clause-settings g c = c.read_key.ensures.settings

pub returns-in-Ok-Twice-default-clause-within : goal.returns-in-Ok-Twice-default-clause-within
returns-in-Ok-Twice-default-clause-within g c = c.read_key.ensures.within

pub returns-in-Ok-Twice-default-clause-form : goal.returns-in-Ok-Twice-default-clause-form
returns-in-Ok-Twice-default-clause-form g c = tt

pub returns-in-Err-read_key-clause-sound : goal.returns-in-Err-read_key-clause-sound
returns-in-Err-read_key-clause-sound g c = c.read_key.ensures.sound

pub returns-in-Err-read_key-clause-served : goal.returns-in-Err-read_key-clause-served
returns-in-Err-read_key-clause-served g c = c.read_key.ensures.served

pub returns-in-Err-read_key-clause-settings : goal.returns-in-Err-read_key-clause-settings
returns-in-Err-read_key-clause-settings g c = c.read_key.ensures.settings

pub returns-in-Err-read_key-clause-within : goal.returns-in-Err-read_key-clause-within
returns-in-Err-read_key-clause-within g c = c.read_key.ensures.within

pub returns-in-Err-read_key-clause-form : goal.returns-in-Err-read_key-clause-form
returns-in-Err-read_key-clause-form g c = tt

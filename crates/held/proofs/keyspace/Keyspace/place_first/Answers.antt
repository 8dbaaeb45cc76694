use Rattle.blocks.proofs.Serve.{served_next}
use Rattle.held.proofs.Calls.{placed_blocks, placed_bytes, placed_intact, placed_lacks, new_means, new_only, new_arranged, new_changes, back_means, back_arranged, back_blocks, back_keys, back_owned}
use Rattle.held.proofs.Calls.{new_within, back_within}
use Rattle.held.specs.Scopes.{one_key}
use Rattle.held.proofs.Within.{within_same}
use Rattle.std.proofs.Common.{refl}
use Rattle.held.proofs.keyspace.Keyspace.place_first.Goals as goal

pub insert_hashed-requires-clause-keyed : goal.insert_hashed-requires-clause-keyed
insert_hashed-requires-clause-keyed g c =
    let m = g.B.BlockStore.blocks c.args.self.now.store in
    let mid = g.B.BlockStore.blocks c.put_block.new.store in
    (placed_intact g.V.Stored.refs_of g.V.Stored.value_of g.met.V.Stored.reads_own c.args.self.now.bases m mid c.in-Ok.at c.args.key.now c.args.value c.requires.intact
    c.in-Ok.ensures.placed c.in-Ok.ensures.changes).arranged.keyed c.args.db

pub insert_hashed-requires-clause-timed : goal.insert_hashed-requires-clause-timed
insert_hashed-requires-clause-timed g c =
    let m = g.B.BlockStore.blocks c.args.self.now.store in
    let mid = g.B.BlockStore.blocks c.put_block.new.store in
    (placed_intact g.V.Stored.refs_of g.V.Stored.value_of g.met.V.Stored.reads_own c.args.self.now.bases m mid c.in-Ok.at c.args.key.now c.args.value c.requires.intact
    c.in-Ok.ensures.placed c.in-Ok.ensures.changes).arranged.timed c.args.db

pub insert_hashed-requires-clause-named : goal.insert_hashed-requires-clause-named
insert_hashed-requires-clause-named g c =
    let m = g.B.BlockStore.blocks c.args.self.now.store in
    let mid = g.B.BlockStore.blocks c.put_block.new.store in
    placed_bytes g.V.Stored.refs_of g.V.Stored.value_of g.met.V.Stored.reads_own c.args.self.now.bases m mid c.in-Ok.at c.args.key.now c.args.value c.requires.intact c.in-Ok.ensures.placed
    c.in-Ok.ensures.changes

pub insert_hashed-requires-clause-lacks : goal.insert_hashed-requires-clause-lacks
insert_hashed-requires-clause-lacks g c =
    let m = g.B.BlockStore.blocks c.args.self.now.store in
    let mid = g.B.BlockStore.blocks c.put_block.new.store in
    placed_lacks g.V.Stored.refs_of g.V.Stored.value_of g.met.V.Stored.reads_own c.args.self.now.bases m mid c.in-Ok.at c.args.key.now c.args.value c.requires.intact c.in-Ok.ensures.placed
    c.in-Ok.ensures.changes c.args.db c.requires.lacks

pub returns-in-Ok-insert_hashed-clause-means : goal.returns-in-Ok-insert_hashed-clause-means
returns-in-Ok-insert_hashed-clause-means g c =
    let m = g.B.BlockStore.blocks c.args.self.now.store in
    let mid = g.B.BlockStore.blocks c.put_block.new.store in
    new_means g.V.Stored.refs_of g.V.Stored.value_of g.met.V.Stored.reads_own c.args.self.now.bases m mid c.in-Ok.at c.args.key.now c.args.value c.requires.intact c.in-Ok.ensures.placed
    c.in-Ok.ensures.changes c.insert_hashed.new.self c.args.db c.args.deadline c.in-Ok-insert_hashed.ensures.joins

pub returns-in-Ok-insert_hashed-clause-arranged : goal.returns-in-Ok-insert_hashed-clause-arranged
returns-in-Ok-insert_hashed-clause-arranged g c =
    let m = g.B.BlockStore.blocks c.args.self.now.store in
    let mid = g.B.BlockStore.blocks c.put_block.new.store in
    new_arranged g.V.Stored.refs_of g.V.Stored.value_of g.met.V.Stored.reads_own c.args.self.now.bases m mid c.in-Ok.at c.args.key.now c.args.value c.requires.intact c.in-Ok.ensures.placed
    c.in-Ok.ensures.changes c.insert_hashed.new.self c.args.db c.args.deadline c.in-Ok-insert_hashed.ensures.joins

pub returns-in-Ok-insert_hashed-clause-changes : goal.returns-in-Ok-insert_hashed-clause-changes
returns-in-Ok-insert_hashed-clause-changes g c =
    let m = g.B.BlockStore.blocks c.args.self.now.store in
    let mid = g.B.BlockStore.blocks c.put_block.new.store in
    new_changes g.V.Stored.refs_of g.V.Stored.value_of g.met.V.Stored.reads_own c.args.self.now.bases m mid c.in-Ok.at c.args.key.now c.args.value c.requires.intact c.in-Ok.ensures.placed
    c.in-Ok.ensures.changes c.insert_hashed.new.self c.args.db c.args.deadline c.in-Ok-insert_hashed.ensures.joins

pub returns-in-Err-clause-kept : goal.returns-in-Err-clause-kept
returns-in-Err-clause-kept g c =
    let m = g.B.BlockStore.blocks c.args.self.now.store in
    let mid = g.B.BlockStore.blocks c.put_block.new.store in
    let after = g.B.BlockStore.blocks c.give_back.new.self in
    back_means g.V.Stored.refs_of g.V.Stored.value_of g.met.V.Stored.reads_own c.args.self.now.bases m mid c.in-Ok.at c.args.key.now c.args.value c.requires.intact c.in-Ok.ensures.placed
    c.in-Ok.ensures.changes c.in-Ok.ensures.fresh c.insert_hashed.new.self c.args.db c.in-Err.ensures.stays after c.give_back.ensures.ended

pub returns-in-Err-clause-arranged : goal.returns-in-Err-clause-arranged
returns-in-Err-clause-arranged g c =
    let m = g.B.BlockStore.blocks c.args.self.now.store in
    let mid = g.B.BlockStore.blocks c.put_block.new.store in
    let after = g.B.BlockStore.blocks c.give_back.new.self in
    back_arranged g.V.Stored.refs_of g.V.Stored.value_of g.met.V.Stored.reads_own c.args.self.now.bases m mid c.in-Ok.at c.args.key.now c.args.value c.requires.intact
    c.in-Ok.ensures.placed c.in-Ok.ensures.changes c.in-Ok.ensures.fresh c.insert_hashed.new.self c.args.db c.in-Err.ensures.stays after c.give_back.ensures.ended

pub returns-in-Err-clause-err_blocks : goal.returns-in-Err-clause-err_blocks
returns-in-Err-clause-err_blocks g c =
    let m = g.B.BlockStore.blocks c.args.self.now.store in
    let mid = g.B.BlockStore.blocks c.put_block.new.store in
    let after = g.B.BlockStore.blocks c.give_back.new.self in
    back_blocks g.V.Stored.refs_of g.V.Stored.value_of g.met.V.Stored.reads_own c.args.self.now.bases m mid c.in-Ok.at c.args.key.now c.args.value c.requires.intact c.in-Ok.ensures.placed
    c.in-Ok.ensures.changes c.in-Ok.ensures.fresh c.insert_hashed.new.self c.args.db c.in-Err.ensures.stays after c.give_back.ensures.ended

pub returns-in-Err-clause-err_keys : goal.returns-in-Err-clause-err_keys
returns-in-Err-clause-err_keys g c =
    let m = g.B.BlockStore.blocks c.args.self.now.store in
    let mid = g.B.BlockStore.blocks c.put_block.new.store in
    let after = g.B.BlockStore.blocks c.give_back.new.self in
    back_keys g.V.Stored.refs_of g.V.Stored.value_of g.met.V.Stored.reads_own c.args.self.now.bases m mid c.in-Ok.at c.args.key.now c.args.value c.requires.intact c.in-Ok.ensures.placed
    c.in-Ok.ensures.changes c.in-Ok.ensures.fresh c.insert_hashed.new.self c.args.db c.in-Err.ensures.stays after c.give_back.ensures.ended

pub returns-in-Err-clause-err_owned : goal.returns-in-Err-clause-err_owned
returns-in-Err-clause-err_owned g c =
    let m = g.B.BlockStore.blocks c.args.self.now.store in
    let mid = g.B.BlockStore.blocks c.put_block.new.store in
    let after = g.B.BlockStore.blocks c.give_back.new.self in
    back_owned g.V.Stored.refs_of g.V.Stored.value_of g.met.V.Stored.reads_own c.args.self.now.bases m mid c.in-Ok.at c.args.key.now c.args.value c.requires.intact c.in-Ok.ensures.placed
    c.in-Ok.ensures.changes c.in-Ok.ensures.fresh c.insert_hashed.new.self c.args.db c.in-Err.ensures.stays after c.give_back.ensures.ended

pub returns-in-Err-clause-served : goal.returns-in-Err-clause-served
returns-in-Err-clause-served g c = served_next _ _ _ c.put_block.ensures.served c.give_back.ensures.step

pub returns-in-Ok-insert_hashed-clause-within : goal.returns-in-Ok-insert_hashed-clause-within
returns-in-Ok-insert_hashed-clause-within g c = new_within g.V.Stored.refs_of g.V.Stored.value_of g.met.V.Stored.reads_own c.args.self.now.bases
    (g.B.BlockStore.blocks c.args.self.now.store) (g.B.BlockStore.blocks c.put_block.new.store) c.in-Ok.at c.args.key.now c.args.value c.requires.intact c.in-Ok.ensures.placed
    c.in-Ok.ensures.changes c.insert_hashed.new.self c.args.db c.args.deadline c.in-Ok-insert_hashed.ensures.joins c.requires.db

pub returns-in-Err-clause-within : goal.returns-in-Err-clause-within
returns-in-Err-clause-within g c = back_within g.V.Stored.refs_of g.V.Stored.value_of g.met.V.Stored.reads_own c.args.self.now.bases (g.B.BlockStore.blocks c.args.self.now.store)
    (g.B.BlockStore.blocks c.put_block.new.store) c.in-Ok.at c.args.key.now c.args.value c.requires.intact c.in-Ok.ensures.placed c.in-Ok.ensures.changes c.in-Ok.ensures.fresh
    c.insert_hashed.new.self c.args.db c.in-Err.ensures.stays (g.B.BlockStore.blocks c.give_back.new.self) c.give_back.ensures.ended c.requires.db

pub returns-in_default-clause-within : goal.returns-in_default-clause-within
returns-in_default-clause-within g c = within_same g.V.Stored.refs_of (one_key c.args.db c.args.key.now) c.args.self.now.bases c.args.self.now.bases
    (g.B.BlockStore.blocks c.args.self.now.store) (g.B.BlockStore.blocks c.put_block.new.store) refl c.in_default.ensures.err_blocks

pub returns-in-Ok-insert_hashed-clause-has : goal.returns-in-Ok-insert_hashed-clause-has
returns-in-Ok-insert_hashed-clause-has g c =
    let m = g.B.BlockStore.blocks c.args.self.now.store in
    let mid = g.B.BlockStore.blocks c.put_block.new.store in
    new_only g.V.Stored.refs_of g.V.Stored.value_of g.met.V.Stored.reads_own c.args.self.now.bases m mid c.in-Ok.at c.args.key.now c.args.value c.requires.intact c.in-Ok.ensures.placed
    c.in-Ok.ensures.changes c.insert_hashed.new.self c.args.db c.args.deadline c.in-Ok-insert_hashed.ensures.joins

pub returns-in-Ok-insert_hashed-clause-value_blocks : goal.returns-in-Ok-insert_hashed-clause-value_blocks
returns-in-Ok-insert_hashed-clause-value_blocks g c =
    let m = g.B.BlockStore.blocks c.args.self.now.store in
    let mid = g.B.BlockStore.blocks c.put_block.new.store in
    placed_blocks g.V.Stored.refs_of g.V.Stored.value_of g.met.V.Stored.reads_own c.args.self.now.bases m mid c.in-Ok.at c.args.key.now c.args.value c.requires.intact
    c.in-Ok.ensures.placed c.in-Ok.ensures.changes

use Rattle.held.proofs.Calls.{clear_arranged, set_arranged, set_times}
use Rattle.held.specs.Scopes.{no_key}
use Rattle.held.proofs.Within.{within_times}
use Rattle.std.proofs.Common.{refl}
use Rattle.held.proofs.keyspace.Keyspace.retime.Goals as goal

pub returns-in-None-clause-arranged : goal.returns-in-None-clause-arranged
returns-in-None-clause-arranged g c =
    clear_arranged g.V.Stored.refs_of g.V.Stored.value_of g.met.V.Stored.reads_own c.args.self.now.bases c.clear_deadline.new.self c.args.db (g.B.BlockStore.blocks c.args.self.now.store)
    c.requires.arranged c.args.key.now c.clear_deadline.ensures.changes c.clear_deadline.ensures.moments c.clear_deadline.ensures.cleared c.clear_deadline.ensures.keyed

pub returns-in-Some-clause-arranged : goal.returns-in-Some-clause-arranged
returns-in-Some-clause-arranged g c =
    set_arranged g.V.Stored.refs_of g.V.Stored.value_of g.met.V.Stored.reads_own c.args.self.now.bases c.set_deadline.new.self c.args.db (g.B.BlockStore.blocks c.args.self.now.store)
    c.requires.arranged c.args.at c.args.key.now c.requires.stands c.key-name.result c.key-name.ensures c.in-Some.deadline c.args.deadline c.in-Some.is c.requires.latest
    c.set_deadline.result
    c.set_deadline.ensures.changes c.set_deadline.ensures.set c.set_deadline.ensures.keyed c.set_deadline.ensures.err

pub returns-in-Some-clause-times : goal.returns-in-Some-clause-times
returns-in-Some-clause-times g c =
    set_times g.V.Stored.refs_of g.V.Stored.value_of g.met.V.Stored.reads_own c.args.self.now.bases c.set_deadline.new.self c.args.db (g.B.BlockStore.blocks c.args.self.now.store)
    c.requires.arranged c.args.at c.args.key.now c.requires.stands c.key-name.result c.key-name.ensures c.in-Some.deadline c.args.deadline c.in-Some.is c.set_deadline.result
    c.set_deadline.ensures.moments

pub returns-in-None-clause-within : goal.returns-in-None-clause-within
returns-in-None-clause-within g c =
    within_times g.V.Stored.refs_of (no_key c.args.db) c.args.self.now.bases c.clear_deadline.new.self (g.B.BlockStore.blocks c.args.self.now.store) c.args.db refl c.requires.arranged
    c.requires.db c.clear_deadline.ensures.changes c.clear_deadline.ensures.grown c.clear_deadline.ensures.cursor

pub returns-in-Some-clause-within : goal.returns-in-Some-clause-within
returns-in-Some-clause-within g c =
    within_times g.V.Stored.refs_of (no_key c.args.db) c.args.self.now.bases c.set_deadline.new.self (g.B.BlockStore.blocks c.args.self.now.store) c.args.db refl c.requires.arranged
    c.requires.db c.set_deadline.ensures.changes c.set_deadline.ensures.grown c.set_deadline.ensures.cursor

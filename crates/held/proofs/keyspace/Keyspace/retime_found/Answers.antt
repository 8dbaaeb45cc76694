use Rattle.std.proofs.Common.{refl, sym, ◌∙◌}
use Rattle.expiry.specs.Timed.{moments}
use Rattle.held.specs.Databases.{deadlines_at}
use Rattle.held.specs.Scopes.{no_key}
use Rattle.held.proofs.Maps.{same_deadline}
use Rattle.held.proofs.Timing.{moments_lack}
use Rattle.held.proofs.Within.{within_none, within_times}
use Rattle.held.proofs.Calls.{clear_arranged, set_arranged, set_times}
use Rattle.held.proofs.keyspace.Keyspace.retime_found.Goals as goal

pub returns-in-None-timed-clause-times : goal.returns-in-None-timed-clause-times
returns-in-None-timed-clause-times g c =
    let m = g.B.BlockStore.blocks c.args.self.now.store in
    sym (same_deadline (moments m (deadlines_at c.args.self.now.bases c.args.db)) c.args.key.now c.args.deadline
    (moments_lack m (deadlines_at c.args.self.now.bases c.args.db) c.args.key.now (c.requires.arranged.timed c.args.db).keyed (rw c.in-None-timed.is at c.requires.untimed) ∙ sym c.in-None.is))

pub returns-in-None-timed-clause-within : goal.returns-in-None-timed-clause-within
returns-in-None-timed-clause-within g c = within_none g.V.Stored.refs_of (no_key c.args.db) c.args.self.now.bases (g.B.BlockStore.blocks c.args.self.now.store)

pub returns-in-Some-timed-clause-arranged : goal.returns-in-Some-timed-clause-arranged
returns-in-Some-timed-clause-arranged g c =
    clear_arranged g.V.Stored.refs_of g.V.Stored.value_of g.met.V.Stored.reads_own c.args.self.now.bases c.clear_deadline.new.self c.args.db (g.B.BlockStore.blocks c.args.self.now.store)
    c.requires.arranged c.args.key.now c.clear_deadline.ensures.changes c.clear_deadline.ensures.moments c.clear_deadline.ensures.cleared c.clear_deadline.ensures.keyed

pub returns-in-Some-timed-clause-within : goal.returns-in-Some-timed-clause-within
returns-in-Some-timed-clause-within g c =
    within_times g.V.Stored.refs_of (no_key c.args.db) c.args.self.now.bases c.clear_deadline.new.self (g.B.BlockStore.blocks c.args.self.now.store) c.args.db refl c.requires.arranged
    c.requires.db c.clear_deadline.ensures.changes c.clear_deadline.ensures.grown c.clear_deadline.ensures.cursor

pub returns-in-Some-clause-arranged : goal.returns-in-Some-clause-arranged
returns-in-Some-clause-arranged g c =
    set_arranged g.V.Stored.refs_of g.V.Stored.value_of g.met.V.Stored.reads_own c.args.self.now.bases c.set_deadline.new.self c.args.db (g.B.BlockStore.blocks c.args.self.now.store)
    c.requires.arranged c.args.at c.args.key.now c.requires.stands c.key-name.result c.key-name.ensures c.in-Some.deadline c.args.deadline c.in-Some.is c.requires.latest
    c.set_deadline.result
    c.set_deadline.ensures.changes c.set_deadline.ensures.set c.set_deadline.ensures.keyed c.set_deadline.ensures.err

pub returns-in-Some-clause-times : goal.returns-in-Some-clause-times
returns-in-Some-clause-times g c =
    set_times g.V.Stored.refs_of g.V.Stored.value_of g.met.V.Stored.reads_own c.args.self.now.bases c.set_deadline.new.self c.args.db (g.B.BlockStore.blocks c.args.self.now.store)
    c.requires.arranged c.args.at c.args.key.now c.requires.stands c.key-name.result c.key-name.ensures c.in-Some.deadline c.args.deadline c.in-Some.is c.set_deadline.result
    c.set_deadline.ensures.moments

pub returns-in-Some-clause-within : goal.returns-in-Some-clause-within
returns-in-Some-clause-within g c =
    within_times g.V.Stored.refs_of (no_key c.args.db) c.args.self.now.bases c.set_deadline.new.self (g.B.BlockStore.blocks c.args.self.now.store) c.args.db refl c.requires.arranged
    c.requires.db c.set_deadline.ensures.changes c.set_deadline.ensures.grown c.set_deadline.ensures.cursor

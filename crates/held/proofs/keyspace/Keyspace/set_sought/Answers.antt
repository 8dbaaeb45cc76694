use Rattle.std.proofs.Common.{is_some, refl, sym, ap}
use Rattle.held.proofs.Calls.{look_lacks, look_stands, retimed_entry, retimed_sound}
use Rattle.held.specs.Scopes.{no_key}
use Rattle.held.proofs.Within.{within_none}
use Rattle.held.proofs.keyspace.Keyspace.set_sought.Goals as goal

pub returns-in-None-clause-answer : goal.returns-in-None-clause-answer
returns-in-None-clause-answer g c = ap is_some
    (sym
    (look_lacks g.V.Stored.refs_of g.V.Stored.value_of g.met.V.Stored.reads_own c.args.self.now.bases c.args.db (g.B.BlockStore.blocks c.args.self.now.store) c.requires.intact.arranged
    c.args.key.now (rw c.in-None.is at c.requires.seeks.lacks)))

pub returns-in-None-clause-means : goal.returns-in-None-clause-means
returns-in-None-clause-means g c entry is =
    let none = look_lacks g.V.Stored.refs_of g.V.Stored.value_of g.met.V.Stored.reads_own c.args.self.now.bases c.args.db (g.B.BlockStore.blocks c.args.self.now.store)
    c.requires.intact.arranged c.args.key.now (rw c.in-None.is at c.requires.seeks.lacks) in
    cc

pub returns-in_ok-retime_found-in-Some-clause-answer : goal.returns-in_ok-retime_found-in-Some-clause-answer
returns-in_ok-retime_found-in-Some-clause-answer g c =
    let stands = (rw c.in-Some.is at c.requires.seeks.stands) in
    ap is_some
    (sym
    (look_stands g.V.Stored.refs_of g.V.Stored.value_of g.met.V.Stored.reads_own c.args.self.now.bases c.args.db (g.B.BlockStore.blocks c.args.self.now.store)
    c.requires.intact.arranged c.args.key.now c.in-Some.at stands.element stands.found stands.bytes _ refl))

pub returns-in_ok-retime_found-in-Some-clause-means : goal.returns-in_ok-retime_found-in-Some-clause-means
returns-in_ok-retime_found-in-Some-clause-means g c entry is =
    retimed_entry g.V.Stored.refs_of g.V.Stored.value_of g.met.V.Stored.reads_own c.args.self.now.bases c.retime_found.new.self.bases c.args.db
    (g.B.BlockStore.blocks c.args.self.now.store) c.retime_found.ensures.changes c.retime_found.ensures.arranged c.requires.intact.arranged c.in-Some.at c.args.key.now
    (rw c.in-Some.is at c.requires.seeks.stands) c.args.to c.in_ok-retime_found-in-Some.ensures.times entry is

pub returns-in_ok-retime_found-in-Some-clause-absent : goal.returns-in_ok-retime_found-in-Some-clause-absent
returns-in_ok-retime_found-in-Some-clause-absent g c is =
    let stands = (rw c.in-Some.is at c.requires.seeks.stands) in
    let some = look_stands g.V.Stored.refs_of g.V.Stored.value_of g.met.V.Stored.reads_own c.args.self.now.bases c.args.db (g.B.BlockStore.blocks c.args.self.now.store)
    c.requires.intact.arranged c.args.key.now c.in-Some.at stands.element stands.found stands.bytes _ refl in
    cc

pub returns-in_ok-retime_found-in-Some-clause-sound : goal.returns-in_ok-retime_found-in-Some-clause-sound
returns-in_ok-retime_found-in-Some-clause-sound g c = retimed_sound g.V.Stored.refs_of g.V.Stored.value_of g.met.V.Stored.reads_own c.args.self.now.bases c.retime_found.new.self.bases
    c.args.db (g.B.BlockStore.blocks c.args.self.now.store) c.retime_found.ensures.changes c.retime_found.ensures.arranged

pub returns-in-None-clause-within : goal.returns-in-None-clause-within
returns-in-None-clause-within g c = within_none g.V.Stored.refs_of (no_key c.args.db) c.args.self.now.bases (g.B.BlockStore.blocks c.args.self.now.store)

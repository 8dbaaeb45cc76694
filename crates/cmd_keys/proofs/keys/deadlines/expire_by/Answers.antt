use Rattle.std.proofs.Common.{rules, is_some, sym, ap}
use Rattle.plain_world.specs.Worlds.{deadline_of}
use Rattle.std.specs.Prelude.{FitsSigned}
use Rattle.std.specs.Int.{w64}
use Rattle.std.proofs.lemmas.Int.{to_z-of_z}
use Rattle.keyspace.specs.Commands.{visible}
use Rattle.keyspace.specs.Scopes.{no_key}
use Rattle.keyspace.proofs.Running.{unchanged, calm}
use Rattle.cmd_keys.proofs.KeyLemmas.{number_calm, expire_given}
use Rattle.cmd_keys.proofs.keys.deadlines.expire_by.Goals as goal

pub returns-then-not-permits-clause-kept : goal.returns-then-not-permits-clause-kept
returns-then-not-permits-clause-kept g c = unchanged g.B.BlockStore.blocks g.B.BlockStore.step (no_key c.args.at.now.db) c.args.keyspace.now c.count_reply-then-not-permits.result
    c.requires.ready.sound

pub returns-in_ok-expire_sought-in-Some-there-clause-kept : goal.returns-in_ok-expire_sought-in-Some-there-clause-kept
returns-in_ok-expire_sought-in-Some-there-clause-kept g c =
    calm g.B.BlockStore.blocks g.B.BlockStore.step (no_key c.args.at.now.db) c.args.keyspace.now c.expire_sought.new.keyspace c.count_reply-in-Some-there.result
    (number_calm _ c.count_reply-in-Some-there.result c.count_reply-in-Some-there.ensures) c.expire_sought.ensures.held

pub returns-in-None-there-clause-kept : goal.returns-in-None-there-clause-kept
returns-in-None-there-clause-kept g c =
    unchanged g.B.BlockStore.blocks g.B.BlockStore.step (no_key c.args.at.now.db) c.args.keyspace.now _ c.requires.ready.sound

pub returns-in-None-clause-kept : goal.returns-in-None-clause-kept
returns-in-None-clause-kept g c =
    unchanged g.B.BlockStore.blocks g.B.BlockStore.step (no_key c.args.at.now.db) c.args.keyspace.now _ c.requires.ready.sound

pub returns-in_ok-expire_sought-in-Some-there-clause-gives : goal.returns-in_ok-expire_sought-in-Some-there-clause-gives
returns-in_ok-expire_sought-in-Some-there-clause-gives g c =
    let typed = rw c.in-Some.is at c.due.type_inv in
    let fits : FitsSigned w64 c.in-Some.due = record { sfits = typed.1.1.1.1.0.1 } in
    expire_given (visible g.B.BlockStore.blocks c.args.keyspace.now c.args.at.now) (visible g.B.BlockStore.blocks c.expire_sought.new.keyspace c.args.at.now) c.args.at.now.moment
    c.args.key.now c.args.time c.args.options c.in-Some.due c.seek-found.result.deadline c.count_reply-in-Some-there.result
    c.in-Some.ensures.some fits (ap is_some (rw c.in-Some-there.is at c.seek-found.ensures.until).stands)
    (sym (ap deadline_of (rw c.in-Some-there.is at c.seek-found.ensures.until).stands)) (search rules)
    (rw (to_z-of_z w64 c.in-Some.due fits) at c.in_ok-expire_sought-in-Some-there.ensures.world) c.count_reply-in-Some-there.ensures

use Rattle.std.proofs.Common.{None, Some, sym, ◌∙◌, arith}
use Rattle.keyspace.specs.Databases.{means}
use Rattle.std.proofs.lemmas.Bool.{cond-true, cond-false, le-leb}
use Rattle.keyspace.proofs.Seen.{seen_deadline, not_le}
use Rattle.keyspace.proofs.deadlines.deadline_at.Goals as goal

pub returns-in-None-clause-value : goal.returns-in-None-clause-value
returns-in-None-clause-value g c = seen_deadline (means c.args.at.now.db c.args.keyspace.now.bases (g.B.BlockStore.blocks c.args.keyspace.now.store)) c.args.at.now.moment c.args.key.now
    None c.in-None.ensures.value

pub returns-then-deadline-at-clause-value : goal.returns-then-deadline-at-clause-value
returns-then-deadline-at-clause-value g c =
    sym (cond-false _ _ _ (not_le c.args.at.now.moment c.in-Some.deadline (omega (arith, c.if-deadline-at.true))))
    ∙ seen_deadline (means c.args.at.now.db c.args.keyspace.now.bases (g.B.BlockStore.blocks c.args.keyspace.now.store)) c.args.at.now.moment c.args.key.now (Some c.in-Some.deadline)
    c.in-Some.ensures.value

pub returns-else-deadline-at-clause-value : goal.returns-else-deadline-at-clause-value
returns-else-deadline-at-clause-value g c =
    sym (cond-true _ _ _ (le-leb c.args.at.now.moment c.in-Some.deadline (omega (arith, c.if-deadline-at.false))))
    ∙ seen_deadline (means c.args.at.now.db c.args.keyspace.now.bases (g.B.BlockStore.blocks c.args.keyspace.now.store)) c.args.at.now.moment c.args.key.now (Some c.in-Some.deadline)
    c.in-Some.ensures.value

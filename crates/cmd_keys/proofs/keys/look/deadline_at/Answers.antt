use Rattle.std.proofs.Common.{sym, ap, ◌∙◌}
use Rattle.std.proofs.lemmas.Bool.{leb-true}
use Rattle.plain_world.specs.Worlds.{in_time}
use Rattle.plain_world.proofs.Lives.{was_in_time}
use Rattle.plain_model.specs.KeySteps.{time_told, deadline_told}
use Rattle.keyspace.specs.Databases.{means}
use Rattle.cmd_keys.proofs.keys.look.deadline_at.Goals as goal

pub returns-in-None-clause-is : goal.returns-in-None-clause-is
returns-in-None-clause-is g c tell = ap (time_told tell) (rw c.in-None.is at c.seek-found.ensures.gone)

pub returns-in-None-deadline-clause-is : goal.returns-in-None-deadline-clause-is
returns-in-None-deadline-clause-is g c tell = ap (time_told tell) (rw c.in-Some.is at c.seek-found.ensures.until).stands ∙ ap (deadline_told tell) c.in-None-deadline.is

pub returns-in-Some-deadline-clause-is : goal.returns-in-Some-deadline-clause-is
returns-in-Some-deadline-clause-is g c tell = ap (time_told tell) (rw c.in-Some.is at c.seek-found.ensures.until).stands ∙ ap (deadline_told tell) c.in-Some-deadline.is

pub returns-in-Some-deadline-clause-ahead : goal.returns-in-Some-deadline-clause-ahead
returns-in-Some-deadline-clause-ahead g c =
    let world = means c.args.at.now.db c.args.keyspace.now.bases (g.B.BlockStore.blocks c.args.keyspace.now.store) in
    let late = (was_in_time world c.args.at.now.moment c.args.key.now _ (rw c.in-Some.is at c.seek-found.ensures.until).stands).1 in
    record {
      later = leb-true c.args.at.now.moment c.in-Some-deadline.deadline (ap (in_time c.args.at.now.moment) (sym c.in-Some-deadline.is) ∙ late);
      latest = rw c.in-Some-deadline.is at c.seek-found.ensures.latest;
    }

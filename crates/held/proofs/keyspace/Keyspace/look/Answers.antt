use Rattle.held.proofs.keyspace.Keyspace.look.Goals as goal

pub returns-clause-found : goal.returns-clause-found
returns-clause-found g c = c.value_at.ensures c.args.key.now c.args.moment c.in_ok-at.ensures.found

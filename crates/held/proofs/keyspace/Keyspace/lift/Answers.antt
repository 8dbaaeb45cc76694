use Rattle.held.specs.Scopes.{one_key}
use Rattle.held.proofs.Within.{within_none}
use Rattle.held.proofs.keyspace.Keyspace.lift.Goals as goal

pub returns-clause-lifts : goal.returns-clause-lifts
returns-clause-lifts g c = c.lift_at.ensures.lifts c.args.key.now c.args.moment c.in_ok-item.ensures.found

pub returns-clause-sound : goal.returns-clause-sound
returns-clause-sound g c = c.lift_at.ensures.sound c.args.key.now c.args.moment c.in_ok-item.ensures.found

pub returns-clause-within : goal.returns-clause-within
returns-clause-within g c = c.lift_at.ensures.within c.args.key.now c.args.moment c.in_ok-item.ensures.found

pub returns-in_err-item-clause-within : goal.returns-in_err-item-clause-within
returns-in_err-item-clause-within g c = within_none g.V.Stored.refs_of (one_key c.args.db c.args.key.now) c.args.self.now.bases (g.B.BlockStore.blocks c.args.self.now.store)

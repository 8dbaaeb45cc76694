use Rattle.std.proofs.Common.{rules, sym, ap, ◌∙◌}
use Rattle.plain_world.specs.Worlds.{in_time}
use Rattle.held.proofs.Picking.{named_stands}
use Rattle.held.proofs.keyspace.Keyspace.there.Goals as goal

pub returns-clause-found : goal.returns-clause-found
returns-clause-found g c = record {
  stands = named_stands g.V.Stored.refs_of g.V.Stored.value_of g.met.V.Stored.reads_own c.args.self.now.bases c.args.db c.args.moment (g.B.BlockStore.blocks c.args.self.now.store)
      c.args.at c.key.result c.bytes-key.result.now c.key.ensures c.bytes-key.ensures;
  in_time = ap (in_time c.args.moment) c.deadline-deadline.ensures.value ∙ sym c.is_in_time.ensures ∙ (search rules);
}

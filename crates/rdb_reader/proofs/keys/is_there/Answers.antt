use Rattle.std.proofs.Common.{◌∙◌}
use Rattle.rdb_reader.proofs.Entries.{is_found}
use Rattle.rdb_reader.proofs.keys.is_there.Goals as goal

pub returns : goal.returns
returns g c = c.is_some.ensures ∙ is_found c.args.db c.args.keyspace.now.bases _ c.args.name.now (λ v. v.now) c.look.result c.look.ensures.found c.look.ensures.none

use Rattle.std.proofs.Common.{set, ap}
use Rattle.held.specs.Databases.{Bases}
use Rattle.held.proofs.Tables.{others_stay}
use Rattle.held.proofs.databases.Databases.take.Goals as goal

pub returns-clause-changes : goal.returns-clause-changes
returns-clause-changes g c =
    others_stay c.args.self.now _ c.args.db c.replace-was.new.dest (ap (λ (b : Bases _). set b.bases c.args.db c.replace-was.new.dest) c.self.view_is)
    (record { limits = ap (λ (b : Bases _). b.limits) c.self.view_is; seed = ap (λ (b : Bases _). b.seed) c.self.view_is; turn = ap (λ (b : Bases _). b.turn) c.self.view_is })

use Rattle.std.proofs.Common.{refl, sym, ap, ◌∙◌, arith}
use Rattle.held.specs.declared.databases.Base.{Base}
use Rattle.held.specs.Table.{Table, item}
use Rattle.held.specs.Databases.{Bases}
use Rattle.held.proofs.Tables.{place_is}
use Rattle.held.proofs.databases.Databases.passed.Goals as goal

pub returns-clause-passed : goal.returns-clause-passed
returns-clause-passed g c =
    let there = c.table-deadlines.ensures ∙ ap (λ (b : Base _). b.deadlines.table)
    (place_is c.self.inside.bases.items c.args.self.now c.args.db c.index.result.now (ap (λ (b : Bases _). b.bases) c.self.view_is) c.requires c.index.ensures) in
    record {
      element = record { key = c.entry.result.0; hash = c.entry.ensures.hash; value = c.entry.result.1.now };
      found = ap (λ (t : Table _). item t c.args.at) (sym there) ∙ c.entry.ensures.found;
      named = refl;
      late = omega (arith, c.if-moment-deadline.false);
    }

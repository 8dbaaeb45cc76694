use Rattle.std.proofs.Common.{◌≡◌, replicate}
use Rattle.held.specs.Databases.{no_base}
use Rattle.held.proofs.databases.Databases.new.Given as goal

abbrev pub invariant-loop : goal.invariant-loop
invariant-loop g l = l.bases.items ≡ replicate l.counter (no_base l.seed)

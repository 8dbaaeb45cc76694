use Rattle.std.proofs.Common.{◌≡◌, ◌<◌, ℕ, false}
use Rattle.held.specs.Rehash.{deadlines_move}
use Rattle.held.proofs.keyspace.Keyspace.step_deadlines.Given as goal

abbrev pub invariant-loop-db : goal.invariant-loop-db
invariant-loop-db g l = record {
  same : l.self ≡ l.fn.self;
  none : (number : ℕ) → number < l.db → deadlines_move l.fn.self.bases number ≡ false;
}

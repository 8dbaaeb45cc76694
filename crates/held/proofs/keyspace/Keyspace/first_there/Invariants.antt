use Rattle.std.proofs.Common.{ℕ, ◌≤◌, ◌<◌, List}
use Rattle.held.specs.Calls.{StandsAt}
use Rattle.held.proofs.keyspace.Keyspace.first_there.Given as goal

abbrev pub invariant-loop-at : goal.invariant-loop-at
invariant-loop-at g l = (i : ℕ) (key : List ℕ) → l.from ≤ i → i < l.at → StandsAt l.self.bases (g.B.BlockStore.blocks l.self.store) l.db key l.moment i → ⊥

use Rattle.std.proofs.Common.{◌≡◌, ℕ, List, drop}
use Rattle.std.specs.FinMap.{get}
use Rattle.plain_model.specs.ZsetSteps.{weights_of}
use Rattle.keyspace.specs.Commands.{visible}
use Rattle.cmd_zsets.specs.Joined.{gathered, met_each, scores_here}
use Rattle.cmd_zsets.proofs.joining.add_each.Given as goal

abbrev pub invariant-loop-key : goal.invariant-loop-key
invariant-loop-key g l =
    let world = visible g.B.BlockStore.blocks l.keyspace l.at in
    (member : List ℕ) → met_each l.join l.how (get (gathered l.all) member) (weights_of (drop l.key-index l.keys)) (scores_here world (drop l.key-index l.keys)) member ≡ met_each l.join
    l.how (get (gathered l.fn.all) member) (weights_of l.keys) (scores_here world l.keys) member

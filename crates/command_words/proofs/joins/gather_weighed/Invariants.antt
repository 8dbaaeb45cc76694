use Rattle.std.proofs.Common.{◌≡◌, ◌++◌, List, Ok, drop}
use Rattle.std.specs.Prelude.{ℤ}
use Rattle.plain_model.specs.ZsetWords.{weighed}
use Rattle.command_words.specs.Joins.{weights_at}
use Rattle.command_words.proofs.Weights.{keys_of}
use Rattle.command_words.proofs.joins.gather_weighed.Given as goal

-- the list and the keys that are left with their weights are all keys with theirs
abbrev pub invariant-loop-index : goal.invariant-loop-index
invariant-loop-index l = (own : List ℤ) × (weights_at l.request l.count l.weights ≡ Ok own)
    × (l.list ++ weighed (drop l.index own) (drop l.index (keys_of l.request l.count)) ≡ weighed own (keys_of l.request l.count))

use Rattle.std.proofs.Common.{◌≡◌, drop}
use Rattle.plain_model.specs.ZsetWords.{asks_scores}
use Rattle.command_table.proofs.zsets.asks_scores.Given as goal

-- whether it stands among all words is told by those that are left
abbrev pub invariant-loop-index : goal.invariant-loop-index
invariant-loop-index l = asks_scores (drop l.from l.request) ≡ asks_scores (drop l.index l.request)

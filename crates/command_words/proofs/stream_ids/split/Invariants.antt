use Rattle.std.proofs.Common.{◌≡◌, ◌++◌, take, drop}
use Rattle.plain_model.specs.IdTexts.{before_dash, behind_dash}
use Rattle.command_words.proofs.stream_ids.split.Given as goal

-- no `-` stands among the bytes that were passed
abbrev pub invariant-loop-index : goal.invariant-loop-index
invariant-loop-index l = (before_dash l.text ≡ take l.index l.text ++ before_dash (drop l.index l.text)) × (behind_dash l.text ≡ behind_dash (drop l.index l.text))

use Rattle.std.proofs.Common.{◌≡◌, ℕ, List, drop}
use Rattle.std.specs.Prelude.{IfOk}
use Rattle.plain_model.specs.Shapes.{EntryId}
use Rattle.plain_model.specs.StreamWords.{each_told}
use Rattle.command_words.proofs.Gathering.{in_front}
use Rattle.command_words.proofs.stream_reads.ids.Given as goal

-- the ids that were read stand in front of what the words that are left are, and are kept where there was memory
abbrev pub invariant-loop-index : goal.invariant-loop-index
invariant-loop-index l = (kept : List (ℕ × ℕ)) × (each_told EntryId (drop l.from l.request) ≡ in_front kept (each_told EntryId (drop l.index l.request))) × IfOk l.list (λ list. list ≡ kept)

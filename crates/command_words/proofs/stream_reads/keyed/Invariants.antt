use Rattle.std.proofs.Common.{◌≡◌, ◌≤◌, ◌+◌, ◌-◌, ℕ, List, Option, drop}
use Rattle.std.specs.Prelude.{IfOk}
use Rattle.plain_model.specs.StreamWords.{keyed}
use Rattle.command_words.proofs.Gathering.{in_front}
use Rattle.command_words.proofs.stream_reads.keyed.Given as goal

-- the keys with their ids that were read stand in front of those that are left, and are kept where there was memory
abbrev pub invariant-loop-index : goal.invariant-loop-index
invariant-loop-index l =
    ((kept : List (List ℕ × Option (ℕ × ℕ)))
    × (keyed l.sign (drop l.from l.request) (drop (l.from + l.count) l.request) ≡ in_front kept (keyed l.sign (drop (l.index - l.count) l.request) (drop l.index l.request)))
    × IfOk l.list (λ list. list ≡ kept))
    × (l.count ≤ l.index)

use Rattle.std.proofs.Common.{◌-◌, length}
use Rattle.resp_frames.proofs.Parts.{FoundTo}
use Rattle.resp_frames.proofs.line.push_words.Given as goal

abbrev pub invariant-words : goal.invariant-words
invariant-words l = FoundTo l.line l.spans.items l.at

abbrev pub decreases-words : goal.decreases-words
decreases-words l = length l.line - l.at

use Rattle.std.proofs.Common.{◌-◌, length}
use Rattle.resp_frames.specs.RequestRead.{StandsAtLength}
use Rattle.resp_frames.proofs.whole.read_words.Given as goal

abbrev pub invariant-words : goal.invariant-words
invariant-words l = StandsAtLength l.bytes l.at l.words 0 l.spans.items

abbrev pub decreases-words : goal.decreases-words
decreases-words l = length l.bytes - l.at

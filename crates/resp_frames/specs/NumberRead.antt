-- What the reading of a number of words tells.
use Rattle.std.specs.Prelude.{◌≡◌, ℕ, ◌<◌, ◌≤◌, List, decimal}
use Rattle.resp_frames.specs.Frames.{IsNoCount, most_words}
use Rattle.resp_frames.specs.Faults.{IsCount}
use Rattle.resp_frames.specs.declared.number.Count.{Count}
use Rattle.resp_frames.specs.declared.number.Count.TheVariants as counts

abbrev pub ReadsCount : List ℕ → Count → Type 0
ReadsCount text counts.Passed = IsNoCount text
ReadsCount text (counts.Words n) = (0 < n) × (n ≤ most_words) × (text ≡ decimal n)
ReadsCount text counts.Wrong = IsCount text → ⊥

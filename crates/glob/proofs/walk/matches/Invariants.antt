use Rattle.std.proofs.Common.{◌≤◌, ◌+◌, ◌-◌, ◌*◌, length}
use Rattle.glob.proofs.Walks.{Walked, chances}
use Rattle.glob.proofs.walk.matches.Given as goal

abbrev pub invariant-loop-place : goal.invariant-loop-place
invariant-loop-place l = record {
  pattern_in : l.place.pattern ≤ length l.pattern;
  text_in : l.place.text ≤ length l.text;
  walked : Walked l.pattern l.text l.place.pattern l.place.text l.last_star;
}

abbrev pub decreases-loop-place : goal.decreases-loop-place
decreases-loop-place l = chances l.text l.last_star * (length l.pattern + 1) + (length l.pattern - l.place.pattern)

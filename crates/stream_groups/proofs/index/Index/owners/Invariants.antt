use Rattle.std.proofs.Common.{◌≡◌, ◌++◌}
use Rattle.std.specs.FinMap as map
use Rattle.stream_groups.specs.Seen.{seen_entries}
use Rattle.stream_groups.specs.Index.{IdSet, counted}
use Rattle.stream_groups.specs.Kept.{bytes_of}
use Rattle.stream_groups.specs.Waits.{owner_pairs}
use Rattle.stream_groups.proofs.index.Index.owners.Given as goal

abbrev pub invariant-loop-name : goal.invariant-loop-name
invariant-loop-name l = owner_pairs l.owners.items ++ seen_entries bytes_of (λ (ids : IdSet). map.len ids) l.rest ≡ counted l.self

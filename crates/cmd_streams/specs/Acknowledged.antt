-- Ids of a group that were acknowledged.
use Rattle.std.specs.Prelude.{◌≡◌, ℕ, ◌-◌, List, Option, None, Some}
use Rattle.std.specs.FinMap.{get, len}
use Rattle.stream_groups.specs.Groups.{Id, Group, changed}
use Rattle.plain_world.specs.Streams.{Stream}
use Rattle.plain_model.specs.GroupSteps.{regrouped, without_ids}

-- how many ids are pending in a group
abbrev pub waits : Option Group → ℕ
waits None = 0
waits (Some group) = len group.pending

-- These ids aren't pending in a group any more, and so many of them were.
pub record Acknowledges (name : List ℕ) (ids : List Id) (gone : ℕ) (old new : Stream) : Type 0 where
  pub is : new ≡ regrouped old (changed old.groups name (without_ids ids))
  pub counted : gone ≡ waits (get old.groups name) - waits (get new.groups name)

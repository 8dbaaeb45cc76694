-- What is read out of one group of a stream.
use Rattle.std.specs.Prelude.{◌≡◌, ℕ, List, [], map, Option, None, Some}
use Rattle.std.specs.FinMap.{entries, keys}
use Rattle.stream_groups.specs.Groups.{Id, Pending, Group}
use Rattle.told_values.specs.declared.groups.ToldGroup.{ToldGroup}
use Rattle.stream_object.specs.Streams.{pair_of}
use Rattle.told_values.specs.Told.{texts_told, pending_told, group_told, IsOrderedGroup}

-- the names of a group's consumers; none where no such group is
abbrev pub consumers_in : Option Group → List (List ℕ)
consumers_in None = []
consumers_in (Some group) = keys group.consumers

-- what is pending in a group, by rising ids
abbrev pub pending_in : Option Group → List (Id × Pending)
pending_in None = []
pending_in (Some group) = entries group.pending

-- this group was read out, in order
pub record TellsGroup (found : Option (List ℕ × Group)) (g : ToldGroup) : Type 0 where
  pub told : found ≡ Some (group_told g)
  pub ordered : IsOrderedGroup g

-- the name, the last id, the consumers and what is pending, in their order
abbrev pub group_listed : ToldGroup → List ℕ × Id × List (List ℕ) × List (Id × Pending)
group_listed g = (g.name.items, pair_of g.last, texts_told g.consumers.items, map pending_told g.pending.items)

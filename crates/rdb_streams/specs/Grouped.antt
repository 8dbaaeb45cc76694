-- A group of a stream as it is read.
use Rattle.std.specs.Prelude.{◌≡◌, ℕ, List, unwrap_or}
use Rattle.std.specs.FinMap.{get, insert}
use Rattle.stream_groups.specs.Groups.{Group, Groups, new_group}
use Rattle.stream_object.specs.declared.stream.Stream.{Stream as Log}
use Rattle.rdb_grammar.specs.declared.values.StreamType.{StreamType}
use Rattle.rdb_grammar.specs.Format.{Format, followed, give}
use Rattle.rdb_grammar.specs.StreamParts.{Begun, begun, counted, group_last, with_consumer, with_unclaimed}
use Rattle.rdb_streams.specs.Claims.{Claims}

-- the group of a name
abbrev pub group_in : Groups → List ℕ → Group
group_in groups name = unwrap_or (get groups name) (new_group (0, 0))

-- with what is pending in it for none
abbrev pub begun_in : Groups → List ℕ → Claims → Begun
begun_in groups name unclaimed = record { group = group_in groups name; unclaimed = unclaimed }

-- the group of a name alone may have changed; it is there
abbrev pub ChangesGroup : Log → Log → List ℕ → Type 0
ChangesGroup old new name = new ≡ record old { groups = insert old.groups name (group_in new.groups name) }

-- what follows a group's name, with the name
abbrev pub behind_name : StreamType → List ℕ → Format (List ℕ × Begun)
behind_name type name =
    followed (group_last type) λ last. followed (counted with_unclaimed (begun last)) λ pending.
    followed (counted (with_consumer type) pending) λ made. give (name, made)

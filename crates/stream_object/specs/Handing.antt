-- What a group hands out. (Redis command reference, "XREADGROUP".)
use Rattle.std.specs.Prelude.{ℕ, Bool, List, [], ◌∷◌, map, take, Option, Some, None}
use Rattle.std.specs.List.{filter, find}
use Rattle.std.specs.Option.{option_map}
use Rattle.std.specs.Ordering.{is_lt}
use Rattle.stream_groups.specs.Groups.{Id, Group, id_cmp, delivered, ids_of, with_again, with_consumer}
use Rattle.plain_world.specs.Streams.{Stream, StreamEntry}
use Rattle.stream_object.specs.declared.again.Again.{Again}
use Rattle.stream_object.specs.Ranges.{taken}
use Rattle.stream_object.specs.Streams.{has_id, pair_of}

-- whether an entry's id is above another id
abbrev pub is_later : Id → StreamEntry → Bool
is_later last e = is_lt (id_cmp last e.id)

-- the first entries, up to a limit, that come after the last id which a group has handed out
abbrev pub fresh : Stream → ℕ → Group → List StreamEntry
fresh s limit group = take limit (filter (is_later group.last) s.entries)

-- the group that has handed them to a consumer
abbrev pub handed : Stream → List ℕ → ℕ → ℕ → Group → Group
handed s consumer limit moment group = delivered consumer (map (λ (e : StreamEntry). e.id) (fresh s limit group)) moment group

-- an id that is handed out again, with its entry where the stream still has it
abbrev pub told : Again → Id × Option StreamEntry
told again = (pair_of again.id, option_map taken again.pairs)

-- ids, each with its entry where there is one
abbrev pub with_entries : List StreamEntry → List Id → List (Id × Option StreamEntry)
with_entries es ids = map (λ id. (id, find (has_id id) es)) ids

-- the ids that are pending for a consumer above another id, up to a limit, with their entries
abbrev pub waiting : List StreamEntry → List ℕ → Id → ℕ → Group → List (Id × Option StreamEntry)
waiting es consumer above limit group = with_entries es (ids_of group.pending consumer above limit)

-- the group in which an id is handed out once more, where its entry is there
abbrev pub once_more : ℕ → Id → Option StreamEntry → Group → Group
once_more moment id None group = group
once_more moment id (Some e) group = with_again id moment group

abbrev pub all_again : ℕ → List (Id × Option StreamEntry) → Group → Group
all_again moment [] group = group
all_again moment (t ∷ more) group = all_again moment more (once_more moment t.0 t.1 group)

-- the group that has handed out once more to a consumer what is pending for it
abbrev pub handed_again : List StreamEntry → List ℕ → Id → ℕ → ℕ → Group → Group
handed_again es consumer above limit moment group =
    all_again moment (waiting es consumer above limit group) (with_consumer consumer group)

-- How groups are kept: names in maps of std by their bytes, and the name of a pending entry's consumer shared with the
-- consumers.
use Rattle.std.specs.Prelude.{ℕ, List, [], ◌∷◌, map as list_map, Option, Some, None, if◌then◌else◌}
use Rattle.std.specs.Option.{option_map}
use Rattle.std.specs.List.Sorted.{IsStrictlySortedBy}
use Rattle.std.specs.Map.{keys_of}
use Rattle.std.specs.declared.cmp.Ordering.{Ordering}
use Rattle.std.specs.FinMap as map
use Rattle.std.specs.FinMap.{FinMap}
use Rattle.std.specs.declared.vec.Vec.{Vec}
use Rattle.std.specs.declared.alloc.Global.{Global}
use Rattle.stream_groups.specs.declared.entries.Handed.{Handed}
use Rattle.stream_groups.specs.Seen.{seen}
use Rattle.stream_groups.specs.Groups.{Id, Pending, Pendings, id_cmp, name_cmp}

-- bytes of their own
abbrev pub Name : Type 0
Name = Vec ℕ Global

abbrev pub bytes_of : Name → List ℕ
bytes_of name = name.items

-- entries by their names
abbrev pub named : {X Y : Type 0} → (X → Y) → List (Name × X) → FinMap name_cmp Y
named value es = seen name_cmp bytes_of value es

-- entries by their ids
abbrev pub numbered : {X Y : Type 0} → (X → Y) → List (Id × X) → FinMap id_cmp Y
numbered value es = seen id_cmp (λ id. id) value es

-- names by their bytes, as std orders them
abbrev pub by_bytes : Name → Name → Ordering
by_bytes x y = name_cmp x.items y.items

-- the names strictly rise
abbrev pub NamesRise : {X : Type 0} → List (Name × X) → Type 0
NamesRise es = IsStrictlySortedBy by_bytes (keys_of es)

-- the ids strictly rise
abbrev pub IdsRise : {X : Type 0} → List (Id × X) → Type 0
IdsRise es = IsStrictlySortedBy id_cmp (keys_of es)

abbrev pub pending_of : Handed → Pending
pending_of handed = record { consumer = handed.consumer.value.items; moment = handed.moment; count = handed.count }

-- which ids are pending, by the entries of a map of std
abbrev pub pendings_of : List (Id × Handed) → Pendings
pendings_of es = numbered pending_of es

-- what an id was is put back: an entry where the id is pending, or nothing
abbrev pub restored : Pendings → Id → Option Pending → Pendings
restored pending id None = map.remove pending id
restored pending id (Some entry) = if map.contains_key pending id then map.insert pending id entry else pending

-- what the ids were is put back, the last one first
abbrev pub undone : Pendings → List Id → List (Option Pending) → Pendings
undone pending [] log = pending
undone pending (id ∷ ids) [] = pending
undone pending (id ∷ ids) (was ∷ log) = restored (undone pending ids log) id was

-- what each id was, as it is kept
abbrev pub logged : List (Option Handed) → List (Option Pending)
logged log = list_map (option_map pending_of) log

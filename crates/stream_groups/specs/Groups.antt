-- The consumer groups of one stream (Redis command reference, "XGROUP CREATE", "XREADGROUP", "XACK" and "XPENDING").
use Rattle.std.specs.Prelude.{◌≡◌, ℕ, ◌+◌, ◌-◌, ◌^◌, min, ◌==◌, List, [], ◌∷◌, take, map as list_map, Bool, true, false, Option, Some, None, if◌then◌else◌}
use Rattle.std.specs.List.{filter, count_by}
use Rattle.std.specs.Option.{option_map}
use Rattle.std.specs.declared.cmp.Ordering.{Ordering}
use Rattle.std.specs.Ordering.{nat_cmp, ordering_then, eq_by_cmp, is_lt}
use Rattle.std.specs.Cmp.Lexicographic.{slice_cmp}
use Rattle.std.specs.FinMap as map
use Rattle.std.specs.FinMap.{FinMap}

-- an id: milliseconds, and a number among those of the same millisecond
abbrev pub Id : Type 0
Id = ℕ × ℕ

-- ids by their milliseconds first
abbrev pub id_cmp : Id → Id → Ordering
id_cmp x y = ordering_then (nat_cmp x.0 y.0) (nat_cmp x.1 y.1)

-- names by their bytes
abbrev pub name_cmp : List ℕ → List ℕ → Ordering
name_cmp = slice_cmp nat_cmp

-- a set of names: a finite map that has nothing at each of them, so that it is gone through by rising names
abbrev pub Names : Type 0
Names = FinMap name_cmp (Unit {0})

-- a pending entry was handed to this consumer, the last time at this moment, and so often
pub record Pending : Type 0 where
  pub consumer : List ℕ
  pub moment : ℕ
  pub count : ℕ

-- which ids are pending, and how
abbrev pub Pendings : Type 0
Pendings = FinMap id_cmp Pending

-- a group: the last id that it handed out, its consumers, and which ids are pending
pub record Group : Type 0 where
  pub last : Id
  pub consumers : Names
  pub pending : Pendings

-- the groups by their names
abbrev pub Groups : Type 0
Groups = FinMap name_cmp Group

-- a group without a consumer, and so with nothing pending
abbrev pub new_group : Id → Group
new_group last = record { last = last; consumers = map.empty; pending = map.empty }

-- a new group, where its name is free
abbrev pub created : Groups → List ℕ → Id → Groups
created groups name last = if map.contains_key groups name then groups else map.insert groups name (new_group last)

-- the last id of a group
abbrev pub last_of : Option Group → Option Id
last_of group = option_map (λ g. g.last) group

-- what becomes of the groups where the one of this name changes, if there is one
abbrev pub changed_from : Groups → List ℕ → (Group → Group) → Option Group → Groups
changed_from groups name change None = groups
changed_from groups name change (Some group) = map.insert groups name (change group)

abbrev pub changed : Groups → List ℕ → (Group → Group) → Groups
changed groups name change = changed_from groups name change (map.get groups name)

-- the group with these pending entries
abbrev pub with_pendings : Pendings → Group → Group
with_pendings pending group = record { last = group.last; consumers = group.consumers; pending = pending }

-- the group with one more consumer, where it isn't there
abbrev pub with_consumer : List ℕ → Group → Group
with_consumer consumer group = record {
  last = group.last;
  consumers = map.insert group.consumers consumer tt;
  pending = group.pending;
}

-- the group in which an id is pending
abbrev pub with_pending : Id → Pending → Group → Group
with_pending id entry group = with_pendings (map.insert group.pending id entry) group

-- the group in which an id isn't pending
abbrev pub without : Id → Group → Group
without id group = with_pendings (map.remove group.pending id) group

-- an id that is handed out anew, where it is pending: at this moment, and once more, up to the greatest count
abbrev pub again_with : Pendings → Id → ℕ → Option Pending → Pendings
again_with pending id moment None = pending
again_with pending id moment (Some entry) =
    let count = min (entry.count + 1) (2 ^ 64 - 1) in
    map.insert pending id (record { consumer = entry.consumer; moment = moment; count = count })

abbrev pub again_in : Pendings → Id → ℕ → Pendings
again_in pending id moment = again_with pending id moment (map.get pending id)

-- each of the ids is pending in the same way, whatever stood there
abbrev pub placed : Pendings → List Id → Pending → Pendings
placed pending [] entry = pending
placed pending (id ∷ ids) entry = placed (map.insert pending id entry) ids entry

-- the group in which a pending id is handed out anew
abbrev pub with_again : Id → ℕ → Group → Group
with_again id moment group = with_pendings (again_in group.pending id moment) group

-- the last of some ids, or the one before them
abbrev pub last_among : Id → List Id → Id
last_among last [] = last
last_among last (id ∷ ids) = last_among id ids

-- the group that has handed these ids to a consumer: it is one of its consumers, each id is pending for it since this
-- moment, handed out once, and the last id is the last of them
abbrev pub delivered : List ℕ → List Id → ℕ → Group → Group
delivered consumer ids moment group = record {
  last = last_among group.last ids;
  consumers = map.insert group.consumers consumer tt;
  pending = placed group.pending ids (record { consumer = consumer; moment = moment; count = 1 });
}

-- whether a group has a consumer
abbrev pub has_consumer : List ℕ → Group → Bool
has_consumer consumer group = map.contains_key group.consumers consumer

-- each pending entry is of a consumer of the group
abbrev pub AreOwned : Names → Pendings → Type 0
AreOwned consumers pending = (id : Id) (entry : Pending)
    → map.get pending id ≡ Some entry → map.contains_key consumers entry.consumer ≡ true

-- each pending entry of a group is of one of its consumers
abbrev pub IsOwned : Group → Type 0
IsOwned group = AreOwned group.consumers group.pending

-- whether an id is pending in a group
abbrev pub is_pending : Id → Option Group → Bool
is_pending id None = false
is_pending id (Some group) = map.contains_key group.pending id

-- whether an entry is of a consumer
abbrev pub is_of : List ℕ → Id × Pending → Bool
is_of consumer e = eq_by_cmp name_cmp e.1.consumer consumer

-- whether an entry's id is above another id
abbrev pub is_above : Id → Id × Pending → Bool
is_above above e = is_lt (id_cmp above e.0)

-- the entries above an id, or all, by rising ids
abbrev pub later : Option Id → Pendings → List (Id × Pending)
later None pending = map.entries pending
later (Some above) pending = filter (is_above above) (map.entries pending)

-- the ids that are pending for a consumer above another id, or all, by rising ids
abbrev pub own_ids : Pendings → List ℕ → Option Id → List Id
own_ids pending consumer above = list_map (λ e. e.0) (filter (is_of consumer) (later above pending))

-- the first ids, up to a limit, that are pending for a consumer above another id
abbrev pub ids_of : Pendings → List ℕ → Id → ℕ → List Id
ids_of pending consumer above limit = take limit (own_ids pending consumer (Some above))

-- a number, where it isn't 0
abbrev pub some_if_any : ℕ → Option ℕ
some_if_any number = if number == 0 then None else Some number

-- how many ids are pending for a consumer, where some are
abbrev pub tallied : Pendings → List ℕ → Option ℕ
tallied pending consumer = some_if_any (count_by (is_of consumer) (map.entries pending))

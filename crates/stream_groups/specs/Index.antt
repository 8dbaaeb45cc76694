-- Which ids are pending for each consumer, as it is kept beside the pending entries.
use Rattle.std.specs.Prelude.{◌≡◌, ◌<◌, ℕ, map as list_map, List, [], ◌∷◌, Bool, false, not, ◌&&◌, ◌||◌, Option, Some, None, if◌then◌else◌}
use Rattle.std.specs.List.{filter}
use Rattle.std.specs.Ordering.{eq_by_cmp, is_lt}
use Rattle.std.specs.FinMap as map
use Rattle.std.specs.FinMap.{FinMap}
use Rattle.stream_groups.specs.Groups.{Id, Pending, Pendings, id_cmp, name_cmp}

-- a set of ids
abbrev pub IdSet : Type 0
IdSet = FinMap id_cmp (Unit {0})

-- a set of ids for each consumer
abbrev pub Index : Type 0
Index = FinMap name_cmp IdSet

-- the ids of a set, where there is one, by rising ids
abbrev pub ids_in : Option IdSet → List Id
ids_in None = []
ids_in (Some ids) = map.keys ids

-- the ids of a consumer, by rising ids
abbrev pub held : Index → List ℕ → List Id
held index name = ids_in (map.get index name)

-- each consumer in the index has an id
abbrev pub NoneIsEmpty : Index → Type 0
NoneIsEmpty index = (name : List ℕ) (ids : IdSet) → map.get index name ≡ Some ids → 0 < map.len ids

-- the consumers by rising names, each with how many ids it has
abbrev pub counted : Index → List (List ℕ × ℕ)
counted index = list_map (λ e. (e.0, map.len e.1)) (map.entries index)

-- whether an id is in a set, where there is one
abbrev pub is_in : Option IdSet → Id → Bool
is_in None id = false
is_in (Some ids) id = map.contains_key ids id

-- whether a consumer has an id
abbrev pub holds : Index → List ℕ → Id → Bool
holds index name id = is_in (map.get index name) id

-- the ids above another id, or all
abbrev pub ids_above : Option Id → List Id → List Id
ids_above None ids = ids
ids_above (Some above) ids = filter (λ id. is_lt (id_cmp above id)) ids

-- whether an id is one of these
abbrev pub is_one : List Id → Id → Bool
is_one [] id = false
is_one (x ∷ ids) id = eq_by_cmp id_cmp id x || is_one ids id

-- whether a consumer has an id, where the one of this name has each of these (`true`) or none of them (`false`)
abbrev pub marked : Bool → List ℕ → List Id → Index → List ℕ → Id → Bool
marked mark name ids index n id = if eq_by_cmp name_cmp n name && is_one ids id then mark else holds index n id

-- the consumer of this name has each of these ids (`true`) or none of them (`false`), and all else is as it was
abbrev pub Marks : Bool → List ℕ → List Id → Index → Index → Type 0
Marks mark name ids old new = (n : List ℕ) (id : Id) → holds new n id ≡ marked mark name ids old n id

-- each consumer has the ids that it had
abbrev pub HoldSame : Index → Index → Type 0
HoldSame old new = (n : List ℕ) (id : Id) → holds new n id ≡ holds old n id

-- whether an id is pending for a consumer
abbrev pub is_for : List ℕ → Option Pending → Bool
is_for name None = false
is_for name (Some entry) = eq_by_cmp name_cmp entry.consumer name

-- whether one of these ids was pending for a consumer, other than the one of this name, who has them now
abbrev pub has_left : List ℕ → List Id → List (Option Pending) → List ℕ → Id → Bool
has_left name [] log n id = false
has_left name (x ∷ ids) [] n id = false
has_left name (x ∷ ids) (was ∷ log) n id = (eq_by_cmp id_cmp id x && (is_for n was && not (eq_by_cmp name_cmp n name))) || has_left name ids log n id

-- whether a consumer has an id still, where these ids were what the log says, and the one of this name has them now
abbrev pub stays : List ℕ → List Id → List (Option Pending) → Index → List ℕ → Id → Bool
stays name ids log index n id = if has_left name ids log n id then false else holds index n id

-- these ids have left the consumers that had them before, and all else is as it was
abbrev pub Leaves : List ℕ → List Id → List (Option Pending) → Index → Index → Type 0
Leaves name ids log old new = (n : List ℕ) (id : Id) → holds new n id ≡ stays name ids log old n id

-- the index says exactly which ids are pending for each consumer
abbrev pub Indexes : Index → Pendings → Type 0
Indexes index pending = (name : List ℕ) (id : Id) → holds index name id ≡ is_for name (map.get pending id)

-- what each of these ids was, one after another, where each becomes pending in the same way
abbrev pub were : Pendings → List Id → Pending → List (Option Pending)
were pending [] entry = []
were pending (id ∷ ids) entry = map.get pending id ∷ were (map.insert pending id entry) ids entry

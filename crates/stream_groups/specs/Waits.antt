-- What is told of a group as a whole, and of one entry after another.
use Rattle.std.specs.Prelude.{◌≡◌, ℕ, ◌-◌, List, T, Option, Some, None, slice_get, map as list_map, ⊤}
use Rattle.std.specs.FinMap as map
use Rattle.std.specs.FinMap.{find, is_sorted}
use Rattle.stream_groups.specs.declared.waiting.Owner.{Owner}
use Rattle.stream_groups.specs.declared.waiting.Waiting.{Waiting}
use Rattle.stream_groups.specs.declared.waiting.WaitingEntry.{WaitingEntry}
use Rattle.stream_groups.specs.Groups.{Id, Names, Pending, Pendings, Group, name_cmp, tallied, later}

-- consumers with numbers
abbrev pub owner_pairs : List Owner → List (List ℕ × ℕ)
owner_pairs owners = list_map (λ owner. (owner.name, owner.count)) owners

-- what is pending as a whole: how many ids, the least, the greatest, and by rising names each consumer for which some
-- are pending, with their number
pub record IsWaiting (pending : Pendings) (waiting : Waiting) : Type 0 where
  pub count : waiting.count ≡ map.len pending
  pub least : waiting.least ≡ slice_get (map.keys pending) 0
  pub greatest : waiting.greatest ≡ slice_get (map.keys pending) (map.len pending - 1)
  pub rising : T (is_sorted name_cmp (owner_pairs waiting.owners.items))
  pub owners : (name : List ℕ) → find name_cmp name (owner_pairs waiting.owners.items) ≡ tallied pending name

-- it is told of a group, exactly where there is one
abbrev pub Tells : Option Group → Option Waiting → Type 0
Tells None None = ⊤
Tells None (Some waiting) = ⊥
Tells (Some group) None = ⊥
Tells (Some group) (Some waiting) = IsWaiting group.pending waiting

-- the name of a consumer by its place among rising names
abbrev pub consumer_at : Option Group → ℕ → Option (List ℕ)
consumer_at None index = None
consumer_at (Some group) index = slice_get (map.keys group.consumers) index

-- the entry is told with the place of its consumer
pub record IsEntry (consumers : Names) (id : Id) (pending : Pending) (entry : WaitingEntry) : Type 0 where
  pub same_id : entry.id ≡ id
  pub place : slice_get (map.keys consumers) entry.consumer ≡ Some pending.consumer
  pub same_moment : entry.moment ≡ pending.moment
  pub same_count : entry.count ≡ pending.count

-- this entry is told of a group with these consumers, exactly where there is one
abbrev pub TellsEntry : Names → Option (Id × Pending) → Option WaitingEntry → Type 0
TellsEntry consumers None None = ⊤
TellsEntry consumers None (Some entry) = ⊥
TellsEntry consumers (Some e) None = ⊥
TellsEntry consumers (Some e) (Some entry) = IsEntry consumers e.0 e.1 entry

-- the first entry above an id, or of all, is told, where there is such a group with such an entry
abbrev pub TellsAfter : Option Group → Option Id → Option WaitingEntry → Type 0
TellsAfter None above entry = entry ≡ None
TellsAfter (Some group) above entry = TellsEntry group.consumers (slice_get (later above group.pending) 0) entry

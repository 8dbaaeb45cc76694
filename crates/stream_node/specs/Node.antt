-- The whole stream node. (Redis source, t_stream.c: the master entry, and the entries behind it.)
use Rattle.std.specs.Prelude.{◌≡◌, ◌≢◌, ◌⊎◌, ℕ, ◌+◌, ◌^◌, ◌<◌, Bool, List, [], ◌∷◌, ◌++◌, length, Option, Some, None, if◌then◌else◌}
use Rattle.stream_node.specs.declared.id.Id.{Id}
use Rattle.stream_node.specs.declared.fault.NodeFault.{NodeFault}
use Rattle.stream_node.specs.declared.fault.NodeFault.TheVariants as faults
use Rattle.stream_node.specs.Entry.{Stored, IsBelow, IsStart, IsEntry, number}

-- The list begins with the counts of live and of deleted entries, the node's fields and a zero, and the rest follows.
pub record IsHead (list : List (List ℕ)) (live : ℕ) (deleted : ℕ) (master : List (List ℕ)) (rest : List (List ℕ))
    : Type 0 where
  pub live_fits : live < 2 ^ 63
  pub deleted_fits : deleted < 2 ^ 63
  pub some : 0 < length master
  pub fields_fit : length master < 2 ^ 63
  pub elements : list ≡ number live ∷ number deleted ∷ number (length master) ∷ (master ++ number 0 ∷ rest)

-- the id is above the one before it, where there is one
abbrev pub IsAfter : Option Id → Id → Type 0
IsAfter None id = Unit {0}
IsAfter (Some before) id = IsBelow before id

-- The list begins with these entries, whose ids rise from the one before them on, and the rest follows.
unfoldable pub Begins : Id → List (List ℕ) → Option Id → List (List ℕ) → List Stored → List (List ℕ) → Type 0
Begins key master before list [] rest = list ≡ rest
Begins key master before list (entry ∷ more) rest =
    (behind : List (List ℕ)) × IsEntry key master list entry behind × IsAfter before entry.id
    × Begins key master (Some entry.id) behind more rest

-- how many entries are marked deleted
unfoldable pub marked : List Stored → ℕ
marked [] = 0
marked (entry ∷ more) = (if entry.deleted then 1 else 0) + marked more

-- the id of the last entry, or the one before them all
unfoldable pub last_id : Option Id → List Stored → Option Id
last_id before [] = before
last_id before (entry ∷ more) = last_id (Some entry.id) more

-- The list is a stream node of that key with these entries.
pub record Node (key : Id) (list : List (List ℕ)) (entries : List Stored) : Type 0 where
  pub live : ℕ
  pub deleted : ℕ
  pub master : List (List ℕ)
  pub behind : List (List ℕ)
  pub head : IsHead list live deleted master behind
  pub all_entries : Begins key master None behind entries []
  pub count : length entries ≡ live + deleted
  pub marks : marked entries ≡ deleted

-- How far reading comes: behind a head and some entries.
pub record Stop (key : Id) (list : List (List ℕ)) : Type 0 where
  pub live : ℕ
  pub deleted : ℕ
  pub master : List (List ℕ)
  pub behind : List (List ℕ)
  pub entries : List Stored
  pub rest : List (List ℕ)
  pub head : IsHead list live deleted master behind
  pub begins : Begins key master None behind entries rest

abbrev pub LacksHead : List (List ℕ) → Type 0
LacksHead list = (live deleted : ℕ) (master rest : List (List ℕ)) → IsHead list live deleted master rest → ⊥

-- An entry is due, and the list begins with flags and differences of one whose id is not above the one before it.
abbrev pub IsBack : Id → Option Id → List (List ℕ) → Type 0
IsBack key before list = (deleted same : Bool) × (id : Id) × (rest : List (List ℕ))
    × IsStart key list deleted same id rest × (IsAfter before id → ⊥)

-- An entry is due, and the list begins with none, whatever its id.
abbrev pub LacksEntry : Id → List (List ℕ) → List (List ℕ) → Type 0
LacksEntry key master list = (entry : Stored) (rest : List (List ℕ)) → IsEntry key master list entry rest → ⊥

-- The first fault of a list that is no node of that key. An id that is not above the one before it stands before
-- whatever is wrong behind it in its entry.
abbrev pub IsFault : Id → List (List ℕ) → NodeFault → Type 0
IsFault key list faults.Shape =
    LacksHead list
    ⊎ ((s : Stop key list) × (length s.entries < s.live + s.deleted) × LacksEntry key s.master s.rest
    × (IsBack key (last_id None s.entries) s.rest → ⊥))
    ⊎ ((s : Stop key list) × (length s.entries ≡ s.live + s.deleted) × (s.rest ≢ []))
IsFault key list faults.Count =
    (s : Stop key list) × (length s.entries ≡ s.live + s.deleted) × (s.rest ≡ []) × (marked s.entries ≢ s.deleted)
IsFault key list faults.Order =
    (s : Stop key list) × (length s.entries < s.live + s.deleted) × IsBack key (last_id None s.entries) s.rest

-- A list is a node with one list of entries at most, or has one first fault, and never both.
pub record AtMostOne (key : Id) (list : List (List ℕ)) : Type 0 where
  pub one_list : (es fs : List Stored) → Node key list es → Node key list fs → es ≡ fs
  pub one_fault : (f g : NodeFault) → IsFault key list f → IsFault key list g → f ≡ g
  pub not_both : (es : List Stored) (f : NodeFault) → Node key list es → IsFault key list f → ⊥

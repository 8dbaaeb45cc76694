-- What scans report (Redis command reference, "SCAN", "KEYS").
use Rattle.std.specs.Prelude.{◌≡◌, ◌<◌, ◌≤◌, ◌-◌, ◌*◌, ◌^◌, ℕ, List, [], ◌∷◌, length, map, Option, None, Some, is_some, Bool, true, false, bytes_eq}
use Rattle.std.specs.List.{Contains, count_by, flat_map}
use Rattle.std.specs.FinMap.{get}
use Rattle.digests.specs.Siphash.{sip}
use Rattle.rev_cursor.specs.Place.{place, end_of}
use Rattle.glob.specs.Pattern.{Matches}
use Rattle.std.specs.Fmt.{decimal}
use Rattle.plain_world.specs.Words.{in_lower_case}
use Rattle.plain_world.specs.Worlds.{World, Value, Str, ListOf, SetOf, HashOf, SortedOf, StreamOf, Entry, look_in}
use Rattle.plain_world.specs.declared.reply.Part.{Part}
use Rattle.plain_world.specs.declared.reply.Part.TheVariants.{Bulk, Array}
use Rattle.plain_model.specs.Types.{type_at}
use Rattle.plain_model.specs.declared.keys.ScanOptions.{ScanOptions}

-- ---- which elements a scan is asked for

-- what a scan goes through: the keys of a database, or the members or fields that a key of a database holds
pub data Target : Type 0 where
  KeysOf : ℕ → Target
  HeldAt : ℕ → List ℕ → Target

-- what a scan call asks for: its target, MATCH and TYPE
pub record Sought : Type 0 where
  pub target : Target
  pub pattern : Option (List ℕ)
  pub type_name : Option (List ℕ)

-- a value has this member or field
abbrev pub holds : Value → List ℕ → Bool
holds (Str bytes) element = false
holds (ListOf elements) element = false
holds (SetOf members) element = is_some (get members element)
holds (HashOf fields) element = is_some (get fields element)
holds (SortedOf scores) element = is_some (get scores element)
holds (StreamOf stream) element = false

abbrev pub holds_at : Option Entry → List ℕ → Bool
holds_at None element = false
holds_at (Some entry) element = holds entry.value element

-- the target has this element
abbrev pub is_in : World → Target → List ℕ → Bool
is_in world (KeysOf number) element = is_some (look_in world number element)
is_in world (HeldAt number key) element = holds_at (look_in world number key) element

-- MATCH
abbrev pub IsLike : Option (List ℕ) → List ℕ → Type 0
IsLike None element = Unit {0}
IsLike (Some pattern) element = Matches pattern element

-- TYPE, which ignores case
abbrev pub is_named : Option (List ℕ) → Option Entry → Bool
is_named None entry = true
is_named (Some name) entry = bytes_eq (type_at entry) (in_lower_case name)

-- the elements of a key's value have no type
abbrev pub is_typed : World → Target → Option (List ℕ) → List ℕ → Bool
is_typed world (KeysOf number) name element = is_named name (look_in world number element)
is_typed world (HeldAt number key) name element = true

-- the element is there, and MATCH and TYPE let it pass
pub record Passes (world : World) (sought : Sought) (element : List ℕ) : Type 0 where
  pub there : is_in world sought.target element ≡ true
  pub like : IsLike sought.pattern element
  pub typed : is_typed world sought.target sought.type_name element ≡ true

-- ---- which of them a call reports

-- where an element stands in the order of a scan: by its SipHash with 1 and 2 rounds under the seed and its complement,
-- with the bits reversed
abbrev pub place_of : ℕ → List ℕ → ℕ
place_of seed element = place (sip 1 2 seed (2 ^ 64 - 1 - seed) element)

-- only elements that may be listed, each once, and all that have to be
pub record Lists (May Must : List ℕ → Type 0) (elements : List (List ℕ)) : Type 0 where
  pub once : (element : List ℕ) → count_by (bytes_eq element) elements ≤ 1
  pub real : (element : List ℕ) → Contains elements element → May element
  pub whole : (element : List ℕ) → Must element → Contains elements element

-- an element that passes, with a place from the reversed cursor to below the reversed next one, or 2^64 where that is 0
pub record IsDue (seed : ℕ) (world : World) (sought : Sought) (cursor next : ℕ) (element : List ℕ) : Type 0 where
  pub passes : Passes world sought element
  pub from : place cursor ≤ place_of seed element
  pub below : place_of seed element < end_of next

-- A page lists elements that pass, and all whose place lies from the cursor to the next one, which is behind it.
pub record Page (seed : ℕ) (world : World) (sought : Sought) (cursor next : ℕ) (elements : List (List ℕ)) : Type 0 where
  pub on : place cursor < end_of next
  pub fits : next < 2 ^ 64
  pub lists : Lists (Passes world sought) (IsDue seed world sought cursor next) elements

-- ---- how they are written

-- an array of them
abbrev pub listed : List (List ℕ) → List Part
listed elements = Array (length elements) ∷ map Bulk elements

-- an array of them, each followed by what is told of it
abbrev pub listed_with : (List ℕ → Part) → List (List ℕ) → List Part
listed_with told elements =
    Array (2 * length elements) ∷ flat_map (λ element. Bulk element ∷ told element ∷ []) elements

-- the next cursor, and an array
abbrev pub paged_as : ℕ → List Part → List Part
paged_as next elements = Array 2 ∷ Bulk (decimal next) ∷ elements

-- the next cursor, and an array of them
abbrev pub paged : ℕ → List (List ℕ) → List Part
paged next elements = paged_as next (listed elements)

-- what SCAN asks for
abbrev pub keys_sought : ℕ → ScanOptions → Sought
keys_sought number options = record { target = KeysOf number; pattern = options.pattern; type_name = options.type_name }

-- what HSCAN, SSCAN and ZSCAN ask for: what a key of a database holds, without a type
abbrev pub held_sought : ℕ → List ℕ → ScanOptions → Sought
held_sought number key options =
    record { target = HeldAt number key; pattern = options.pattern; type_name = None }

-- a page of what a key of the selected database holds, told in this way
abbrev pub IsHeldPage : ℕ → World → List ℕ → ℕ → ScanOptions → (List (List ℕ) → List Part) → List Part → Type 0
IsHeldPage seed old key cursor options told reply =
    (next : ℕ) × (elements : List (List ℕ)) × Page seed old (held_sought old.selected key options) cursor next elements
    × (reply ≡ paged_as next (told elements))

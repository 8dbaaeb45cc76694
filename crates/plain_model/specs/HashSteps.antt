-- What commands on hashes answer, and what they leave (Redis command reference, "Commands operating on hashes").
use Rattle.std.specs.Prelude.{◌≡◌, ℕ, ◌-◌, ◌==◌, List, [], ◌∷◌, length, map, ℤ, pos, ◌+ℤ◌, Option, None, Some, Bool, true, false, is_some, codes, if◌then◌else◌}
use Rattle.std.specs.FinMap.{FinMap, empty, get, insert, len}
use Rattle.std.specs.FinMap as finite
use Rattle.std.specs.Cmp.Lexicographic.{slice_cmp}
use Rattle.std.specs.Ordering.{nat_cmp}
use Rattle.int_text.specs.Decimal.{canonical, is_i64, number_of}
use Rattle.plain_world.specs.Worlds.{World, HashOf, look, remove}
use Rattle.plain_model.specs.Outcomes.{Outcome, tells, refused, leaves, IsOutcome}
use Rattle.plain_model.specs.OfType.{hash_in, on_type, may_tell, keep}
use Rattle.plain_model.specs.Scans.{Lists, listed, listed_with, IsHeldPage}
use Rattle.plain_world.specs.Picks.{TellsPicks}
use Rattle.plain_model.specs.ListSteps.{tells_number}
use Rattle.plain_model.specs.declared.hash_command.HashCommand.{HashCommand}
use Rattle.plain_model.specs.declared.hash_command.HashCommand.TheVariants as hashes
use Rattle.plain_world.specs.declared.refusal.Refusal.TheVariants.{NotAnInteger, Overflow}
use Rattle.plain_world.specs.declared.reply.Part.{Part}
use Rattle.plain_world.specs.declared.reply.Part.TheVariants.{Simple, Number, Bulk, Null, Array}

abbrev pub Fields : Type 0
Fields = FinMap (slice_cmp nat_cmp) (List ℕ)

-- with the hash at a key, where there is one
abbrev pub on_hash : World → List ℕ → (Option Fields → Outcome) → Outcome
on_hash old key answer = on_type hash_in old (look old key) answer

-- a missing hash counts as one without a field
abbrev pub or_no_fields : Option Fields → Fields
or_no_fields None = empty
or_no_fields (Some fields) = fields

-- A hash stands at a key and keeps the deadline that is there; one without a field goes with its key.
abbrev pub keep_hash : World → List ℕ → Fields → World
keep_hash old key fields = if len fields == 0 then remove old key else keep old key (HashOf fields)

-- each value at its field, one after the other
abbrev pub set_all : Fields → List (List ℕ × List ℕ) → Fields
set_all fields [] = fields
set_all fields (pair ∷ pairs) = set_all (insert fields pair.0 pair.1) pairs

-- without these fields
abbrev pub unset_all : Fields → List (List ℕ) → Fields
unset_all fields [] = fields
unset_all fields (field ∷ others) = unset_all (finite.remove fields field) others

abbrev pub value_or_null : Option (List ℕ) → Part
value_or_null None = Null
value_or_null (Some value) = Bulk value

-- 1 where something is there, else 0
abbrev pub one_if : Bool → ℤ
one_if true = pos 1
one_if false = pos 0

-- what is told of a hash
abbrev pub tell_hash : World → List ℕ → (Fields → List Part) → Outcome
tell_hash old key told = on_hash old key (λ before. tells (told (or_no_fields before)) old)

-- the number of new fields is answered
abbrev pub set_fields : World → List ℕ → List (List ℕ × List ℕ) → Fields → Outcome
set_fields old key pairs fields =
    tells_number (pos (len (set_all fields pairs) - len fields)) (keep_hash old key (set_all fields pairs))

-- a value is set where the field isn't there
abbrev pub set_missing : World → List ℕ → List ℕ → List ℕ → Fields → Outcome
set_missing old key field value fields =
    if is_some (get fields field) then tells_number (pos 0) old
    else tells_number (pos 1) (keep_hash old key (insert fields field value))

-- how many fields are removed is answered
abbrev pub unset_fields : World → List ℕ → List (List ℕ) → Option Fields → Outcome
unset_fields old key others None = tells_number (pos 0) old
unset_fields old key others (Some fields) =
    tells_number (pos (len fields - len (unset_all fields others))) (keep_hash old key (unset_all fields others))

-- the number that a value is; a missing one is 0
abbrev pub number_in : Option (List ℕ) → Option ℤ
number_in None = Some (pos 0)
number_in (Some value) = number_of value

-- a new number is written, if it fits
abbrev pub count_field : World → List ℕ → List ℕ → Fields → ℤ → Outcome
count_field old key field fields n =
    if is_i64 n then tells_number n (keep_hash old key (insert fields field (canonical n))) else refused Overflow old

abbrev pub count_on_field : World → List ℕ → List ℕ → Fields → ℤ → Option ℤ → Outcome
count_on_field old key field fields by None = refused NotAnInteger old
count_on_field old key field fields by (Some n) = count_field old key field fields (n +ℤ by)

abbrev pub value_length : Option (List ℕ) → ℕ
value_length None = 0
value_length (Some value) = length value

abbrev pub IsField : Fields → List ℕ → Type 0
IsField fields field = is_some (get fields field) ≡ true

-- the values of these fields
abbrev pub values_listed : Fields → List (List ℕ) → List Part
values_listed fields names = Array (length names) ∷ map (λ field. value_or_null (get fields field)) names

-- these fields, each followed by its value
abbrev pub pairs_listed : Fields → List (List ℕ) → List Part
pairs_listed fields names = listed_with (λ field. value_or_null (get fields field)) names

-- these fields, with their values where they are asked for
abbrev pub fields_listed : Bool → Fields → List (List ℕ) → List Part
fields_listed false fields names = listed names
fields_listed true fields names = pairs_listed fields names

-- fields that are picked are told
abbrev pub PicksFields : Option ℤ → Bool → Option Fields → List Part → Type 0
PicksFields n with_values before reply =
    let fields = or_no_fields before in
    TellsPicks (λ field. is_some (get fields field)) (len fields) n (fields_listed with_values fields) reply

-- so all fields are told, each once, in any order
abbrev pub TellsFields : (Fields → List (List ℕ) → List Part) → Option Fields → List Part → Type 0
TellsFields told before reply =
    let is = IsField (or_no_fields before) in
    (names : List (List ℕ)) × Lists is is names × (reply ≡ told (or_no_fields before) names)

-- What a command answers and leaves, in a live world, where it has one answer: of the others `may_hashes` says what they may
-- answer.
abbrev pub hash_outcome : World → HashCommand → Outcome
hash_outcome old (hashes.HSet key pairs) = on_hash old key (λ before. set_fields old key pairs (or_no_fields before))
hash_outcome old (hashes.HMSet key pairs) =
    on_hash old key
    (λ before. leaves (Simple (codes "OK") ∷ []) (keep_hash old key (set_all (or_no_fields before) pairs)))
hash_outcome old (hashes.HSetNx key field value) =
    on_hash old key (λ before. set_missing old key field value (or_no_fields before))
hash_outcome old (hashes.HGet key field) = tell_hash old key (λ fields. value_or_null (get fields field) ∷ [])
hash_outcome old (hashes.HMGet key others) =
    tell_hash old key (λ fields. Array (length others) ∷ map (λ field. value_or_null (get fields field)) others)
hash_outcome old (hashes.HDel key others) = on_hash old key (unset_fields old key others)
hash_outcome old (hashes.HExists key field) =
    tell_hash old key (λ fields. Number (one_if (is_some (get fields field))) ∷ [])
hash_outcome old (hashes.HLen key) = tell_hash old key (λ fields. Number (pos (len fields)) ∷ [])
hash_outcome old (hashes.HStrLen key field) =
    tell_hash old key (λ fields. Number (pos (value_length (get fields field))) ∷ [])
hash_outcome old (hashes.HIncrBy key field by) =
    on_hash old key
    (λ before.
    count_on_field old key field (or_no_fields before) by (number_in (get (or_no_fields before) field)))
hash_outcome old other = tells [] old

-- under this seed of the hash, and from the world that is live at the moment, the command may be answered by this reply, and
-- leave the new world
abbrev pub may_hashes : ℕ → World → HashCommand → List Part → World → Type 0
may_hashes seed old (hashes.HKeys key) reply new =
    may_tell hash_in old (look old key) (TellsFields (λ fields names. listed names)) reply new
may_hashes seed old (hashes.HVals key) reply new =
    may_tell hash_in old (look old key) (TellsFields values_listed) reply new
may_hashes seed old (hashes.HGetAll key) reply new =
    may_tell hash_in old (look old key) (TellsFields pairs_listed) reply new
may_hashes seed old (hashes.HRandField key n with_values) reply new =
    may_tell hash_in old (look old key) (PicksFields n with_values) reply new
may_hashes seed old (hashes.HScan key cursor options) reply new =
    may_tell hash_in old (look old key)
    (λ before. IsHeldPage seed old key cursor options (pairs_listed (or_no_fields before))) reply new
may_hashes seed old command reply new = IsOutcome (hash_outcome old command) reply new

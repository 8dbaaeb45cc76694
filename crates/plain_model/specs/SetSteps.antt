-- What commands on sets answer, and what they leave (Redis command reference, "Commands operating on sets").
use Rattle.std.specs.Prelude.{◌≡◌, ℕ, ◌-◌, ◌==◌, List, [], ◌∷◌, length, map, min, pos, Option, None, Some, Bool, true, false, not, ◌&&◌, ◌||◌, is_some, bytes_eq, ℤ, if◌then◌else◌}
use Rattle.std.specs.FinMap.{FinMap, empty, get, insert, len}
use Rattle.std.specs.FinMap as finite
use Rattle.std.specs.Cmp.Lexicographic.{slice_cmp}
use Rattle.std.specs.Ordering.{nat_cmp}
use Rattle.plain_world.specs.Worlds.{World, SetOf, look, put, remove}
use Rattle.plain_model.specs.Outcomes.{Outcome, tells, IsOutcome}
use Rattle.plain_model.specs.OfType.{set_in, on_type, may_tell, may_tell_of, may_do, may_do_of, sources, or_no_sources, keep}
use Rattle.plain_model.specs.ListSteps.{tells_number}
use Rattle.plain_model.specs.HashSteps.{one_if}
use Rattle.plain_model.specs.Scans.{Lists, listed, IsHeldPage}
use Rattle.plain_world.specs.Picks.{ArePicked, picks_told, TellsPicks, as_number}
use Rattle.plain_model.specs.declared.set_command.SetCommand.{SetCommand}
use Rattle.plain_model.specs.declared.set_command.SetCommand.TheVariants as sets
use Rattle.plain_model.specs.declared.set_command.SetJoin.{SetJoin}
use Rattle.plain_model.specs.declared.set_command.SetJoin.TheVariants.{Inter, Union, Diff}
use Rattle.plain_world.specs.declared.reply.Part.{Part}
use Rattle.plain_world.specs.declared.reply.Part.TheVariants.{Number, Array}

-- a set is a finite map that has nothing at each member
abbrev pub Members : Type 0
Members = FinMap (slice_cmp nat_cmp) (Unit {0})

-- with the set at a key, where there is one
abbrev pub on_set : World → List ℕ → (Option Members → Outcome) → Outcome
on_set old key answer = on_type set_in old (look old key) answer

-- a missing set counts as one without a member
abbrev pub or_no_members : Option Members → Members
or_no_members None = empty
or_no_members (Some members) = members

-- A set stands at a key and keeps the deadline that is there; one without a member goes with its key.
abbrev pub keep_set : World → List ℕ → Members → World
keep_set old key members = if len members == 0 then remove old key else keep old key (SetOf members)

abbrev pub has : Members → List ℕ → Bool
has members member = is_some (get members member)

-- with these members
abbrev pub add_all : Members → List (List ℕ) → Members
add_all members [] = members
add_all members (member ∷ others) = add_all (insert members member tt) others

-- without these members
abbrev pub drop_all : Members → List (List ℕ) → Members
drop_all members [] = members
drop_all members (member ∷ others) = drop_all (finite.remove members member) others

-- what is told of a set
abbrev pub tell_set : World → List ℕ → (Members → List Part) → Outcome
tell_set old key told = on_set old key (λ before. tells (told (or_no_members before)) old)

-- how many members are new is answered
abbrev pub add_members : World → List ℕ → List (List ℕ) → Members → Outcome
add_members old key others members =
    tells_number (pos (len (add_all members others) - len members)) (keep_set old key (add_all members others))

-- how many members are removed is answered
abbrev pub drop_members : World → List ℕ → List (List ℕ) → Option Members → Outcome
drop_members old key others None = tells_number (pos 0) old
drop_members old key others (Some members) =
    tells_number (pos (len members - len (drop_all members others))) (keep_set old key (drop_all members others))

-- a member goes from one set to another, or stays where both are one
abbrev pub move_to : World → List ℕ → List ℕ → List ℕ → Members → Option Members → Outcome
move_to old from to member members target =
    if has members member
    then (if bytes_eq from to then tells_number (pos 1) old
    else tells_number (pos 1)
    (keep_set (keep_set old from (finite.remove members member)) to (insert (or_no_members target) member tt)))
    else tells_number (pos 0) old

abbrev pub move_from : World → List ℕ → List ℕ → List ℕ → Option Members → Outcome
move_from old from to member None = tells_number (pos 0) old
move_from old from to member (Some members) = on_set old to (move_to old from to member members)

abbrev pub IsMember : Members → List ℕ → Type 0
IsMember members member = has members member ≡ true

-- all members are listed, each once, in any order
abbrev pub AreMembers : Option Members → List Part → Type 0
AreMembers before reply =
    let is = IsMember (or_no_members before) in
    (names : List (List ℕ)) × Lists is is names × (reply ≡ listed names)

-- members that are picked go, and are told
abbrev pub PopsMembers : World → List ℕ → Option ℕ → Option Members → List Part → World → Type 0
PopsMembers old key n None reply new = (reply ≡ picks_told listed (as_number n) []) × (new ≡ old)
PopsMembers old key n (Some members) reply new =
    (gone : List (List ℕ)) × ArePicked (has members) (len members) (as_number n) gone
    × (reply ≡ picks_told listed (as_number n) gone) × (new ≡ keep_set old key (drop_all members gone))

-- members that are picked are told
abbrev pub TellsMembers : Option ℤ → Option Members → List Part → Type 0
TellsMembers n before reply =
    let members = or_no_members before in
    TellsPicks (has members) (len members) n listed reply

-- ---- joins

abbrev pub in_any : List Members → List ℕ → Bool
in_any [] member = false
in_any (members ∷ others) member = has members member || in_any others member

abbrev pub in_all : List Members → List ℕ → Bool
in_all [] member = true
in_all (members ∷ others) member = has members member && in_all others member

-- a join of sets has this member
abbrev pub is_joined : SetJoin → List Members → List ℕ → Bool
is_joined how [] member = false
is_joined Inter (members ∷ others) member = in_all (members ∷ others) member
is_joined Union (members ∷ others) member = in_any (members ∷ others) member
is_joined Diff (members ∷ others) member = has members member && not (in_any others member)

-- a set has just the members of a join
abbrev pub IsJoin : SetJoin → List Members → Members → Type 0
IsJoin how sets members = (member : List ℕ) → has members member ≡ is_joined how sets member

abbrev pub sets_at : World → List (List ℕ) → Option (List Members)
sets_at old keys = sources set_in empty old keys

-- all members of a join are told, each once, in any order
abbrev pub TellsJoin : SetJoin → Option (List Members) → List Part → Type 0
TellsJoin how own reply =
    let is : List ℕ → Type 0 = λ member. is_joined how (or_no_sources own) member ≡ true in
    (names : List (List ℕ)) × Lists is is names × (reply ≡ listed names)

-- the join takes the place of whatever stands at a key; without a member nothing stands there
abbrev pub store_set : World → List ℕ → Members → World
store_set old to members =
    if len members == 0 then remove old to else put old to (record { value = SetOf members; deadline = None })

abbrev pub StoresJoin : World → List ℕ → SetJoin → Option (List Members) → List Part → World → Type 0
StoresJoin old to how own reply new =
    (members : Members) × IsJoin how (or_no_sources own) members
    × IsOutcome (tells_number (pos (len members)) (store_set old to members)) reply new

-- a number, at most the limit where there is one
abbrev pub at_most : ℕ → ℕ → ℕ
at_most limit n = if limit == 0 then n else min limit n

abbrev pub CountsJoin : ℕ → Option (List Members) → List Part → Type 0
CountsJoin limit own reply =
    (members : Members) × IsJoin Inter (or_no_sources own) members
    × (reply ≡ Number (pos (at_most limit (len members))) ∷ [])

-- ---- each command

-- What a command answers and leaves, in a live world, where it has one answer: of the others `may_sets` says what they may
-- answer.
abbrev pub set_outcome : World → SetCommand → Outcome
set_outcome old (sets.SAdd key others) = on_set old key (λ before. add_members old key others (or_no_members before))
set_outcome old (sets.SRem key others) = on_set old key (drop_members old key others)
set_outcome old (sets.SIsMember key member) =
    tell_set old key (λ members. Number (one_if (has members member)) ∷ [])
set_outcome old (sets.SMIsMember key others) =
    tell_set old key (λ members. Array (length others) ∷ map (λ member. Number (one_if (has members member))) others)
set_outcome old (sets.SCard key) = tell_set old key (λ members. Number (pos (len members)) ∷ [])
set_outcome old (sets.SMove from to member) = on_set old from (move_from old from to member)
set_outcome old other = tells [] old

-- under this seed of the hash, and from the world that is live at the moment, the command may be answered by this reply, and
-- leave the new world
abbrev pub may_sets : ℕ → World → SetCommand → List Part → World → Type 0
may_sets seed old (sets.SMembers key) reply new = may_tell set_in old (look old key) AreMembers reply new
may_sets seed old (sets.SPop key n) reply new = may_do set_in old (look old key) (PopsMembers old key n) reply new
may_sets seed old (sets.SRandMember key n) reply new = may_tell set_in old (look old key) (TellsMembers n) reply new
may_sets seed old (sets.SJoin how keys) reply new = may_tell_of old (sets_at old keys) (TellsJoin how) reply new
may_sets seed old (sets.SJoinStore how to keys) reply new =
    may_do_of old (sets_at old keys) (StoresJoin old to how) reply new
may_sets seed old (sets.SInterCard keys limit) reply new =
    may_tell_of old (sets_at old keys) (CountsJoin limit) reply new
may_sets seed old (sets.SScan key cursor options) reply new =
    may_tell set_in old (look old key) (λ before. IsHeldPage seed old key cursor options listed) reply new
may_sets seed old command reply new = IsOutcome (set_outcome old command) reply new

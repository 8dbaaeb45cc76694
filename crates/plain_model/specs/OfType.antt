-- What commands on values of one type make of what stands at a key (Redis command reference: a command on a value of
-- another type is refused).
use Rattle.std.specs.Prelude.{◌≡◌, List, [], ◌∷◌, ℕ, ℤ, Option, Some, None}
use Rattle.std.specs.FinMap.{FinMap}
use Rattle.std.specs.Cmp.Lexicographic.{slice_cmp}
use Rattle.std.specs.Ordering.{nat_cmp}
use Rattle.plain_world.specs.Streams.{Stream}
use Rattle.plain_world.specs.Worlds.{World, Value, ListOf, SetOf, HashOf, SortedOf, StreamOf, Entry, put, look, deadline_of}
use Rattle.plain_model.specs.Outcomes.{Outcome, refused, IsOutcome}
use Rattle.plain_world.specs.declared.reply.Part.{Part}
use Rattle.plain_world.specs.declared.refusal.Refusal.TheVariants.{WrongType}

-- the list that a value is
abbrev pub list_in : Value → Option (List (List ℕ))
list_in (ListOf list) = Some list
list_in other = None

-- the set that a value is
abbrev pub set_in : Value → Option (FinMap (slice_cmp nat_cmp) (Unit {0}))
set_in (SetOf members) = Some members
set_in other = None

-- the hash that a value is
abbrev pub hash_in : Value → Option (FinMap (slice_cmp nat_cmp) (List ℕ))
hash_in (HashOf fields) = Some fields
hash_in other = None

-- the sorted set that a value is
abbrev pub zset_in : Value → Option (FinMap (slice_cmp nat_cmp) ℤ)
zset_in (SortedOf scores) = Some scores
zset_in other = None

-- the stream that a value is
abbrev pub stream_in : Value → Option Stream
stream_in (StreamOf stream) = Some stream
stream_in other = None

abbrev pub of_type : {A : Type 0} → World → Option A → (Option A → Outcome) → Outcome
of_type old None answer = refused WrongType old
of_type old (Some own) answer = answer (Some own)

-- with what stands at a key, where something does; a value of another type is refused
abbrev pub on_type : {A : Type 0} → (Value → Option A) → World → Option Entry → (Option A → Outcome) → Outcome
on_type in_value old None answer = answer None
on_type in_value old (Some entry) answer = of_type old (in_value entry.value) answer

-- The same where more than one reply may be given: one that is told of what stands there, and the world stays; a value of
-- another type is refused.
abbrev pub may_tell_of : {A : Type 0} → World → Option A → (Option A → List Part → Type 0) → List Part → World → Type 0
may_tell_of old None told reply new = IsOutcome (refused WrongType old) reply new
may_tell_of old (Some own) told reply new = told (Some own) reply × (new ≡ old)

abbrev pub may_tell : {A : Type 0} → (Value → Option A) → World → Option Entry → (Option A → List Part → Type 0)
    → List Part → World → Type 0
may_tell in_value old None told reply new = told None reply × (new ≡ old)
may_tell in_value old (Some entry) told reply new = may_tell_of old (in_value entry.value) told reply new

-- the same where the reply that is given also decides which world is left
abbrev pub may_do_of : {A : Type 0} → World → Option A → (Option A → List Part → World → Type 0) → List Part → World
    → Type 0
may_do_of old None does reply new = IsOutcome (refused WrongType old) reply new
may_do_of old (Some own) does reply new = does (Some own) reply new

abbrev pub may_do : {A : Type 0} → (Value → Option A) → World → Option Entry
    → (Option A → List Part → World → Type 0) → List Part → World → Type 0
may_do in_value old None does reply new = does None reply new
may_do in_value old (Some entry) does reply new = may_do_of old (in_value entry.value) does reply new

-- what a key gives to a join: what stands for a missing key, or what its value is
abbrev pub source : {A : Type 0} → (Value → Option A) → A → Option Entry → Option A
source in_value missing None = Some missing
source in_value missing (Some entry) = in_value entry.value

abbrev pub with_source : {A : Type 0} → Option A → Option (List A) → Option (List A)
with_source None others = None
with_source (Some own) None = None
with_source (Some own) (Some others) = Some (own ∷ others)

-- what these keys give, if none has a value of another type
abbrev pub sources : {A : Type 0} → (Value → Option A) → A → World → List (List ℕ) → Option (List A)
sources in_value missing old [] = Some []
sources in_value missing old (key ∷ others) =
    with_source (source in_value missing (look old key)) (sources in_value missing old others)

abbrev pub or_no_sources : {A : Type 0} → Option (List A) → List A
or_no_sources None = []
or_no_sources (Some own) = own

-- a value stands at a key, and keeps the deadline that is there
abbrev pub keep : World → List ℕ → Value → World
keep old key value = put old key (record { value = value; deadline = deadline_of (look old key) })

-- What string commands answer, and what they leave (Redis command reference, "Commands operating on strings").
use Rattle.std.specs.Prelude.{ℕ, suc, ◌+◌, ◌-◌, ◌==◌, List, [], ◌∷◌, ◌++◌, length, take, drop, replicate, map, ℤ, pos, negsuc, ◌+ℤ◌, ◌-ℤ◌, int_lt, Option, None, Some, is_some, Bool, true}
use Rattle.std.specs.Prelude.{false, not, ◌&&◌, nat_le, codes, if◌then◌else◌}
use Rattle.int_text.specs.Decimal.{canonical}
use Rattle.plain_world.specs.Worlds.{World, Value, Str, Entry, look, put, remove, stand, deadline_of}
use Rattle.int_text.specs.Decimal.{is_i64, number_of}
use Rattle.plain_model.specs.Outcomes.{Outcome, tells, refused, leaves, IsOutcome}
use Rattle.plain_model.specs.Deadlines.{with_due, from_zero, lasts_until, expire, persist}
use Rattle.plain_world.specs.Words.{longest}
use Rattle.plain_model.specs.declared.command.Condition.{Condition}
use Rattle.plain_model.specs.declared.command.Condition.TheVariants.{Always, IfMissing, IfThere}
use Rattle.plain_model.specs.declared.times.TimeUnit.{TimeUnit}
use Rattle.plain_model.specs.declared.times.TimeUnit.TheVariants.{Seconds, Milliseconds}
use Rattle.plain_model.specs.declared.times.TimeOrigin.TheVariants.{Now}
use Rattle.plain_model.specs.declared.times.Lifetime.{Lifetime}
use Rattle.plain_model.specs.declared.times.Lifetime.TheVariants as lifetimes
use Rattle.plain_model.specs.declared.times.Renewal.{Renewal}
use Rattle.plain_model.specs.declared.times.Renewal.TheVariants as renewals
use Rattle.plain_model.specs.declared.command.StringCommand.{StringCommand}
use Rattle.plain_model.specs.declared.command.StringCommand.TheVariants as strings
use Rattle.plain_world.specs.declared.refusal.Refusal.TheVariants.{WrongType, NotAnInteger, Overflow, ValueOutOfRange}
use Rattle.plain_world.specs.declared.reply.Part.{Part}
use Rattle.plain_world.specs.declared.reply.Part.TheVariants.{Simple, Number, Bulk, Null, Array}

abbrev pub ok : Part
ok = Simple (codes "OK")

-- a string without a deadline
abbrev pub plain : List ℕ → Entry
plain bytes = record { value = Str bytes; deadline = None }

-- with the string of a value; a value of another type is refused
abbrev pub with_string : World → Value → (List ℕ → Outcome) → Outcome
with_string old (Str bytes) answer = answer bytes
with_string old other answer = refused WrongType old

-- with the string at a key, where there is one; a value of another type is refused
abbrev pub on_string : World → Option Entry → (Option (List ℕ) → Outcome) → Outcome
on_string old None answer = answer None
on_string old (Some entry) answer = with_string old entry.value (λ bytes. answer (Some bytes))

-- a missing string counts as the empty one
abbrev pub or_empty : Option (List ℕ) → List ℕ
or_empty None = []
or_empty (Some bytes) = bytes

abbrev pub or_null : Option (List ℕ) → Part
or_null None = Null
or_null (Some bytes) = Bulk bytes

-- the string of a value, or null for another type
abbrev pub string_part : Value → Part
string_part (Str bytes) = Bulk bytes
string_part other = Null

-- the string at a key, or null where none stands
abbrev pub string_or_null : Option Entry → Part
string_or_null None = Null
string_or_null (Some entry) = string_part entry.value

-- The string at a key is changed, which keeps its deadline.
abbrev pub change : World → List ℕ → List ℕ → World
change old key bytes = put old key (record { value = Str bytes; deadline = deadline_of (look old key) })

-- what stood at a key is replaced, and its deadline goes
abbrev pub replace : World → List ℕ → List ℕ → World
replace old key bytes = put old key (plain bytes)

-- each key in turn
abbrev pub replace_all : World → List (List ℕ × List ℕ) → World
replace_all old [] = old
replace_all old (pair ∷ pairs) = replace_all (replace old pair.0 pair.1) pairs

-- something stands at one of the keys
abbrev pub any_there : World → List (List ℕ × List ℕ) → Bool
any_there old [] = false
any_there old (pair ∷ pairs) = if is_some (look old pair.0) then true else any_there old pairs

-- SET writes
abbrev pub allows : Condition → Bool → Bool
allows Always there = true
allows IfMissing there = not there
allows IfThere there = there

-- an index from the front: a negative one counts from the end, and what is still below 0 is 0
abbrev pub from_front : ℕ → ℤ → ℕ
from_front len (pos n) = n
from_front len (negsuc n) = len - suc n

-- the bytes from index a to index b
abbrev pub range : List ℕ → ℤ → ℤ → List ℕ
range bytes a b =
    let first = from_front (length bytes) a in
    let last = from_front (length bytes) b in
    if int_lt a (pos 0) && (int_lt b (pos 0) && int_lt b a) then [] else take (suc last - first) (drop first bytes)

-- the bytes with a piece from a place on; zero bytes fill a gap before it
abbrev pub written_over : List ℕ → ℕ → List ℕ → List ℕ
written_over bytes at piece = take at (bytes ++ replicate at 0) ++ piece ++ drop (at + length piece) bytes

-- the deadline that SET gives
abbrev pub with_lifetime : World → ℕ → List ℕ → Lifetime → (Option ℕ → Outcome) → Outcome
with_lifetime old moment key lifetimes.Forever answer = answer None
with_lifetime old moment key lifetimes.Kept answer = answer (deadline_of (look old key))
with_lifetime old moment key (lifetimes.Until time) answer =
    with_due old moment time (λ deadline. answer (Some (from_zero deadline)))

-- SET writes where its condition allows it. What it writes stands unless its deadline is past already.
abbrev pub set : World → ℕ → List ℕ → Entry → Condition → World
set old moment key entry condition =
    if allows condition (is_some (look old key)) then stand old moment key entry else old

-- a string is appended to, unless it would pass the greatest length
abbrev pub append : World → List ℕ → List ℕ → Option (List ℕ) → Outcome
append old key tail before =
    let bytes = or_empty before ++ tail in
    if nat_le (length bytes) longest then leaves (Number (pos (length bytes)) ∷ []) (change old key bytes)
    else refused ValueOutOfRange old

-- an empty piece changes nothing, and makes no key
abbrev pub set_range : World → List ℕ → ℕ → List ℕ → Option (List ℕ) → Outcome
set_range old key at piece before =
    let bytes = written_over (or_empty before) at piece in
    if length piece == 0 then tells (Number (pos (length (or_empty before))) ∷ []) old
    else leaves (Number (pos (length bytes)) ∷ []) (change old key bytes)

-- the number that the string is; a missing one is 0
abbrev pub number_at : Option (List ℕ) → Option ℤ
number_at None = Some (pos 0)
number_at (Some bytes) = number_of bytes

-- a new number is written, if it fits
abbrev pub counted : World → List ℕ → ℤ → Outcome
counted old key n = if is_i64 n then leaves (Number n ∷ []) (change old key (canonical n)) else refused Overflow old

abbrev pub count_on : World → List ℕ → (ℤ → ℤ) → Option ℤ → Outcome
count_on old key next None = refused NotAnInteger old
count_on old key next (Some n) = counted old key (next n)

-- the number at a key is counted on
abbrev pub count : World → List ℕ → (ℤ → ℤ) → Outcome
count old key next = on_string old (look old key) (λ before. count_on old key next (number_at before))

-- the reply of SET: the old value where it is asked for, else OK, or null where nothing is written
abbrev pub set_outcome : World → ℕ → List ℕ → Entry → Condition → Bool → Outcome
set_outcome old moment key entry condition true =
    on_string old (look old key) (λ before. leaves (or_null before ∷ []) (set old moment key entry condition))
set_outcome old moment key entry condition false =
    leaves ((if allows condition (is_some (look old key)) then ok else Null) ∷ []) (set old moment key entry condition)

-- a value is written that lasts for so many units
abbrev pub set_for : World → ℕ → List ℕ → TimeUnit → ℤ → List ℕ → Outcome
set_for old moment key unit n value =
    with_due old moment (record { unit = unit; from = Now; n = n })
    (λ deadline. leaves (ok ∷ []) (stand old moment key (lasts_until (Str value) (from_zero deadline))))

-- the value is answered, and its deadline is set, goes, or stays
abbrev pub getex_outcome : World → ℕ → List ℕ → Renewal → Outcome
getex_outcome old moment key renewals.Unchanged =
    on_string old (look old key) (λ before. tells (or_null before ∷ []) old)
getex_outcome old moment key renewals.Persist =
    on_string old (look old key) (λ before. leaves (or_null before ∷ []) (persist old key (look old key)))
getex_outcome old moment key (renewals.Until time) =
    with_due old moment time
    (λ deadline.
    on_string old (look old key)
    (λ before. leaves (or_null before ∷ []) (expire old moment key deadline (look old key))))

-- what a command answers and leaves, in the world that is live at the moment
abbrev pub string_outcome : ℕ → World → StringCommand → Outcome
string_outcome moment old (strings.Get key) = on_string old (look old key) (λ before. tells (or_null before ∷ []) old)
string_outcome moment old (strings.Set key value options) =
    with_lifetime old moment key options.lifetime
    (λ deadline.
    set_outcome old moment key (record { value = Str value; deadline = deadline }) options.condition options.get)
string_outcome moment old (strings.SetNx key value) = if is_some (look old key) then tells (Number (pos 0) ∷ []) old
    else leaves (Number (pos 1) ∷ []) (replace old key value)
string_outcome moment old (strings.SetEx key n value) = set_for old moment key Seconds n value
string_outcome moment old (strings.PSetEx key n value) = set_for old moment key Milliseconds n value
string_outcome moment old (strings.GetSet key value) =
    on_string old (look old key) (λ before. leaves (or_null before ∷ []) (replace old key value))
string_outcome moment old (strings.GetDel key) =
    on_string old (look old key) (λ before. leaves (or_null before ∷ []) (remove old key))
string_outcome moment old (strings.GetEx key renewal) = getex_outcome old moment key renewal
string_outcome moment old (strings.MGet keys) =
    tells (Array (length keys) ∷ map (λ key. string_or_null (look old key)) keys) old
string_outcome moment old (strings.MSet pairs) = leaves (ok ∷ []) (replace_all old pairs)
string_outcome moment old (strings.MSetNx pairs) = if any_there old pairs then tells (Number (pos 0) ∷ []) old
    else leaves (Number (pos 1) ∷ []) (replace_all old pairs)
string_outcome moment old (strings.Append key tail) = on_string old (look old key) (append old key tail)
string_outcome moment old (strings.StrLen key) =
    on_string old (look old key) (λ before. tells (Number (pos (length (or_empty before))) ∷ []) old)
string_outcome moment old (strings.GetRange key a b) =
    on_string old (look old key) (λ before. tells (Bulk (range (or_empty before) a b) ∷ []) old)
string_outcome moment old (strings.SetRange key at piece) = on_string old (look old key) (set_range old key at piece)
string_outcome moment old (strings.Incr key) = count old key (λ n. n +ℤ pos 1)
string_outcome moment old (strings.Decr key) = count old key (λ n. n -ℤ pos 1)
string_outcome moment old (strings.IncrBy key by) = count old key (λ n. n +ℤ by)
string_outcome moment old (strings.DecrBy key by) = count old key (λ n. n -ℤ by)

-- from the world that is live at the moment the command may be answered by this reply, and leave the new world
abbrev pub may_strings : World → ℕ → StringCommand → List Part → World → Type 0
may_strings old moment command reply new = IsOutcome (string_outcome moment old command) reply new

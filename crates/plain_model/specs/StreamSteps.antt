-- What commands on streams answer, and what they leave (Redis command reference, "Commands operating on streams").
use Rattle.std.specs.Prelude.{ℕ, ◌+◌, ◌-◌, ◌*◌, ◌%◌, ◌^◌, ◌==◌, List, [], ◌∷◌, ◌++◌, length, take, drop, reverse, pos, Option, None, Some, Bool, false, is_none, not, ◌&&◌, nat_lt, Result}
use Rattle.std.specs.Prelude.{Ok, Err, if◌then◌else◌}
use Rattle.std.specs.List.{filter, flat_map, list_any}
use Rattle.std.specs.Ordering.{is_lt, is_eq}
use Rattle.std.specs.FinMap.{empty}
use Rattle.stream_groups.specs.Groups.{Id, id_cmp}
use Rattle.plain_world.specs.Streams.{Stream, StreamEntry}
use Rattle.plain_world.specs.Worlds.{World, StreamOf, Entry, look}
use Rattle.plain_model.specs.Outcomes.{Outcome, tells, refused, leaves}
use Rattle.plain_model.specs.OfType.{stream_in, on_type, keep}
use Rattle.plain_model.specs.ListSteps.{tells_number}
use Rattle.plain_model.specs.IdTexts.{id_text, greatest_id, next_id}
use Rattle.plain_model.specs.declared.zset_command.Direction.{Direction}
use Rattle.plain_model.specs.declared.zset_command.Direction.TheVariants.{Rising, Falling}
use Rattle.plain_model.specs.declared.stream_command.Trim.{Trim}
use Rattle.plain_model.specs.declared.stream_command.Trim.TheVariants.{MaxLen, MinId}
use Rattle.plain_model.specs.declared.stream_command.NewId.{NewId}
use Rattle.plain_model.specs.declared.stream_command.NewId.TheVariants.{Auto, Within, Given}
use Rattle.plain_model.specs.declared.stream_command.AppendOptions.{AppendOptions}
use Rattle.plain_world.specs.declared.refusal.Refusal.{Refusal}
use Rattle.plain_world.specs.declared.refusal.Refusal.TheVariants.{WrongType, StreamIdNotGreater, NoGreaterStreamId}
use Rattle.plain_world.specs.declared.reply.Part.{Part}
use Rattle.plain_world.specs.declared.reply.Part.TheVariants.{Bulk, Null, NullArray, Array}

-- a field and its value
abbrev pub Pair : Type 0
Pair = List ℕ × List ℕ

-- with the stream at a key, where there is one
abbrev pub on_stream : World → List ℕ → (Option Stream → Outcome) → Outcome
on_stream old key answer = on_type stream_in old (look old key) answer

-- a stream to which nothing was added
abbrev pub no_stream : Stream
no_stream = record { entries = []; last = (0, 0); deleted = (0, 0); added = 0; groups = empty }

-- a missing stream counts as one without an entry
abbrev pub or_no_stream : Option Stream → Stream
or_no_stream None = no_stream
or_no_stream (Some stream) = stream

-- A stream stands at a key and keeps the deadline that is there. One without an entry stays too.
abbrev pub keep_stream : World → List ℕ → Stream → World
keep_stream old key stream = keep old key (StreamOf stream)

-- ---- entries that are added

-- the id that a new entry gets behind the last one, where one of this kind is above it
abbrev pub id_behind : ℕ → Id → NewId → Option Id
id_behind moment last Auto = Some (if nat_lt last.0 moment then (moment, 0) else next_id last)
id_behind moment last (Within ms) =
    if nat_lt last.0 ms then Some (ms, 0)
    else (if (last.0 == ms) && nat_lt last.1 (2 ^ 64 - 1) then Some (ms, last.1 + 1) else None)
id_behind moment last (Given id) = if is_lt (id_cmp last id) then Some id else None

abbrev pub or_not_greater : Option Id → Result Id Refusal
or_not_greater None = Err StreamIdNotGreater
or_not_greater (Some id) = Ok id

-- the same, or why there is none; behind the greatest id there is none at all
abbrev pub id_for : ℕ → Id → NewId → Result Id Refusal
id_for moment last asked =
    if is_eq (id_cmp last greatest_id) then Err NoGreaterStreamId else or_not_greater (id_behind moment last asked)

-- with one entry more, which is counted
abbrev pub with_entry : Stream → Id → List Pair → Stream
with_entry s id pairs = record s {
  entries = s.entries ++ record { id = id; pairs = pairs } ∷ [];
  last = id;
  added = (s.added + 1) % 2 ^ 64;
}

-- an entry's id is below another id
abbrev pub is_low : Id → StreamEntry → Bool
is_low least e = is_lt (id_cmp e.id least)

-- without what goes from the front: all but the last entries, or those below an id
abbrev pub trimmed : Trim → Stream → Stream
trimmed (MaxLen n) s = record s { entries = drop (length s.entries - n) s.entries }
trimmed (MinId least) s = record s { entries = filter (λ e. not (is_low least e)) s.entries }

abbrev pub trimmed_by : Option Trim → Stream → Stream
trimmed_by None s = s
trimmed_by (Some trim) s = trimmed trim s

-- the entry is added, then trimmed is what stands there with it; the id is answered
abbrev pub append_as : World → List ℕ → Option Trim → List Pair → Stream → Result Id Refusal → Outcome
append_as old key trim pairs s (Err refusal) = refused refusal old
append_as old key trim pairs s (Ok id) =
    leaves (Bulk (id_text id) ∷ []) (keep_stream old key (trimmed_by trim (with_entry s id pairs)))

-- a missing stream is made, if that isn't forbidden
abbrev pub append : World → ℕ → List ℕ → AppendOptions → NewId → List Pair → Option Stream → Outcome
append old moment key options asked pairs None =
    if options.only_there then tells (Null ∷ []) old
    else append_as old key options.trim pairs no_stream (id_for moment no_stream.last asked)
append old moment key options asked pairs (Some s) =
    append_as old key options.trim pairs s (id_for moment s.last asked)

-- ---- entries that are removed

-- how many entries are gone is answered
abbrev pub tells_gone : World → List ℕ → Stream → Stream → Outcome
tells_gone old key before after =
    tells_number (pos (length before.entries - length after.entries)) (keep_stream old key after)

abbrev pub trim_to : World → List ℕ → Trim → Option Stream → Outcome
trim_to old key trim None = tells_number (pos 0) old
trim_to old key trim (Some s) = tells_gone old key s (trimmed trim s)

-- an entry has this id
abbrev pub has_id : Id → StreamEntry → Bool
has_id id e = is_eq (id_cmp e.id id)

-- the greater of two ids
abbrev pub greater : Id → Id → Id
greater a b = if is_lt (id_cmp a b) then b else a

-- without the entry of an id, where there is one
abbrev pub without : Stream → Id → Stream
without s id =
    if list_any (has_id id) s.entries
    then record s { entries = filter (λ e. not (has_id id e)) s.entries; deleted = greater s.deleted id }
    else s

abbrev pub without_all : Stream → List Id → Stream
without_all s [] = s
without_all s (id ∷ ids) = without_all (without s id) ids

abbrev pub delete : World → List ℕ → List Id → Option Stream → Outcome
delete old key ids None = tells_number (pos 0) old
delete old key ids (Some s) = tells_gone old key s (without_all s ids)

-- ---- entries that are told

-- as many as these, or all
abbrev pub up_to : {A : Type 0} → Option ℕ → List A → List A
up_to None list = list
up_to (Some n) list = take n list

-- an entry's id is between two ids, both counted in
abbrev pub is_between : Id → Id → StreamEntry → Bool
is_between from to e = not (is_lt (id_cmp e.id from)) && not (is_lt (id_cmp to e.id))

-- entries as they are met
abbrev pub met : Direction → List StreamEntry → List StreamEntry
met Rising list = list
met Falling list = reverse list

-- fields and values, flat
abbrev pub pair_parts : List Pair → List Part
pair_parts pairs = Array (2 * length pairs) ∷ flat_map (λ (pair : Pair). Bulk pair.0 ∷ Bulk pair.1 ∷ []) pairs

-- an id, and the fields and values of its entry
abbrev pub entry_parts : StreamEntry → List Part
entry_parts e = Array 2 ∷ Bulk (id_text e.id) ∷ pair_parts e.pairs

abbrev pub listed : List StreamEntry → List Part
listed list = Array (length list) ∷ flat_map entry_parts list

-- the entries between two ids, so many at most; none are asked for where that is 0
abbrev pub range_of : Id → Id → Direction → Option ℕ → Stream → List Part
range_of from to order None s = listed (met order (filter (is_between from to) s.entries))
range_of from to order (Some n) s =
    if n == 0 then NullArray ∷ [] else listed (take n (met order (filter (is_between from to) s.entries)))

abbrev pub tell_range : World → Id → Id → Direction → Option ℕ → Option Stream → Outcome
tell_range old from to order limit None = tells (Array 0 ∷ []) old
tell_range old from to order limit (Some s) = tells (range_of from to order limit s) old

-- ---- several streams

-- an entry's id is above another id
abbrev pub is_later : Id → StreamEntry → Bool
is_later last e = is_lt (id_cmp last e.id)

-- a key, and the id above which its stream is read; without one XREAD means its last id, XREADGROUP what the group hasn't
-- handed out
abbrev pub Asked : Type 0
Asked = List ℕ × Option Id

abbrev pub from_id : Stream → Option Id → Id
from_id s None = s.last
from_id s (Some id) = id

-- a key, and what is told of it
abbrev pub of_key : List ℕ → List Part → List Part
of_key key parts = Array 2 ∷ Bulk key ∷ parts

-- what is told of a key, where there are entries
abbrev pub some_listed : List ℕ → List StreamEntry → List (List Part)
some_listed key [] = []
some_listed key (e ∷ list) = of_key key (listed (e ∷ list)) ∷ []

-- an array of what is told of keys; without any the null array
abbrev pub all_listed : List (List Part) → List Part
all_listed [] = NullArray ∷ []
all_listed (one ∷ more) = Array (length (one ∷ more)) ∷ flat_map (λ parts. parts) (one ∷ more)

-- the entries of a stream above an id
abbrev pub read_one : Option ℕ → Asked → Option Stream → List (List Part)
read_one limit asked None = []
read_one limit asked (Some s) =
    some_listed asked.0 (up_to limit (filter (is_later (from_id s asked.1)) s.entries))

-- the stream at a key, where one stands there
abbrev pub stream_there : Option Entry → Option Stream
stream_there None = None
stream_there (Some entry) = stream_in entry.value

-- a value of another type stands at a key
abbrev pub is_other : Option Entry → Bool
is_other None = false
is_other (Some entry) = is_none (stream_in entry.value)

-- the entries of each key; a value of another type at one of them is refused
abbrev pub read : World → Option ℕ → List Asked → Outcome
read old limit asked =
    if list_any (λ (one : Asked). is_other (look old one.0)) asked then refused WrongType old
    else tells (all_listed (flat_map (λ (one : Asked). read_one limit one (stream_there (look old one.0))) asked)) old

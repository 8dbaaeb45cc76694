-- What commands on consumer groups of streams answer, and what they leave (Redis command reference, "XGROUP CREATE",
-- "XGROUP DESTROY", "XREADGROUP", "XACK" and "XPENDING").
use Rattle.std.specs.Prelude.{ℕ, ◌-◌, List, [], ◌∷◌, ◌++◌, length, map, slice_get, pos, Option, None, Some, Bool, if◌then◌else◌}
use Rattle.std.specs.List.{filter, flat_map, find, count_by}
use Rattle.std.specs.Fmt.{decimal}
use Rattle.std.specs.FinMap.{get, len, keys, entries, from_entries, contains_key}
use Rattle.std.specs.FinMap as finite
use Rattle.stream_groups.specs.Groups.{Id, Names, Pendings, Group, Groups, created, changed, delivered, is_of, later, with_again, with_consumer}
use Rattle.stream_groups.specs.Groups as groups
use Rattle.plain_world.specs.Streams.{Stream, StreamEntry}
use Rattle.plain_world.specs.Worlds.{World, Entry, look}
use Rattle.plain_model.specs.Outcomes.{Outcome, tells, refused, leaves, IsOutcome}
use Rattle.plain_model.specs.OfType.{stream_in}
use Rattle.plain_model.specs.StringSteps.{ok}
use Rattle.plain_model.specs.ListSteps.{tells_number}
use Rattle.plain_model.specs.IdTexts.{id_text}
use Rattle.plain_model.specs.StreamSteps.{Asked, no_stream, keep_stream, on_stream, stream_there, up_to, is_later, has_id, from_id, entry_parts, of_key, some_listed, all_listed, append}
use Rattle.plain_model.specs.StreamSteps.{trim_to, delete, tell_range, read, or_no_stream}
use Rattle.plain_model.specs.declared.stream_command.StreamCommand.{StreamCommand}
use Rattle.plain_model.specs.declared.stream_command.StreamCommand.TheVariants as streams
use Rattle.plain_world.specs.declared.refusal.Refusal.{Refusal}
use Rattle.plain_world.specs.declared.refusal.Refusal.TheVariants.{WrongType, NoSuchKey, GroupExists, NoSuchGroup}
use Rattle.plain_world.specs.declared.reply.Part.{Part}
use Rattle.plain_world.specs.declared.reply.Part.TheVariants.{Number, Bulk, Null, NullArray, Array}

-- the stream with other groups
abbrev pub regrouped : Stream → Groups → Stream
regrouped s others = record s { groups = others }

-- ---- groups that are made and taken out

-- a group that begins behind an id, or behind the last one
abbrev pub create_in : World → List ℕ → List ℕ → Option Id → Stream → Outcome
create_in old key name id s =
    if contains_key s.groups name then refused GroupExists old
    else leaves (ok ∷ []) (keep_stream old key (regrouped s (created s.groups name (from_id s id))))

-- a missing stream is made where that is asked for
abbrev pub create : World → List ℕ → List ℕ → Option Id → Bool → Option Stream → Outcome
create old key name id make None = if make then create_in old key name id no_stream else refused NoSuchKey old
create old key name id make (Some s) = create_in old key name id s

abbrev pub destroy : World → List ℕ → List ℕ → Option Stream → Outcome
destroy old key name None = refused NoSuchKey old
destroy old key name (Some s) =
    if contains_key s.groups name
    then tells_number (pos 1) (keep_stream old key (regrouped s (finite.remove s.groups name)))
    else tells_number (pos 0) old

-- ---- entries that are handed out

-- who reads, when, and how many entries at most
pub record Reader : Type 0 where
  pub moment : ℕ
  pub group : List ℕ
  pub consumer : List ℕ
  pub limit : Option ℕ

-- the entries that a group hasn't handed out
abbrev pub fresh : Reader → Stream → Group → List StreamEntry
fresh reader s group = up_to reader.limit (filter (is_later group.last) s.entries)

-- the group that has handed them to the consumer: they are pending for it since this moment, handed out once
abbrev pub handed : Reader → Stream → Group → Group
handed reader s group =
    delivered reader.consumer (map (λ (e : StreamEntry). e.id) (fresh reader s group)) reader.moment group

-- an id that is pending, with its entry where the stream still has it
abbrev pub Waits : Type 0
Waits = Id × Option StreamEntry

-- what is pending for the consumer above an id
abbrev pub waiting : Reader → Stream → Id → Group → List Waits
waiting reader s above group =
    map (λ id. (id, find (has_id id) s.entries))
    (up_to reader.limit (map (λ e. e.0) (filter (is_of reader.consumer) (later (Some above) group.pending))))

-- an id is handed out once more at a moment, where its entry is there
abbrev pub once_more : ℕ → Id → Option StreamEntry → Group → Group
once_more moment id None group = group
once_more moment id (Some e) group = with_again id moment group

abbrev pub all_again : ℕ → List Waits → Group → Group
all_again moment [] group = group
all_again moment (one ∷ more) group = all_again moment more (once_more moment one.0 one.1 group)

-- the group that has handed out to the consumer once more what is pending for it
abbrev pub handed_again : Reader → Stream → Id → Group → Group
handed_again reader s above group =
    all_again reader.moment (waiting reader s above group) (with_consumer reader.consumer group)

-- an id with the fields and values of its entry; where the entry is gone, with the null array
abbrev pub waits_parts : Id → Option StreamEntry → List Part
waits_parts id None = Array 2 ∷ Bulk (id_text id) ∷ NullArray ∷ []
waits_parts id (Some e) = entry_parts e

abbrev pub waits_listed : List Waits → List Part
waits_listed list = Array (length list) ∷ flat_map (λ (one : Waits). waits_parts one.0 one.1) list

-- What is told of a stream that is read for one of its groups: without an id the entries that are fresh, where there are
-- some; else what is pending above the id.
abbrev pub told_of : Reader → List ℕ → Option Id → Stream → Group → List (List Part)
told_of reader key None s group = some_listed key (fresh reader s group)
told_of reader key (Some above) s group = of_key key (waits_listed (waiting reader s above group)) ∷ []

-- and what becomes of the group
abbrev pub left_of : Reader → Option Id → Stream → Group → Group
left_of reader None s group = handed reader s group
left_of reader (Some above) s group = handed_again reader s above group

abbrev pub told_in : Reader → List ℕ → Option Id → Stream → Option Group → List (List Part)
told_in reader key id s None = []
told_in reader key id s (Some group) = told_of reader key id s group

-- a key is read: what is told of it, and the world that is left
abbrev pub hand_at : World → Reader → List ℕ → Option Id → Option Stream → List (List Part) × World
hand_at old reader key id None = ([], old)
hand_at old reader key id (Some s) = (
  told_in reader key id s (get s.groups reader.group),
  keep_stream old key (regrouped s (changed s.groups reader.group (left_of reader id s))),
)

-- keys are read, in turn
abbrev pub hand_out : World → Reader → List Asked → List (List Part) × World
hand_out old reader [] = ([], old)
hand_out old reader (one ∷ more) =
    let first = hand_at old reader one.0 one.1 (stream_there (look old one.0)) in
    let rest = hand_out first.1 reader more in
    (first.0 ++ rest.0, rest.1)

-- why a key can't be read for a group: it is missing, has another type, or its stream hasn't the group
abbrev pub refusal_in : List ℕ → Option Stream → Option Refusal
refusal_in name None = Some WrongType
refusal_in name (Some s) = if contains_key s.groups name then None else Some NoSuchGroup

abbrev pub refusal_at : List ℕ → Option Entry → Option Refusal
refusal_at name None = Some NoSuchGroup
refusal_at name (Some entry) = refusal_in name (stream_in entry.value)

abbrev pub or_else : Option Refusal → Option Refusal → Option Refusal
or_else None second = second
or_else (Some refusal) second = Some refusal

-- the first one of the keys that is refused decides
abbrev pub first_refusal : World → List ℕ → List Asked → Option Refusal
first_refusal old name [] = None
first_refusal old name (one ∷ more) = or_else (refusal_at name (look old one.0)) (first_refusal old name more)

abbrev pub unless_refused : World → Option Refusal → List (List Part) × World → Outcome
unless_refused old None read = leaves (all_listed read.0) read.1
unless_refused old (Some refusal) read = refused refusal old

abbrev pub read_group : World → Reader → List Asked → Outcome
read_group old reader asked =
    unless_refused old (first_refusal old reader.group asked) (hand_out old reader asked)

-- ---- ids that are acknowledged, and those that are pending

abbrev pub without_ids : List Id → Group → Group
without_ids [] group = group
without_ids (id ∷ ids) group = without_ids ids (groups.without id group)

-- how many ids aren't pending any more is answered
abbrev pub ack_in : World → List ℕ → List ℕ → List Id → Stream → Option Group → Outcome
ack_in old key name ids s None = tells_number (pos 0) old
ack_in old key name ids s (Some group) =
    tells_number (pos (len group.pending - len (without_ids ids group).pending))
    (keep_stream old key (regrouped s (changed s.groups name (without_ids ids))))

abbrev pub ack : World → List ℕ → List ℕ → List Id → Option Stream → Outcome
ack old key name ids None = tells_number (pos 0) old
ack old key name ids (Some s) = ack_in old key name ids s (get s.groups name)

-- the consumers for which ids are pending
abbrev pub owners : Pendings → Names
owners pending = from_entries (map (λ e. (e.1.consumer, tt)) (entries pending))

-- by rising names, each with the number of its ids
abbrev pub shares : Pendings → List (List ℕ × ℕ)
shares pending = map (λ name. (name, count_by (is_of name) (entries pending))) (keys (owners pending))

-- an array of them; without any the null array
abbrev pub shares_parts : List (List ℕ × ℕ) → List Part
shares_parts [] = NullArray ∷ []
shares_parts (one ∷ more) =
    Array (length (one ∷ more))
    ∷ flat_map (λ (share : List ℕ × ℕ). Array 2 ∷ Bulk share.0 ∷ Bulk (decimal share.1) ∷ []) (one ∷ more)

abbrev pub id_or_null : Option Id → Part
id_or_null None = Null
id_or_null (Some id) = Bulk (id_text id)

-- how many ids are pending, the least, the greatest, and the consumers
abbrev pub pending_parts : Pendings → List Part
pending_parts pending =
    Array 4 ∷ Number (pos (len pending)) ∷ id_or_null (slice_get (keys pending) 0)
    ∷ id_or_null (slice_get (keys pending) (len pending - 1)) ∷ shares_parts (shares pending)

abbrev pub pending_in : World → Option Group → Outcome
pending_in old None = refused NoSuchGroup old
pending_in old (Some group) = tells (pending_parts group.pending) old

abbrev pub tell_pending : World → List ℕ → Option Stream → Outcome
tell_pending old name None = refused NoSuchGroup old
tell_pending old name (Some s) = pending_in old (get s.groups name)

-- ---- each command on streams

-- what a command answers and leaves, in a world that is live at this moment
abbrev pub stream_outcome : World → ℕ → StreamCommand → Outcome
stream_outcome old moment (streams.XAdd key options id pairs) =
    on_stream old key (append old moment key options id pairs)
stream_outcome old moment (streams.XLen key) =
    on_stream old key (λ before. tells_number (pos (length (or_no_stream before).entries)) old)
stream_outcome old moment (streams.XRange key from to order limit) =
    on_stream old key (tell_range old from to order limit)
stream_outcome old moment (streams.XDel key ids) = on_stream old key (delete old key ids)
stream_outcome old moment (streams.XTrim key trim) = on_stream old key (trim_to old key trim)
stream_outcome old moment (streams.XRead limit asked) = read old limit asked
stream_outcome old moment (streams.XGroupCreate key name id make) = on_stream old key (create old key name id make)
stream_outcome old moment (streams.XGroupDestroy key name) = on_stream old key (destroy old key name)
stream_outcome old moment (streams.XReadGroup name consumer limit asked) =
    read_group old (record { moment = moment; group = name; consumer = consumer; limit = limit }) asked
stream_outcome old moment (streams.XAck key name ids) = on_stream old key (ack old key name ids)
stream_outcome old moment (streams.XPending key name) = on_stream old key (tell_pending old name)

-- from the world that is live at the moment the command may be answered by this reply, and leave the new world
abbrev pub may_streams : World → ℕ → StreamCommand → List Part → World → Type 0
may_streams old moment command reply new = IsOutcome (stream_outcome old moment command) reply new

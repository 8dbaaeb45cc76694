-- Commands on streams and their consumer groups leave a fit world.
use Rattle.std.proofs.Common.{◌≡◌, ℕ, zero, suc, ◌-◌, ◌==◌, List, [], ◌∷◌, length, Bool, true, false, Result, Ok, Err, Option, Some, None, refl, subst}
use Rattle.std.specs.Prelude.{◌&&◌, not, nat_le, bytes_eq, pos, codes, if◌then◌else◌}
use Rattle.std.specs.List.{AllByRecursion, filter, flat_map, list_any}
use Rattle.std.specs.FinMap.{contains_key, get, insert}
use Rattle.std.specs.FinMap as finite
use Rattle.stream_groups.specs.Groups.{Id, Names, Group, Groups, new_group, created, changed, changed_from, with_consumer, with_again, delivered}
use Rattle.stream_groups.specs.Groups as groups
use Rattle.plain_world.specs.Words.{Words, in_lower_case}
use Rattle.plain_world.specs.Streams.{Stream, StreamEntry}
use Rattle.plain_world.specs.Worlds.{World, Value, StreamOf, Entry, look}
use Rattle.plain_world.specs.declared.refusal.Refusal.{Refusal}
use Rattle.plain_world.specs.declared.refusal.Refusal.TheVariants.{WrongNumberOfArguments, Syntax, ValueOutOfRange, NoSuchKey, GroupExists, WrongType}
use Rattle.plain_world.specs.declared.reply.Part.{Part}
use Rattle.plain_world.specs.declared.reply.Part.TheVariants.{Null}
use Rattle.plain_model.specs.Outcomes.{Outcome, leaves, tells, refused}
use Rattle.plain_model.specs.OfType.{stream_in}
use Rattle.plain_model.specs.Shapes.{Plain, EntryId, IdOr, ForEntry, FirstId, LastId, told, and_then}
use Rattle.plain_model.specs.StringWords.{pairs_of}
use Rattle.plain_model.specs.StringSteps.{ok}
use Rattle.plain_model.specs.StreamWords.{trim_words, trim_of, trim_to, own_words, no_append_options, is_option, own_of, behind_options, append_options, longest_entry, pairs_len, entry_of}
use Rattle.plain_model.specs.StreamWords.{entry_words, is_entry, append_words}
use Rattle.plain_model.specs.StreamWords.{count_option, at_most, each_told, streams_read, read_words, group_read, read_group_words, create_options, no_options, group_rows, stream_rows}
use Rattle.plain_model.specs.ListSteps.{tells_number}
use Rattle.plain_model.specs.StreamSteps.{Pair, on_stream, no_stream, or_no_stream, keep_stream, id_for, with_entry, is_low, trimmed, trimmed_by, append_as, append, tells_gone, has_id}
use Rattle.plain_model.specs.StreamSteps.{greater, without, without_all, delete, Asked, from_id, is_other, stream_there}
use Rattle.plain_model.specs.StreamSteps as steps
use Rattle.plain_model.specs.GroupSteps.{regrouped, create_in, create, destroy, Reader, Waits, waiting, once_more, all_again, left_of, hand_at, hand_out, first_refusal, unless_refused}
use Rattle.plain_model.specs.GroupSteps.{read_group, without_ids, ack_in, ack}
use Rattle.plain_model.specs.GroupSteps.{pending_in, tell_pending, stream_outcome, may_streams}
use Rattle.plain_model.specs.declared.stream_command.StreamCommand.{StreamCommand}
use Rattle.plain_model.specs.declared.stream_command.StreamCommand.TheVariants as streams
use Rattle.plain_model.specs.declared.stream_command.AppendOptions.{AppendOptions}
use Rattle.plain_model.specs.declared.stream_command.NewId.{NewId}
use Rattle.plain_model.specs.declared.stream_command.Trim.{Trim}
use Rattle.plain_model.specs.declared.stream_command.Trim.TheVariants.{MaxLen, MinId}
use Rattle.plain_model.specs.declared.zset_command.Direction.TheVariants.{Rising, Falling}
use Rattle.plain_model.proofs.Told.{then_told, if_has, never, made}
use Rattle.fit_worlds.specs.Fit.{IsShort, AreShort, IsShortPair, EachIs, HasShortPairs, IsFitGroup, IsFitStream, IsFitValue, IsFit}
use Rattle.fit_worlds.proofs.Each.{each_append, each_drop, each_filter}
use Rattle.fit_worlds.proofs.Maps.{each_empty, each_insert, each_remove}
use Rattle.fit_worlds.proofs.Told.{◌⊗◌, RowKeeps, ReadingKeeps, fixed_makes, repeated_keeps, options_make, by_second_keeps, pairs_short}
use Rattle.fit_worlds.proofs.Worlds.{fit_there, fit_keep, fit_on_type, fit_outcome}

-- ---- what the words of a command that writes are

abbrev pub ShortStreams : StreamCommand → Type 0
ShortStreams (streams.XAdd key options id pairs) = IsShort key × AllByRecursion IsShortPair pairs
ShortStreams (streams.XGroupCreate key name id make) = IsShort key × IsShort name
ShortStreams (streams.XReadGroup name consumer limit asked) = IsShort consumer
ShortStreams other = Unit {0}

-- what stands behind options is short too
behind_short : (skip : ℕ) (words : Words) → AreShort words → AreShort (behind_options skip words)
behind_short skip [] short = tt
behind_short (suc skip) (word ∷ words) short = behind_short skip words short.1
behind_short zero (word ∷ words) short =
    elim (is_option word) as (λ b. AreShort (if b then behind_options (own_of word words) words else word ∷ words)) [
      | true ↦ behind_short (own_of word words) words short.1
      | false ↦ short
    ]

entry_short : (key : List ℕ) (behind : Words) (options : AppendOptions) → IsShort key → AreShort behind → (c : StreamCommand) → entry_words key behind options ≡ Ok c → ShortStreams c
entry_short key [] options is short c e = cc
entry_short key (word ∷ fields) options is short c e =
    let pairs = pairs_of fields in
    then_told ShortStreams (told ForEntry word) (entry_of key options pairs) (λ id told.
    if_has ShortStreams (nat_le (pairs_len pairs) longest_entry) (Ok (streams.XAdd key options id pairs)) (Err ValueOutOfRange)
    (λ b. made ShortStreams (streams.XAdd key options id pairs) b (is, pairs_short fields short.1)) (never ShortStreams ValueOutOfRange)) c e

append_short : ReadingKeeps ShortStreams append_words
append_short [] short c e = cc
append_short (key ∷ words) short c e =
    let behind = behind_options 0 words in
    let options = append_options no_append_options 0 words in
    if_has ShortStreams (is_entry behind) (and_then options (entry_words key behind)) (Err WrongNumberOfArguments)
    (then_told ShortStreams options (entry_words key behind) (λ o is. entry_short key behind o short.0 (behind_short 0 words short.1))) (never ShortStreams WrongNumberOfArguments) c e

trim_short : ReadingKeeps ShortStreams trim_words
trim_short [] short c e = cc
trim_short (key ∷ []) short c e = cc
trim_short (key ∷ name ∷ words) short c e =
    let trim = trim_of (in_lower_case name) words in
    if_has ShortStreams (nat_le 1 (length words) && nat_le (length words) 2) (and_then trim (trim_to key words)) (Err WrongNumberOfArguments)
    (then_told ShortStreams trim (trim_to key words) (λ t is.
    if_has ShortStreams (length words == own_words words) (Ok (streams.XTrim key t)) (Err Syntax) (λ b. made ShortStreams (streams.XTrim key t) b tt) (never ShortStreams Syntax)))
    (never ShortStreams WrongNumberOfArguments) c e

read_short : ReadingKeeps ShortStreams read_words
read_short words short =
    let list = streams_read (codes "$") None words in
    if_has ShortStreams (nat_le 3 (length words)) (and_then list (λ read. Ok (streams.XRead read.0 read.1))) (Err WrongNumberOfArguments)
    (then_told ShortStreams list (λ read. Ok (streams.XRead read.0 read.1)) (λ read is b. made ShortStreams (streams.XRead read.0 read.1) b tt)) (never ShortStreams WrongNumberOfArguments)

group_short : ReadingKeeps ShortStreams group_read
group_short [] short c e = cc
group_short (word ∷ []) short c e = cc
group_short (word ∷ group ∷ []) short c e = cc
group_short (word ∷ group ∷ consumer ∷ words) short c e =
    let list = streams_read (codes ">") None words in
    if_has ShortStreams (bytes_eq (in_lower_case word) (codes "group")) (and_then list (λ read. Ok (streams.XReadGroup group consumer read.0 read.1))) (Err Syntax)
    (then_told ShortStreams list (λ read. Ok (streams.XReadGroup group consumer read.0 read.1)) (λ read is b.
    made ShortStreams (streams.XReadGroup group consumer read.0 read.1) b short.1.1.0)) (never ShortStreams Syntax) c e

read_group_short : ReadingKeeps ShortStreams read_group_words
read_group_short words short =
    if_has ShortStreams (nat_le 6 (length words)) (group_read words) (Err WrongNumberOfArguments) (group_short words short) (never ShortStreams WrongNumberOfArguments)

pub stream_rows_short : AllByRecursion (RowKeeps ShortStreams) stream_rows
stream_rows_short =
    append_short
    ⊗ fixed_makes ShortStreams (Plain ∷ []) (λ a. streams.XLen a.0) (λ a k. tt)
    ⊗ options_make ShortStreams (Plain ∷ FirstId ∷ LastId ∷ []) (count_option at_most ∷ []) None (λ a o. streams.XRange a.0 a.1.0 a.1.1.0 Rising o) (λ a k o. tt)
    ⊗ options_make ShortStreams (Plain ∷ LastId ∷ FirstId ∷ []) (count_option at_most ∷ []) None (λ a o. streams.XRange a.0 a.1.1.0 a.1.0 Falling o) (λ a k o. tt)
    ⊗ repeated_keeps ShortStreams (Plain ∷ []) 1 (λ a own. and_then (each_told EntryId own) (λ ids. Ok (streams.XDel a.0 ids)))
    (λ a k own short c. then_told ShortStreams (each_told EntryId own) (λ ids. Ok (streams.XDel a.0 ids)) (λ ids is b. made ShortStreams (streams.XDel a.0 ids) b tt) c)
    ⊗ trim_short
    ⊗ read_short
    ⊗ by_second_keeps ShortStreams 3 group_rows
    (options_make ShortStreams (Plain ∷ Plain ∷ IdOr (codes "$") ∷ []) create_options false (λ a o. streams.XGroupCreate a.0 a.1.0 a.1.1.0 o) (λ a k o. (k.0, k.1.0))
    ⊗ fixed_makes ShortStreams (Plain ∷ Plain ∷ []) (λ a. streams.XGroupDestroy a.0 a.1.0) (λ a k. tt)
    ⊗ tt)
    ⊗ read_group_short
    ⊗ repeated_keeps ShortStreams (Plain ∷ Plain ∷ []) 1 (λ a own. and_then (each_told EntryId own) (λ ids. Ok (streams.XAck a.0 a.1.0 ids)))
    (λ a k own short c. then_told ShortStreams (each_told EntryId own) (λ ids. Ok (streams.XAck a.0 a.1.0 ids)) (λ ids is b. made ShortStreams (streams.XAck a.0 a.1.0 ids) b tt) c)
    ⊗ options_make ShortStreams (Plain ∷ Plain ∷ []) no_options tt (λ a o. streams.XPending a.0 a.1.0) (λ a k o. tt)
    ⊗ tt

-- ---- entries

fit_no_stream : IsFitStream no_stream
fit_no_stream = record { entries = tt; groups = each_empty IsFitGroup }

fit_with_entry : (s : Stream) (id : Id) (pairs : List Pair) → IsFitStream s → AllByRecursion IsShortPair pairs → IsFitStream (with_entry s id pairs)
fit_with_entry s id pairs fit short = record {
  entries = each_append HasShortPairs s.entries (record { id = id; pairs = pairs } ∷ []) fit.entries (short, tt);
  groups = fit.groups;
}

fit_trimmed : (trim : Trim) (s : Stream) → IsFitStream s → IsFitStream (trimmed trim s)
fit_trimmed (MaxLen n) s fit = record { entries = each_drop HasShortPairs (length s.entries - n) s.entries fit.entries; groups = fit.groups }
fit_trimmed (MinId least) s fit = record { entries = each_filter HasShortPairs (λ e. not (is_low least e)) s.entries fit.entries; groups = fit.groups }

fit_trimmed_by : (trim : Option Trim) (s : Stream) → IsFitStream s → IsFitStream (trimmed_by trim s)
fit_trimmed_by None s fit = fit
fit_trimmed_by (Some trim) s fit = fit_trimmed trim s fit

fit_without : (s : Stream) (id : Id) → IsFitStream s → IsFitStream (without s id)
fit_without s id fit =
    elim (list_any (has_id id) s.entries) as
    (λ b. IsFitStream (if b then record s { entries = filter (λ e. not (has_id id e)) s.entries; deleted = greater s.deleted id } else s)) [
      | true ↦ record { entries = each_filter HasShortPairs (λ e. not (has_id id e)) s.entries fit.entries; groups = fit.groups }
      | false ↦ fit
    ]

fit_without_all : (s : Stream) (ids : List Id) → IsFitStream s → IsFitStream (without_all s ids)
fit_without_all s [] fit = fit
fit_without_all s (id ∷ ids) fit = fit_without_all (without s id) ids (fit_without s id fit)

-- ---- groups

-- the consumers of a group are short
abbrev ShortConsumers : Group → Type 0
ShortConsumers group = EachIs (λ consumer nothing. IsShort consumer) group.consumers

-- a group that changes keeps its name
fit_changed : (s : Stream) (name : List ℕ) (change : Group → Group) → ((group : Group) → ShortConsumers group → ShortConsumers (change group)) → IsFitStream s
    → IsFitStream (regrouped s (changed s.groups name change))
fit_changed s name change keeps fit = record { entries = fit.entries; groups = at (get s.groups name) refl }
  where
    at : (o : Option Group) → get s.groups name ≡ o → EachIs IsFitGroup (changed_from s.groups name change o)
    at None is = fit.groups
    at (Some group) is =
        let own = fit.groups name group is in
        each_insert IsFitGroup s.groups name (change group) fit.groups (record { short = own.short; consumers = keeps group own.consumers })

one_more : (consumer : List ℕ) → IsShort consumer → (names : Names) → EachIs (λ consumer nothing. IsShort consumer) names → EachIs (λ consumer nothing. IsShort consumer) (insert names consumer tt)
one_more consumer is names short = each_insert (λ consumer nothing. IsShort consumer) names consumer tt short is

-- ids that are handed out once more leave the consumers
again_short : (moment : ℕ) (waits : List Waits) (group : Group) → ShortConsumers group → ShortConsumers (all_again moment waits group)
again_short moment [] group short = short
again_short moment (one ∷ more) group short = again_short moment more (once_more moment one.0 one.1 group) (once one.1)
  where
    once : (o : Option StreamEntry) → ShortConsumers (once_more moment one.0 o group)
    once None = short
    once (Some e) = short

left_short : (reader : Reader) (id : Option Id) (s : Stream) → IsShort reader.consumer → (group : Group) → ShortConsumers group → ShortConsumers (left_of reader id s group)
left_short reader None s is group short = one_more reader.consumer is group.consumers short
left_short reader (Some above) s is group short =
    again_short reader.moment (waiting reader s above group) (with_consumer reader.consumer group) (one_more reader.consumer is group.consumers short)

without_ids_short : (ids : List Id) (group : Group) → ShortConsumers group → ShortConsumers (without_ids ids group)
without_ids_short [] group short = short
without_ids_short (id ∷ ids) group short = without_ids_short ids (groups.without id group) short

-- ---- steps

-- the stream that a fit value is
fit_stream : (v : Value) (s : Stream) → stream_in v ≡ Some s → IsFitValue v → IsFitStream s
fit_stream (StreamOf other) s is fit = let one : other ≡ s = cc in subst IsFitStream one fit
fit_stream other s is fit = cc

fit_keep_stream : (old : World) → IsFit old → (key : List ℕ) → IsShort key → (s : Stream) → IsFitStream s → IsFit (keep_stream old key s)
fit_keep_stream old fit key is s short = fit_keep old fit key (StreamOf s) is short

-- a key that is read for a group, and keys in turn
fit_hand_at : (old : World) → IsFit old → (reader : Reader) → IsShort reader.consumer → (key : List ℕ) (id : Option Id) → IsFit (hand_at old reader key id (stream_there (look old key))).1
fit_hand_at old fit reader is key id = at (look old key) refl
  where
    own : (e : Entry) → look old key ≡ Some e → (o : Option Stream) → stream_in e.value ≡ o → IsFit (hand_at old reader key id o).1
    own e there None i = fit
    own e there (Some s) i =
        let k = fit_there old fit key e there in
        fit_keep_stream old fit key k.short (regrouped s (changed s.groups reader.group (left_of reader id s)))
        (fit_changed s reader.group (left_of reader id s) (left_short reader id s is) (fit_stream e.value s i k.value))

    at : (o : Option Entry) → look old key ≡ o → IsFit (hand_at old reader key id (stream_there o)).1
    at None there = fit
    at (Some e) there = own e there (stream_in e.value) refl

fit_hand_out : (old : World) → IsFit old → (reader : Reader) → IsShort reader.consumer → (asked : List Asked) → IsFit (hand_out old reader asked).1
fit_hand_out old fit reader is [] = fit
fit_hand_out old fit reader is (one ∷ more) =
    fit_hand_out (hand_at old reader one.0 one.1 (stream_there (look old one.0))).1 (fit_hand_at old fit reader is one.0 one.1) reader is more

module _ (old : World) (fit : IsFit old) where
  fit_on_stream : (key : List ℕ) (answer : Option Stream → Outcome) → IsFit (answer None).world → ((s : Stream) → IsShort key → IsFitStream s → IsFit (answer (Some s)).world)
      → IsFit (on_stream old key answer).world
  fit_on_stream key answer none some = fit_on_type old fit stream_in IsFitStream fit_stream key answer none some

  fit_append : (moment : ℕ) (key : List ℕ) (options : AppendOptions) (asked : NewId) (pairs : List Pair) → IsShort key → AllByRecursion IsShortPair pairs
      → IsFit (stream_outcome old moment (streams.XAdd key options asked pairs)).world
  fit_append moment key options asked pairs is short =
      fit_on_stream key (append old moment key options asked pairs)
      (elim options.only_there as (λ b. IsFit (if b then tells (Null ∷ []) old else append_as old key options.trim pairs no_stream (id_for moment no_stream.last asked)).world) [
        | true ↦ fit
        | false ↦ added no_stream fit_no_stream (id_for moment no_stream.last asked)
      ]) (λ s k stream. added s stream (id_for moment s.last asked))
    where
      added : (s : Stream) → IsFitStream s → (r : Result Id Refusal) → IsFit (append_as old key options.trim pairs s r).world
      added s stream (Err refusal) = fit
      added s stream (Ok id) =
          fit_keep_stream old fit key is (trimmed_by options.trim (with_entry s id pairs)) (fit_trimmed_by options.trim (with_entry s id pairs) (fit_with_entry s id pairs stream short))

  fit_create : (key name : List ℕ) (id : Option Id) (make : Bool) → IsShort key → IsShort name → (moment : ℕ) → IsFit (stream_outcome old moment (streams.XGroupCreate key name id make)).world
  fit_create key name id make is short moment =
      fit_on_stream key (create old key name id make)
      (elim make as (λ b. IsFit (if b then create_in old key name id no_stream else refused NoSuchKey old).world) [ true ↦ made_in no_stream fit_no_stream | false ↦ fit ])
      (λ s k stream. made_in s stream)
    where
      grouped : (s : Stream) → IsFitStream s → (b : Bool) → EachIs IsFitGroup (if b then s.groups else insert s.groups name (new_group (from_id s id)))
      grouped s stream true = stream.groups
      grouped s stream false =
          each_insert IsFitGroup s.groups name (new_group (from_id s id)) stream.groups (record { short = short; consumers = each_empty (λ consumer nothing. IsShort consumer) })

      made_in : (s : Stream) → IsFitStream s → IsFit (create_in old key name id s).world
      made_in s stream =
          elim (contains_key s.groups name) as
          (λ b. IsFit (if b then refused GroupExists old else leaves (ok ∷ []) (keep_stream old key (regrouped s (created s.groups name (from_id s id))))).world) [
            | true ↦ fit
            | false ↦ fit_keep_stream old fit key is (regrouped s (created s.groups name (from_id s id))) (record { entries = stream.entries; groups = grouped s stream (contains_key s.groups name) })
          ]

  fit_destroy : (key name : List ℕ) (moment : ℕ) → IsFit (stream_outcome old moment (streams.XGroupDestroy key name)).world
  fit_destroy key name moment =
      fit_on_stream key (destroy old key name) fit (λ s k stream.
      elim (contains_key s.groups name) as (λ b. IsFit (if b then tells_number (pos 1) (keep_stream old key (regrouped s (finite.remove s.groups name))) else tells_number (pos 0) old).world) [
        | true ↦ fit_keep_stream old fit key k (regrouped s (finite.remove s.groups name)) (record { entries = stream.entries; groups = each_remove IsFitGroup s.groups name stream.groups })
        | false ↦ fit
      ])

  fit_read_group : (reader : Reader) (asked : List Asked) → IsShort reader.consumer → IsFit (read_group old reader asked).world
  fit_read_group reader asked is = at (first_refusal old reader.group asked)
    where
      at : (o : Option Refusal) → IsFit (unless_refused old o (hand_out old reader asked)).world
      at None = fit_hand_out old fit reader is asked
      at (Some refusal) = fit

  fit_ack : (key name : List ℕ) (ids : List Id) (moment : ℕ) → IsFit (stream_outcome old moment (streams.XAck key name ids)).world
  fit_ack key name ids moment = fit_on_stream key (ack old key name ids) fit (λ s k stream. at s k stream (get s.groups name))
    where
      at : (s : Stream) → IsShort key → IsFitStream s → (o : Option Group) → IsFit (ack_in old key name ids s o).world
      at s k stream None = fit
      at s k stream (Some group) =
          fit_keep_stream old fit key k (regrouped s (changed s.groups name (without_ids ids))) (fit_changed s name (without_ids ids) (without_ids_short ids) stream)

  fit_pending : (key name : List ℕ) (moment : ℕ) → IsFit (stream_outcome old moment (streams.XPending key name)).world
  fit_pending key name moment = fit_on_stream key (tell_pending old name) fit (λ s k stream. at (get s.groups name))
    where
      at : (o : Option Group) → IsFit (pending_in old o).world
      at None = fit
      at (Some group) = fit

  fit_read : (moment : ℕ) (limit : Option ℕ) (asked : List Asked) → IsFit (stream_outcome old moment (streams.XRead limit asked)).world
  fit_read moment limit asked =
      at (list_any (λ (one : Asked). is_other (look old one.0)) asked)
      (steps.all_listed (flat_map (λ (one : Asked). steps.read_one limit one (stream_there (look old one.0))) asked))
    where
      at : (b : Bool) (parts : List Part) → IsFit (if b then refused WrongType old else tells parts old).world
      at true parts = fit
      at false parts = fit

  outcome_fit : (moment : ℕ) (c : StreamCommand) → ShortStreams c → IsFit (stream_outcome old moment c).world
  outcome_fit moment (streams.XAdd key options id pairs) short = fit_append moment key options id pairs short.0 short.1
  outcome_fit moment (streams.XLen key) short = fit_on_stream key (λ before. tells_number (pos (length (or_no_stream before).entries)) old) fit (λ s k stream. fit)
  outcome_fit moment (streams.XRange key from to order limit) short = fit_on_stream key (steps.tell_range old from to order limit) fit (λ s k stream. fit)
  outcome_fit moment (streams.XDel key ids) short =
      fit_on_stream key (delete old key ids) fit (λ s k stream. fit_keep_stream old fit key k (without_all s ids) (fit_without_all s ids stream))
  outcome_fit moment (streams.XTrim key trim) short = fit_on_stream key (steps.trim_to old key trim) fit (λ s k stream. fit_keep_stream old fit key k (trimmed trim s) (fit_trimmed trim s stream))
  outcome_fit moment (streams.XRead limit asked) short = fit_read moment limit asked
  outcome_fit moment (streams.XGroupCreate key name id make) short = fit_create key name id make short.0 short.1 moment
  outcome_fit moment (streams.XGroupDestroy key name) short = fit_destroy key name moment
  outcome_fit moment (streams.XReadGroup name consumer limit asked) short =
      fit_read_group (record { moment = moment; group = name; consumer = consumer; limit = limit }) asked short
  outcome_fit moment (streams.XAck key name ids) short = fit_ack key name ids moment
  outcome_fit moment (streams.XPending key name) short = fit_pending key name moment

pub streams_fit : (old : World) → IsFit old → (moment : ℕ) (c : StreamCommand) → ShortStreams c → (reply : List Part) (new : World) → may_streams old moment c reply new → IsFit new
streams_fit old fit moment c short reply new m = fit_outcome (stream_outcome old moment c) reply new (outcome_fit old fit moment c short) m

-- How commands leave the encodings of values (Redis command reference, "OBJECT ENCODING").
use Rattle.std.specs.Prelude.{◌≡◌, ◌⊎◌, ◌==◌, ◌&&◌, ℕ, List, [], ◌∷◌, map, length, Bool, true, false, Option, None, Some, is_some, not, bytes_eq, ℤ, ◌+ℤ◌, ◌++◌, if◌then◌else◌}
use Rattle.blocks.specs.Blocks.{Blocks}
use Rattle.plain_world.specs.Worlds.{World, Entry, look, look_in}
use Rattle.plain_model.specs.KeySteps.{or_selected}
use Rattle.plain_model.specs.declared.command.Command.{Command}
use Rattle.plain_model.specs.declared.command.Command.TheVariants.{Strings, Lists, Sets, Hashes, Zsets, Streams, Keys, Connection}
use Rattle.plain_model.specs.declared.command.StringCommand.{StringCommand}
use Rattle.plain_model.specs.declared.command.StringCommand.TheVariants as strings
use Rattle.plain_model.specs.declared.list_command.ListCommand.{ListCommand}
use Rattle.plain_model.specs.declared.list_command.ListCommand.TheVariants as lists
use Rattle.plain_model.specs.declared.set_command.SetCommand.{SetCommand}
use Rattle.plain_model.specs.declared.set_command.SetCommand.TheVariants as sets
use Rattle.plain_model.specs.declared.hash_command.HashCommand.{HashCommand}
use Rattle.plain_model.specs.declared.hash_command.HashCommand.TheVariants as hashes
use Rattle.plain_model.specs.declared.zset_command.ZsetCommand.{ZsetCommand}
use Rattle.plain_model.specs.declared.zset_command.ZsetCommand.TheVariants as zsets
use Rattle.plain_model.specs.declared.zset_command.ScoreRules.{ScoreRules}
use Rattle.plain_model.specs.declared.stream_command.StreamCommand.{StreamCommand}
use Rattle.plain_model.specs.declared.stream_command.StreamCommand.TheVariants as streams
use Rattle.plain_model.specs.declared.keys.KeyCommand.{KeyCommand}
use Rattle.plain_model.specs.declared.keys.KeyCommand.TheVariants as keys
use Rattle.std.specs.FinMap.{empty, get, insert}
use Rattle.std.specs.List.{AllByRecursion}
use Rattle.object_codec.specs.declared.limits.Limits.{Limits}
use Rattle.hash_object.specs.Maps.{FitsFields}
use Rattle.set_object.specs.Strings.{FitsMembers}
use Rattle.zset_object.specs.Orders.{FitsScored}
use Rattle.int_text.specs.Decimal.{canonical}
use Rattle.plain_model.specs.OfType.{list_in, set_in, hash_in, zset_in, or_no_sources}
use Rattle.plain_model.specs.SetSteps.{Members, or_no_members, has, is_joined, sets_at}
use Rattle.plain_model.specs.HashSteps.{Fields, or_no_fields, number_in}
use Rattle.plain_model.specs.ZsetSteps.{Scores, Scored, or_no_scores, permits, write_score, or_zero, joined_score, weights_of, zsets_at}
use Rattle.plain_model.specs.ListSteps.{Elements, or_none, added, from_end, place_of, replaced, inserted_beside}
use Rattle.plain_model.specs.StringSteps.{allows, any_there}
use Rattle.plain_model.specs.Outcomes.{IsRefusal}
use Rattle.plain_world.specs.declared.reply.Part.{Part}
use Rattle.plain_model.specs.declared.list_command.ListEnd.{ListEnd}
use Rattle.plain_model.specs.declared.list_command.ListEnd.TheVariants.{Head, Tail}
use Rattle.object_codec.specs.Forms.{IsLeast, IsLeastFrom, FitsList}
use Rattle.object_codec.specs.declared.form.Form as codec
use Rattle.object_codec.specs.declared.form.Form.TheVariants as forms
use Rattle.quicklist.specs.Nodes.{pack_len}
use Rattle.held.specs.Calls.{HasValue, AllAt}
use Rattle.held.specs.Table.{Element, item}
use Rattle.held.specs.Written as held
use Rattle.keyspace.specs.Databases.{Bases, Keyspace, table_at}
use Rattle.keyspace.specs.Values.{value_refs, encoding_of, OfForm, IsWrittenWhole, IsRaw, IsLike}
use Rattle.keyspace.specs.declared.value.Value.{Value}

-- every value is encoded as one written whole
abbrev pub AreWhole : Bases → Type 0
AreWhole bases =
    (db at : ℕ) (element : Element Value) → item (table_at bases db) at ≡ Some element → IsWrittenWhole element.value

-- the form of the list that stands at a key, or of a new one where nothing stands there
abbrev pub IsFormAt : Bool → Bases → Blocks → ℕ → List ℕ → codec.Form → Type 0
IsFormAt true old m db key form =
    (source : Value) × HasValue old m db key source × (encoding_of source ≡ OfForm form)
IsFormAt false old m db key form = IsLeast (FitsList 7) form

-- A list that takes so many bytes as one listpack has the least form that fits, and not one below that of what stood at
-- the key, or of a new one.
pub record IsRisenAt (there : Bool) (long db : ℕ) (key : List ℕ) (old : Bases) (m : Blocks) (value : Value) : Type 0 where
  pub from : codec.Form
  pub form : codec.Form
  pub at : IsFormAt there old m db key from
  pub is : encoding_of value ≡ OfForm form
  pub risen : IsLeastFrom from (FitsList long) form

-- the form of a hash after each of these values was set at its field, one after the other: each time the least one that
-- fits and isn't below the one before
abbrev pub RisesBy : Limits → codec.Form → Fields → List (List ℕ × List ℕ) → codec.Form → Type 0
RisesBy limits from fields [] form = form ≡ from
RisesBy limits from fields (pair ∷ pairs) form =
    (mid : codec.Form) × IsLeastFrom from (FitsFields limits (insert fields pair.0 pair.1)) mid
    × RisesBy limits mid (insert fields pair.0 pair.1) pairs form

-- the same of a set of these members, where the last one was there, or is new
abbrev pub RisesIf : Bool → Limits → codec.Form → Members → codec.Form → Type 0
RisesIf true limits from members form = form ≡ from
RisesIf false limits from members form = IsLeastFrom from (FitsMembers limits members) form

-- the same of a set after one more member
abbrev pub RisesTo : Limits → codec.Form → Members → List ℕ → codec.Form → Type 0
RisesTo limits from members member form = RisesIf (has members member) limits from (insert members member tt) form

-- the same of a set after each of these members was added, one after the other; one that is there changes nothing
abbrev pub RisesWith : Limits → codec.Form → Members → List (List ℕ) → codec.Form → Type 0
RisesWith limits from members [] form = form ≡ from
RisesWith limits from members (member ∷ others) form =
    (mid : codec.Form) × RisesTo limits from members member mid
    × RisesWith limits mid (insert members member tt) others form

-- the same of a sorted set of these scores, where the last one was written or not
abbrev pub RisesWhere : Bool → Limits → codec.Form → Scores → codec.Form → Type 0
RisesWhere true limits from scores form = IsLeastFrom from (FitsScored limits scores) form
RisesWhere false limits from scores form = form ≡ from

-- the same of a sorted set after one more score
abbrev pub RisesScored : ScoreRules → Limits → codec.Form → Scores → Scored → codec.Form → Type 0
RisesScored rules limits from scores pair form =
    RisesWhere (permits rules (get scores pair.1) pair.0) limits from (insert scores pair.1 pair.0) form

-- the same of a sorted set after each of these scores was written that the rules permit, one after the other
abbrev pub RisesUnder : ScoreRules → Limits → codec.Form → Scores → List Scored → codec.Form → Type 0
RisesUnder rules limits from scores [] form = form ≡ from
RisesUnder rules limits from scores (pair ∷ pairs) form =
    (mid : codec.Form) × RisesScored rules limits from scores pair mid
    × RisesUnder rules limits mid (write_score rules scores pair) pairs form

-- the form of the value that stands at a key, or the least form of one without an element where nothing stands there
abbrev pub IsSourceForm : Bool → (codec.Form → Type 0) → Bases → Blocks → ℕ → List ℕ → codec.Form → Type 0
IsSourceForm true least old m db key form =
    (source : Value) × HasValue old m db key source × (encoding_of source ≡ OfForm form)
IsSourceForm false least old m db key form = IsLeast least form

-- A hash of these fields, that stood at the key or is a new one, rose by the values that were set.
pub record IsHashRisen (there : Bool) (fields : Fields) (pairs : List (List ℕ × List ℕ)) (db : ℕ) (key : List ℕ)
    (old : Bases) (m : Blocks) (value : Value) : Type 0 where
  pub from : codec.Form
  pub form : codec.Form
  pub at : IsSourceForm there (FitsFields old.limits empty) old m db key from
  pub is : encoding_of value ≡ OfForm form
  pub risen : RisesBy old.limits from fields pairs form

-- A set of these members, that stood at the key or is a new one, rose by the members that were added.
pub record IsSetRisen (there : Bool) (members : Members) (others : List (List ℕ)) (db : ℕ) (key : List ℕ) (old : Bases)
    (m : Blocks) (value : Value) : Type 0 where
  pub from : codec.Form
  pub form : codec.Form
  pub at : IsSourceForm there (FitsMembers old.limits empty) old m db key from
  pub is : encoding_of value ≡ OfForm form
  pub risen : RisesWith old.limits from members others form

-- A sorted set of these scores, that stood at the key or is a new one, rose by the scores that were written.
pub record IsZsetRisen (there : Bool) (rules : ScoreRules) (scores : Scores) (pairs : List Scored) (db : ℕ) (key : List ℕ)
    (old : Bases) (m : Blocks) (value : Value) : Type 0 where
  pub from : codec.Form
  pub form : codec.Form
  pub at : IsSourceForm there (FitsScored old.limits empty) old m db key from
  pub is : encoding_of value ≡ OfForm form
  pub risen : RisesUnder rules old.limits from scores pairs form

-- A set that a command made, of just these members, has the least form that fits.
pub record IsNewSet (has : List ℕ → Bool) (old : Bases) (value : Value) : Type 0 where
  pub members : Members
  pub form : codec.Form
  pub all : (member : List ℕ) → is_some (get members member) ≡ has member
  pub is : encoding_of value ≡ OfForm form
  pub least : IsLeast (FitsMembers old.limits members) form

-- A sorted set that a command made, of just these scores, has the least form that fits.
pub record IsNewZset (score : List ℕ → Option ℤ) (old : Bases) (value : Value) : Type 0 where
  pub scores : Scores
  pub form : codec.Form
  pub all : (member : List ℕ) → get scores member ≡ score member
  pub is : encoding_of value ≡ OfForm form
  pub least : IsLeast (FitsScored old.limits scores) form

-- how a value is encoded that a command writes: as one written whole, as one of which a part was changed, as the value
-- that stood at a key of a database, or as the list, hash, set or sorted set that stood there, or a new one, to which was written; as a
-- new set or sorted set; as any stream; or in either of two ways; or no value is written
pub data FormRule : Type 0 where
  Unwritten : FormRule
  Whole : FormRule
  Raw : FormRule
  AsAt : ℕ → List ℕ → FormRule
  Risen : Bool → ℕ → ℕ → List ℕ → FormRule
  HashRisen : Bool → Fields → List (List ℕ × List ℕ) → ℕ → List ℕ → FormRule
  SetRisen : Bool → Members → List (List ℕ) → ℕ → List ℕ → FormRule
  ZsetRisen : Bool → ScoreRules → Scores → List Scored → ℕ → List ℕ → FormRule
  NewSet : (List ℕ → Bool) → FormRule
  NewZset : (List ℕ → Option ℤ) → FormRule
  Log : FormRule
  Either : FormRule → FormRule → FormRule

-- a value has a form, where these databases stood before
abbrev pub HasForm : FormRule → Bases → Blocks → Value → Type 0
HasForm Unwritten old m value = ⊥
HasForm Whole old m value = IsWrittenWhole value
HasForm Raw old m value = IsRaw value
HasForm (AsAt db key) old m value = (source : Value) × HasValue old m db key source × IsLike source value
HasForm (Risen there long db key) old m value = IsRisenAt there long db key old m value
HasForm (HashRisen there fields pairs db key) old m value = IsHashRisen there fields pairs db key old m value
HasForm (SetRisen there members others db key) old m value = IsSetRisen there members others db key old m value
HasForm (ZsetRisen there rules scores pairs db key) old m value = IsZsetRisen there rules scores pairs db key old m value
HasForm (NewSet has) old m value = IsNewSet has old value
HasForm (NewZset score) old m value = IsNewZset score old value
HasForm Log old m value = encoding_of value ≡ OfForm forms.Stream
HasForm (Either form other) old m value = HasForm form old m value ⊎ HasForm other old m value

-- Each element stood there before, with its key and its value as they were, or its value has this form.
abbrev pub Forms : FormRule → Bases → Bases → Blocks → Blocks → Type 0
Forms form old new m after = held.Written value_refs (HasForm form old m) old new m after

-- The same from one keyspace to another.
abbrev pub Formed : {S : Type 0} → (S → Blocks) → FormRule → Keyspace S → Keyspace S → Type 0
Formed blocks form old new = Forms form old.bases new.bases (blocks old.store) (blocks new.store)

-- What stands at a key of a database is encoded by a rule.
pub record Place : Type 0 where
  pub db : ℕ
  pub key : List ℕ
  pub form : FormRule

-- what stands at these keys is encoded by their rules, also where the same value stood there before
abbrev pub ArePlaced : List Place → Bases → Bases → Blocks → Blocks → Type 0
ArePlaced places old new m after =
    AllByRecursion (λ place. AllAt (HasForm place.form old m) new after place.db place.key) places

-- The same from one keyspace to another, where the reply is no error.
abbrev pub Placed : {S : Type 0} → (S → Blocks) → List Place → List Part → Keyspace S → Keyspace S → Type 0
Placed blocks places reply old new =
    (IsRefusal reply → ⊥) → ArePlaced places old.bases new.bases (blocks old.store) (blocks new.store)

-- this key, where anything is written to it
abbrev pub placed_at : ℕ → List ℕ → FormRule → List Place
placed_at db key Unwritten = []
placed_at db key form = record { db = db; key = key; form = form } ∷ []

-- Two keys between which something moves, each with its own rule: of what was taken, and of what was put. Where both are
-- one key, what was put stands there.
abbrev pub placed_between : ℕ → List ℕ → List ℕ → FormRule → List Place
placed_between db from to (Either taken put) =
    if bytes_eq from to then placed_at db to put else placed_at db from taken ++ placed_at db to put
placed_between db from to other = []

-- a string is written whole where this holds, and else not
abbrev pub whole_where : Bool → FormRule
whole_where writes = if writes then Whole else Unwritten

-- What is written to a string: by SET where its condition allows it, by SETNX and MSETNX where nothing stands, by SETRANGE
-- where its piece has a byte. APPEND to a key that is there and SETRANGE change a part; all others write it whole.
abbrev pub string_form : World → StringCommand → FormRule
string_form world (strings.Set key value options) = whole_where (allows options.condition (is_some (look world key)))
string_form world (strings.SetNx key value) = whole_where (not (is_some (look world key)))
string_form world (strings.SetEx key n value) = Whole
string_form world (strings.PSetEx key n value) = Whole
string_form world (strings.GetSet key value) = Whole
string_form world (strings.MSet pairs) = Whole
string_form world (strings.MSetNx pairs) = whole_where (not (any_there world pairs))
string_form world (strings.Append key tail) = if is_some (look world key) then Raw else Whole
string_form world (strings.SetRange key at piece) = if length piece == 0 then Unwritten else Raw
string_form world (strings.Incr key) = Whole
string_form world (strings.Decr key) = Whole
string_form world (strings.IncrBy key n) = Whole
string_form world (strings.DecrBy key n) = Whole
string_form world other = Unwritten

-- each key of these pairs, written whole
abbrev pub places_whole : ℕ → List (List ℕ × List ℕ) → List Place
places_whole db pairs = map (λ pair. record { db = db; key = pair.0; form = Whole }) pairs

-- the keys at which a command on strings lets a string stand, each with its rule
abbrev pub string_places : ℕ → World → StringCommand → List Place
string_places db world (strings.Set key value options) = placed_at db key (string_form world (strings.Set key value options))
string_places db world (strings.SetNx key value) = placed_at db key (string_form world (strings.SetNx key value))
string_places db world (strings.SetEx key n value) = placed_at db key Whole
string_places db world (strings.PSetEx key n value) = placed_at db key Whole
string_places db world (strings.GetSet key value) = placed_at db key Whole
string_places db world (strings.MSet pairs) = places_whole db pairs
string_places db world (strings.MSetNx pairs) = if any_there world pairs then [] else places_whole db pairs
string_places db world (strings.Append key tail) = placed_at db key (string_form world (strings.Append key tail))
string_places db world (strings.SetRange key at piece) = placed_at db key (string_form world (strings.SetRange key at piece))
string_places db world (strings.Incr key) = placed_at db key Whole
string_places db world (strings.Decr key) = placed_at db key Whole
string_places db world (strings.IncrBy key n) = placed_at db key Whole
string_places db world (strings.DecrBy key n) = placed_at db key Whole
string_places db world other = []

-- the list that stands at a key, without an element where none does
abbrev pub list_of : Option Entry → Elements
list_of None = []
list_of (Some entry) = or_none (list_in entry.value)

abbrev pub list_at : World → List ℕ → Elements
list_at world key = list_of (look world key)

-- the list at a key, or a new one, becomes this one by elements that are written
abbrev pub risen_to : ℕ → World → List ℕ → Elements → FormRule
risen_to db world key list = Risen (is_some (look world key)) (pack_len list) db key

abbrev pub set_to : ℕ → World → List ℕ → List ℕ → Option ℕ → FormRule
set_to db world key element None = Unwritten
set_to db world key element (Some n) = risen_to db world key (replaced (list_at world key) n element)

abbrev pub inserted_to : ℕ → World → List ℕ → Option Elements → FormRule
inserted_to db world key None = Unwritten
inserted_to db world key (Some list) = risen_to db world key list

-- an element that was taken off a list is written to another one, or to the same one
abbrev pub moved_to : ℕ → World → List ℕ → List ℕ → ListEnd → ListEnd → Elements → FormRule
moved_to db world from to end other [] = Unwritten
moved_to db world from to end other (element ∷ met) =
    let rest = if bytes_eq from to then from_end end met else list_at world to in
    Either (AsAt db from) (risen_to db world to (added other rest (element ∷ [])))

-- what is put into a list is written element by element, and what is left of one keeps its form
abbrev pub list_form : ℕ → World → ListCommand → FormRule
list_form db world (lists.LPush key elements) = risen_to db world key (added Head (list_at world key) elements)
list_form db world (lists.RPush key elements) = risen_to db world key (added Tail (list_at world key) elements)
list_form db world (lists.LPushX key elements) = risen_to db world key (added Head (list_at world key) elements)
list_form db world (lists.RPushX key elements) = risen_to db world key (added Tail (list_at world key) elements)
list_form db world (lists.LPop key n) = AsAt db key
list_form db world (lists.RPop key n) = AsAt db key
list_form db world (lists.LSet key index element) =
    set_to db world key element (place_of (length (list_at world key)) index)
list_form db world (lists.LTrim key a b) = AsAt db key
list_form db world (lists.LInsert key side pivot element) =
    inserted_to db world key (inserted_beside side pivot element (list_at world key))
list_form db world (lists.LRem key n element) = AsAt db key
list_form db world (lists.LMove from to end other) =
    moved_to db world from to end other (from_end end (list_at world from))
list_form db world (lists.RPopLPush from to) = moved_to db world from to Tail Head (from_end Tail (list_at world from))
list_form db world other = Unwritten

-- the keys between which a command on lists moves an element, each with its rule
abbrev pub list_places : ℕ → World → ListCommand → List Place
list_places db world (lists.LMove from to end other) =
    placed_between db from to (list_form db world (lists.LMove from to end other))
list_places db world (lists.RPopLPush from to) =
    placed_between db from to (list_form db world (lists.RPopLPush from to))
list_places db world other = []

-- the hash that stands at a key, without a field where none does
abbrev pub hash_of : Option Entry → Fields
hash_of None = empty
hash_of (Some entry) = or_no_fields (hash_in entry.value)

abbrev pub hash_at : World → List ℕ → Fields
hash_at world key = hash_of (look world key)

-- the hash at a key, or a new one, becomes another by values that are set
abbrev pub hash_to : ℕ → World → List ℕ → List (List ℕ × List ℕ) → FormRule
hash_to db world key pairs = HashRisen (is_some (look world key)) (hash_at world key) pairs db key

abbrev pub counted_to : ℕ → World → List ℕ → List ℕ → ℤ → Option ℤ → FormRule
counted_to db world key field by None = Unwritten
counted_to db world key field by (Some n) = hash_to db world key ((field, canonical (n +ℤ by)) ∷ [])

-- what is set in a hash is written field by field, and what is left of one keeps its form
abbrev pub hash_form : ℕ → World → HashCommand → FormRule
hash_form db world (hashes.HSet key pairs) = hash_to db world key pairs
hash_form db world (hashes.HMSet key pairs) = hash_to db world key pairs
hash_form db world (hashes.HSetNx key field value) =
    if is_some (get (hash_at world key) field) then Unwritten else hash_to db world key ((field, value) ∷ [])
hash_form db world (hashes.HDel key others) = AsAt db key
hash_form db world (hashes.HIncrBy key field by) =
    counted_to db world key field by (number_in (get (hash_at world key) field))
hash_form db world other = Unwritten

-- the set that stands at a key, without a member where none does
abbrev pub set_of : Option Entry → Members
set_of None = empty
set_of (Some entry) = or_no_members (set_in entry.value)

abbrev pub set_at : World → List ℕ → Members
set_at world key = set_of (look world key)

-- the set at a key, or a new one, becomes another by members that are added
abbrev pub set_with : ℕ → World → List ℕ → List (List ℕ) → FormRule
set_with db world key others = SetRisen (is_some (look world key)) (set_at world key) others db key

-- a member moves from one set to another: it is there, and the keys differ
abbrev pub is_moved : World → List ℕ → List ℕ → List ℕ → Bool
is_moved world from to member = has (set_at world from) member && not (bytes_eq from to)

-- a member that was taken out of a set is added to another one
abbrev pub set_passed : ℕ → World → List ℕ → List ℕ → List ℕ → FormRule
set_passed db world from to member = Either (AsAt db from) (set_with db world to (member ∷ []))

-- what is added to a set is written member by member, and what is left of one keeps its form
abbrev pub set_form : ℕ → World → SetCommand → FormRule
set_form db world (sets.SAdd key others) = set_with db world key others
set_form db world (sets.SRem key others) = AsAt db key
set_form db world (sets.SMove from to member) =
    if is_moved world from to member then set_passed db world from to member else Unwritten
set_form db world (sets.SPop key n) = AsAt db key
set_form db world (sets.SJoinStore how to keys) = NewSet (is_joined how (or_no_sources (sets_at world keys)))
set_form db world other = Unwritten

-- the keys between which a command on sets moves a member, each with its rule
abbrev pub set_places : ℕ → World → SetCommand → List Place
set_places db world (sets.SMove from to member) =
    placed_between db from to (set_form db world (sets.SMove from to member))
set_places db world other = []

-- the sorted set that stands at a key, without a member where none does
abbrev pub zset_of : Option Entry → Scores
zset_of None = empty
zset_of (Some entry) = or_no_scores (zset_in entry.value)

abbrev pub zset_at : World → List ℕ → Scores
zset_at world key = zset_of (look world key)

-- the sorted set at a key, or a new one, becomes another by scores that are written
abbrev pub zset_to : ℕ → World → List ℕ → ScoreRules → List Scored → FormRule
zset_to db world key rules pairs = ZsetRisen (is_some (look world key)) rules (zset_at world key) pairs db key

-- what is written to a sorted set is written score by score, and what is left of one keeps its form
abbrev pub zset_form : ℕ → World → ZsetCommand → FormRule
zset_form db world (zsets.ZAdd key rules ch pairs) = zset_to db world key rules pairs
zset_form db world (zsets.ZIncr key rules by member) =
    zset_to db world key rules ((or_zero (get (zset_at world key) member) +ℤ by, member) ∷ [])
zset_form db world (zsets.ZRem key members) = AsAt db key
zset_form db world (zsets.ZRemRangeByRank key a b) = AsAt db key
zset_form db world (zsets.ZRemRangeByScore key min max) = AsAt db key
zset_form db world (zsets.ZPop key from n) = AsAt db key
zset_form db world (zsets.ZJoinStore join to keys how) =
    NewZset (joined_score join how (weights_of keys) (or_no_sources (zsets_at world keys)))
zset_form db world other = Unwritten

-- what is written to a stream is encoded as any stream
abbrev pub stream_form : StreamCommand → FormRule
stream_form (streams.XLen key) = Unwritten
stream_form (streams.XRange key from to order limit) = Unwritten
stream_form (streams.XRead limit asked) = Unwritten
stream_form (streams.XPending key name) = Unwritten
stream_form other = Log

-- the value of a key stands elsewhere where this holds, and else nothing is written
abbrev pub like_where : Bool → ℕ → List ℕ → FormRule
like_where writes db key = if writes then AsAt db key else Unwritten

-- what is copied or moved is encoded as before
abbrev pub key_form : ℕ → World → KeyCommand → FormRule
key_form db world (keys.Rename from to) = AsAt db from
key_form db world (keys.RenameNx from to) = like_where (not (is_some (look world to))) db from
key_form db world (keys.Copy from to options) =
    like_where (is_some (look world from)
    && not (is_some (look_in world (or_selected world options.db) to) && not options.replace)) db from
key_form db world (keys.MoveKey key number) =
    like_where (is_some (look world key) && not (is_some (look_in world number key))) db key
key_form db world other = Unwritten

-- How a command on strings leaves the encodings of values: each that it wrote by its rule, also where the same bytes
-- stood there.
abbrev pub FormedString : {S : Type 0} → (S → Blocks) → ℕ → World → StringCommand → List Part → Keyspace S → Keyspace S → Type 0
FormedString blocks db world command reply old new =
    Formed blocks (string_form world command) old new × Placed blocks (string_places db world command) reply old new

-- The same of lists: each key between which an element moves has its own rule.
abbrev pub FormedList : {S : Type 0} → (S → Blocks) → ℕ → World → ListCommand → List Part → Keyspace S → Keyspace S → Type 0
FormedList blocks db world command reply old new =
    Formed blocks (list_form db world command) old new × Placed blocks (list_places db world command) reply old new

-- The same of sets.
abbrev pub FormedSet : {S : Type 0} → (S → Blocks) → ℕ → World → SetCommand → List Part → Keyspace S → Keyspace S → Type 0
FormedSet blocks db world command reply old new =
    Formed blocks (set_form db world command) old new × Placed blocks (set_places db world command) reply old new

-- How a command leaves the encodings of values: each that it wrote by its rule.
abbrev pub FormedBy : {S : Type 0} → (S → Blocks) → ℕ → World → Command → List Part → Keyspace S → Keyspace S → Type 0
FormedBy blocks db world (Strings command) reply old new = FormedString blocks db world command reply old new
FormedBy blocks db world (Lists command) reply old new = FormedList blocks db world command reply old new
FormedBy blocks db world (Sets command) reply old new = FormedSet blocks db world command reply old new
FormedBy blocks db world (Hashes command) reply old new = Formed blocks (hash_form db world command) old new
FormedBy blocks db world (Zsets command) reply old new = Formed blocks (zset_form db world command) old new
FormedBy blocks db world (Streams command) reply old new = Formed blocks (stream_form command) old new
FormedBy blocks db world (Keys command) reply old new = Formed blocks (key_form db world command) old new
FormedBy blocks db world (Connection command) reply old new = Formed blocks Unwritten old new

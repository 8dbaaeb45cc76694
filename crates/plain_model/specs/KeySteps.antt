-- What commands on keys answer, and what they leave (Redis command reference, "Generic").
use Rattle.std.specs.Prelude.{◌≡◌, ◌⊎◌, ℕ, ◌+◌, ◌-◌, ◌/◌, ◌==◌, List, [], ◌∷◌, ℤ, pos, negsuc, int_lt, Option, None, Some, is_some, Bool, true, not, ◌&&◌, ◌||◌, bytes_eq, codes, if◌then◌else◌}
use Rattle.std.specs.List.{count_by, Contains}
use Rattle.plain_world.specs.Worlds.{World, Value, Str, ListOf, SetOf, HashOf, SortedOf, StreamOf, Entry, look, put, remove, deadline_of, look_in, put_in}
use Rattle.plain_model.specs.Outcomes.{Outcome, tells, refused, leaves, IsOutcome}
use Rattle.plain_model.specs.Deadlines.{with_due, expire, persist}
pub use Rattle.plain_model.specs.Types.{type_name, type_at}
use Rattle.plain_model.specs.Scans.{KeysOf, Passes, Lists, Page, keys_sought, listed, paged}
use Rattle.plain_model.specs.declared.times.Time.{Time}
use Rattle.plain_model.specs.declared.times.TimeUnit.TheVariants.{Seconds, Milliseconds}
use Rattle.plain_model.specs.declared.times.TimeOrigin.TheVariants.{Now, Epoch}
use Rattle.plain_model.specs.declared.keys.KeyCommand.{KeyCommand}
use Rattle.plain_model.specs.declared.keys.KeyCommand.TheVariants as keys
use Rattle.plain_model.specs.declared.keys.ExpireOptions.{ExpireOptions}
use Rattle.plain_model.specs.declared.keys.CopyOptions.{CopyOptions}
use Rattle.plain_model.specs.declared.keys.ScanOptions.{ScanOptions}
use Rattle.plain_world.specs.declared.refusal.Refusal.TheVariants.{NoSuchKey, SameSourceAndDestination}
use Rattle.plain_world.specs.declared.reply.Part.{Part}
use Rattle.plain_world.specs.declared.reply.Part.TheVariants.{Simple, Number, Bulk, Null}

-- a count is answered, and this world is left
abbrev pub counts : ℕ → World → Outcome
counts n world = leaves (Number (pos n) ∷ []) world

-- how many of these keys are there and are removed, one after the other
abbrev pub removed : World → List (List ℕ) → ℕ
removed old [] = 0
removed old (key ∷ keys) = (if is_some (look old key) then 1 else 0) + removed (remove old key) keys

-- without these keys
abbrev pub remove_all : World → List (List ℕ) → World
remove_all old [] = old
remove_all old (key ∷ keys) = remove_all (remove old key) keys

-- The options permit a new deadline: NX only where there is none, XX only where there is one, GT only where the new one
-- is later, LT only where it is earlier. No deadline is the latest of all.
abbrev pub permits : ExpireOptions → Option ℕ → ℤ → Bool
permits o None new = not o.xx && not o.gt
permits o (Some deadline) new =
    not o.nx && ((not o.gt || int_lt (pos deadline) new) && (not o.lt || int_lt new (pos deadline)))

-- 1 where the deadline was set
abbrev pub expire_where_permitted : World → ℕ → List ℕ → ExpireOptions → ℤ → Option Entry → Outcome
expire_where_permitted old moment key options deadline None = counts 0 old
expire_where_permitted old moment key options deadline (Some entry) =
    if permits options entry.deadline deadline then counts 1 (expire old moment key deadline (Some entry))
    else counts 0 old

abbrev pub expire_outcome : World → ℕ → List ℕ → Time → ExpireOptions → Outcome
expire_outcome old moment key time options =
    with_due old moment time (λ deadline. expire_where_permitted old moment key options deadline (look old key))

-- what is told of a deadline; without one it is -1
abbrev pub deadline_told : (ℕ → ℕ) → Option ℕ → ℤ
deadline_told tell None = negsuc 0
deadline_told tell (Some deadline) = pos (tell deadline)

-- what is told of a key's deadline; without a key it is -2
abbrev pub time_told : (ℕ → ℕ) → Option Entry → ℤ
time_told tell None = negsuc 1
time_told tell (Some entry) = deadline_told tell entry.deadline

-- milliseconds in seconds, rounded
abbrev pub in_seconds : ℕ → ℕ
in_seconds n = (n + 500) / 1000

-- what stands at a key moves to another one, with its deadline; the same key changes nothing
abbrev pub rename : World → List ℕ → List ℕ → Entry → World
rename old from to entry = if bytes_eq from to then old else put (remove old from) to entry

abbrev pub rename_outcome : World → List ℕ → List ℕ → Option Entry → Outcome
rename_outcome old from to None = refused NoSuchKey old
rename_outcome old from to (Some entry) = leaves (Simple (codes "OK") ∷ []) (rename old from to entry)

abbrev pub renamenx_outcome : World → List ℕ → List ℕ → Option Entry → Outcome
renamenx_outcome old from to None = refused NoSuchKey old
renamenx_outcome old from to (Some entry) =
    if is_some (look old to) then counts 0 old else counts 1 (rename old from to entry)

-- the database of an option, or else the selected one
abbrev pub or_selected : World → Option ℕ → ℕ
or_selected world None = world.selected
or_selected world (Some number) = number

-- what stands at a key is copied, with its deadline
abbrev pub copy : World → ℕ → List ℕ → Bool → Option Entry → Outcome
copy old number to replace None = counts 0 old
copy old number to replace (Some entry) =
    if is_some (look_in old number to) && not replace then counts 0 old else counts 1 (put_in old number to entry)

abbrev pub copy_outcome : World → List ℕ → List ℕ → CopyOptions → Outcome
copy_outcome old from to options =
    let number = or_selected old options.db in
    if (number == old.selected) && bytes_eq from to then refused SameSourceAndDestination old
    else copy old number to options.replace (look old from)

-- what stands at a key moves to the same key of another database, with its deadline
abbrev pub move : World → List ℕ → ℕ → Option Entry → Outcome
move old key number None = counts 0 old
move old key number (Some entry) =
    if is_some (look_in old number key) then counts 0 old else counts 1 (put_in (remove old key) number key entry)

abbrev pub move_outcome : World → List ℕ → ℕ → Outcome
move_outcome old key number =
    if number == old.selected then refused SameSourceAndDestination old else move old key number (look old key)

-- What a command answers and leaves, in the world that is live at the moment. Of RANDOMKEY, OBJECT ENCODING, KEYS and
-- SCAN only the world is fixed: `may_keys` says what they may answer.
abbrev pub key_outcome : ℕ → World → KeyCommand → Outcome
key_outcome moment old (keys.Del words) = counts (removed old words) (remove_all old words)
key_outcome moment old (keys.Unlink words) = counts (removed old words) (remove_all old words)
key_outcome moment old (keys.Exists words) = counts (count_by (λ key. is_some (look old key)) words) old
key_outcome moment old (keys.Touch words) = counts (count_by (λ key. is_some (look old key)) words) old
key_outcome moment old (keys.TypeOf key) = tells (Simple (type_at (look old key)) ∷ []) old
key_outcome moment old (keys.Expire key n options) =
    expire_outcome old moment key (record { unit = Seconds; from = Now; n = n }) options
key_outcome moment old (keys.PExpire key n options) =
    expire_outcome old moment key (record { unit = Milliseconds; from = Now; n = n }) options
key_outcome moment old (keys.ExpireAt key n options) =
    expire_outcome old moment key (record { unit = Seconds; from = Epoch; n = n }) options
key_outcome moment old (keys.PExpireAt key n options) =
    expire_outcome old moment key (record { unit = Milliseconds; from = Epoch; n = n }) options
key_outcome moment old (keys.Ttl key) =
    tells (Number (time_told (λ deadline. in_seconds (deadline - moment)) (look old key)) ∷ []) old
key_outcome moment old (keys.PTtl key) =
    tells (Number (time_told (λ deadline. deadline - moment) (look old key)) ∷ []) old
key_outcome moment old (keys.ExpireTime key) = tells (Number (time_told in_seconds (look old key)) ∷ []) old
key_outcome moment old (keys.PExpireTime key) =
    tells (Number (time_told (λ deadline. deadline) (look old key)) ∷ []) old
key_outcome moment old (keys.Persist key) =
    counts (if is_some (deadline_of (look old key)) then 1 else 0) (persist old key (look old key))
key_outcome moment old (keys.Rename from to) = rename_outcome old from to (look old from)
key_outcome moment old (keys.RenameNx from to) = renamenx_outcome old from to (look old from)
key_outcome moment old (keys.Copy from to options) = copy_outcome old from to options
key_outcome moment old (keys.MoveKey key number) = move_outcome old key number
key_outcome moment old keys.RandomKey = tells [] old
key_outcome moment old (keys.ObjectEncoding key) = tells [] old
key_outcome moment old (keys.KeysLike pattern) = tells [] old
key_outcome moment old (keys.Scan cursor options) = tells [] old

-- null where there is no key, or else a key that is there
abbrev pub IsSomeKey : World → List Part → Type 0
IsSomeKey old reply =
    ((reply ≡ Null ∷ []) × ((key : List ℕ) → look old key ≡ None))
    ⊎ ((key : List ℕ) × (reply ≡ Bulk key ∷ []) × (is_some (look old key) ≡ true))

-- the names of the encodings of a value's type (Redis command reference, "OBJECT ENCODING")
abbrev pub encodings : Value → List (List ℕ)
encodings (Str bytes) = codes "int" ∷ codes "embstr" ∷ codes "raw" ∷ []
encodings (ListOf elements) = codes "listpack" ∷ codes "quicklist" ∷ []
encodings (SetOf members) = codes "intset" ∷ codes "listpack" ∷ codes "hashtable" ∷ []
encodings (HashOf fields) = codes "listpack" ∷ codes "hashtable" ∷ []
encodings (SortedOf scores) = codes "listpack" ∷ codes "skiplist" ∷ []
encodings (StreamOf stream) = codes "stream" ∷ []

-- null where nothing stands at the key, or else the name of an encoding of the value's type
abbrev pub IsEncoding : Option Entry → List Part → Type 0
IsEncoding None reply = reply ≡ Null ∷ []
IsEncoding (Some entry) reply = (name : List ℕ) × (reply ≡ Bulk name ∷ []) × Contains (encodings entry.value) name

-- all keys that the pattern matches, each once, in any order
abbrev pub AreKeysLike : World → List ℕ → List Part → Type 0
AreKeysLike old pattern reply =
    let matching = Passes old (record { target = KeysOf old.selected; pattern = Some pattern; type_name = None }) in
    (names : List (List ℕ)) × Lists matching matching names × (reply ≡ listed names)

-- a page of the selected database's keys
abbrev pub IsScanned : ℕ → World → ℕ → ScanOptions → List Part → Type 0
IsScanned seed old cursor options reply =
    (next : ℕ) × (names : List (List ℕ)) × Page seed old (keys_sought old.selected options) cursor next names
    × (reply ≡ paged next names)

-- under this seed of the hash, and from the world that is live at the moment, the command may be answered by this
-- reply, and leave the new world
abbrev pub may_keys : ℕ → World → ℕ → KeyCommand → List Part → World → Type 0
may_keys seed old moment keys.RandomKey reply new = IsSomeKey old reply × (new ≡ old)
may_keys seed old moment (keys.ObjectEncoding key) reply new = IsEncoding (look old key) reply × (new ≡ old)
may_keys seed old moment (keys.KeysLike pattern) reply new = AreKeysLike old pattern reply × (new ≡ old)
may_keys seed old moment (keys.Scan cursor options) reply new = IsScanned seed old cursor options reply × (new ≡ old)
may_keys seed old moment command reply new = IsOutcome (key_outcome moment old command) reply new

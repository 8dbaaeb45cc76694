-- What is told of several streams.
use Rattle.std.specs.Prelude.{◌≡◌, ℕ, true, false, Bool, List, [], ◌++◌, map, Option, None, Some}
use Rattle.std.specs.List.{filter, flat_map, list_any}
use Rattle.stream_groups.specs.Groups.{Id}
use Rattle.stream_object.specs.Ranges.{taken}
use Rattle.plain_world.specs.Streams.{Stream, StreamEntry}
use Rattle.plain_world.specs.Worlds.{World, Entry, look}
use Rattle.plain_world.specs.declared.reply.Part.{Part}
use Rattle.plain_model.specs.StreamSteps.{Asked, from_id, is_later, is_other, listed, of_key, read_one, stream_there, up_to}
use Rattle.cmd_streams.specs.declared.several.KeyRead.{KeyRead}

-- what is told of a key
abbrev pub read_parts : KeyRead → List Part
read_parts one = of_key one.key.now (listed (map taken one.entries.items))

-- the entries of a stream above an id, so many at most
abbrev pub entries_above : Option ℕ → Option Id → Option Stream → List StreamEntry
entries_above limit from None = []
entries_above limit from (Some s) = up_to limit (filter (is_later (from_id s from)) s.entries)

-- the entries of the stream that stands there, or nothing where a value of another type does
abbrev pub IsReadAt : Option Entry → Option ℕ → Option Id → Option (List StreamEntry) → Type 0
IsReadAt entry limit from None = is_other entry ≡ true
IsReadAt entry limit from (Some entries) =
    (is_other entry ≡ false) × (entries ≡ entries_above limit from (stream_there entry))

-- a value of another type stands at a key
abbrev pub is_other_at : World → Asked → Bool
is_other_at world one = is_other (look world one.0)

-- what is told of a key
abbrev pub told_at : World → Option ℕ → Asked → List (List Part)
told_at world limit one = read_one limit one (stream_there (look world one.0))

-- What is told of each key came behind what was there, if a value of another type stands at none.
abbrev pub Gathers : World → Option ℕ → List Asked → Bool → List (List Part) → List (List Part) → Type 0
Gathers world limit asked true old new =
    (list_any (is_other_at world) asked ≡ false) × (new ≡ old ++ flat_map (told_at world limit) asked)
Gathers world limit asked false old new = list_any (is_other_at world) asked ≡ true

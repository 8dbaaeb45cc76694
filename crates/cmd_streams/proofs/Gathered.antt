-- What is told of several streams, key by key.
use Rattle.std.proofs.Common.{◌≡◌, ℕ, suc, ◌+◌, ◌==◌, false, List, [], ◌∷◌, ◌++◌, length, map, drop, flat_map, Option, None, Some, refl, sym, ap, ◌∙◌}
use Rattle.std.specs.Prelude.{◌||◌}
use Rattle.std.specs.List.{list_any}
use Rattle.std.proofs.lemmas.List.{append_assoc}
use Rattle.stream_object.specs.Ranges.{taken}
use Rattle.plain_world.specs.Streams.{Stream, StreamEntry}
use Rattle.plain_world.specs.Worlds.{World, Entry, look}
use Rattle.plain_world.specs.declared.reply.Part.{Part}
use Rattle.plain_world.specs.declared.reply.Part.TheVariants.{Bulk, Array}
use Rattle.plain_model.specs.StreamSteps.{Asked, all_listed, listed, read_one, some_listed, stream_there}
use Rattle.cmd_streams.specs.declared.several.KeyRead.{KeyRead}
use Rattle.cmd_streams.specs.Several.{read_parts, entries_above, is_other_at, told_at}
use Rattle.cmd_streams.proofs.Replies.{Many, single, array, one_behind, each, listed_one}

-- ---- what is told of one key

one_read : (limit : Option ℕ) (asked : Asked) (stream : Option Stream) → some_listed asked.0 (entries_above limit asked.1 stream) ≡ read_one limit asked stream
one_read limit asked None = refl
one_read limit asked (Some s) = refl

pub read_is : (limit : Option ℕ) (asked : Asked) (entry : Option Entry) (entries : List StreamEntry) → entries ≡ entries_above limit asked.1 (stream_there entry)
    → some_listed asked.0 entries ≡ read_one limit asked (stream_there entry)
read_is limit asked entry entries is = ap (some_listed asked.0) is ∙ one_read limit asked (stream_there entry)

pub key_one : (k : KeyRead) → Many 1 (read_parts k)
key_one k =
    let own = listed (map taken k.entries.items) in
    array 2 (Bulk k.key.now ∷ own) (one_behind 1 (Bulk k.key.now ∷ []) own (single (Bulk k.key.now) refl) (listed_one (map taken k.entries.items)))

-- ---- one key after the other

module _ (world : World) (limit : Option ℕ) (asked : List Asked) (i : ℕ) (one : Asked) (rest : drop i asked ≡ one ∷ drop (i + 1) asked) where
  pub none_more : is_other_at world one ≡ false → list_any (is_other_at world) (drop i asked) ≡ list_any (is_other_at world) asked
      → list_any (is_other_at world) (drop (i + 1) asked) ≡ list_any (is_other_at world) asked
  none_more same so_far =
      let others = list_any (is_other_at world) (drop (i + 1) asked) in
      ap (λ b. b || others) (sym same) ∙ ap (list_any (is_other_at world)) (sym rest) ∙ so_far

  pub one_gathered : (first found new : List (List Part)) (entries : List StreamEntry) → entries ≡ entries_above limit one.1 (stream_there (look world one.0)) → new ≡ found
      ++ some_listed one.0 entries → found ++ flat_map (told_at world limit) (drop i asked) ≡ first ++ flat_map (told_at world limit) asked
      → new ++ flat_map (told_at world limit) (drop (i + 1) asked) ≡ first ++ flat_map (told_at world limit) asked
  one_gathered first found new entries is put so_far =
      let others = flat_map (told_at world limit) (drop (i + 1) asked) in
      ap (λ l. l ++ others) (put ∙ ap (λ l. found ++ l) (read_is limit one (look world one.0) entries is))
      ∙ append_assoc found (told_at world limit one) others
      ∙ ap (λ l. found ++ flat_map (told_at world limit) l) (sym rest)
      ∙ so_far

-- ---- replies

told_map : (found : List KeyRead) → flat_map (λ (parts : List Part). parts) (map read_parts found) ≡ flat_map read_parts found
told_map [] = refl
told_map (k ∷ found) = ap (λ l. read_parts k ++ l) (told_map found)

map_long : (found : List KeyRead) → length (map read_parts found) ≡ length found
map_long [] = refl
map_long (k ∷ found) = ap suc (map_long found)

pub keys_told : (found : List KeyRead) → (length found == 0) ≡ false → all_listed (map read_parts found) ≡ Array (length found) ∷ flat_map read_parts found
keys_told [] some = cc
keys_told (k ∷ found) some = ap (λ n. Array n ∷ flat_map (λ (parts : List Part). parts) (map read_parts (k ∷ found))) (map_long (k ∷ found))
    ∙ ap (λ l. Array (length (k ∷ found)) ∷ l) (told_map (k ∷ found))

pub keys_one : (found : List KeyRead) → Many 1 (Array (length found) ∷ flat_map read_parts found)
keys_one found = array (length found) (flat_map read_parts found) (each read_parts key_one found)

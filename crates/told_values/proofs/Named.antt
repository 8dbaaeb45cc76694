-- Members, and fields with their values, that are gathered in a map of std.
use Rattle.std.proofs.Common.{◌≡◌, ℕ, ◌+◌, ◌<◌, List, [], ◌∷◌, ◌++◌, length, take, get_or, sym, ap, ◌∙◌}
use Rattle.std.proofs.lemmas.List.{take_more, map_push}
use Rattle.blocks.specs.Blocks.{Blocks}
use Rattle.std.specs.BTreeMap.{insert_entry}
use Rattle.std.specs.FinMap.{insert, len}
use Rattle.hash_object.specs.declared.fields.Fields as hashes
use Rattle.hash_object.specs.Fields as hash
use Rattle.hash_object.proofs.Depends.{fields_laws_hold}
use Rattle.pack_pairs.specs.Pairs.{Pair, IsOnce, map_of_pairs}
use Rattle.pack_pairs.proofs.Lists.{no_pair}
use Rattle.pack_pairs.proofs.Maps.{map_more, map_len}
use Rattle.set_object.specs.declared.members.Members as sets
use Rattle.set_object.specs.Members as set
use Rattle.set_object.specs.Strings.{Strings, set_of}
use Rattle.set_object.proofs.Depends.{members_laws_hold}
use Rattle.set_object.proofs.Sets.{set_push, set_nil}
use Rattle.stream_groups.specs.Kept.{Name, bytes_of, by_bytes, NamesRise}
use Rattle.stream_groups.proofs.Uses.{named_none, named_insert}
use Rattle.told_values.specs.Told.{texts_told, set_told, hash_told}

-- one element more
pub list_more : (list : List (List ℕ)) (i : ℕ) (texts new : List Name) (text : Name) → i < length list → text.items ≡ get_or list i [] → new ≡ texts ++ text ∷ []
    → texts_told texts ≡ take i list → texts_told new ≡ take (i + 1) list
list_more list i texts new text inside is pushed so_far =
    ap texts_told pushed ∙ map_push bytes_of texts text ∙ ap (λ l. l ++ text.items ∷ []) so_far ∙ ap (λ x. take i list ++ x ∷ []) is ∙ sym (take_more list i [] inside)

-- as many members, or fields, are listed as there are
pub set_count : (m : Blocks) (members : sets.Members) → set.IsMembers m members → length (set.listed m members) ≡ len (set.members m members)
set_count m members sound = let a = members_laws_hold.arranged m members sound in sym a.once ∙ ap len a.listed_are

pub hash_count : (m : Blocks) (fields : hashes.Fields) → hash.IsFields m fields → length (hash.listed m fields) ≡ len (hash.fields m fields)
hash_count m fields sound = let a = fields_laws_hold.arranged m fields sound in sym (map_len (hash.listed m fields) a.once) ∙ ap len a.listed_are

pub set_begun : (list : List (List ℕ)) (es : List (Name × Unit {0})) → es ≡ [] → set_told es ≡ set_of (take 0 list)
set_begun list es none = named_none (λ nothing. nothing) es none ∙ sym set_nil

-- one member more
pub set_more : (list : List (List ℕ)) (i : ℕ) (es new : List (Name × Unit {0})) (k : Name) → NamesRise es → NamesRise new → i < length list → k.items ≡ get_or list i []
    → new ≡ insert_entry by_bytes es k tt → set_told es ≡ set_of (take i list) → set_told new ≡ set_of (take (i + 1) list)
set_more list i es new k rising after inside is put so_far =
    named_insert (λ nothing. nothing) es rising new after k tt put
    ∙ ap (λ (s : Strings). insert s k.items tt) so_far ∙ ap (λ (x : List ℕ). insert (set_of (take i list)) x tt) is
    ∙ sym (ap set_of (take_more list i [] inside) ∙ set_push (take i list) (get_or list i []))

pub hash_begun : (list : List Pair) (es : List (Name × Name)) → es ≡ [] → hash_told es ≡ map_of_pairs (take 0 list)
hash_begun list es none = named_none bytes_of es none

-- one field more
pub hash_more : (list : List Pair) (i : ℕ) (es new : List (Name × Name)) (k v : Name) → NamesRise es → NamesRise new → IsOnce list → i < length list → (k.items, v.items) ≡ get_or list i no_pair
    → new ≡ insert_entry by_bytes es k v → hash_told es ≡ map_of_pairs (take i list) → hash_told new ≡ map_of_pairs (take (i + 1) list)
hash_more list i es new k v rising after once inside is put so_far =
    named_insert bytes_of es rising new after k v put
    ∙ ap (λ m. insert m k.items v.items) so_far ∙ ap (λ (p : Pair). insert (map_of_pairs (take i list)) p.0 p.1) is
    ∙ sym (map_more list i once inside)

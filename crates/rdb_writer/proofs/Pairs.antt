-- The fields of a hash with their values, one behind the other.
use Rattle.std.proofs.Common.{◌≡◌, ℕ, ◌<◌, ◌^◌, List, [], ◌∷◌, ◌++◌, length, take, Some, None, refl, sym, ap, subst, ◌∙◌}
use Rattle.std.proofs.lemmas.List.{append-nil}
use Rattle.std.specs.Prelude.{is_none}
use Rattle.std.specs.FinMap.{get, len}
use Rattle.blocks.specs.Blocks.{Blocks}
use Rattle.plain_world.specs.Worlds.{HashOf}
use Rattle.fit_worlds.specs.Fit.{IsShort, IsFitValue}
use Rattle.hash_object.specs.declared.fields.Fields.{Fields}
use Rattle.hash_object.specs.Fields.{IsFields, listed, fields}
use Rattle.hash_object.proofs.Depends.{fields_laws_hold}
use Rattle.pack_pairs.specs.Pairs.{Pair, IsOnce, second_of, map_of_pairs}
use Rattle.pack_pairs.proofs.Lists.{no_pair}
use Rattle.pack_pairs.proofs.Maps.{get_pairs, first_here, first_second, once_before, map_last, map_len}
use Rattle.rdb_grammar.specs.declared.values.Collection.TheVariants as of
use Rattle.rdb_grammar.specs.Codes as code
use Rattle.rdb_grammar.specs.Elements.{with_one}
use Rattle.rdb_grammar.specs.Items.{Key, item}
use Rattle.rdb_parts.specs.Words.{string_word, key_word}
use Rattle.rdb_parts.proofs.Spelled.{string_spelled}
use Rattle.rdb_writer.specs.Collections.{pair_word, pairs_word, counted_pairs}
use Rattle.rdb_writer.proofs.Spelling.{middle_inside, middle_is, middle_front, turns_spelled, collection_spelled}

module _ (all : List Pair) (once : IsOnce all) (each : (field value : List ℕ) → get (map_of_pairs all) field ≡ Some value → IsShort field × IsShort value) where
  module _ (front : List Pair) (x : Pair) (back : List Pair) (is : front ++ (x ∷ back) ≡ all) where
    abbrev whole : List Pair
    whole = front ++ (x ∷ back)

    -- no pair before it has the field
    before : second_of x.0 (take (length front) whole) ≡ None
    before = ap (λ (p : Pair). second_of p.0 (take (length front) whole)) (sym (middle_is front x back no_pair))
        ∙ once_before whole (length front) (subst IsOnce (sym is) once) (middle_inside front x back no_pair)

    apart : second_of x.0 front ≡ None
    apart = ap (second_of x.0) (sym (middle_front front x back no_pair)) ∙ before

    short : IsShort x.0 × IsShort x.1
    short =
        let here = first_here x.0 whole (length front) (middle_inside front x back no_pair) before (ap (λ (p : Pair). p.0) (middle_is front x back no_pair)) in
        let second : second_of x.0 whole ≡ Some x.1 = first_second x.0 whole (length front) here ∙ ap (λ (p : Pair). Some p.1) (middle_is front x back no_pair) in
        each x.0 x.1 (get_pairs all x.0 ∙ ap (second_of x.0) (sym is) ∙ second)

    one : (with_one (HashOf (map_of_pairs front))).Spells (HashOf (map_of_pairs (front ++ x ∷ []))) (pair_word x)
    one =
        let a = string_word x.0 in
        let b = string_word x.1 in (
          x.0,
          a,
          b,
          refl,
          (string_spelled x.0 short.0, ap is_none (get_pairs front x.0 ∙ apart)),
          (x.1, b, [], sym (append-nil b), string_spelled x.1 short.1, (ap HashOf (map_last front x.0 x.1 apart), refl)),
        )

-- so many fields stand in the hash's own order
pub listed_count : (m : Blocks) (hash : Fields) → IsFields m hash → length (listed m hash) ≡ len (fields m hash)
listed_count m hash sound = let a = fields_laws_hold.arranged m hash sound in sym (map_len (listed m hash) a.once) ∙ ap len a.listed_are

-- a key with a hash
pub hash_spelled : (m : Blocks) (hash : Fields) (name : List ℕ) → IsFields m hash → IsShort name → IsFitValue (HashOf (fields m hash)) → length (listed m hash) < 2 ^ 64
    → item.Spells (Key name (HashOf (fields m hash))) (key_word code.hash name (counted_pairs (listed m hash)))
hash_spelled m hash name sound short fit few =
    let a = fields_laws_hold.arranged m hash sound in
    let pairs = listed m hash in
    let each : (field value : List ℕ) → get (map_of_pairs pairs) field ≡ Some value → IsShort field × IsShort value = λ field value is. fit.1 field value (ap (λ s. get s field) (sym a.listed_are) ∙ is) in
    subst (λ s. item.Spells (Key name (HashOf s)) (key_word code.hash name (counted_pairs pairs))) a.listed_are
    (collection_spelled code.hash of.Hash name (length pairs) (HashOf (map_of_pairs pairs)) (pairs_word pairs) short few (λ rest s. s)
    (turns_spelled pair_word (λ l. HashOf (map_of_pairs l)) pairs (one pairs a.once each)))

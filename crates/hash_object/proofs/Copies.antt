-- A hash whose fields and values are copied.
use Rattle.std.proofs.Common.{◌≡◌, ℕ, suc, ◌<◌, List, [], ◌∷◌, length, take, Result, Ok, Err, OnOk, Option, Some, None, IsSome, unwrap_or, get_or, refl, sym, ap, ◌∙◌, subst, arith}
use Rattle.std.proofs.lemmas.List.{take_all}
use Rattle.std.specs.FinMap.{insert, get, empty}
use Rattle.blocks.specs.declared.BlockRef.{BlockRef}
use Rattle.blocks.specs.Blocks.{Blocks, bytes_at, with_block, IsIn, Changes, Owned}
use Rattle.blocks.proofs.Change.{owned_others, changes_same}
use Rattle.pack_pairs.specs.Pairs.{Pair, second_of, map_of_pairs}
use Rattle.pack_pairs.proofs.Lists.{no_pair}
use Rattle.pack_pairs.proofs.Maps.{get_pairs, once_before, map_more}
use Rattle.rehash_dict.specs.Table.{Element, item}
use Rattle.rehash_dict.specs.Keyed.{Keyed, Lacks, hash_of}
use Rattle.rehash_dict.proofs.Growing.{grown_same}
use Rattle.hash_object.specs.declared.fields.Packed.{Packed}
use Rattle.hash_object.specs.declared.fields.Body.TheVariants.{Empty, Pack}
use Rattle.hash_object.specs.declared.fields.Fields.{Fields}
use Rattle.hash_object.specs.Hashed.{FieldTable, IsHashed, fields_in, entries_in, blocks_of, no_fields}
use Rattle.hash_object.specs.Fields.{IsFields, IsBody, IsPlacedBody, fields, fields_of, no_tables}
use Rattle.hash_object.specs.Items.{entry_at}
use Rattle.hash_object.proofs.Tables.{table_kept, lacks_field, has_key, has_value}
use Rattle.collection_walk.proofs.Replaced.{old_owned}
use Rattle.hash_object.proofs.Listed.{table_listed, table_once, slots_len}
use Rattle.hash_object.proofs.Ranks.{pair_there, pair_of_element}
use Rattle.collection_walk.proofs.Ranks.{rank, rank_next, rank_past, rank_zero, rank_below, rank_all}
use Rattle.hash_object.proofs.Placing.{pack_is_placed}

-- the pairs of a dictionary before an item number
abbrev pub pairs_before : Blocks → FieldTable → ℕ → List Pair
pairs_before m t at = take (rank t.items at) (entries_in m t)

module _ (m mid : Blocks) (seed : ℕ) (t u : FieldTable) (at : ℕ) (k : Keyed m t) (owned : Owned (blocks_of t) m) (p : IsHashed m mid (no_fields seed) u (map_of_pairs (pairs_before m t at))) where
  source_same : (r : BlockRef) → IsIn r (blocks_of t) → mid r ≡ m r
  source_same r isin = owned_others m mid [] (blocks_of u) (blocks_of t) owned p.changes r isin refl

  pub source_keyed : Keyed mid t
  source_keyed = (table_kept m mid t k source_same).0

  pub source_owned : Owned (blocks_of t) mid
  source_owned = old_owned m mid mid (blocks_of t) (blocks_of u) owned p.changes

  module _ (e : Element BlockRef) (there : item t at ≡ Some e) where
    pair_is : pair_of_element mid e ≡ get_or (entries_in m t) (rank t.items at) no_pair
    pair_is =
        (λ j. (ap (λ o. unwrap_or o []) (source_same e.key (has_key t at e there)) j, ap (λ o. unwrap_or o []) (source_same e.value (has_value t at e there)) j))
        ∙ sym (pair_there m t.items at e there)

    inside : rank t.items at < length (entries_in m t)
    inside = omega (arith, rank_below t.items at e there, slots_len m t.items)

    entry_is : (x v : List ℕ) → entry_at mid (item t at) ≡ Some (x, v) → (x, v) ≡ get_or (entries_in m t) (rank t.items at) no_pair
    entry_is x v is =
        let one : Some (pair_of_element mid e) ≡ Some (x, v) = sym (ap (entry_at mid) there) ∙ is in
        sym (ap (λ (o : Option Pair). unwrap_or o (x, v)) one) ∙ pair_is

    pub next_absent : (x v : List ℕ) → entry_at mid (item t at) ≡ Some (x, v) → Lacks mid u x
    next_absent x v is = lacks_field mid u p.keyed x
        (ap (λ map. get map x) p.fields_are ∙ get_pairs (pairs_before m t at) x ∙ ap (λ (q : Pair). second_of q.0 (pairs_before m t at)) (entry_is x v is)
        ∙ once_before (entries_in m t) (rank t.items at) (table_once m t k) inside)

    pub next_put : (x v : List ℕ) → entry_at mid (item t at) ≡ Some (x, v) → insert (fields_in mid u) x v ≡ map_of_pairs (pairs_before m t (suc at))
    next_put x v is =
        ap (λ map. insert map x v) p.fields_are
        ∙ ap (λ (q : Pair). insert (map_of_pairs (pairs_before m t at)) q.0 q.1) (entry_is x v is)
        ∙ sym (map_more (entries_in m t) (rank t.items at) (table_once m t k) inside)
        ∙ ap (λ n. map_of_pairs (take n (entries_in m t))) (sym (rank_next t.items at e there))

  pub vacant_same : item t at ≡ None → map_of_pairs (pairs_before m t at) ≡ map_of_pairs (pairs_before m t (suc at))
  vacant_same none = ap (λ n. map_of_pairs (take n (entries_in m t))) (sym (rank_past t.items at none))

pub all_copied : (m : Blocks) (t : FieldTable) (at : ℕ) → ((i : ℕ) → IsSome (item t i) → i < at) → map_of_pairs (pairs_before m t at) ≡ fields_in m t
all_copied m t at below =
    ap map_of_pairs (take_all (rank t.items at) (entries_in m t) (omega (arith, rank_all t.items at below, slots_len m t.items))) ∙ sym (table_listed m t)

-- the bytes of a packed form were placed once more
pub pack_copied : (m n : Blocks) (f : Fields) (p : Packed) (at : BlockRef) → IsFields m f → n ≡ with_block m at (Some (bytes_at m p.at)) → Changes m n [] (at ∷ []) → f.body ≡ Pack p
    → IsPlacedBody m n f (Pack (record { at = at; len = p.len })) (fields m f)
pack_copied m n f p at sound placed changes is =
    pack_is_placed m n f at p.len (bytes_at m p.at) placed changes (fields m f) (subst (IsBody m f.limits f.seed) is sound.body) (sym (ap (fields_of m) is))

pub empty_copied : (m : Blocks) (f : Fields) → f.body ≡ Empty → IsPlacedBody m m f Empty (fields m f)
empty_copied m f is = record {
  sound = tt;
  fields_are = ap (fields_of m) (sym is);
  changes = changes_same m [] (λ r. omega arith);
  grown = grown_same (hash_of f.seed) no_tables no_tables refl;
}

-- what an element gives
pub next_entry : (m : Blocks) (t : FieldTable) (at : ℕ) (e : Element BlockRef) → item t at ≡ Some e → entry_at m (item t at) ≡ Some (bytes_at m e.key, bytes_at m e.value)
next_entry m t at e there = ap (entry_at m) there

-- nothing is before the first item number
pub none_before : (m : Blocks) (t : FieldTable) → map_of_pairs (pairs_before m t 0) ≡ empty
none_before m t = ap (λ n. map_of_pairs (take n (entries_in m t))) (rank_zero t.items)

-- the bytes of a field and value that were read are those of the item number
pub read_entry : (m : Blocks) (o : Option (Element BlockRef)) (e : Element BlockRef) (field value k v : List ℕ) → o ≡ Some e → m e.key ≡ Some field → m e.value ≡ Some value
    → entry_at m o ≡ Some (k, v) → (field ≡ k) × (value ≡ v)
read_entry m o e field value k v there by_field by_value is =
    let one : Some (pair_of_element m e) ≡ Some (k, v) = sym (ap (entry_at m) there) ∙ is in
    (sym (ap (λ p. unwrap_or p []) by_field) ∙ ap (λ (p : Option Pair). (unwrap_or p (k, v)).0) one, sym (ap (λ p. unwrap_or p []) by_value) ∙ ap (λ (p : Option Pair). (unwrap_or p (k, v)).1) one)

pub on_ok : {A E : Type 0} (r : Result A E) (P Q : Type 0) → (P → Q) → OnOk r P → OnOk r Q
on_ok (Ok x) P Q f h = f h
on_ok (Err e) P Q f h = tt

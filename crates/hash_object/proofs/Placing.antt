-- Bodies that are placed for a hash with a field more, with another value, or with a field less.
use Rattle.std.proofs.Common.{◌≡◌, ◌≢◌, ℕ, ◌+◌, ◌<◌, ◌≤◌, max, Bool, true, false, not, cond, List, [], ◌∷◌, length, Option, Some, None, is_some, unwrap_or, Result, Ok, Err, refl, sym, ap}
use Rattle.std.proofs.Common.{◌∙◌, subst, arith}
use Rattle.std.specs.List.{remove as removed}
use Rattle.std.specs.Ordering.{nat_cmp}
use Rattle.std.specs.Cmp.Lexicographic.{slice_cmp, nat_list_cmp_total}
use mir.Val.{bool_byte}
use Rattle.std.specs.Prelude.{IfSome, OnOk}
use Rattle.std.specs.FinMap.{insert, remove, entries, len, get-empty, contains_key, len-insert, empty_of_len}
use Rattle.blocks.specs.declared.BlockRef.{BlockRef}
use Rattle.blocks.specs.Blocks.{Blocks, bytes_at, with_block, Changes}
use Rattle.blocks.proofs.Change.{changes_same, changes_owned}
use Rattle.object_codec.specs.Limits.{AreInRange}
use Rattle.object_codec.specs.declared.limits.Limits.{Limits}
use Rattle.object_codec.specs.declared.form.Form.{Form}
use Rattle.object_codec.specs.declared.form.Form.TheVariants.{Listpack, Hashtable}
use Rattle.object_codec.specs.Forms.{FitsHash, IsLeast}
use Rattle.pack_pairs.specs.Pairs.{Pair, IsPairPack, FitsPair, IsOnce, IsFirst, pairs, map_of_pairs, longest}
use Rattle.pack_pairs.proofs.Lists.{length_removed}
use Rattle.pack_pairs.proofs.Packs.{pair_fits}
use Rattle.pack_pairs.proofs.Maps.{get_pairs, first_inside, first_second, map_last, map_seconded, map_removed, once_last, once_seconded, once_removed, map_len, longest_last}
use Rattle.pack_pairs.proofs.Maps.{longest_seconded, longest_removed}
use Rattle.rehash_dict.specs.Keyed.{hash_of}
use Rattle.rehash_dict.specs.Tables.{IsSettled}
use Rattle.rehash_dict.proofs.Fresh.{placed_bytes}
use Rattle.rehash_dict.proofs.Growing.{grown_same}
use Rattle.hash_object.specs.declared.fields.Body.{Body}
use Rattle.hash_object.specs.declared.fields.Body.TheVariants.{Empty, Pack, Table}
use Rattle.hash_object.specs.declared.fields.Packed.{Packed}
use Rattle.hash_object.specs.declared.fields.Fields.{Fields}
use Rattle.hash_object.specs.Maps.{FieldMap, IsRisen}
use Rattle.hash_object.specs.Hashed.{FieldTable, IsHashed, no_fields}
use Rattle.hash_object.specs.Fields.{IsFields, IsBody, IsChanged, IsFieldPack, IsPlacedBody, IsIndex, fields, fields_of, listed_of, put_in, refs, form_of, form_of_body, no_tables, tables, tables_of}
use Rattle.hash_object.proofs.Bodies.{len_of, IsListed, is_listed, packed_tables}
use Rattle.hash_object.proofs.Forms.{map_short, risen_put}

-- ---- a list with a pair more, or with another value

-- pairs in which a field was given a value mean their old map with that field given it
pub put_map : (list : List Pair) (index : Option ℕ) (k v : List ℕ) → IsIndex list k index → map_of_pairs (put_in list index k v) ≡ insert (map_of_pairs list) k v
put_map list None k v none = map_last list k v none
put_map list (Some i) k v first = map_seconded list i k v first

-- no field stands twice among pairs in which a field was given a value
pub put_once : (list : List Pair) (index : Option ℕ) (k v : List ℕ) → IsOnce list → IsIndex list k index → IsOnce (put_in list index k v)
put_once list None k v once none = once_last list k v once none
put_once list (Some i) k v once first = once_seconded list i v once

-- pairs in which a field was given a value have no text longer than these two and all the old ones
pub put_longest : (list : List Pair) (index : Option ℕ) (k v : List ℕ) → longest (put_in list index k v) ≤ max (max (length k) (length v)) (longest list)
put_longest list None k v = omega (arith, longest_last list k v)
put_longest list (Some i) k v = omega (arith, longest_seconded list i v)

-- the index of a field is below the number of the pairs
pub index_within : (list : List Pair) (k : List ℕ) (index : Option ℕ) → IsIndex list k index → IfSome index (λ i. i < length list)
index_within list k None none = tt
index_within list k (Some i) first = first_inside k list i first

-- the field is there exactly where it has an index
pub index_there : (list : List Pair) (k : List ℕ) (index : Option ℕ) → IsIndex list k index → contains_key (map_of_pairs list) k ≡ is_some index
index_there list k None none = ap is_some (get_pairs list k ∙ none)
index_there list k (Some i) first = ap is_some (get_pairs list k ∙ first_second k list i first)

-- a field has no index exactly where the map of the pairs lacks it
pub index_new : (list : List Pair) (k : List ℕ) (index : Option ℕ) (is_none : Bool) → IsIndex list k index → is_some index ≡ not is_none → is_none ≡ not (contains_key (map_of_pairs list) k)
index_new list k index is_none is some = twice is_none ∙ ap not (sym (index_there list k index is ∙ some))
  where
    twice : (b : Bool) → b ≡ not (not b)
    twice true = refl
    twice false = refl

-- the number of fields after one was given a value
pub put_len : (map : FieldMap) (list : List Pair) (index : Option ℕ) (k v : List ℕ) → map ≡ map_of_pairs list → IsIndex list k index → len (insert map k v) ≡ len map + cond (is_some index) 0 1
put_len map list index k v is at = len-insert nat_list_cmp_total map k v ∙ ap (λ b. cond b (len map) (len map + 1)) (ap (λ m. contains_key m k) is ∙ index_there list k index at)
    ∙ by_test (is_some index) (len map)
  where
    by_test : (b : Bool) (n : ℕ) → cond b n (n + 1) ≡ n + cond b 0 1
    by_test true n = omega arith
    by_test false n = refl

-- ---- the bytes of a packed hash

module _ (m : Blocks) (limits : Limits) (body : Body) (p : Packed) (bytes : List ℕ) (body_is : body ≡ Pack p) (read : m p.at ≡ Some bytes) where
  -- the bytes read from a packed hash's block are a listpack of as many fields as it counts, within the limits
  pub pack_read : (seed : ℕ) → IsBody m limits seed body → IsFieldPack limits p.len bytes
  pack_read seed is = subst (IsFieldPack limits p.len) (ap (λ o. unwrap_or o []) read) (subst (IsBody m limits seed) body_is is)

  -- the pairs of a packed hash are those of the bytes read from its block
  pub list_read : listed_of m body ≡ pairs bytes
  list_read = ap (listed_of m) body_is ∙ ap (λ o. pairs (unwrap_or o [])) read

  -- the fields of a packed hash are the map of the pairs in the bytes read from its block
  pub map_read : fields_of m body ≡ map_of_pairs (pairs bytes)
  map_read = ap (fields_of m) body_is ∙ ap (λ o. map_of_pairs (pairs (unwrap_or o []))) read

  -- a packed hash has a field exactly where it has an index among the pairs of the bytes read
  pub field_there : (k : List ℕ) (index : Option ℕ) → IsIndex (pairs bytes) k index → contains_key (fields_of m body) k ≡ is_some index
  field_there k index is = ap (λ map. contains_key map k) map_read ∙ index_there (pairs bytes) k index is

-- a field and its value have room beside few short pairs
pub pack_room : (limits : Limits) (len : ℕ) (bytes field value : List ℕ) → AreInRange limits → IsFieldPack limits len bytes → max (length field) (length value) ≤ 4096 → FitsPair bytes field value
pack_room limits len bytes field value range p short =
    pair_fits bytes field value p.pack (omega (arith, p.short, range.hash_value)) (omega (arith, p.counted, p.few, range.hash_entries)) (omega (arith, short)) (omega (arith, short))

-- a packed hash without a block has no field
pub none_there : (m : Blocks) (body : Body) (k : List ℕ) → form_of_body body ≢ Hashtable → ((p : Packed) → body ≡ Pack p → ⊥) → contains_key (fields_of m body) k ≡ false
none_there m Empty k packed none = ap is_some (get-empty (slice_cmp nat_cmp) k)
none_there m (Pack p) k packed none = absurd (none p refl)
none_there m (Table t) k packed none = absurd (packed refl)

-- ---- a packed hash with a field more or another value

module _ (m : Blocks) (self : Fields) (k v : List ℕ) (index : Option ℕ) (sound : IsFields m self) (packed : form_of self ≢ Hashtable) (here : IsIndex (listed_of m self.body) k index) where
  -- the list of a packed hash means its fields, has none of them twice, and is within the limits
  place_listed : IsListed m self.limits self.body
  place_listed = is_listed m self.limits self.seed self.body sound.body packed

  -- how many fields it has then
  pub place_count : (held more : ℕ) → held ≡ len (fields m self) → more ≡ cond (is_some index) 0 1 → held + more ≡ len (insert (fields m self) k v)
  place_count held more count one = omega (arith, count, one, put_len (fields m self) (listed_of m self.body) index k v place_listed.fields_are here)

  -- after a field was given a value a packed hash has at most 4097 fields
  pub place_few : (held more : ℕ) → held ≡ len (fields m self) → more ≡ cond (is_some index) 0 1 → held + more ≤ 4097
  place_few held more count one =
      let few : more ≤ 1 = omega (arith, one, at_most (is_some index)) in
      omega (arith, few, count, len_of m self.limits self.seed self.body sound.body, place_listed.few, sound.limits.hash_entries)
    where
      at_most : (b : Bool) → cond {A = ℕ} b 0 1 ≤ 1
      at_most true = omega arith
      at_most false = omega arith

  -- the least form for the new number of fields and the new texts is that to which the packed hash rises
  pub place_rises : (count : ℕ) (f : Form) → count ≡ len (insert (fields m self) k v) → IsLeast (FitsHash self.limits count (max (length k) (length v))) f
      → IsRisen self.limits (form_of self) (insert (fields m self) k v) f
  place_rises count f counted least =
      subst (λ old. IsRisen self.limits old (insert (fields m self) k v) f) (sym (listpack_of self.body packed))
      (risen_put self.limits (fields m self) k v count f counted
      (omega (arith, ap (λ map. longest (entries map)) place_listed.fields_are, map_short self.limits.hash_value (listed_of m self.body) place_listed.short)) least)
    where
      listpack_of : (body : Body) → form_of_body body ≢ Hashtable → form_of_body body ≡ Listpack
      listpack_of Empty packed = refl
      listpack_of (Pack p) packed = refl
      listpack_of (Table t) packed = absurd (packed refl)

-- 1 where there is no index
pub more_is : (index : Option ℕ) (is_none : Bool) (more : ℕ) → is_some index ≡ not is_none → more ≡ bool_byte is_none → more ≡ cond (is_some index) 0 1
more_is index is_none more some is = is ∙ by_test is_none ∙ ap (λ b. cond b 0 1) (sym some)
  where
    by_test : (b : Bool) → bool_byte b ≡ cond {A = ℕ} (not b) 0 1
    by_test true = refl
    by_test false = refl

-- what holds of a form holds of the one that is the same after a call
pub form_after : {A E : Type 0} (r : Result A E) (f form : Form) (P : Form → Type 0) → P f → OnOk r (form ≡ f) → OnOk r (P form)
form_after (Ok x) f form P fits is = subst P (sym is) fits
form_after (Err e) f form P fits is = tt

-- ---- a listpack took the place of the bytes of a packed hash

-- a listpack of the hash's pairs with a field given a value, within the limits, has the map of that
pub put_whole : (m : Blocks) (self : Fields) (k v : List ℕ) (index : Option ℕ) (count : ℕ) (bytes : List ℕ) → IsFields m self → form_of self ≢ Hashtable
    → IsIndex (listed_of m self.body) k index → count ≡ len (insert (fields m self) k v)
    → count ≤ self.limits.hash_entries → max (length k) (length v) ≤ self.limits.hash_value → IsPairPack bytes → pairs bytes ≡ put_in (listed_of m self.body) index k v
    → IsFieldPack self.limits count bytes × (map_of_pairs (pairs bytes) ≡ insert (fields m self) k v)
put_whole m self k v index count bytes sound packed here counted few short pack is =
    let listed = is_listed m self.limits self.seed self.body sound.body packed in
    let list = listed_of m self.body in
    let once : IsOnce (pairs bytes) = subst IsOnce (sym is) (put_once list index k v listed.once here) in
    let map_is : map_of_pairs (pairs bytes) ≡ insert (fields m self) k v = ap map_of_pairs is ∙ put_map list index k v here ∙ ap (λ map. insert map k v) (sym listed.fields_are) in (
      record {
        pack = pack;
        counted = counted ∙ ap len (sym map_is) ∙ map_len (pairs bytes) once;
        once = once;
        few = few;
        short = omega (arith, ap longest is, put_longest list index k v, short, listed.short);
      },
      map_is,
    )

-- the hash that has such a listpack in the place of its old bytes is changed to that map
pub pack_changed : (m n : Blocks) (self : Fields) (at : BlockRef) (count : ℕ) (bytes : List ℕ) (map : FieldMap) → IsFields m self → form_of self ≢ Hashtable → n at ≡ Some bytes
    → Changes m n (refs self) (at ∷ [])
    → IsFieldPack self.limits count bytes × (map_of_pairs (pairs bytes) ≡ map) → IsChanged m n self (record self { body = Pack (record { at = at; len = count }) }) map
pack_changed m n self at count bytes map sound packed read changes whole =
    let same : bytes_at n at ≡ bytes = ap (λ o. unwrap_or o []) read in
    record {
      sound = record { limits = sound.limits; owned = changes_owned m n (refs self) (at ∷ []) changes; body = subst (IsFieldPack self.limits count) (sym same) whole.0 };
      fields_are = ap (λ bs. map_of_pairs (pairs bs)) same ∙ whole.1;
      changes = changes;
      grown = grown_same (hash_of self.seed) (tables m self) no_tables (sym (packed_tables m self.body (λ t is. packed (ap form_of_body is))));
      settings = record { limits = refl; seed = refl };
    }

-- ---- the block of a listpack was placed

-- a block has the bytes with which it was placed
block_is : (m n : Blocks) (at : BlockRef) (bytes : List ℕ) → n ≡ with_block m at (Some bytes) → bytes_at n at ≡ bytes
block_is m n at bytes placed = ap (λ o. unwrap_or o []) (placed_bytes m n at bytes placed)

module _ (m n : Blocks) (self : Fields) (at : BlockRef) (count : ℕ) (bytes : List ℕ) (placed : n ≡ with_block m at (Some bytes)) (changes : Changes m n [] (at ∷ [])) where
  -- a listpack of a map's fields and values within the limits, placed in a block, is a body of that map
  pub pack_is_placed : (map : FieldMap) → IsFieldPack self.limits count bytes → map_of_pairs (pairs bytes) ≡ map → IsPlacedBody m n self (Pack (record { at = at; len = count })) map
  pack_is_placed map whole is =
      let same : bytes_at n at ≡ bytes = block_is m n at bytes placed in
      record {
        sound = subst (IsFieldPack self.limits count) (sym same) whole;
        fields_are = ap (λ bs. map_of_pairs (pairs bs)) same ∙ is;
        changes = changes;
        grown = grown_same (hash_of self.seed) no_tables no_tables refl;
      }

  module _ (k : List ℕ) (sound : IsFields m self) where
    -- a listpack of the hash's pairs without that of a field is a placed body of the map without this field
    pub fewer_placed : (p : Packed) (i : ℕ) → self.body ≡ Pack p → IsFirst k (listed_of m self.body) i → count + 1 ≡ p.len → IsPairPack bytes → pairs bytes ≡ removed (pairs (bytes_at m p.at)) i
        → IsPlacedBody m n self (Pack (record { at = at; len = count })) (remove (fields m self) k)
    fewer_placed p i body_is first less pack is =
        let old : IsFieldPack self.limits p.len (bytes_at m p.at) = subst (IsBody m self.limits self.seed) body_is sound.body in
        let list = pairs (bytes_at m p.at) in
        let here : IsFirst k list i = subst (λ b. IsFirst k (listed_of m b) i) body_is first in
        let once : IsOnce (pairs bytes) = subst IsOnce (sym is) (once_removed list i old.once) in
        pack_is_placed (remove (fields m self) k) (record {
          pack = pack;
          counted = omega (arith, less, old.counted, ap length is, length_removed list i (first_inside k list i here));
          once = once;
          few = omega (arith, less, old.few);
          short = omega (arith, ap longest is, longest_removed list i, old.short);
        }) (ap map_of_pairs is ∙ map_removed list i k old.once here ∙ ap (λ b. remove (fields_of m b) k) (sym body_is))

-- a pack's pair is inside
pub first_in_pack : (m : Blocks) (self : Fields) (k : List ℕ) (p : Packed) (i : ℕ) → self.body ≡ Pack p → IsFirst k (listed_of m self.body) i → i < length (pairs (bytes_at m p.at))
first_in_pack m self k p i body_is first = first_inside k (pairs (bytes_at m p.at)) i (subst (λ b. IsFirst k (listed_of m b) i) body_is first)

-- ---- the last field was taken out

-- for a map without a field the empty body is placed, and no block changes
pub none_left : (m : Blocks) (self : Fields) (map : FieldMap) → len map ≡ 0 → IsPlacedBody m m self Empty map
none_left m self map none = record {
  sound = tt;
  fields_are = sym (empty_of_len map none);
  changes = changes_same m [] (λ r. omega arith);
  grown = grown_same (hash_of self.seed) no_tables no_tables refl;
}

-- where the only field of a packed hash is taken out, the empty body is placed for what is left
pub last_placed : (m : Blocks) (self : Fields) (k : List ℕ) (p : Packed) (i : ℕ) → IsFields m self → self.body ≡ Pack p → IsFirst k (listed_of m self.body) i → p.len ≡ 1
    → IsPlacedBody m m self Empty (remove (fields m self) k)
last_placed m self k p i sound body_is first single =
    let old : IsFieldPack self.limits p.len (bytes_at m p.at) = subst (IsBody m self.limits self.seed) body_is sound.body in
    let list = pairs (bytes_at m p.at) in
    let here : IsFirst k list i = subst (λ b. IsFirst k (listed_of m b) i) body_is first in
    none_left m self (remove (fields m self) k)
    (ap len (ap (λ b. remove (fields_of m b) k) body_is ∙ sym (map_removed list i k old.once here)) ∙ map_len (removed list i) (once_removed list i old.once)
    ∙ omega (arith, single, old.counted, length_removed list i (first_inside k list i here)))

-- ---- a dictionary was filled

-- a dictionary filled from an empty one with the hash's seed is a placed body of its fields and values
pub table_placed : (m n : Blocks) (self : Fields) (t : FieldTable) (map : FieldMap) → IsHashed m n (no_fields self.seed) t map → IsPlacedBody m n self (Table t) map
table_placed m n self t map h = record {
  sound = record { keyed = h.keyed; seed_is = h.seed };
  fields_are = h.fields_are;
  changes = h.changes;
  grown = h.grown;
}

-- what is left of a packed hash is packed, and so has no table to shrink
pub placed_settled : (m : Blocks) (body : Body) → form_of_body body ≡ Listpack → IsSettled (tables_of m body)
placed_settled m Empty is = refl
placed_settled m (Pack p) is = refl
placed_settled m (Table t) is = absurd cc

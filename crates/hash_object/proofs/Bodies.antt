-- What a hash's body depends on, and a body that takes another's place.
use Rattle.std.proofs.Common.{◌≡◌, ◌≢◌, ℕ, ◌≤◌, List, [], length, Some, unwrap_or, refl, sym, ap, ◌∙◌, subst, arith}
use Rattle.std.specs.FinMap.{len, len-empty}
use Rattle.std.specs.Ordering.{nat_cmp}
use Rattle.std.specs.Cmp.Lexicographic.{slice_cmp}
use Rattle.blocks.specs.declared.BlockRef.{BlockRef}
use Rattle.blocks.specs.Blocks.{Blocks, IsIn, bytes_at, Changes}
use Rattle.blocks.proofs.Change.{changes_owned}
use Rattle.collection_walk.proofs.Replaced.{new_kept, replaced}
use Rattle.object_codec.specs.declared.limits.Limits.{Limits}
use Rattle.object_codec.specs.declared.form.Form.TheVariants.{Listpack, Hashtable}
use Rattle.pack_pairs.specs.Pairs.{IsOnce, pairs, map_of_pairs, longest}
use Rattle.pack_pairs.proofs.Maps.{map_len}
use Rattle.rehash_dict.specs.Table.{table_len}
use Rattle.rehash_dict.specs.Keyed.{hash_of}
use Rattle.rehash_dict.specs.Grown.{Grown}
use Rattle.rehash_dict.proofs.MapOf.{len_map_of}
use Rattle.hash_object.specs.declared.fields.Body.{Body}
use Rattle.hash_object.specs.declared.fields.Body.TheVariants.{Empty, Pack, Table}
use Rattle.hash_object.specs.declared.fields.Fields.{Fields}
use Rattle.hash_object.specs.Maps.{FieldMap}
use Rattle.hash_object.specs.Hashed.{FieldTable}
use Rattle.hash_object.specs.Fields.{IsFields, IsBody, IsFieldPack, IsChanged, fields_of, listed_of, refs, refs_of_body, form_of_body, tables, tables_of, no_tables}
use Rattle.hash_object.proofs.Tables.{table_kept, fields_kept}
use Rattle.collection_walk.proofs.Named.{self}

module _ (a b : Blocks) (limits : Limits) (seed : ℕ) where
  -- A body is the same where its blocks keep their bytes.
  pub body_kept : (body : Body) → IsBody a limits seed body → ((r : BlockRef) → IsIn r (refs_of_body body) → b r ≡ a r)
      → IsBody b limits seed body × (fields_of b body ≡ fields_of a body) × (tables_of b body ≡ tables_of a body)
  body_kept Empty is same = (tt, refl, refl)
  body_kept (Pack packed) is same =
      let bytes : bytes_at b packed.at ≡ bytes_at a packed.at = ap (λ o. unwrap_or o []) (same packed.at (omega (arith, self packed.at))) in
      (subst (IsFieldPack limits packed.len) (sym bytes) is, ap (λ bs. fields_of (λ _. Some bs) (Pack packed)) bytes, refl)
  body_kept (Table t) is same =
      let k = table_kept a b t is.keyed same in
      (record { keyed = k.0; seed_is = is.seed_is }, fields_kept a b t is.keyed same, k.1)

abbrev pub body_len : Body → ℕ
body_len Empty = 0
body_len (Pack packed) = packed.len
body_len (Table t) = table_len t

-- the number of fields
pub len_of : (m : Blocks) (limits : Limits) (seed : ℕ) (body : Body) → IsBody m limits seed body → body_len body ≡ len (fields_of m body)
len_of m limits seed Empty is = sym (len-empty (slice_cmp nat_cmp) (List ℕ))
len_of m limits seed (Pack packed) is = is.counted ∙ sym (map_len (pairs (bytes_at m packed.at)) is.once)
len_of m limits seed (Table t) is = sym (len_map_of m (λ v. bytes_at m v) t is.keyed)

-- ---- another body was placed, and the blocks of the old one were given back

pub body_changed : (a b c : Blocks) (f : Fields) (body : Body) (map : FieldMap) → IsFields a f → IsBody b f.limits f.seed body → Changes a b [] (refs_of_body body) → Changes b c (refs f) []
    → fields_of b body ≡ map → Grown (hash_of f.seed) (tables a f) (tables_of b body) → IsChanged a c f (record f { body = body }) map
body_changed a b c f body map sound is p q fields_are grown =
    let kept = body_kept b c f.limits f.seed body is (new_kept a b c (refs f) (refs_of_body body) sound.owned p q) in
    let changes = replaced a b c (refs f) (refs_of_body body) sound.owned p q in
    record {
      sound = record { limits = sound.limits; owned = changes_owned a c (refs f) (refs_of_body body) changes; body = kept.0 };
      fields_are = kept.1 ∙ fields_are;
      changes = changes;
      grown = subst (Grown (hash_of f.seed) (tables a f)) (sym kept.2) grown;
      settings = record { limits = refl; seed = refl };
    }

-- a packed body has no table
pub packed_tables : (m : Blocks) (body : Body) → ((t : FieldTable) → body ≡ Table t → ⊥) → tables_of m body ≡ no_tables
packed_tables m Empty packed = refl
packed_tables m (Pack p) packed = refl
packed_tables m (Table t) packed = absurd (packed t refl)

pub packed_form : (body : Body) → ((t : FieldTable) → body ≡ Table t → ⊥) → form_of_body body ≢ Hashtable
packed_form Empty packed is = cc
packed_form (Pack p) packed is = cc
packed_form (Table t) packed is = packed t refl

-- what a packed body's list is
pub record IsListed (m : Blocks) (limits : Limits) (body : Body) : Type 0 where
  pub fields_are : fields_of m body ≡ map_of_pairs (listed_of m body)
  pub once : IsOnce (listed_of m body)
  pub short : longest (listed_of m body) ≤ limits.hash_value
  pub counted : body_len body ≡ length (listed_of m body)
  pub few : body_len body ≤ limits.hash_entries

pub is_listed : (m : Blocks) (limits : Limits) (seed : ℕ) (body : Body) → IsBody m limits seed body → form_of_body body ≢ Hashtable → IsListed m limits body
is_listed m limits seed Empty is packed = record { fields_are = refl; once = tt; short = omega arith; counted = refl; few = omega arith }
is_listed m limits seed (Pack p) is packed = record { fields_are = refl; once = is.once; short = is.short; counted = is.counted; few = is.few }
is_listed m limits seed (Table t) is packed = absurd (packed refl)

pub listed_ofpack : (body : Body) → ((t : FieldTable) → body ≡ Table t → ⊥) → form_of_body body ≡ Listpack
listed_ofpack Empty packed = refl
listed_ofpack (Pack p) packed = refl
listed_ofpack (Table t) packed = absurd (packed t refl)

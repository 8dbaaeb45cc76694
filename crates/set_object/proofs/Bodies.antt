-- What a set's body depends on, and a body that takes another's place.
use Rattle.std.proofs.Common.{◌≡◌, ℕ, [], Some, unwrap_or, refl, sym, ap, ◌∙◌, subst, arith}
use Rattle.std.proofs.lemmas.List.{length-map}
use Rattle.std.specs.FinMap.{len, len-empty}
use Rattle.std.specs.Ordering.{nat_cmp}
use Rattle.std.specs.Cmp.Lexicographic.{slice_cmp}
use Rattle.blocks.specs.declared.BlockRef.{BlockRef}
use Rattle.blocks.specs.Blocks.{Blocks, IsIn, bytes_at, Changes}
use Rattle.blocks.proofs.Change.{changes_owned}
use Rattle.int_text.specs.Decimal.{canonical}
use Rattle.intset.specs.Intset.{numbers_of}
use Rattle.collection_walk.proofs.Replaced.{new_kept, replaced}
use Rattle.object_codec.specs.declared.limits.Limits.{Limits}
use Rattle.collection_walk.proofs.Named.{self, names_key}
use Rattle.rehash_dict.specs.Table.{Element, item, table_len}
use Rattle.rehash_dict.specs.Keyed.{hash_of}
use Rattle.rehash_dict.specs.Grown.{Grown}
use Rattle.rehash_dict.proofs.Keys.{keyed_frame}
use Rattle.rehash_dict.proofs.MapOf.{len_map_of}
use Rattle.set_object.specs.declared.members.Body.{Body}
use Rattle.set_object.specs.declared.members.Body.TheVariants.{Empty, Numbers, Pack, Table}
use Rattle.set_object.specs.declared.members.Members.{Members}
use Rattle.set_object.specs.Strings.{Strings}
use Rattle.set_object.specs.Members.{IsMembers, IsBody, IsNumbers, IsMemberPack, IsChanged, members_of, refs, refs_of, tables, tables_of, no_tables}
use Rattle.set_object.proofs.Texts.{numbers_once}
use Rattle.set_object.proofs.Hashing.{Dict, content_kept}

module _ (a b : Blocks) (limits : Limits) (seed : ℕ) where
  -- A body is the same where its blocks keep their bytes.
  pub body_kept : (body : Body) → IsBody a limits seed body → ((r : BlockRef) → IsIn r (refs_of body) → b r ≡ a r)
      → IsBody b limits seed body × (members_of b body ≡ members_of a body) × (tables_of b body ≡ tables_of a body)
  body_kept Empty is same = (tt, refl, refl)
  body_kept (Numbers packed) is same =
      let bytes : bytes_at b packed.at ≡ bytes_at a packed.at = ap (λ o. unwrap_or o []) (same packed.at (omega (arith, self packed.at))) in
      (subst (IsNumbers limits packed.len) (sym bytes) is, ap (λ bs. members_of (λ _. Some bs) (Numbers packed)) bytes, refl)
  body_kept (Pack packed) is same =
      let bytes : bytes_at b packed.at ≡ bytes_at a packed.at = ap (λ o. unwrap_or o []) (same packed.at (omega (arith, self packed.at))) in
      (subst (IsMemberPack limits packed.len) (sym bytes) is, ap (λ bs. members_of (λ _. Some bs) (Pack packed)) bytes, refl)
  body_kept (Table t) is same =
      let keeps : (at : ℕ) (e : Element (Unit {0})) → item t at ≡ Some e → b e.key ≡ a e.key = λ at e found. same e.key (names_key t at e found) in
      let k = keyed_frame a b t is.keyed keeps in
      (record { keyed = k.0; seed_is = is.seed_is }, content_kept a b t is.keyed keeps, k.1)

abbrev pub body_len : Body → ℕ
body_len Empty = 0
body_len (Numbers packed) = packed.len
body_len (Pack packed) = packed.len
body_len (Table t) = table_len t

-- the number of members
pub len_of : (m : Blocks) (limits : Limits) (seed : ℕ) (body : Body) → IsBody m limits seed body → body_len body ≡ len (members_of m body)
len_of m limits seed Empty is = sym (len-empty (slice_cmp nat_cmp) (Unit {0}))
len_of m limits seed (Numbers packed) is =
    let ns = numbers_of (bytes_at m packed.at) in
    is.counted ∙ sym (length-map ns canonical) ∙ sym (numbers_once ns is.intset.rising is.fit)
len_of m limits seed (Pack packed) is = is.counted ∙ sym is.once
len_of m limits seed (Table t) is = sym (len_map_of m (λ v. v) t is.keyed)

-- ---- another body was placed, and the blocks of the old one were given back

pub body_changed : (a b c : Blocks) (m : Members) (body : Body) (set : Strings) → IsMembers a m → IsBody b m.limits m.seed body → Changes a b [] (refs_of body) → Changes b c (refs m) []
    → members_of b body ≡ set → Grown (hash_of m.seed) (tables a m) (tables_of b body) → IsChanged a c m (record m { body = body }) set
body_changed a b c m body set sound is p q members_are grown =
    let kept = body_kept b c m.limits m.seed body is (new_kept a b c (refs m) (refs_of body) sound.owned p q) in
    let changes = replaced a b c (refs m) (refs_of body) sound.owned p q in
    record {
      sound = record { limits = sound.limits; owned = changes_owned a c (refs m) (refs_of body) changes; body = kept.0 };
      members_are = kept.1 ∙ members_are;
      changes = changes;
      grown = subst (Grown (hash_of m.seed) (tables a m)) (sym kept.2) grown;
      settings = record { limits = refl; seed = refl };
    }

-- a packed body has no table
pub packed_tables : (m : Blocks) (body : Body) → ((t : Dict) → body ≡ Table t → ⊥) → tables_of m body ≡ no_tables
packed_tables m Empty packed = refl
packed_tables m (Numbers p) packed = refl
packed_tables m (Pack p) packed = refl
packed_tables m (Table t) packed = absurd (packed t refl)

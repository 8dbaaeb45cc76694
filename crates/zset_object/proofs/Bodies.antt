-- What a sorted set's body depends on, and a body that takes another's place.
use Rattle.std.proofs.Common.{◌≡◌, ◌≢◌, ℕ, ◌≤◌, ℤ, [], length, unwrap_or, refl, sym, ap, ◌∙◌, subst, arith}
use Rattle.std.specs.FinMap.{len, len-empty}
use Rattle.std.specs.Ordering.{nat_cmp}
use Rattle.std.specs.Cmp.Lexicographic.{slice_cmp}
use Rattle.blocks.specs.declared.BlockRef.{BlockRef}
use Rattle.blocks.specs.Blocks.{Blocks, IsIn, bytes_at, Changes}
use Rattle.blocks.proofs.Change.{changes_owned}
use Rattle.collection_walk.proofs.Replaced.{new_kept, replaced}
use Rattle.object_codec.specs.declared.limits.Limits.{Limits}
use Rattle.object_codec.specs.declared.form.Form.TheVariants.{Listpack, Skiplist}
use Rattle.pack_pairs.specs.Pairs.{IsOnce, pairs}
use Rattle.collection_walk.proofs.Named.{self}
use Rattle.rehash_dict.specs.Keyed.{hash_of}
use Rattle.rehash_dict.specs.Grown.{Grown}
use Rattle.score_table.specs.declared.table.ScoreTable.{ScoreTable}
use Rattle.score_table.specs.Ranking.{ScoreMap}
use Rattle.score_table.specs.Scored as table
use Rattle.score_table.proofs.Depends.{score_table_laws_hold}
use Rattle.zset_object.specs.declared.scored.Packed.{Packed}
use Rattle.zset_object.specs.declared.scored.Body.{Body}
use Rattle.zset_object.specs.declared.scored.Body.TheVariants.{Empty, Pack, Table}
use Rattle.zset_object.specs.declared.scored.Scored.{Scored}
use Rattle.zset_object.specs.Orders.{map_of_keys}
use Rattle.zset_object.specs.Packed.{keys_of, keys_in, scores_in}
use Rattle.zset_object.specs.Scored.{IsScored, IsBody, IsMemberPack, IsChanged, IsPlacedBody, listed_of, scores_of, ranked_of, refs, refs_of_body, form_of_body, tables, tables_of}
use Rattle.zset_object.proofs.Keys.{once_len, longest_key}

module _ (a b : Blocks) (limits : Limits) (seed : ℕ) where
  -- A body is the same where its blocks keep their bytes.
  pub body_kept : (body : Body) → IsBody a limits seed body → ((r : BlockRef) → IsIn r (refs_of_body body) → b r ≡ a r)
      → IsBody b limits seed body × (scores_of b body ≡ scores_of a body) × (ranked_of b body ≡ ranked_of a body) × (tables_of b body ≡ tables_of a body)
  body_kept Empty is same = (tt, refl, refl, refl)
  body_kept (Pack packed) is same =
      let bytes : bytes_at b packed.at ≡ bytes_at a packed.at = ap (λ o. unwrap_or o []) (same packed.at (omega (arith, self packed.at))) in
      (subst (IsMemberPack limits packed.len) (sym bytes) is, ap scores_in bytes, ap keys_in bytes, refl)
  body_kept (Table t) is same =
      let k = score_table_laws_hold.sound a b t same is.sound in
      (record { sound = k.0; seed_is = is.seed_is }, score_table_laws_hold.own a b t same, k.1, k.2)

-- ---- how many members there are

pub empty_len : (m : Blocks) (body : Body) → body ≡ Empty → 0 ≡ len (scores_of m body)
empty_len m body is = sym (ap (λ b. len (scores_of m b)) is ∙ len-empty (slice_cmp nat_cmp) ℤ)

pub pack_len : (m : Blocks) (limits : Limits) (seed : ℕ) (body : Body) (p : Packed) → body ≡ Pack p → IsBody m limits seed body → p.len ≡ len (scores_of m body)
pack_len m limits seed body p is sound =
    let old : IsMemberPack limits p.len (bytes_at m p.at) = subst (IsBody m limits seed) is sound in
    old.counted ∙ sym (once_len (pairs (bytes_at m p.at)) old.pack.once) ∙ sym (ap (λ b. len (scores_of m b)) is)

-- ---- another body was placed, and the blocks of the old one were given back

pub body_changed : (a b c : Blocks) (s : Scored) (body : Body) (map : ScoreMap) → IsScored a s → IsPlacedBody a b s.limits s.seed body map → Changes b c (refs s) []
    → tables a s ≡ table.no_tables → IsChanged a c s (record s { body = body }) map
body_changed a b c s body map sound p q none =
    let kept = body_kept b c s.limits s.seed body p.sound (new_kept a b c (refs s) (refs_of_body body) sound.owned p.changes q) in
    let changes = replaced a b c (refs s) (refs_of_body body) sound.owned p.changes q in
    record {
      sound = record { limits = sound.limits; owned = changes_owned a c (refs s) (refs_of_body body) changes; body = kept.0 };
      scores_are = kept.1 ∙ p.scores_are;
      changes = changes;
      grown = subst (λ t. Grown (hash_of s.seed) t (tables_of c body)) (sym none) (subst (Grown (hash_of s.seed) table.no_tables) (sym kept.3) p.grown);
      settings = record { limits = refl; seed = refl };
    }

-- a packed body has no table
pub packed_tables : (m : Blocks) (body : Body) → ((t : ScoreTable) → body ≡ Table t → ⊥) → tables_of m body ≡ table.no_tables
packed_tables m Empty packed = refl
packed_tables m (Pack p) packed = refl
packed_tables m (Table t) packed = absurd (packed t refl)

pub packed_form : (body : Body) → ((t : ScoreTable) → body ≡ Table t → ⊥) → form_of_body body ≢ Skiplist
packed_form Empty packed is = cc
packed_form (Pack p) packed is = cc
packed_form (Table t) packed is = packed t refl

pub form_listpack : (body : Body) → form_of_body body ≢ Skiplist → form_of_body body ≡ Listpack
form_listpack Empty packed = refl
form_listpack (Pack p) packed = refl
form_listpack (Table t) packed = absurd (packed refl)

-- what a packed body's list is
pub record IsListed (m : Blocks) (limits : Limits) (body : Body) : Type 0 where
  pub scores_are : scores_of m body ≡ map_of_keys (keys_of (listed_of m body))
  pub once : IsOnce (listed_of m body)
  pub few : length (listed_of m body) ≤ limits.zset_entries
  pub short : longest_key (listed_of m body) ≤ limits.zset_value

pub is_listed : (m : Blocks) (limits : Limits) (seed : ℕ) (body : Body) → IsBody m limits seed body → form_of_body body ≢ Skiplist → IsListed m limits body
is_listed m limits seed Empty is packed = record { scores_are = refl; once = tt; few = omega arith; short = omega arith }
is_listed m limits seed (Pack p) is packed = record { scores_are = refl; once = is.pack.once; few = omega (arith, is.counted, is.few); short = is.short }
is_listed m limits seed (Table t) is packed = absurd (packed refl)

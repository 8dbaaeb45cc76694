-- Bodies that are placed for a sorted set with a member's new score, or with a member less.
use Rattle.std.proofs.Common.{◌≡◌, ◌≢◌, ℕ, ◌+◌, ◌<◌, ◌≤◌, ℤ, Bool, true, false, not, cond, List, [], ◌∷◌, length, Option, Some, None, is_some, unwrap_or, Result, Ok, Err, refl, sym, ap}
use Rattle.std.proofs.Common.{◌∙◌, subst, arith}
use mir.Val.{bool_byte}
use Rattle.std.specs.Prelude.{OnOk, MatchOption}
use Rattle.std.specs.List.{remove as removed}
use Rattle.std.specs.FinMap.{insert, remove, entries, get, len, len-insert, get-empty, contains_key, empty_of_len}
use Rattle.std.specs.Ordering.{nat_cmp}
use Rattle.std.specs.Cmp.Lexicographic.{slice_cmp, nat_list_cmp_total}
use Rattle.blocks.specs.declared.BlockRef.{BlockRef}
use Rattle.blocks.specs.Blocks.{Blocks, bytes_at, with_block, Changes}
use Rattle.blocks.proofs.Change.{changes_same, changes_owned, changes_then}
use Rattle.object_codec.specs.declared.limits.Limits.{Limits}
use Rattle.object_codec.specs.declared.form.Form.{Form}
use Rattle.object_codec.specs.declared.form.Form.TheVariants.{Listpack, Skiplist}
use Rattle.object_codec.specs.Forms.{FitsZset, IsLeast}
use Rattle.pack_pairs.specs.Pairs.{Pair, IsPairPack, IsFirst, pairs}
use Rattle.pack_pairs.proofs.Lists.{length_removed}
use Rattle.pack_pairs.proofs.Maps.{first_inside, once_removed}
use Rattle.rehash_dict.specs.Keyed.{hash_of}
use Rattle.rehash_dict.specs.Tables.{IsSettled}
use Rattle.rehash_dict.specs.Grown.{Grown}
use Rattle.rehash_dict.proofs.Fresh.{placed_bytes}
use Rattle.rehash_dict.proofs.Growing.{grown_same, grown_then}
use Rattle.score_list.specs.Sorted.{Key}
use Rattle.score_table.specs.declared.table.ScoreTable.{ScoreTable}
use Rattle.score_table.specs.Ranking.{ScoreMap}
use Rattle.score_table.specs.Scored as table
use Rattle.zset_object.specs.declared.scored.Packed.{Packed}
use Rattle.zset_object.specs.declared.scored.Body.{Body}
use Rattle.zset_object.specs.declared.scored.Body.TheVariants.{Empty, Pack, Table}
use Rattle.zset_object.specs.declared.scored.Scored.{Scored}
use Rattle.zset_object.specs.Orders.{HasRank, IsRisen, map_of_keys, longest_member}
use Rattle.zset_object.specs.Packed.{IsScorePack, IsIndex, keys_of, keys_in, scores_in, longest_in}
use Rattle.zset_object.specs.Scored.{IsScored, IsBody, IsChanged, IsMemberPack, IsPlacedBody, IsPlacedTable, listed_of, refs, scores, scores_of, ranked_of, form_of, form_of_body, tables, tables_of}
use Rattle.zset_object.proofs.Keys.{once_len, index_there, rank_in, left_is, left_lacks, Left}
use Rattle.zset_object.proofs.Forms.{map_short, risen_put}
use Rattle.zset_object.proofs.Bodies.{IsListed, is_listed, form_listpack, packed_tables}

-- ---- the bytes of a packed sorted set

module _ (m : Blocks) (limits : Limits) (body : Body) (p : Packed) (bytes : List ℕ) (body_is : body ≡ Pack p) (read : m p.at ≡ Some bytes) where
  -- the bytes read from a packed sorted set's block are a listpack of as many members as it counts, within the limits
  pub pack_read : (seed : ℕ) → IsBody m limits seed body → IsMemberPack limits p.len bytes
  pack_read seed is = subst (IsMemberPack limits p.len) (ap (λ o. unwrap_or o []) read) (subst (IsBody m limits seed) body_is is)

  -- the pairs of a packed sorted set are those of the bytes read from its block
  pub list_read : listed_of m body ≡ pairs bytes
  list_read = ap (listed_of m) body_is ∙ ap (λ o. pairs (unwrap_or o [])) read

  -- the scores of a packed sorted set are those in the bytes read from its block
  pub map_read : scores_of m body ≡ scores_in bytes
  map_read = ap (scores_of m) body_is ∙ ap (λ o. scores_in (unwrap_or o [])) read

  -- the scores and members of a packed sorted set in order are the keys in the bytes read from its block
  pub keys_read : ranked_of m body ≡ keys_in bytes
  keys_read = ap (ranked_of m) body_is ∙ ap (λ o. keys_in (unwrap_or o [])) read

  -- a packed sorted set has a member exactly where it has an index among the pairs of the bytes read
  pub member_there : (k : List ℕ) (index : Option ℕ) → IsIndex (pairs bytes) k index → contains_key (scores_of m body) k ≡ is_some index
  member_there k index is = ap (λ map. contains_key map k) map_read ∙ index_there (pairs bytes) k index is

  -- the index of a member among the pairs of the bytes read is its rank, and without an index it has no score
  pub rank_read : (k : List ℕ) (index : Option ℕ) → IsIndex (pairs bytes) k index → MatchOption index (get (scores_of m body) k ≡ None) (λ r. HasRank (scores_of m body) (ranked_of m body) k r)
  rank_read k index is =
      subst (λ (x : ScoreMap × List Key). MatchOption index (get x.0 k ≡ None) (λ r. HasRank x.0 x.1 k r)) (λ j. (sym map_read j, sym keys_read j)) (rank_in (pairs bytes) k index is)

-- a packed sorted set without a block has no member
pub none_there : (m : Blocks) (body : Body) (k : List ℕ) → form_of_body body ≢ Skiplist → ((p : Packed) → body ≡ Pack p → ⊥) → contains_key (scores_of m body) k ≡ false
none_there m Empty k packed none = ap is_some (get-empty (slice_cmp nat_cmp) k)
none_there m (Pack p) k packed none = absurd (none p refl)
none_there m (Table t) k packed none = absurd (packed refl)

-- ---- a packed sorted set with a member's new score

-- a member has no index exactly where the map of the scores lacks it
pub index_new : (list : List Pair) (k : List ℕ) (index : Option ℕ) (is_none : Bool) → IsIndex list k index → is_some index ≡ not is_none → is_none ≡ not (contains_key (map_of_keys (keys_of list)) k)
index_new list k index is_none is some = twice is_none ∙ ap not (sym (index_there list k index is ∙ some))
  where
    twice : (b : Bool) → b ≡ not (not b)
    twice true = refl
    twice false = refl

-- after a member was given a score there is one member more where it had no index, and else none
put_len : (map : ScoreMap) (list : List Pair) (index : Option ℕ) (k : List ℕ) (v : ℤ) → map ≡ map_of_keys (keys_of list) → IsIndex list k index
    → len (insert map k v) ≡ len map + cond (is_some index) 0 1
put_len map list index k v is at = len-insert nat_list_cmp_total map k v ∙ ap (λ b. cond b (len map) (len map + 1)) (ap (λ m. contains_key m k) is ∙ index_there list k index at)
    ∙ by_test (is_some index) (len map)
  where
    by_test : (b : Bool) (n : ℕ) → cond b n (n + 1) ≡ n + cond b 0 1
    by_test true n = omega arith
    by_test false n = refl

-- 1 where there is no index
pub more_is : (index : Option ℕ) (is_none : Bool) (more : ℕ) → is_some index ≡ not is_none → more ≡ bool_byte is_none → more ≡ cond (is_some index) 0 1
more_is index is_none more some is = is ∙ by_test is_none ∙ ap (λ b. cond b 0 1) (sym some)
  where
    by_test : (b : Bool) → bool_byte b ≡ cond {A = ℕ} (not b) 0 1
    by_test true = refl
    by_test false = refl

module _ (m : Blocks) (self : Scored) (k : List ℕ) (v : ℤ) (index : Option ℕ) (sound : IsScored m self) (packed : form_of self ≢ Skiplist) (here : IsIndex (listed_of m self.body) k index) where
  -- the list of a packed sorted set means its scores, has no member twice, and is within the limits
  place_listed : IsListed m self.limits self.body
  place_listed = is_listed m self.limits self.seed self.body sound.body packed

  -- how many members it has then
  pub place_count : (held more : ℕ) → held ≡ len (scores m self) → more ≡ cond (is_some index) 0 1 → held + more ≡ len (insert (scores m self) k v)
  place_count held more count one = omega (arith, count, one, put_len (scores m self) (listed_of m self.body) index k v place_listed.scores_are here)

  -- after a member was given a score a packed sorted set has at most 4097 members
  pub place_few : (held more : ℕ) → held ≡ len (scores m self) → more ≡ cond (is_some index) 0 1 → held + more ≤ 4097
  place_few held more count one =
      let few : more ≤ 1 = omega (arith, one, at_most (is_some index)) in
      omega (arith, few, count, ap len place_listed.scores_are, once_len (listed_of m self.body) place_listed.once, place_listed.few, sound.limits.zset_entries)
    where
      at_most : (b : Bool) → cond {A = ℕ} b 0 1 ≤ 1
      at_most true = omega arith
      at_most false = omega arith

  -- the least form for the new number of members and this member is that to which the packed sorted set rises
  pub place_rises : (count : ℕ) (f : Form) → count ≡ len (insert (scores m self) k v) → IsLeast (FitsZset self.limits count (length k)) f
      → IsRisen self.limits (form_of self) (insert (scores m self) k v) f
  place_rises count f counted least =
      subst (λ old. IsRisen self.limits old (insert (scores m self) k v) f) (sym (form_listpack self.body packed))
      (risen_put self.limits (scores m self) k v count f counted
      (omega (arith, ap (λ map. longest_member (entries map)) place_listed.scores_are, map_short self.limits.zset_value (keys_of (listed_of m self.body)) place_listed.short)) least)

-- what holds of a form holds of the one that is the same after a call
pub form_after : {A E : Type 0} (r : Result A E) (f form : Form) (P : Form → Type 0) → P f → OnOk r (form ≡ f) → OnOk r (P form)
form_after (Ok x) f form P fits is = subst P (sym is) fits
form_after (Err e) f form P fits is = tt

-- ---- a listpack took the place of the bytes of a packed sorted set

-- the sorted set that has a listpack of a map's members and scores, within the limits, in the place of its old bytes is changed to that map
pub pack_changed : (m n : Blocks) (self : Scored) (at : BlockRef) (count : ℕ) (bytes : List ℕ) (map : ScoreMap) → IsScored m self → form_of self ≢ Skiplist → n at ≡ Some bytes
    → Changes m n (refs self) (at ∷ [])
    → IsScorePack bytes → scores_in bytes ≡ map → count ≡ len map → count ≤ self.limits.zset_entries → longest_in bytes ≤ self.limits.zset_value
    → IsChanged m n self (record self { body = Pack (record { at = at; len = count }) }) map
pack_changed m n self at count bytes map sound packed read changes pack is counted few short =
    let same : bytes_at n at ≡ bytes = ap (λ o. unwrap_or o []) read in
    let whole : IsMemberPack self.limits count bytes = record { pack = pack; counted = counted ∙ ap len (sym is) ∙ once_len (pairs bytes) pack.once; few = few; short = short } in
    record {
      sound = record { limits = sound.limits; owned = changes_owned m n (refs self) (at ∷ []) changes; body = subst (IsMemberPack self.limits count) (sym same) whole };
      scores_are = ap scores_in same ∙ is;
      changes = changes;
      grown = grown_same (hash_of self.seed) (tables m self) table.no_tables (sym (packed_tables m self.body (λ t is. packed (ap form_of_body is))));
      settings = record { limits = refl; seed = refl };
    }

-- ---- the block of a listpack was placed

module _ (m n : Blocks) (limits : Limits) (seed : ℕ) (at : BlockRef) (count : ℕ) (bytes : List ℕ) (placed : n ≡ with_block m at (Some bytes)) (changes : Changes m n [] (at ∷ [])) where
  -- a listpack of a map's members and scores within the limits, placed in a block, is a body of that map
  pub pack_placed : (map : ScoreMap) → IsScorePack bytes → scores_in bytes ≡ map → count ≡ len map → count ≤ limits.zset_entries → longest_in bytes ≤ limits.zset_value
      → IsPlacedBody m n limits seed (Pack (record { at = at; len = count })) map
  pack_placed map pack is counted few short =
      let same : bytes_at n at ≡ bytes = ap (λ o. unwrap_or o []) (placed_bytes m n at bytes placed) in
      record {
        sound = subst (IsMemberPack limits count) (sym same) (record { pack = pack; counted = counted ∙ ap len (sym is) ∙ once_len (pairs bytes) pack.once; few = few; short = short });
        scores_are = ap scores_in same ∙ is;
        changes = changes;
        grown = grown_same (hash_of seed) table.no_tables table.no_tables refl;
      }

  -- a listpack without a member's pair, placed in a block, is a body of the scores without that member
  pub fewer_placed : (body : Body) (k : List ℕ) (p : Packed) (i : ℕ) → body ≡ Pack p → IsBody m limits seed body → IsFirst k (listed_of m body) i → count + 1 ≡ p.len → IsPairPack bytes
      → pairs bytes ≡ removed (pairs (bytes_at m p.at)) i
      → IsPlacedBody m n limits seed (Pack (record { at = at; len = count })) (remove (scores_of m body) k)
  fewer_placed body k p i body_is sound first less pack list =
      let old : IsMemberPack limits p.len (bytes_at m p.at) = subst (IsBody m limits seed) body_is sound in
      let here : IsFirst k (pairs (bytes_at m p.at)) i = subst (λ b. IsFirst k (listed_of m b) i) body_is first in
      let left : Left (bytes_at m p.at) bytes k = left_is (bytes_at m p.at) bytes bytes i k old.pack here refl pack list in
      let map_is : scores_in bytes ≡ remove (scores_of m body) k = left.scores_are ∙ ap (λ b. remove (scores_of m b) k) (sym body_is) in
      pack_placed (remove (scores_of m body) k) left.pack map_is
      (omega (
        arith,
        less,
        old.counted,
        ap length list,
        length_removed (pairs (bytes_at m p.at)) i (first_inside k (pairs (bytes_at m p.at)) i here),
        once_len (pairs bytes) left.pack.once,
        ap
            len map_is,
      ))
      (omega (arith, less, old.few)) (omega (arith, left.shorter, old.short))

-- a pack's pair is inside
pub first_in_pack : (m : Blocks) (body : Body) (k : List ℕ) (p : Packed) (i : ℕ) → body ≡ Pack p → IsFirst k (listed_of m body) i → i < length (pairs (bytes_at m p.at))
first_in_pack m body k p i body_is first = first_inside k (pairs (bytes_at m p.at)) i (subst (λ b. IsFirst k (listed_of m b) i) body_is first)

-- ---- the last member was taken out

-- where the only member of a packed sorted set is taken out, the empty body is placed for what is left
pub last_placed : (m : Blocks) (limits : Limits) (seed : ℕ) (body : Body) (k : List ℕ) (p : Packed) (i : ℕ) → IsBody m limits seed body → body ≡ Pack p → IsFirst k (listed_of m body) i
    → p.len ≡ 1 → IsPlacedBody m m limits seed Empty (remove (scores_of m body) k)
last_placed m limits seed body k p i sound body_is first single =
    let old : IsMemberPack limits p.len (bytes_at m p.at) = subst (IsBody m limits seed) body_is sound in
    let list = pairs (bytes_at m p.at) in
    let here : IsFirst k list i = subst (λ b. IsFirst k (listed_of m b) i) body_is first in
    let out = left_lacks list (removed list i) i k old.pack.once here refl in
    let none : len (remove (scores_of m body) k) ≡ 0 =
    ap (λ b. len (remove (scores_of m b) k)) body_is ∙ ap len (sym out.1) ∙ once_len (removed list i) (once_removed list i old.pack.once)
    ∙ omega (arith, single, old.counted, length_removed list i (first_inside k list i here)) in
    record {
      sound = tt;
      scores_are = sym (empty_of_len (remove (scores_of m body) k) none);
      changes = changes_same m [] (λ r. omega arith);
      grown = grown_same (hash_of seed) table.no_tables table.no_tables refl;
    }

-- what is left of a packed sorted set is packed, and so has no table to shrink
pub placed_settled : (m : Blocks) (body : Body) → form_of_body body ≡ Listpack → IsSettled (tables_of m body)
placed_settled m Empty is = refl
placed_settled m (Pack p) is = refl
placed_settled m (Table t) is = absurd cc

-- ---- tables

-- a sound table of scores that owns no block and has no bucket is a placed one, and no block changes
pub new_placed : (m : Blocks) (seed : ℕ) (t : ScoreTable) (map : ScoreMap) → table.IsScoreTable m t → table.scores m t ≡ map → table.refs t ≡ [] → table.tables m t ≡ table.no_tables
    → table.seed_of t ≡ seed → IsPlacedTable m m seed t map
new_placed m seed t map sound none refs tables seed_is = record {
  sound = record { sound = sound; seed_is = seed_is };
  scores_are = none;
  changes = subst (Changes m m []) (sym refs) (changes_same m [] (λ r. omega arith));
  grown = grown_same (hash_of seed) table.no_tables (table.tables m t) tables;
}

-- a placed table of scores that is then changed is a placed one of its new scores
pub placed_then : (a b c : Blocks) (seed : ℕ) (t u : ScoreTable) (s w : ScoreMap) → IsPlacedTable a b seed t s → table.IsChanged b c t u w → IsPlacedTable a c seed u w
placed_then a b c seed t u s w p q = record {
  sound = record { sound = q.sound; seed_is = q.seed ∙ p.sound.seed_is };
  scores_are = q.scores_are;
  changes = changes_then a b c [] (table.refs t) (table.refs u) p.changes q.changes;
  grown = grown_then (hash_of seed) table.no_tables (table.tables b t) (table.tables c u) p.grown (subst (λ n. Grown (hash_of n) (table.tables b t) (table.tables c u)) p.sound.seed_is q.grown);
}

-- a placed table of scores is a placed body of the same scores
pub table_body : (m n : Blocks) (limits : Limits) (seed : ℕ) (t : ScoreTable) (map : ScoreMap) → IsPlacedTable m n seed t map → IsPlacedBody m n limits seed (Table t) map
table_body m n limits seed t map h = record { sound = h.sound; scores_are = h.scores_are; changes = h.changes; grown = h.grown }

-- what changes no reference changes nothing
pub all_same : (m n : Blocks) → Changes m n [] [] → n ≡ m
all_same m n p = λ i r. p.kept r refl refl i

-- Sorted sets without the members of a range of ranks.
use Rattle.std.proofs.Common.{◌≡◌, ℕ, zero, suc, ◌+◌, ◌-◌, ◌*◌, ◌<◌, ◌≤◌, List, [], ◌∷◌, ◌++◌, length, map, take, drop, get_or, Some, refl, sym, ap, ◌∙◌, subst, arith}
use Rattle.std.specs.Prelude.{slice_range}
use Rattle.std.specs.List.{remove as removed, remove_range as range_removed}
use Rattle.std.specs.FinMap.{len, remove, empty_of_len}
use Rattle.std.proofs.lemmas.List.{take-append-drop, take-map, drop-map, map-append, get_or-map}
use Rattle.blocks.specs.declared.BlockRef.{BlockRef}
use Rattle.blocks.specs.Blocks.{Blocks, bytes_at, with_block, Changes}
use Rattle.blocks.proofs.Change.{changes_same, changes_owned}
use Rattle.collection_walk.proofs.Lists.{some_none}
use Rattle.listpack.specs.Edits.{IsEdited}
use Rattle.listpack.specs.Pack.{texts, spellings_of}
use Rattle.listpack.specs.Writing.{spelling}
use Rattle.object_codec.specs.declared.limits.Limits.{Limits}
use Rattle.pack_pairs.specs.Pairs.{Pair, IsPairPack, IsOnce, IsFirst, flat, pairs, second_of}
use Rattle.pack_pairs.proofs.Lists.{no_pair}
use Rattle.pack_pairs.proofs.Maps.{first_second, once_removed}
use Rattle.pack_pairs.proofs.Packs.{pack_of}
use Rattle.rehash_dict.specs.Keyed.{hash_of}
use Rattle.rehash_dict.specs.Grown.{Grown}
use Rattle.rehash_dict.proofs.Growing.{grown_same}
use Rattle.score_list.specs.Sorted.{Key}
use Rattle.score_list.proofs.Ranges.{range_on, range_next, range_length}
use Rattle.score_table.specs.declared.table.ScoreTable.{ScoreTable}
use Rattle.score_table.specs.Ranking.{ScoreMap, IsOrdered, without_each}
use Rattle.score_table.specs.Scored as table
use Rattle.score_table.proofs.Ranges.{range_more, range_none, without_last}
use Rattle.zset_object.specs.declared.scored.Packed.{Packed}
use Rattle.zset_object.specs.declared.scored.Body.{Body}
use Rattle.zset_object.specs.declared.scored.Body.TheVariants.{Empty, Pack, Table}
use Rattle.zset_object.specs.declared.scored.Scored.{Scored}
use Rattle.zset_object.specs.Orders.{map_of_keys}
use Rattle.zset_object.specs.Packed.{IsScorePack, AreScores, key_of_pair, keys_of, keys_in, scores_in}
use Rattle.zset_object.specs.Scored.{IsScored, IsBody, IsChanged, IsMemberPack, IsMemberTable, IsPlacedBody, refs_of_body, scores, scores_of, ranked, ranked_of, tables_of}
use Rattle.zset_object.proofs.Keys.{keys_len, keys_without, left_lacks, longest_key, longest_without, once_len, scores_without}
use Rattle.zset_object.proofs.Orders.{ranked_without}
use Rattle.zset_object.proofs.Placing.{pack_placed}

-- ---- the listpack

-- twice a number, by steps
abbrev double : ℕ → ℕ
double zero = zero
double (suc n) = suc (suc (double n))

double_is : (n : ℕ) → double n ≡ 2 * n
double_is zero = refl
double_is (suc n) = omega (arith, double_is n)

flat_append : (xs ys : List Pair) → flat (xs ++ ys) ≡ flat xs ++ flat ys
flat_append [] ys = refl
flat_append (p ∷ rest) ys = ap (λ zs. p.0 ∷ p.1 ∷ zs) (flat_append rest ys)

take_flat : (list : List Pair) (i : ℕ) → take (double i) (flat list) ≡ flat (take i list)
take_flat [] zero = refl
take_flat [] (suc i) = refl
take_flat (p ∷ rest) zero = refl
take_flat (p ∷ rest) (suc i) = ap (λ zs. p.0 ∷ p.1 ∷ zs) (take_flat rest i)

drop_flat : (list : List Pair) (i : ℕ) → drop (double i) (flat list) ≡ flat (drop i list)
drop_flat [] zero = refl
drop_flat [] (suc i) = refl
drop_flat (p ∷ rest) zero = refl
drop_flat (p ∷ rest) (suc i) = drop_flat rest i

flat_range : (list : List Pair) (i j : ℕ) → range_removed (flat list) (2 * i) (2 * j) ≡ flat (range_removed list i j)
flat_range list i j =
    ap (λ n. take n (flat list) ++ drop (2 * j) (flat list)) (sym (double_is i))
    ∙ ap (λ n. take (double i) (flat list) ++ drop n (flat list)) (sym (double_is j))
    ∙ ap (λ zs. zs ++ drop (double j) (flat list)) (take_flat list i)
    ∙ ap (λ zs. flat (take i list) ++ zs) (drop_flat list j)
    ∙ sym (flat_append (take i list) (drop j list))

range_map : {A B : Type 0} (f : A → B) (xs : List A) (i j : ℕ) → range_removed (map f xs) i j ≡ map f (range_removed xs i j)
range_map f xs i j = ap (λ ys. ys ++ drop j (map f xs)) (take-map f i xs) ∙ ap (λ ys. map f (take i xs) ++ ys) (drop-map f j xs) ∙ sym (map-append f (take i xs) (drop j xs))

-- a listpack of pairs out of which the elements of some were taken
pub range_out : (old new : List ℕ) (i j a : ℕ) → IsPairPack old → IsEdited new (range_removed (spellings_of old) (2 * i) (2 * j)) a → texts new ≡ range_removed (texts old) (2 * i) (2 * j)
    → IsPairPack new × (pairs new ≡ range_removed (pairs old) i j)
range_out old new i j a p e is =
    pack_of (range_removed (pairs old) i j) new e.pack
    (e.entries ∙ ap (λ ss. range_removed ss (2 * i) (2 * j)) p.written ∙ range_map spelling (texts old) (2 * i) (2 * j) ∙ ap (map spelling) (sym is))
    (is ∙ ap (λ xs. range_removed xs (2 * i) (2 * j)) p.whole ∙ flat_range (pairs old) i j)

-- ---- the pairs

-- where no member stands twice, the pair at an index is the first one of its member
first_at : (list : List Pair) (i : ℕ) → IsOnce list → i < length list → IsFirst (get_or list i no_pair).0 list i
first_at [] i once lt = absurd (omega (arith, lt))
first_at (p ∷ rest) zero once lt = refl
first_at (p ∷ rest) (suc i) once lt =
    let k = (get_or rest i no_pair).0 in
    let first : IsFirst k rest i = first_at rest i once.1 (omega (arith, lt)) in
    ((λ same. some_none (second_of p.0 rest) (get_or rest i no_pair).1 (ap (λ q. second_of q rest) same ∙ first_second k rest i first) once.0), first)

module _ (list : List Pair) (from : ℕ) where
  none_yet : range_removed list from (from + 0) ≡ list
  none_yet = let is : from + 0 ≡ from = omega arith in ap (range_removed list from) is ∙ take-append-drop from list

  by_steps : (P : List Pair → Type 0) → P list → ((xs : List Pair) → P xs → P (removed xs from)) → (n : ℕ) → from + n ≤ length list → P (range_removed list from (from + n))
  by_steps P p each zero le = subst P (sym none_yet) p
  by_steps P p each (suc n) le =
      subst P (range_on list from (from + n) (from + suc n) (omega arith) (omega (arith, le)) (omega arith)) (each (range_removed list from (from + n)) (by_steps P p each n (omega (arith, le))))

  -- what holds of the pairs, and on without the one at an index, holds without a range from there
  pub holds_on : (P : List Pair → Type 0) → P list → ((xs : List Pair) → P xs → P (removed xs from)) → (to : ℕ) → from ≤ to → to ≤ length list → P (range_removed list from to)
  holds_on P p each to order inside =
      let is : from + (to - from) ≡ to = omega (arith, order) in
      subst (λ n. P (range_removed list from n)) is (by_steps P p each (to - from) (omega (arith, is, inside)))

  -- no member stands twice then
  pub once_on : (to : ℕ) → IsOnce list → from ≤ to → to ≤ length list → IsOnce (range_removed list from to)
  once_on to once = holds_on IsOnce once (λ xs o. once_removed xs from o) to

  abbrev keys : List Key
  keys = keys_of list

  map_steps : IsOnce list → (n : ℕ) → from + n ≤ length list → map_of_keys (keys_of (range_removed list from (from + n))) ≡ without_each (map_of_keys keys) (slice_range keys from (from + n))
  map_steps once zero le =
      let is : from ≡ from + 0 = omega arith in
      ap (λ xs. map_of_keys (keys_of xs)) none_yet ∙ ap (without_each (map_of_keys keys)) (sym (range_none keys from) ∙ ap (slice_range keys from) is)
  map_steps once (suc n) le =
      let at = from + n in
      let next = from + suc n in
      let now = range_removed list from at in
      let begun : from ≤ at = omega arith in
      let inside : at < length list = omega (arith, le) in
      let some : from < length now = omega (arith, range_length list from at begun (omega (arith, inside)), inside) in
      let still : IsOnce now = once_on at once begun (omega (arith, inside)) in
      let key = get_or keys at (key_of_pair no_pair) in
      let its : (get_or now from no_pair).0 ≡ key.1 =
      ap (λ (p : Pair). p.0) (range_next list from at no_pair begun inside) ∙ ap (λ (k : Key). k.1) (sym (get_or-map key_of_pair list at no_pair (key_of_pair no_pair) inside)) in
      (left_lacks now (range_removed list from next) from (get_or now from no_pair).0 still (first_at now from still some) (sym (range_on list from at next begun inside (omega arith)))).1
      ∙ ap (λ map. remove map (get_or now from no_pair).0) (map_steps once n (omega (arith, le)))
      ∙ ap (remove (without_each (map_of_keys keys) (slice_range keys from at))) its
      ∙ sym (without_last (map_of_keys keys) (slice_range keys from at) key)
      ∙ ap (without_each (map_of_keys keys)) (sym (range_more keys from at next (key_of_pair no_pair) begun (omega (arith, keys_len list, inside)) (omega arith)))

  -- and the map of those that are left is the old one without the members of the range
  pub map_on : (to : ℕ) → IsOnce list → from ≤ to → to ≤ length list → map_of_keys (keys_of (range_removed list from to)) ≡ without_each (map_of_keys keys) (slice_range keys from to)
  map_on to once order inside =
      let is : from + (to - from) ≡ to = omega (arith, order) in
      subst (λ n. map_of_keys (keys_of (range_removed list from n)) ≡ without_each (map_of_keys keys) (slice_range keys from n)) is (map_steps once (to - from) (omega (arith, is, inside)))

module _ (old new : List ℕ) (from to : ℕ) (is : IsScorePack old) (order : from ≤ to) (inside : to ≤ length (pairs old)) (list : pairs new ≡ range_removed (pairs old) from to) where
  -- a listpack of members and scores stays one without a range of them
  pub range_pack : IsPairPack new → IsScorePack new
  range_pack pack = record {
    pack = pack;
    once = subst IsOnce (sym list) (once_on (pairs old) from to is.once order inside);
    scores = subst AreScores (sym list) (holds_on (pairs old) from AreScores is.scores (λ xs all. scores_without xs from all) to order inside);
    ordered = subst (λ xs. IsOrdered (keys_of xs)) (sym list) (holds_on (pairs old) from (λ xs. IsOrdered (keys_of xs)) is.ordered
        (λ xs o. subst IsOrdered (sym (keys_without xs from)) (ranked_without from (keys_of xs) o)) to order inside);
  }

  pub range_scores : scores_in new ≡ without_each (scores_in old) (slice_range (keys_in old) from to)
  range_scores = ap (λ xs. map_of_keys (keys_of xs)) list ∙ map_on (pairs old) from to is.once order inside

  pub range_shorter : longest_key (pairs new) ≤ longest_key (pairs old)
  range_shorter = subst (λ xs. longest_key xs ≤ longest_key (pairs old)) (sym list) (holds_on (pairs old) from (λ xs. longest_key xs ≤ longest_key (pairs old)) (omega arith)
      (λ xs le. omega (arith, le, longest_without xs from)) to order inside)

-- ---- bodies

module _ (m : Blocks) (limits : Limits) (seed : ℕ) (body : Body) (p : Packed) (from to : ℕ) (sound : IsBody m limits seed body) (body_is : body ≡ Pack p) (order : from ≤ to)
    (inside : to ≤ p.len) where
  abbrev held : List ℕ
  held = bytes_at m p.at

  old : IsMemberPack limits p.len held
  old = subst (IsBody m limits seed) body_is sound

  within : to ≤ length (pairs held)
  within = omega (arith, inside, old.counted)

  abbrev rest : ScoreMap
  rest = without_each (scores_of m body) (slice_range (ranked_of m body) from to)

  read : without_each (scores_in held) (slice_range (keys_in held) from to) ≡ rest
  read = ap (λ b. without_each (scores_of m b) (slice_range (ranked_of m b) from to)) (sym body_is)

  -- a listpack without the pairs of a range, placed in a block, is a body of the scores without those members
  pub range_placed : (n : Blocks) (at : BlockRef) (count : ℕ) (bytes : List ℕ) → n ≡ with_block m at (Some bytes) → Changes m n [] (at ∷ []) → count + (to - from) ≡ p.len → IsPairPack bytes
      → pairs bytes ≡ range_removed (pairs held) from to → IsPlacedBody m n limits seed (Pack (record { at = at; len = count })) rest
  range_placed n at count bytes placed changes less pack list =
      let left : IsScorePack bytes = range_pack held bytes from to old.pack order within list pack in
      let map_is : scores_in bytes ≡ rest = range_scores held bytes from to old.pack order within list ∙ read in
      pack_placed m n limits seed at count bytes placed changes rest left map_is
      (omega (arith, less, order, old.counted, ap length list, range_length (pairs held) from to order within, once_len (pairs bytes) left.once, ap len map_is))
      (omega (arith, less, old.few)) (omega (arith, range_shorter held bytes from to old.pack order within list, old.short))

  -- where the range is all of them, the empty body is placed for what is left
  pub none_placed : to - from ≡ p.len → IsPlacedBody m m limits seed Empty rest
  none_placed whole =
      let left = range_removed (pairs held) from to in
      let map_is : map_of_keys (keys_of left) ≡ rest = map_on (pairs held) from to old.pack.once order within ∙ read in
      let none : len rest ≡ 0 = ap len (sym map_is) ∙ once_len left (once_on (pairs held) from to old.pack.once order within)
      ∙ omega (arith, whole, order, inside, old.counted, range_length (pairs held) from to order within) in
      record {
        sound = tt;
        scores_are = sym (empty_of_len rest none);
        changes = changes_same m [] (λ r. omega arith);
        grown = grown_same (hash_of seed) table.no_tables table.no_tables refl;
      }

drop_none : {A : Type 0} (n : ℕ) → ◌≡◌ {A = List A} (drop n []) []
drop_none zero = refl
drop_none (suc n) = refl

take_none : {A : Type 0} (n : ℕ) → ◌≡◌ {A = List A} (take n []) []
take_none zero = refl
take_none (suc n) = refl

-- a sorted set without a body has no range to lose
pub empty_range : (m : Blocks) (self : Scored) (from to : ℕ) → IsScored m self → ((p : Packed) → self.body ≡ Pack p → ⊥) → ((t : ScoreTable) → self.body ≡ Table t → ⊥)
    → IsChanged m m self self (without_each (scores m self) (slice_range (ranked m self) from to))
empty_range m self from to sound packed tabled =
    subst (λ keys. IsChanged m m self self (without_each (scores m self) keys)) (sym (ap (λ (ks : List Key). slice_range ks from to) (none self.body packed tabled) ∙ no_range)) (record {
      sound = sound;
      scores_are = refl;
      changes = changes_same m (refs_of_body self.body) sound.owned;
      grown = grown_same (hash_of self.seed) _ _ refl;
      settings = record { limits = refl; seed = refl };
    })
  where
    none : (body : Body) → ((p : Packed) → body ≡ Pack p → ⊥) → ((t : ScoreTable) → body ≡ Table t → ⊥) → ranked_of m body ≡ []
    none Empty h g = refl
    none (Pack p) h g = absurd (h p refl)
    none (Table t) h g = absurd (g t refl)

    no_range : ◌≡◌ {A = List Key} (slice_range [] from to) []
    no_range = ap (λ (ks : List Key). take (to - from) ks) (drop_none from) ∙ take_none (to - from)

-- a sorted set whose table changed
pub table_changed : (m n : Blocks) (self : Scored) (t u : ScoreTable) (map : ScoreMap) → IsScored m self → self.body ≡ Table t → table.IsChanged m n t u map
    → IsChanged m n self (record self { body = Table u }) map
table_changed m n self t u map sound body_is q =
    let old : IsMemberTable m self.seed t = subst (IsBody m self.limits self.seed) body_is sound.body in
    record {
      sound = record { limits = sound.limits; owned = changes_owned m n (table.refs t) (table.refs u) q.changes; body = record { sound = q.sound; seed_is = q.seed ∙ old.seed_is } };
      scores_are = q.scores_are;
      changes = subst (λ b. Changes m n (refs_of_body b) (table.refs u)) (sym body_is) q.changes;
      grown = subst (λ b. Grown (hash_of self.seed) (tables_of m b) (table.tables n u)) (sym body_is) (subst (λ k. Grown (hash_of k) (table.tables m t) (table.tables n u)) old.seed_is q.grown);
      settings = record { limits = refl; seed = refl };
    }

-- The forms of collections into which elements are put, one after the other.
use Rattle.std.proofs.Common.{◌≡◌, ℕ, ◌+◌, ◌≤◌, Bool, true, false, not, cond, List, [], ◌∷◌, ◌++◌, map, Option, Some, None, is_some, refl, sym, ap, ◌∙◌, subst, arith}
use Rattle.std.specs.Prelude.{◌||◌, ℤ}
use Rattle.std.proofs.lemmas.Bool.{and_parts, and_from}
use Rattle.std.specs.declared.cmp.Ordering.TheVariants.{Less, Equal, Greater}
use Rattle.std.specs.Ordering.{nat_cmp, is_eq, eq_by_cmp}
use Rattle.std.specs.List.{list_any}
use Rattle.std.specs.Cmp.Lexicographic.{slice_cmp, nat_list_cmp_total}
use Rattle.std.specs.FinMap.{insert, get, entries, keys, len, put, contains_key-keys, entries-insert, len-insert}
use Rattle.std.specs.FinMap.Entries.{by_order}
use Rattle.int_text.specs.Decimal.{number_of}
use Rattle.object_codec.specs.declared.limits.Limits.{Limits}
use Rattle.object_codec.specs.declared.form.Form.{Form}
use Rattle.object_codec.specs.declared.form.Form.TheVariants.{Intset, Listpack, Hashtable, Skiplist, Quicklist, Stream}
use Rattle.object_codec.specs.Forms.{FitsList, FitsSet, FitsHash, FitsZset, IsLeast, IsLeastFrom}
use Rattle.quicklist.specs.Nodes.{pack_len}
use Rattle.quicklist.proofs.Written.{pack_len_append}
use Rattle.set_object.specs.Strings.{Strings, are_numbers, longest, FitsMembers}
use Rattle.pack_pairs.specs.Pairs.{Pair, longest as longest_pair}
use Rattle.hash_object.specs.Maps.{FieldMap, FitsFields}
use Rattle.score_table.specs.Ranking.{ScoreMap}
use Rattle.zset_object.specs.Orders.{longest_member, FitsScored}

-- the least form that fits, and that of more where what fits more fits fewer
pub least_then : (few many : Form → Type 0) (a b : Form) → ((form : Form) → many form → few form) → IsLeast few a → IsLeastFrom a many b → IsLeast many b
least_then few many a b fewer least risen = record {
  fitting = risen.fitting;
  least = λ other fits. risen.least other fits (least.least other (fewer other fits));
}

-- ---- lists

list_fewer : (few many : ℕ) → few ≤ many → (form : Form) → FitsList many form → FitsList few form
list_fewer few many le Intset h = h
list_fewer few many le Listpack h = omega (arith, le, h)
list_fewer few many le Hashtable h = h
list_fewer few many le Skiplist h = h
list_fewer few many le Quicklist h = h
list_fewer few many le Stream h = h

pub appended_least : (xs ys : List (List ℕ)) (a b : Form) → IsLeast (FitsList (pack_len xs)) a → IsLeastFrom a (FitsList (pack_len (xs ++ ys))) b → IsLeast (FitsList (pack_len (xs ++ ys))) b
appended_least xs ys a b =
    least_then (FitsList (pack_len xs)) (FitsList (pack_len (xs ++ ys))) a b (list_fewer (pack_len xs) (pack_len (xs ++ ys)) (omega (arith, pack_len_append xs ys)))

-- ---- sets

numbers_put : (k : List ℕ) (es : List (List ℕ × Unit {0})) → are_numbers (map (λ e. e.0) (put (slice_cmp nat_cmp) k tt es)) ≡ true → are_numbers (map (λ e. e.0) es) ≡ true
numbers_put k [] h = refl
numbers_put k (e ∷ es) h =
    elim (slice_cmp nat_cmp k e.0) as
    (λ o. are_numbers (map (λ e. e.0) (by_order o ((k, tt) ∷ e ∷ es) ((e.0, tt) ∷ es) (e ∷ put (slice_cmp nat_cmp) k tt es))) ≡ true → are_numbers (map (λ e. e.0) (e ∷ es)) ≡ true) [
      | Less ↦ λ is. (and_parts (is_some (number_of k)) (are_numbers (map (λ e. e.0) (e ∷ es))) is).1
      | Equal ↦ λ is. is
      | Greater ↦ λ is. let parts = and_parts (is_some (number_of e.0)) (are_numbers (map (λ e. e.0) (put (slice_cmp nat_cmp) k tt es))) is in and_from _ _ parts.0 (numbers_put k es parts.1)
    ] h

keys_put : (k : List ℕ) (es : List (List ℕ × Unit {0})) → longest (map (λ e. e.0) es) ≤ longest (map (λ e. e.0) (put (slice_cmp nat_cmp) k tt es))
keys_put k [] = omega arith
keys_put k (e ∷ es) =
    let later = keys_put k es in
    elim (slice_cmp nat_cmp k e.0) as (λ o. longest (map (λ e. e.0) (e ∷ es)) ≤ longest (map (λ e. e.0) (by_order o ((k, tt) ∷ e ∷ es) ((e.0, tt) ∷ es) (e ∷ put (slice_cmp nat_cmp) k tt es)))) [
      | Less ↦ omega arith
      | Equal ↦ omega arith
      | Greater ↦ omega (arith, later)
    ]

cond_more : (b : Bool) (n : ℕ) → n ≤ cond b n (n + 1)
cond_more true n = omega arith
cond_more false n = omega arith

set_fewer : (limits : Limits) (a b : Bool) (n m l k : ℕ) → (b ≡ true → a ≡ true) → n ≤ m → l ≤ k → (form : Form) → FitsSet limits b m k form → FitsSet limits a n l form
set_fewer limits a b n m l k all le short Intset h = (all h.0, omega (arith, le, h.1))
set_fewer limits a b n m l k all le short Listpack h = (omega (arith, le, h.0), omega (arith, short, h.1))
set_fewer limits a b n m l k all le short Hashtable h = h
set_fewer limits a b n m l k all le short Skiplist h = h
set_fewer limits a b n m l k all le short Quicklist h = h
set_fewer limits a b n m l k all le short Stream h = h

pub joined_least : (limits : Limits) (set : Strings) (k : List ℕ) (a b : Form) → IsLeast (FitsMembers limits set) a → IsLeastFrom a (FitsMembers limits (insert set k tt)) b
    → IsLeast (FitsMembers limits (insert set k tt)) b
joined_least limits set k a b =
    let made = entries-insert nat_list_cmp_total set k tt in
    let more : len set ≤ len (insert set k tt) = subst (λ n. len set ≤ n) (sym (len-insert nat_list_cmp_total set k tt)) (cond_more _ (len set)) in
    let all : are_numbers (keys (insert set k tt)) ≡ true → are_numbers (keys set) ≡ true = λ h. numbers_put k (entries set) (ap (λ es. are_numbers (map (λ e. e.0) es)) (sym made) ∙ h) in
    let long : longest (keys set) ≤ longest (keys (insert set k tt)) = subst (λ es. longest (keys set) ≤ longest (map (λ e. e.0) es)) (sym made) (keys_put k (entries set)) in
    least_then (FitsMembers limits set) (FitsMembers limits (insert set k tt)) a b (set_fewer limits _ _ _ _ _ _ all more long)

-- ---- hashes

pub fresh_none : {A : Type 0} (o : Option A) → true ≡ not (is_some o) → o ≡ None
fresh_none None e = refl
fresh_none (Some x) e = absurd cc

pairs_put : (k v : List ℕ) (es : List Pair) → list_any (eq_by_cmp (slice_cmp nat_cmp) k) (map (λ e. e.0) es) ≡ false → longest_pair es ≤ longest_pair (put (slice_cmp nat_cmp) k v es)
pairs_put k v [] none = omega arith
pairs_put k v (e ∷ es) none =
    elim (slice_cmp nat_cmp k e.0) as
    (λ o. (is_eq o || list_any (eq_by_cmp (slice_cmp nat_cmp) k) (map (λ e. e.0) es)) ≡ false
    → longest_pair (e ∷ es) ≤ longest_pair (by_order o ((k, v) ∷ e ∷ es) ((e.0, v) ∷ es) (e ∷ put (slice_cmp nat_cmp) k v es))) [
      | Less ↦ λ is. omega arith
      | Equal ↦ λ is. absurd (two_ways is)
      | Greater ↦ λ is. omega (arith, pairs_put k v es is)
    ] none
  where
    two_ways : true ≡ false → ⊥
    two_ways e = cc

-- ---- sorted sets

scores_put : (k : List ℕ) (v : ℤ) (es : List (List ℕ × ℤ)) → longest_member es ≤ longest_member (put (slice_cmp nat_cmp) k v es)
scores_put k v [] = omega arith
scores_put k v (e ∷ es) =
    let later = scores_put k v es in
    elim (slice_cmp nat_cmp k e.0) as (λ o. longest_member (e ∷ es) ≤ longest_member (by_order o ((k, v) ∷ e ∷ es) ((e.0, v) ∷ es) (e ∷ put (slice_cmp nat_cmp) k v es))) [
      | Less ↦ omega arith
      | Equal ↦ omega arith
      | Greater ↦ omega (arith, later)
    ]

zset_fewer : (limits : Limits) (n m l k : ℕ) → n ≤ m → l ≤ k → (form : Form) → FitsZset limits m k form → FitsZset limits n l form
zset_fewer limits n m l k le short Intset h = h
zset_fewer limits n m l k le short Listpack h = (omega (arith, le, h.0), omega (arith, short, h.1))
zset_fewer limits n m l k le short Hashtable h = h
zset_fewer limits n m l k le short Skiplist h = h
zset_fewer limits n m l k le short Quicklist h = h
zset_fewer limits n m l k le short Stream h = h

pub scored_least : (limits : Limits) (scores : ScoreMap) (k : List ℕ) (v : ℤ) (a b : Form) → IsLeast (FitsScored limits scores) a → IsLeastFrom a (FitsScored limits (insert scores k v)) b
    → IsLeast (FitsScored limits (insert scores k v)) b
scored_least limits scores k v a b =
    let made = entries-insert nat_list_cmp_total scores k v in
    let more : len scores ≤ len (insert scores k v) = subst (λ n. len scores ≤ n) (sym (len-insert nat_list_cmp_total scores k v)) (cond_more _ (len scores)) in
    let long : longest_member (entries scores) ≤ longest_member (entries (insert scores k v)) =
    subst (λ es. longest_member (entries scores) ≤ longest_member es) (sym made) (scores_put k v (entries scores)) in
    least_then (FitsScored limits scores) (FitsScored limits (insert scores k v)) a b (zset_fewer limits _ _ _ _ more long)

hash_fewer : (limits : Limits) (n m l k : ℕ) → n ≤ m → l ≤ k → (form : Form) → FitsHash limits m k form → FitsHash limits n l form
hash_fewer limits n m l k le short Intset h = h
hash_fewer limits n m l k le short Listpack h = (omega (arith, le, h.0), omega (arith, short, h.1))
hash_fewer limits n m l k le short Hashtable h = h
hash_fewer limits n m l k le short Skiplist h = h
hash_fewer limits n m l k le short Quicklist h = h
hash_fewer limits n m l k le short Stream h = h

pub field_least : (limits : Limits) (fields : FieldMap) (k v : List ℕ) (a b : Form) → get fields k ≡ None → IsLeast (FitsFields limits fields) a
    → IsLeastFrom a (FitsFields limits (insert fields k v)) b → IsLeast (FitsFields limits (insert fields k v)) b
field_least limits fields k v a b none =
    let made = entries-insert nat_list_cmp_total fields k v in
    let more : len fields ≤ len (insert fields k v) = subst (λ n. len fields ≤ n) (sym (len-insert nat_list_cmp_total fields k v)) (cond_more _ (len fields)) in
    let long : longest_pair (entries fields) ≤ longest_pair (entries (insert fields k v)) =
    subst (λ es. longest_pair (entries fields) ≤ longest_pair es) (sym made) (pairs_put k v (entries fields) (sym (contains_key-keys fields k) ∙ ap is_some none)) in
    least_then (FitsFields limits fields) (FitsFields limits (insert fields k v)) a b (hash_fewer limits _ _ _ _ more long)

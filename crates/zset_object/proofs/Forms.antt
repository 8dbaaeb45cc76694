-- Which form a sorted set has after a member was given a score.
use Rattle.std.proofs.Common.{◌≡◌, ℕ, ◌≤◌, ℤ, map, List, [], ◌∷◌, length, refl, sym, ap, ◌∙◌, subst, arith}
use Rattle.std.specs.declared.cmp.Ordering.TheVariants.{Less, Equal, Greater}
use Rattle.std.specs.Ordering.{nat_cmp}
use Rattle.std.specs.Cmp.Lexicographic.{slice_cmp, nat_list_cmp_total}
use Rattle.std.specs.FinMap.{insert, entries, len, empty, put, entries-insert, len-empty, len-entries, slice_cmp-IsAntisymmetric, nat_cmp-IsAntisymmetric}
use Rattle.std.specs.FinMap.Entries.{by_order}
use Rattle.object_codec.specs.declared.limits.Limits.{Limits}
use Rattle.object_codec.specs.declared.form.Form.{Form}
use Rattle.object_codec.specs.declared.form.Form.TheVariants.{Intset, Listpack, Hashtable, Skiplist, Quicklist, Stream}
use Rattle.object_codec.specs.Forms.{FitsZset, IsLeast, IsLeastFrom, rank}
use Rattle.score_list.specs.Sorted.{Key}
use Rattle.score_table.specs.Ranking.{ScoreMap}
use Rattle.zset_object.specs.Orders.{FitsScored, IsRisen, entry_of, map_of_keys, longest_member}

abbrev Entry : Type 0
Entry = List ℕ × ℤ

-- ---- the longest member of a map's entries

put_short : (limit : ℕ) (k : List ℕ) (v : ℤ) (es : List Entry) → longest_member es ≤ limit → length k ≤ limit → longest_member (put (slice_cmp nat_cmp) k v es) ≤ limit
put_short limit k v [] short a = omega (arith, a)
put_short limit k v (e ∷ es) short a =
    let later = put_short limit k v es (omega (arith, short)) a in
    elim (slice_cmp nat_cmp k e.0) as (λ o. longest_member (by_order o ((k, v) ∷ e ∷ es) ((e.0, v) ∷ es) (e ∷ put (slice_cmp nat_cmp) k v es)) ≤ limit) [
      | Less ↦ omega (arith, short, a)
      | Equal ↦ omega (arith, short)
      | Greater ↦ omega (arith, short, later)
    ]

put_long : (k : List ℕ) (v : ℤ) (es : List Entry) → length k ≤ longest_member (put (slice_cmp nat_cmp) k v es)
put_long k v [] = omega arith
put_long k v (e ∷ es) =
    let later = put_long k v es in
    elim (slice_cmp nat_cmp k e.0) as (λ o. slice_cmp nat_cmp k e.0 ≡ o → length k ≤ longest_member (by_order o ((k, v) ∷ e ∷ es) ((e.0, v) ∷ es) (e ∷ put (slice_cmp nat_cmp) k v es))) [
      | Less ↦ λ is. omega arith
      | Equal ↦ λ is. omega (arith, ap length (slice_cmp-IsAntisymmetric nat_cmp-IsAntisymmetric k e.0 is))
      | Greater ↦ λ is. omega (arith, later)
    ] refl

none_in : entries (empty {X = ℤ} {R = slice_cmp nat_cmp}) ≡ []
none_in = no_length _ (sym (len-entries (empty {X = ℤ} {R = slice_cmp nat_cmp})) ∙ len-empty (slice_cmp nat_cmp) ℤ)
  where
    no_length : (es : List Entry) → length es ≡ 0 → es ≡ []
    no_length [] h = refl
    no_length (e ∷ es) h = absurd (omega (arith, h))

-- short members make a map of short members
pub map_short : (limit : ℕ) (keys : List Key) → longest_member (map entry_of keys) ≤ limit → longest_member (entries (map_of_keys keys)) ≤ limit
map_short limit [] short = omega (arith, ap longest_member none_in)
map_short limit (k ∷ rest) short =
    subst (λ es. longest_member es ≤ limit) (sym (entries-insert nat_list_cmp_total (map_of_keys rest) k.1 k.0))
    (put_short limit k.1 k.0 (entries (map_of_keys rest)) (map_short limit rest (omega (arith, short))) (omega (arith, short)))

-- ---- forms

pub new_least : (limits : Limits) → IsLeast (FitsScored limits (empty {X = ℤ} {R = slice_cmp nat_cmp})) Listpack
new_least limits = record {
  fitting = (omega (arith, len-empty (slice_cmp nat_cmp) ℤ), omega (arith, ap longest_member none_in));
  least = least;
}
  where
    least : (other : Form) → FitsScored limits (empty {X = ℤ} {R = slice_cmp nat_cmp}) other → 1 ≤ rank other
    least Intset fits = absurd fits
    least Listpack fits = omega arith
    least Hashtable fits = absurd fits
    least Skiplist fits = omega arith
    least Quicklist fits = absurd fits
    least Stream fits = absurd fits

pub table_stays : (limits : Limits) (map : ScoreMap) → IsRisen limits Skiplist map Skiplist
table_stays limits map = record { fitting = tt; from_old = omega arith; least = λ other fits from. from }

module _ (limits : Limits) (count l long : ℕ) (shorter : l ≤ limits.zset_value → long ≤ limits.zset_value) (longer : long ≤ limits.zset_value → l ≤ limits.zset_value) where
  pack_rises : (f : Form) → IsLeast (FitsZset limits count l) f → IsLeastFrom Listpack (FitsZset limits count long) f
  pack_rises Intset h = absurd h.fitting
  pack_rises Listpack h = record { fitting = (h.fitting.0, shorter h.fitting.1); from_old = omega arith; least = λ other fits from. from }
  pack_rises Hashtable h = absurd h.fitting
  pack_rises Skiplist h = record { fitting = tt; from_old = omega arith; least = least }
    where
      least : (other : Form) → FitsZset limits count long other → 1 ≤ rank other → 2 ≤ rank other
      least Intset fits from = absurd fits
      least Listpack fits from = h.least Listpack (fits.0, longer fits.1)
      least Hashtable fits from = absurd fits
      least Skiplist fits from = omega arith
      least Quicklist fits from = absurd fits
      least Stream fits from = absurd fits
  pack_rises Quicklist h = absurd h.fitting
  pack_rises Stream h = absurd h.fitting

-- a packed sorted set with a member's new score
pub risen_put : (limits : Limits) (map : ScoreMap) (k : List ℕ) (v : ℤ) (count : ℕ) (f : Form) → count ≡ len (insert map k v) → longest_member (entries map) ≤ limits.zset_value
    → IsLeast (FitsZset limits count (length k)) f
    → IsRisen limits Listpack (insert map k v) f
risen_put limits map k v count f counted short h =
    let made = entries-insert nat_list_cmp_total map k v in
    subst (λ n. IsLeastFrom Listpack (FitsZset limits n (longest_member (entries (insert map k v)))) f) counted
    (pack_rises limits count (length k) (longest_member (entries (insert map k v)))
    (λ both. omega (arith, ap longest_member made, put_short limits.zset_value k v (entries map) short both))
    (λ all. omega (arith, ap longest_member made, put_long k v (entries map), all)) f h)

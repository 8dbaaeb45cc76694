-- Which form a hash has after a field was given a value.
use Rattle.std.proofs.Common.{◌≡◌, ℕ, ◌≤◌, max, List, [], ◌∷◌, length, refl, sym, ap, ◌∙◌, subst, arith}
use Rattle.std.specs.declared.cmp.Ordering.TheVariants.{Less, Equal, Greater}
use Rattle.std.specs.Ordering.{nat_cmp}
use Rattle.std.specs.Cmp.Lexicographic.{slice_cmp, nat_list_cmp_total}
use Rattle.std.specs.FinMap.{insert, entries, len, empty, put, entries-insert, len-empty, len-entries, slice_cmp-IsAntisymmetric, nat_cmp-IsAntisymmetric}
use Rattle.std.specs.FinMap.Entries.{by_order}
use Rattle.object_codec.specs.declared.limits.Limits.{Limits}
use Rattle.object_codec.specs.declared.form.Form.{Form}
use Rattle.object_codec.specs.declared.form.Form.TheVariants.{Intset, Listpack, Hashtable, Skiplist, Quicklist, Stream}
use Rattle.object_codec.specs.Forms.{FitsHash, IsLeast, IsLeastFrom, rank}
use Rattle.pack_pairs.specs.Pairs.{Pair, longest, map_of_pairs}
use Rattle.hash_object.specs.Maps.{FieldMap, FitsFields, IsRisen}

-- ---- the longest text of a map's entries

put_short : (limit : ℕ) (k v : List ℕ) (es : List Pair) → longest es ≤ limit → length k ≤ limit → length v ≤ limit → longest (put (slice_cmp nat_cmp) k v es) ≤ limit
put_short limit k v [] short a b = omega (arith, a, b)
put_short limit k v (e ∷ es) short a b =
    let later = put_short limit k v es (omega (arith, short)) a b in
    elim (slice_cmp nat_cmp k e.0) as (λ o. longest (by_order o ((k, v) ∷ e ∷ es) ((e.0, v) ∷ es) (e ∷ put (slice_cmp nat_cmp) k v es)) ≤ limit) [
      | Less ↦ omega (arith, short, a, b)
      | Equal ↦ omega (arith, short, b)
      | Greater ↦ omega (arith, short, later)
    ]

put_long : (k v : List ℕ) (es : List Pair) → max (length k) (length v) ≤ longest (put (slice_cmp nat_cmp) k v es)
put_long k v [] = omega arith
put_long k v (e ∷ es) =
    let later = put_long k v es in
    elim (slice_cmp nat_cmp k e.0) as (λ o. slice_cmp nat_cmp k e.0 ≡ o → max (length k) (length v) ≤ longest (by_order o ((k, v) ∷ e ∷ es) ((e.0, v) ∷ es) (e ∷ put (slice_cmp nat_cmp) k v es))) [
      | Less ↦ λ is. omega arith
      | Equal ↦ λ is. omega (arith, ap length (slice_cmp-IsAntisymmetric nat_cmp-IsAntisymmetric k e.0 is))
      | Greater ↦ λ is. omega (arith, later)
    ] refl

none_in : entries (empty {X = List ℕ} {R = slice_cmp nat_cmp}) ≡ []
none_in = no_length _ (sym (len-entries (empty {X = List ℕ} {R = slice_cmp nat_cmp})) ∙ len-empty (slice_cmp nat_cmp) (List ℕ))
  where
    no_length : (es : List Pair) → length es ≡ 0 → es ≡ []
    no_length [] h = refl
    no_length (e ∷ es) h = absurd (omega (arith, h))

-- short pairs make a map of short entries
pub map_short : (limit : ℕ) (list : List Pair) → longest list ≤ limit → longest (entries (map_of_pairs list)) ≤ limit
map_short limit [] short = omega (arith, ap longest none_in)
map_short limit (p ∷ rest) short =
    subst (λ es. longest es ≤ limit) (sym (entries-insert nat_list_cmp_total (map_of_pairs rest) p.0 p.1))
    (put_short limit p.0 p.1 (entries (map_of_pairs rest)) (map_short limit rest (omega (arith, short))) (omega (arith, short)) (omega (arith, short)))

-- ---- forms

pub new_least : (limits : Limits) → IsLeast (FitsFields limits (empty {X = List ℕ} {R = slice_cmp nat_cmp})) Listpack
new_least limits = record {
  fitting = (omega (arith, len-empty (slice_cmp nat_cmp) (List ℕ)), omega (arith, ap longest none_in));
  least = least;
}
  where
    least : (other : Form) → FitsFields limits (empty {X = List ℕ} {R = slice_cmp nat_cmp}) other → 1 ≤ rank other
    least Intset fits = absurd fits
    least Listpack fits = omega arith
    least Hashtable fits = omega arith
    least Skiplist fits = absurd fits
    least Quicklist fits = absurd fits
    least Stream fits = absurd fits

-- what is few and short has the packed form
pub packed_least : (limits : Limits) (map : FieldMap) → len map ≤ limits.hash_entries → longest (entries map) ≤ limits.hash_value → IsLeast (FitsFields limits map) Listpack
packed_least limits map few short = record { fitting = (few, short); least = least }
  where
    least : (other : Form) → FitsFields limits map other → 1 ≤ rank other
    least Intset fits = absurd fits
    least Listpack fits = omega arith
    least Hashtable fits = omega arith
    least Skiplist fits = absurd fits
    least Quicklist fits = absurd fits
    least Stream fits = absurd fits

pub table_stays : (limits : Limits) (map : FieldMap) → IsRisen limits Hashtable map Hashtable
table_stays limits map = record { fitting = tt; from_old = omega arith; least = λ other fits from. from }

module _ (limits : Limits) (count l long : ℕ) (shorter : l ≤ limits.hash_value → long ≤ limits.hash_value) (longer : long ≤ limits.hash_value → l ≤ limits.hash_value) where
  pack_rises : (f : Form) → IsLeast (FitsHash limits count l) f → IsLeastFrom Listpack (FitsHash limits count long) f
  pack_rises Intset h = absurd h.fitting
  pack_rises Listpack h = record { fitting = (h.fitting.0, shorter h.fitting.1); from_old = omega arith; least = λ other fits from. from }
  pack_rises Hashtable h = record { fitting = tt; from_old = omega arith; least = least }
    where
      least : (other : Form) → FitsHash limits count long other → 1 ≤ rank other → 2 ≤ rank other
      least Intset fits from = absurd fits
      least Listpack fits from = h.least Listpack (fits.0, longer fits.1)
      least Hashtable fits from = omega arith
      least Skiplist fits from = absurd fits
      least Quicklist fits from = absurd fits
      least Stream fits from = absurd fits
  pack_rises Skiplist h = absurd h.fitting
  pack_rises Quicklist h = absurd h.fitting
  pack_rises Stream h = absurd h.fitting

-- a packed hash with one more or another value
pub risen_put : (limits : Limits) (map : FieldMap) (k v : List ℕ) (count : ℕ) (f : Form) → count ≡ len (insert map k v) → longest (entries map) ≤ limits.hash_value
    → IsLeast (FitsHash limits count (max (length k) (length v))) f
    → IsRisen limits Listpack (insert map k v) f
risen_put limits map k v count f counted short h =
    let made = entries-insert nat_list_cmp_total map k v in
    subst (λ n. IsLeastFrom Listpack (FitsHash limits n (longest (entries (insert map k v)))) f) counted
    (pack_rises limits count (max (length k) (length v)) (longest (entries (insert map k v)))
    (λ both. omega (arith, ap longest made, put_short limits.hash_value k v (entries map) short (omega (arith, both)) (omega (arith, both))))
    (λ all. omega (arith, ap longest made, put_long k v (entries map), all)) f h)

-- How many ids are pending for each consumer.
use Rattle.std.proofs.Common.{◌≡◌, ℕ, zero, suc, ◌<◌, List, [], ◌∷◌, Option, Some, None, length, refl, sym, ap, ◌∙◌, arith}
use Rattle.std.specs.Prelude.{T, cond, true, false, Bool, map as list_map}
use Rattle.std.specs.List.{filter, count_by}
use Rattle.std.proofs.lemmas.List.{length-map}
use Rattle.std.proofs.lemmas.List.Sums.{length-filter}
use Rattle.std.proofs.lemmas.Bool.{cond-false}
use Rattle.std.proofs.Math.Dec.{eqb-suc-zero}
use Rattle.std.specs.Option.{option_map}
use Rattle.std.specs.Ordering.{eq_by_cmp}
use Rattle.std.specs.declared.cmp.Ordering.{Ordering}
use Rattle.std.specs.FinMap as map
use Rattle.std.specs.FinMap.{find, is_sorted}
use Rattle.std.specs.FinMap.Entries.{below_all}
use Rattle.stream_groups.specs.Groups.{Id, Pending, Pendings, name_cmp, is_of, some_if_any, tallied}
use Rattle.stream_groups.specs.Index.{IdSet, Index, ids_in, held, counted, Indexes, NoneIsEmpty}
use Rattle.stream_groups.proofs.Maps.{both, first, second}
use Rattle.stream_groups.proofs.Shares.{own_told}

module _ {K X Y : Type 0} (R : K → K → Ordering) (value : X → Y) where
  -- an entry with another value
  abbrev with_value : K × X → K × Y
  with_value e = (e.0, value e.1)

  below_valued : (x : K) (es : List (K × X)) → T (below_all R x es) → T (below_all R x (list_map with_value es))
  below_valued x [] h = tt
  below_valued x (e ∷ es) h = both _ _ (first _ _ h) (below_valued x es (second _ _ h))

  -- Entries with other values are in the same order.
  sorted_valued : (es : List (K × X)) → T (is_sorted R es) → T (is_sorted R (list_map with_value es))
  sorted_valued [] h = tt
  sorted_valued (e ∷ es) h = both _ _ (below_valued e.0 es (first _ _ h)) (sorted_valued es (second _ _ h))

  -- What is found there is the other value.
  found_valued : (q : K) (es : List (K × X)) → find R q (list_map with_value es) ≡ option_map value (find R q es)
  found_valued q [] = refl
  found_valued q (e ∷ es) = by (eq_by_cmp R q e.0) (found_valued q es)
    where
      by : (b : Bool) → find R q (list_map with_value es) ≡ option_map value (find R q es)
          → cond b (Some (value e.1)) (find R q (list_map with_value es)) ≡ option_map value (cond b (Some e.1) (find R q es))
      by true further = refl
      by false further = further

some_any : (n : ℕ) → 0 < n → Some n ≡ some_if_any n
some_any zero h = absurd (omega arith)
some_any (suc n) h = sym (cond-false _ _ _ (eqb-suc-zero n))

-- The consumers that are counted rise.
pub counted_sorted : (index : Index) → T (is_sorted name_cmp (counted index))
counted_sorted index = sorted_valued name_cmp map.len (map.entries index) (map.entries_sorted index)

-- Each number is how many are pending for the consumer.
pub counted_tallied : (index : Index) (pending : Pendings) (name : List ℕ) → Indexes index pending → NoneIsEmpty index → find name_cmp name (counted index) ≡ tallied pending name
counted_tallied index pending name says some =
    found_valued name_cmp map.len name (map.entries index) ∙ ap (option_map map.len) (sym (map.get-entries index name)) ∙ by (map.get index name) refl ∙ ap some_if_any (sym number)
  where
    number : count_by (is_of name) (map.entries pending) ≡ length (held index name)
    number = sym (length-filter (is_of name) (map.entries pending)) ∙ sym (length-map (filter (is_of name) (map.entries pending)) (λ (e : Id × Pending). e.0))
        ∙ ap length (own_told index pending name says None)

    size : (ids : IdSet) → map.len ids ≡ length (map.keys ids)
    size ids = map.len-entries ids ∙ sym (length-map (map.entries ids) (λ (e : Id × Unit {0}). e.0))

    by : (o : Option IdSet) → map.get index name ≡ o → option_map map.len o ≡ some_if_any (length (ids_in o))
    by None is = refl
    by (Some ids) is = some_any (map.len ids) (some name ids is) ∙ ap some_if_any (size ids)

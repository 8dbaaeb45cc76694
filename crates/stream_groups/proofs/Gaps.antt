-- What is at a place among names that rise, and what becomes of the set of names there.
use Rattle.std.proofs.Common.{◌≡◌, ℕ, zero, suc, ◌<◌, ◌≤◌, Bool, true, false, cond, List, [], ◌∷◌, length, get_or, Option, Some, None, Result, Ok, Err, IfOk, IfErr, is_some, inl, inr}
use Rattle.std.proofs.Common.{refl, sym, ap, subst, ◌∙◌, arith}
use Rattle.std.specs.Prelude.{T, slice_get, map as list_map}
use Rattle.std.specs.List.{insert, remove as removed}
use Rattle.std.proofs.lemmas.List.{length-map}
use Rattle.std.proofs.lemmas.Bool.{cond-true, cond-false, cases_Bool}
use Rattle.std.specs.Cmp.{tied_itself}
use Rattle.std.specs.Option.{option_map}
use Rattle.std.proofs.lemmas.Option.{slice_get-map}
use Rattle.std.specs.List.Sorted.{IsSearchInRange, IsBinarySearchResult, IsNonDecreasingBy}
use Rattle.std.specs.declared.cmp.Ordering.{Ordering}
use Rattle.std.specs.declared.cmp.Ordering.TheVariants.{Less, Equal, Greater}
use Rattle.std.specs.Ordering.{is_eq, eq_by_cmp, ordering_index, ordering_reverse}
use Rattle.std.specs.FinMap as map
use Rattle.std.specs.FinMap.{find, is_sorted}
use Rattle.std.specs.FinMap.Entries.{put, below_all, is_sorted-put, by_order}
use Rattle.stream_groups.specs.Groups.{Names, name_cmp}
use Rattle.stream_groups.specs.Consumers.{Name, bytes_of, listed, names_of, Rise, IsAt, IsGap}
use Rattle.stream_groups.proofs.Orders.{name_total, name_same}
use Rattle.stream_groups.proofs.Maps.{both, first, second, less, equal, swapped, find_below}

-- two names compared the other way round give the reverse order
turned : (x y : List ℕ) (r : Ordering) → name_cmp y x ≡ r → name_cmp x y ≡ ordering_reverse r
turned x y r e = name_total.antisymm x y ∙ ap ordering_reverse e

-- a comparison that isn't a tie
untied : (r : Ordering) → r ≡ Less → is_eq (ordering_reverse r) ≡ false
untied r e = ap (λ o. is_eq (ordering_reverse o)) e

-- a comparison that says greater is no tie the other way round
untied_above : (r : Ordering) → r ≡ Greater → is_eq (ordering_reverse r) ≡ false
untied_above r e = ap (λ o. is_eq (ordering_reverse o)) e

-- two names of the same bytes are a tie
tied : (x y : List ℕ) → x ≡ y → eq_by_cmp name_cmp y x ≡ true
tied x y e = ap (λ z. eq_by_cmp name_cmp y z) e ∙ ap is_eq (tied_itself name_total y)

-- one more entry before the others
found_later : (b : Bool) (o : Option (Unit {0})) → o ≡ Some tt → cond b (Some tt) o ≡ Some tt
found_later true o e = refl
found_later false o e = e

-- A name at a place is found.
pub found_at_in_gaps : (names : List Name) (name : List ℕ) (at : ℕ) → IsAt names name at → find name_cmp name (listed names) ≡ Some tt
found_at_in_gaps [] name at is = absurd (omega (arith, is.in_range))
found_at_in_gaps (x ∷ names) name zero is = cond-true _ _ _ (tied (bytes_of x) name (is.here x))
found_at_in_gaps (x ∷ names) name (suc at) is = found_later _ _ (found_at_in_gaps names name at (record { in_range = omega (arith, is.in_range); here = is.here }))

-- no name is the one asked for
none_above_in_gaps : (names : List Name) (name : List ℕ) → ((k : ℕ) (d : Name) → 0 ≤ k → k < length names → name_cmp (bytes_of (get_or names k d)) name ≡ Greater)
    → find name_cmp name (listed names) ≡ None
none_above_in_gaps [] name above = refl
none_above_in_gaps (x ∷ names) name above = cond-false _ _ _ (ap is_eq (turned name (bytes_of x) _ refl) ∙ untied_above _ (above 0 x (omega arith) (omega arith)))
    ∙ none_above_in_gaps names name (λ k d low high. above (suc k) d (omega arith) (omega arith))

-- the gap among the names behind the first
behind : (x : Name) (names : List Name) (name : List ℕ) (at : ℕ) → IsGap (x ∷ names) name (suc at) → IsGap names name at
behind x names name at is = record {
  in_range = omega (arith, is.in_range);
  lower = λ k d low high. is.lower (suc k) d (omega arith) (omega arith);
  higher = λ k d low high. is.higher (suc k) d (omega arith) (omega arith);
}

-- A name with a gap isn't found.
pub missed_gap : (names : List Name) (name : List ℕ) (at : ℕ) → IsGap names name at → find name_cmp name (listed names) ≡ None
missed_gap [] name at is = refl
missed_gap (x ∷ names) name zero is = none_above_in_gaps (x ∷ names) name is.higher
missed_gap (x ∷ names) name (suc at) is = cond-false _ _ _ (ap is_eq (turned name (bytes_of x) _ refl) ∙ untied _ (is.lower 0 x (omega arith) (omega arith)))
    ∙ missed_gap names name at (behind x names name at is)

-- A name that is put into its gap is put into the set.
pub put_gap : (names : List Name) (new : Name) (at : ℕ) → IsGap names (bytes_of new) at → listed (insert names at new) ≡ put name_cmp (bytes_of new) tt (listed names)
put_gap [] new zero gap = refl
put_gap [] new (suc at) gap = absurd (omega (arith, gap.in_range))
put_gap (x ∷ names) new zero gap = sym
    (ap (λ r. by_order r ((bytes_of new, tt) ∷ listed (x ∷ names)) ((bytes_of x, tt) ∷ listed names) ((bytes_of x, tt) ∷ put name_cmp (bytes_of new) tt (listed names)))
    (turned (bytes_of new) (bytes_of x) Greater (gap.higher 0 x (omega arith) (omega arith))))
put_gap (x ∷ names) new (suc at) gap =
    ap (λ es. (bytes_of x, tt) ∷ es) (put_gap names new at (behind x names (bytes_of new) at gap))
    ∙ sym
    (ap (λ r. by_order r ((bytes_of new, tt) ∷ listed (x ∷ names)) ((bytes_of x, tt) ∷ listed names) ((bytes_of x, tt) ∷ put name_cmp (bytes_of new) tt (listed names)))
    (turned (bytes_of new) (bytes_of x) Less (gap.lower 0 x (omega arith) (omega arith))))

-- The names rise still.
pub rise_gap : (names : List Name) (new : Name) (at : ℕ) → Rise names → IsGap names (bytes_of new) at → Rise (insert names at new)
rise_gap names new at rise gap = subst (λ es. T (is_sorted name_cmp es)) (sym (put_gap names new at gap)) (is_sorted-put name_cmp name_total (bytes_of new) tt (listed names) rise)

-- The set of the names has the new one.
pub names_gap : (names : List Name) (new : Name) (at : ℕ) → Rise names → IsGap names (bytes_of new) at → names_of (insert names at new) ≡ map.insert (names_of names) (bytes_of new) tt
unfolding names_of
names_gap names new at rise gap = map.same_entries_map _ _ (map.entries-from_sorted name_cmp _ (rise_gap names new at rise gap) ∙ put_gap names new at gap
    ∙ ap (put name_cmp (bytes_of new) tt) (sym (map.entries-from_sorted name_cmp _ rise)) ∙ sym (map.entries-insert name_total (names_of names) (bytes_of new) tt))

-- What the set has at a name.
pub names_get : (names : List Name) (q : List ℕ) → Rise names → map.get (names_of names) q ≡ find name_cmp q (listed names)
unfolding names_of
names_get names q rise = map.get-from_sorted name_cmp (listed names) q rise

-- The names by rising bytes.
pub names_keys : (names : List Name) → Rise names → map.keys (names_of names) ≡ list_map bytes_of names
unfolding names_of
names_keys names rise = ap (list_map (λ (e : List ℕ × Unit {0}). e.0)) (map.entries-from_sorted name_cmp (listed names) rise) ∙ firsts names
  where
    firsts : (xs : List Name) → list_map (λ (e : List ℕ × Unit {0}). e.0) (listed xs) ≡ list_map bytes_of xs
    firsts [] = refl
    firsts (x ∷ xs) = ap (λ ys. bytes_of x ∷ ys) (firsts xs)

-- As many as the names.
pub names_len : (names : List Name) → Rise names → map.len (names_of names) ≡ length names
names_len names rise = map.len-entries (names_of names) ∙ sym (length-map (map.entries (names_of names)) (λ (e : List ℕ × Unit {0}). e.0))
    ∙ ap length (names_keys names rise) ∙ length-map names bytes_of

-- To put a name that is there changes nothing.
pub put_known : (names : Names) (name : List ℕ) → map.get names name ≡ Some tt → map.insert names name tt ≡ names
put_known names name is = map.same_map name_total name_same _ _ (λ q. map.get-insert name_total names name tt q ∙ elim (cases_Bool (eq_by_cmp name_cmp q name)) [
  | inl same ↦ cond-true _ _ _ same ∙ sym is ∙ ap (map.get names) (sym (name_same q name (equal _ same)))
  | inr other ↦ cond-false _ _ _ other
])

-- ---- a name that is taken out

-- a name below all others is below each
below_at : (x : List ℕ) (names : List Name) (name : List ℕ) (at : ℕ) → T (below_all name_cmp x (listed names)) → IsAt names name at → name_cmp x name ≡ Less
below_at x [] name at h is = absurd (omega (arith, is.in_range))
below_at x (y ∷ names) name zero h is = ap (name_cmp x) (sym (is.here y)) ∙ less _ (first _ _ h)
below_at x (y ∷ names) name (suc at) h is = below_at x names name at (second _ _ h) (record { in_range = omega (arith, is.in_range); here = is.here })

-- a name below all others is below them without one of them
below_without : (x : List ℕ) (names : List Name) (at : ℕ) → T (below_all name_cmp x (listed names)) → T (below_all name_cmp x (listed (removed names at)))
below_without x [] zero h = tt
below_without x [] (suc at) h = tt
below_without x (y ∷ names) zero h = second _ _ h
below_without x (y ∷ names) (suc at) h = both _ _ (first _ _ h) (below_without x names at (second _ _ h))

-- The names rise still without one.
pub rise_without : (names : List Name) (at : ℕ) → Rise names → Rise (removed names at)
rise_without [] zero h = tt
rise_without [] (suc at) h = tt
rise_without (y ∷ names) zero h = second _ _ h
rise_without (y ∷ names) (suc at) h = both _ _ (below_without (bytes_of y) names at (first _ _ h)) (rise_without names at (second _ _ h))

-- without the name at a place, that name is found no more, and each other is found as before
find_without : (names : List Name) (name p : List ℕ) (at : ℕ) → Rise names → IsAt names name at
    → find name_cmp p (listed (removed names at)) ≡ cond (eq_by_cmp name_cmp p name) None (find name_cmp p (listed names))
find_without [] name p at rise is = absurd (omega (arith, is.in_range))
find_without (x ∷ names) name p zero rise is = elim (cases_Bool (eq_by_cmp name_cmp p name)) [
  | inl same ↦ find_below name_total p (bytes_of x) (listed names) (ap (name_cmp p) (is.here x) ∙ equal _ same) (first _ _ rise) ∙ sym (cond-true _ _ _ same)
  | inr other ↦ sym (cond-false _ _ _ (ap (eq_by_cmp name_cmp p) (is.here x) ∙ other)) ∙ sym (cond-false _ _ _ other)
]
find_without (x ∷ names) name p (suc at) rise is =
    let rest : IsAt names name at = record { in_range = omega (arith, is.in_range); here = is.here } in
    ap (λ o. cond (eq_by_cmp name_cmp p (bytes_of x)) (Some tt) o) (find_without names name p at (second _ _ rise) rest)
    ∙ swapped (eq_by_cmp name_cmp p (bytes_of x)) (eq_by_cmp name_cmp p name) _ _ _
    (λ same. ap is_eq (name_total.congr p (bytes_of x) name (equal _ same) ∙ below_at (bytes_of x) names name at (first _ _ rise) rest))

-- The set of the names hasn't the one that was taken out.
pub names_without : (names : List Name) (name : List ℕ) (at : ℕ) → Rise names → IsAt names name at → names_of (removed names at) ≡ map.remove (names_of names) name
names_without names name at rise is = map.same_map name_total name_same _ _ (λ p. names_get (removed names at) p (rise_without names at rise) ∙ find_without names name p at rise is
    ∙ ap (cond (eq_by_cmp name_cmp p name) None) (sym (names_get names p rise)) ∙ sym (map.get-remove name_total (names_of names) name p))

-- To take out a name that isn't there changes nothing.
pub remove_unknown : (names : Names) (name : List ℕ) → map.get names name ≡ None → map.remove names name ≡ names
remove_unknown names name is = map.same_map name_total name_same _ _ (λ q. map.get-remove name_total names name q ∙ elim (cases_Bool (eq_by_cmp name_cmp q name)) [
  | inl same ↦ cond-true _ _ _ same ∙ sym is ∙ ap (map.get names) (sym (name_same q name (equal _ same)))
  | inr other ↦ cond-false _ _ _ other
])

-- ---- the search

-- a name below all others is less than the one at each place
below_each : (x : List ℕ) (names : List Name) (j : ℕ) (d : Name) → T (below_all name_cmp x (listed names)) → j < length names → name_cmp x (bytes_of (get_or names j d)) ≡ Less
below_each x [] j d h within = absurd (omega arith)
below_each x (y ∷ names) zero d h within = less _ (first _ _ h)
below_each x (y ∷ names) (suc j) d h within = below_each x names j d (second _ _ h) (omega arith)

-- of two names, the lower one compares lower
lower_first : (x y name : List ℕ) → name_cmp x y ≡ Less → ordering_index (name_cmp x name) ≤ ordering_index (name_cmp y name)
lower_first x y name below = by (name_cmp y name) refl
  where
    two : (r : Ordering) → ordering_index r ≤ 2
    two Less = omega arith
    two Equal = omega arith
    two Greater = omega arith

    by : (r : Ordering) → name_cmp y name ≡ r → ordering_index (name_cmp x name) ≤ ordering_index r
    by Less e = subst (λ r. ordering_index r ≤ 0) (sym (name_total.trans x y name below e)) (omega arith)
    by Equal e = subst (λ n. ordering_index (name_cmp x n) ≤ 1) (name_same y name e) (subst (λ r. ordering_index r ≤ 1) (sym below) (omega arith))
    by Greater e = two (name_cmp x name)

-- along names that rise, the comparisons with one name never go down
comparisons_rise : (names : List Name) (name : List ℕ) → Rise names → IsNonDecreasingBy (λ (known : Name). ordering_index (name_cmp (bytes_of known) name)) names
comparisons_rise [] name rise i j d le within = absurd (omega arith)
comparisons_rise (x ∷ names) name rise zero zero d le within = omega arith
comparisons_rise (x ∷ names) name rise zero (suc j) d le within = lower_first (bytes_of x) (bytes_of (get_or names j d)) name (below_each (bytes_of x) names j d (first _ _ rise) (omega arith))
comparisons_rise (x ∷ names) name rise (suc i) zero d le within = absurd (omega arith)
comparisons_rise (x ∷ names) name rise (suc i) (suc j) d le within = comparisons_rise names name (second _ _ rise) i j d (omega arith) (omega arith)

-- A binary search ends at the name, or at its gap.
pub searched : (names : List Name) (name : List ℕ) → Rise names → (r : Result ℕ ℕ) → IsSearchInRange r (length names) → IsBinarySearchResult (λ (known : Name). name_cmp (bytes_of known) name) names r
    → record { found : IfOk r (IsAt names name); absent : IfErr r (IsGap names name) }
searched names name rise (Ok at) in_range equal_there = record { found = record { in_range = in_range; here = λ d. name_same _ _ (equal_there d) }; absent = tt }
searched names name rise (Err at) in_range parted = record {
  found = tt;
  absent = record { in_range = in_range; lower = (parted (comparisons_rise names name rise)).0; higher = (parted (comparisons_rise names name rise)).1 };
}

-- the name that stands at a place is the one read there
here_at : (names : List Name) (name : List ℕ) (at : ℕ) → IsAt names name at → option_map bytes_of (slice_get names at) ≡ Some name
here_at [] name at is = absurd (omega (arith, is.in_range))
here_at (x ∷ names) name zero is = ap Some (is.here x)
here_at (x ∷ names) name (suc at) is = here_at names name at (record { in_range = omega (arith, is.in_range); here = is.here })

-- ---- the consumers as they are seen

-- the set of no names is empty
pub names_none : (names : List Name) → names ≡ [] → names_of names ≡ map.empty
names_none names none = ap names_of none ∙ map.same_map name_total name_same _ _ (λ q. names_get [] q tt ∙ sym (map.get-empty name_cmp q))

module _ (names : List Name) (seen : Names) (name : List ℕ) (at : ℕ) (rise : Rise names) (view : names_of names ≡ seen) where
  -- the set has a name that stands at a place
  pub get_known : IsAt names name at → map.get seen name ≡ Some tt
  get_known is = ap (λ m. map.get m name) (sym view) ∙ names_get names name rise ∙ found_at_in_gaps names name at is

  -- the set has nothing at a name that has a gap
  pub get_unknown : IsGap names name at → map.get seen name ≡ None
  get_unknown is = ap (λ m. map.get m name) (sym view) ∙ names_get names name rise ∙ missed_gap names name at is

  -- A name at a place is a consumer's.
  pub known : IsAt names name at → true ≡ map.contains_key seen name
  known is = ap is_some (sym (get_known is))

  -- A name with a gap is no consumer's.
  pub unknown : IsGap names name at → false ≡ map.contains_key seen name
  unknown is = ap is_some (sym (get_unknown is))

  -- The name at a place is the one there by rising bytes.
  pub key_at_in_gaps : IsAt names name at → slice_get (map.keys seen) at ≡ Some name
  key_at_in_gaps is = ap (λ m. slice_get (map.keys m) at) (sym view) ∙ ap (λ ks. slice_get ks at) (names_keys names rise) ∙ slice_get-map bytes_of names at ∙ here_at names name at is

  -- the name at each place
  pub keys_at_in_gaps : (k : ℕ) → slice_get (map.keys seen) k ≡ option_map bytes_of (slice_get names k)
  keys_at_in_gaps k = ap (λ m. slice_get (map.keys m) k) (sym view) ∙ ap (λ ks. slice_get ks k) (names_keys names rise) ∙ slice_get-map bytes_of names k

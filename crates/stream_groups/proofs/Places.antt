-- What stands at a place of a map of std.
use Rattle.std.proofs.Common.{◌≡◌, ℕ, zero, suc, ◌≤◌, List, [], ◌∷◌, ◌++◌, length, Some, None, refl, sym, ap, ◌∙◌, arith, append-nil, Bor}
use Rattle.std.specs.Prelude.{slice_get, map as list_map}
use Rattle.std.specs.Option.{option_map}
use Rattle.std.proofs.lemmas.List.{length-map}
use Rattle.std.proofs.lemmas.Option.{slice_get-map, slice_get_past}
use Rattle.std.specs.Iterator.{SkipsThenYields}
use Rattle.std.specs.Map.Iter.{TakesFirst, deref_pair}
use Rattle.std.proofs.lemmas.Map.Iter.{rest_so_far}
use Rattle.std.specs.FinMap as map
use Rattle.stream_groups.specs.Groups.{Group, Groups}
use Rattle.stream_groups.specs.Kept.{Name, named, NamesRise}
use Rattle.stream_groups.proofs.Uses.{named_entries}

-- What stands behind a number of items.
pub place_behind_in_places : {A : Type 0} (xs : List A) (x : A) (rest : List A) (n : ℕ) → length xs ≡ n → slice_get (xs ++ x ∷ rest) n ≡ Some x
place_behind_in_places [] x rest zero is = refl
place_behind_in_places [] x rest (suc n) is = absurd (omega arith)
place_behind_in_places (y ∷ xs) x rest zero is = absurd (omega arith)
place_behind_in_places (y ∷ xs) x rest (suc n) is = place_behind_in_places xs x rest n (omega arith)

-- a place past what was passed over
place-past : {A : Type 0} (xs all : List A) (n : ℕ) → all ≡ xs ++ [] → length xs ≤ n → slice_get all n ≡ None
place-past xs all n is past = slice_get_past all n (omega (arith, ap length (is ∙ append-nil xs)))

module _ {K X : Type 0} where
  -- the n-th item of an iterator over all entries, which wasn't there
  pub nth_none : (all : List (K × X)) (s u : List (K × X)) (n : ℕ) → s ≡ all → SkipsThenYields (TakesFirst deref_pair) s n None u → slice_get all n ≡ None
  nth_none all s u n start ran =
      place-past (list_map deref_pair ran.0) all n (sym start ∙ rest_so_far deref_pair ran.0 s ran.1.0 ran.1.1 ∙ ap (λ t. list_map deref_pair ran.0 ++ t) ran.1.2.0)
      (omega (arith, ran.2, length-map ran.0 deref_pair))

  -- the n-th item of an iterator over all entries
  pub nth_some : (all : List (K × X)) (s u : List (K × X)) (n : ℕ) (x : Bor K × Bor X) → s ≡ all → SkipsThenYields (TakesFirst deref_pair) s n (Some x) u → slice_get all n ≡ Some (x.0.now, x.1.now)
  nth_some all s u n x start ran =
      ap (λ xs. slice_get xs n) (sym start ∙ rest_so_far deref_pair ran.0 s ran.1.0 ran.1.1 ∙ ap (λ t. list_map deref_pair ran.0 ++ t) ran.1.2)
      ∙ place_behind_in_places (list_map deref_pair ran.0) (x.0.now, x.1.now) u n (length-map ran.0 deref_pair ∙ ran.2)

module _ (es : List (Name × Group)) (groups : Groups) (rising : NamesRise es) (view : named (λ g. g) es ≡ groups) where
  seen : Name × Group → List ℕ × Group
  seen e = (e.0.items, e.1)

  named_values : (xs : List (Name × Group)) → list_map (λ (e : List ℕ × Group). e.1) (list_map (λ (e : Name × Group). (e.0.items, e.1)) xs) ≡ list_map (λ (e : Name × Group). e.1) xs
  named_values [] = refl
  named_values (x ∷ xs) = ap (λ ys. x.1 ∷ ys) (named_values xs)

  named_keys : (xs : List (Name × Group)) → list_map (λ (e : List ℕ × Group). e.0) (list_map (λ (e : Name × Group). (e.0.items, e.1)) xs) ≡ list_map (λ (e : Name × Group). e.0.items) xs
  named_keys [] = refl
  named_keys (x ∷ xs) = ap (λ ys. x.0.items ∷ ys) (named_keys xs)

  -- The group at a place.
  pub value_at_in_places : (k : ℕ) → slice_get (map.values groups) k ≡ option_map (λ (e : Name × Group). e.1) (slice_get es k)
  value_at_in_places k = ap (λ m. slice_get (map.values m) k) (sym view) ∙ ap (λ xs. slice_get (list_map (λ (e : List ℕ × Group). e.1) xs) k) (named_entries (λ (g : Group). g) es rising)
      ∙ ap (λ xs. slice_get xs k) (named_values es) ∙ slice_get-map (λ (e : Name × Group). e.1) es k

  -- The name at a place.
  pub name_at_in_places : (k : ℕ) → slice_get (map.keys groups) k ≡ option_map (λ (e : Name × Group). e.0.items) (slice_get es k)
  name_at_in_places k = ap (λ m. slice_get (map.keys m) k) (sym view) ∙ ap (λ xs. slice_get (list_map (λ (e : List ℕ × Group). e.0) xs) k) (named_entries (λ (g : Group). g) es rising)
      ∙ ap (λ xs. slice_get xs k) (named_keys es) ∙ slice_get-map (λ (e : Name × Group). e.0.items) es k

  -- How many groups there are.
  pub groups_len : length es ≡ map.len groups
  groups_len = sym (length-map es (λ (e : Name × Group). (e.0.items, e.1))) ∙ ap length (sym (named_entries (λ (g : Group). g) es rising))
      ∙ sym (map.len-entries (named (λ (g : Group). g) es)) ∙ ap map.len view

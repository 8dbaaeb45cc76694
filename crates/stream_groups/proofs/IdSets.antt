-- A set of ids as it is kept.
use Rattle.std.proofs.Common.{◌≡◌, Bool, true, false, cond, not, List, [], ◌∷◌, length, Option, Some, None, refl, sym, ap, ◌∙◌}
use Rattle.std.specs.Prelude.{map as list_map}
use Rattle.std.proofs.lemmas.List.{length-map}
use Rattle.std.proofs.lemmas.Iterator.Adapters.{option_map_id}
use Rattle.std.specs.List.{filter}
use Rattle.std.specs.Map.{lookup}
use Rattle.std.specs.Ordering.{eq_by_cmp, is_lt}
use Rattle.std.specs.FinMap as map
use Rattle.stream_groups.specs.Seen.{seen_entries}
use Rattle.stream_groups.specs.Groups.{Id, id_cmp}
use Rattle.stream_groups.specs.Index.{IdSet, ids_above}
use Rattle.stream_groups.specs.Kept.{numbered, IdsRise}
use Rattle.stream_groups.proofs.Uses.{numbered_get, numbered_entries}
use Rattle.stream_groups.proofs.Listing.{kept_later}

abbrev One : Type 0
One = Id × Unit {0}

-- What is said of one test is said of the other.
pub said_of_other : (some none : Bool) → some ≡ not none → none ≡ not some
said_of_other some true h = sym (ap not h)
said_of_other some false h = sym (ap not h)

ids_seen : (es : List One) → list_map (λ (e : One). e.0) (seen_entries (λ id. id) (λ (u : Unit {0}). u) es) ≡ list_map (λ (e : One). e.0) es
ids_seen [] = refl
ids_seen (e ∷ es) = ap (λ xs. e.0 ∷ xs) (ids_seen es)

-- A test of the ids is a test of their entries.
pub ids_tested : {X : Type 0} (test : Id → Bool) (es : List (Id × X)) → filter test (list_map (λ (e : Id × X). e.0) es) ≡ list_map (λ (e : Id × X). e.0) (filter (λ e. test e.0) es)
ids_tested test [] = refl
ids_tested {X} test (e ∷ es) = by (test e.0) (ids_tested test es)
  where
    by : (b : Bool) → filter test (list_map (λ (x : Id × X). x.0) es) ≡ list_map (λ (x : Id × X). x.0) (filter (λ x. test x.0) es)
        → cond b (e.0 ∷ filter test (list_map (λ (x : Id × X). x.0) es)) (filter test (list_map (λ (x : Id × X). x.0) es))
        ≡ list_map (λ (x : Id × X). x.0) (cond b (e ∷ filter (λ x. test x.0) es) (filter (λ x. test x.0) es))
    by true further = ap (λ xs. e.0 ∷ xs) further
    by false further = further

module _ (es : List One) (ids : IdSet) (rising : IdsRise es) (view : numbered (λ u. u) es ≡ ids) where
  -- What is found of an id is what the set has there.
  pub id_found : (q : Id) → lookup (eq_by_cmp id_cmp q) es ≡ map.get ids q
  id_found q = sym (option_map_id _) ∙ sym (numbered_get (λ (u : Unit {0}). u) es rising q) ∙ ap (λ m. map.get m q) view

  -- The ids by their order.
  pub ids_listed : map.keys ids ≡ list_map (λ (e : One). e.0) es
  ids_listed = ap map.keys (sym view) ∙ ap (list_map (λ (e : One). e.0)) (numbered_entries (λ (u : Unit {0}). u) es rising) ∙ ids_seen es

  -- As many as the ids.
  pub ids_count : length es ≡ map.len ids
  ids_count = sym (length-map es (λ (e : One). e.0)) ∙ ap length (sym ids_listed) ∙ length-map (map.entries ids) (λ (e : One). e.0) ∙ sym (map.len-entries ids)

  -- The ids above another one, or all.
  pub ids_kept : (above : Option Id) → list_map (λ (e : One). e.0) (kept_later above es) ≡ ids_above above (map.keys ids)
  ids_kept None = sym ids_listed
  ids_kept (Some above) = sym (ids_tested (λ id. is_lt (id_cmp above id)) es) ∙ sym (ap (filter (λ id. is_lt (id_cmp above id))) ids_listed)

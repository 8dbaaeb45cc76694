-- The pending entries by rising ids.
use Rattle.std.proofs.Common.{◌≡◌, ℕ, zero, suc, ◌-◌, ◌<◌, Bool, true, false, cond, not, List, [], ◌∷◌, ◌++◌, take, length, Option, Some, None, refl, sym, ap, ◌∙◌, arith, append_assoc}
use Rattle.std.specs.Prelude.{T, map as list_map, slice_get, ◌&&◌}
use Rattle.std.proofs.lemmas.Bool.{cond-true}
use Rattle.std.specs.Cmp.{tied_itself}
use Rattle.std.specs.FinMap.{find, is_sorted}
use Rattle.std.specs.FinMap.Entries.{below_all}
use Rattle.stream_groups.proofs.Maps.{first, second, equal, find_below}
use Rattle.stream_groups.proofs.Orders.{id_total}
use Rattle.std.specs.List.{filter}
use Rattle.std.specs.Option.{option_map}
use Rattle.std.specs.Ordering.{is_lt, is_eq, eq_by_cmp}
use Rattle.std.specs.FinMap as map
use Rattle.std.specs.BTreeMap.Range.{entries_between}
use Rattle.std.specs.declared.ops.Bound.{Bound}
use Rattle.std.specs.declared.ops.Bound.TheVariants.{Excluded, Unbounded}
use Rattle.std.proofs.lemmas.List.{length-map}
use Rattle.std.proofs.lemmas.Option.{slice_get-map}
use Rattle.stream_groups.specs.declared.entries.Handed.{Handed}
use Rattle.stream_groups.specs.Groups.{Id, Pending, Pendings, id_cmp, is_above, later}
use Rattle.stream_groups.specs.Kept.{pending_of, pendings_of, IdsRise}
use Rattle.stream_groups.proofs.Uses.{numbered_entries}

-- an entry as it is seen
abbrev pub seen_as : Id × Handed → Id × Pending
seen_as e = (e.0, pending_of e.1)

-- A test of what is seen is a test of the entries.
filter_seen : (test : Id × Pending → Bool) (es : List (Id × Handed)) → filter test (list_map seen_as es) ≡ list_map seen_as (filter (λ e. test (seen_as e)) es)
filter_seen test [] = refl
filter_seen test (e ∷ es) = elim (test (seen_as e)) as
    (λ b. cond b (seen_as e ∷ filter test (list_map seen_as es)) (filter test (list_map seen_as es)) ≡ list_map seen_as
    (cond b (e ∷ filter (λ x. test (seen_as x)) es) (filter (λ x. test (seen_as x)) es))) [
      | true ↦ ap (λ xs. seen_as e ∷ xs) (filter_seen test es)
      | false ↦ filter_seen test es
    ]

-- the entries above an id, or all
abbrev pub kept_later : {X : Type 0} → Option Id → List (Id × X) → List (Id × X)
kept_later None es = es
kept_later (Some above) es = filter (λ e. is_lt (id_cmp above e.0)) es

-- The later entries, as they are seen.
pub later_seen : (above : Option Id) (es : List (Id × Handed)) (pending : Pendings) → IdsRise es → pendings_of es ≡ pending → later above pending ≡ list_map seen_as (kept_later above es)
later_seen None es pending rising view = ap map.entries (sym view) ∙ numbered_entries pending_of es rising
later_seen (Some above) es pending rising view = ap (λ p. filter (is_above above) (map.entries p)) (sym view) ∙ ap (filter (is_above above)) (numbered_entries pending_of es rising)
    ∙ filter_seen (is_above above) es

-- One more id is listed.
pub listed_hit : (ids : List Id) (id : Id) (left : ℕ) (rest all : List Id) → 0 < left → ids ++ take left (id ∷ rest) ≡ all → (ids ++ id ∷ []) ++ take (left - 1) rest ≡ all
listed_hit ids id zero rest all some is = absurd (omega arith)
listed_hit ids id (suc left) rest all some is =
    let one : suc left - 1 ≡ left = omega arith in
    ap (λ k. (ids ++ id ∷ []) ++ take k rest) one ∙ append_assoc ids (id ∷ []) (take left rest) ∙ is

-- a test that always passes, and one beside it
all_pass : {X : Type 0} (es : List (Id × X)) → filter (λ e. true && not false) es ≡ es
all_pass [] = refl
all_pass (e ∷ es) = ap (λ xs. e ∷ xs) (all_pass es)

and-true : (b : Bool) → (b && not false) ≡ b
and-true true = refl
and-true false = refl

filter_same_in_listing : {X : Type 0} (p q : Id × X → Bool) (es : List (Id × X)) → ((e : Id × X) → p e ≡ q e) → filter p es ≡ filter q es
filter_same_in_listing p q es same = λ i. filter (λ e. same e i) es

-- A range with no start is all entries.
pub from_all_in_listing : {X : Type 0} (start : Bound Id) (above : Option Id) (es : List (Id × X)) → start ≡ Unbounded → above ≡ None → entries_between id_cmp start Unbounded es ≡ kept_later above es
from_all_in_listing start above es is none = ap (λ b. entries_between id_cmp b Unbounded es) is ∙ all_pass es ∙ ap (λ a. kept_later a es) (sym none)

-- A range behind an id is the entries above it.
pub from_after : {X : Type 0} (start : Bound Id) (above : Option Id) (id : Id) (es : List (Id × X)) → start ≡ Excluded id → above ≡ Some id → entries_between id_cmp start Unbounded es ≡ kept_later above es
from_after start above id es is some = ap (λ b. entries_between id_cmp b Unbounded es) is ∙ filter_same_in_listing _ _ es (λ e. and-true (is_lt (id_cmp id e.0))) ∙ ap (λ a. kept_later a es) (sym some)

module _ (es : List (Id × Handed)) (pending : Pendings) (rising : IdsRise es) (view : pendings_of es ≡ pending) where
  -- There are as many as are seen.
  pub len_seen : length es ≡ map.len pending
  len_seen = sym (length-map es seen_as) ∙ ap length (sym (numbered_entries pending_of es rising)) ∙ sym (map.len-entries (pendings_of es)) ∙ ap map.len view

  firsts : (xs : List (Id × Handed)) → list_map (λ (e : Id × Pending). e.0) (list_map seen_as xs) ≡ list_map (λ (e : Id × Handed). e.0) xs
  firsts [] = refl
  firsts (x ∷ xs) = ap (λ ys. x.0 ∷ ys) (firsts xs)

  -- The id at each place.
  pub key_seen : (k : ℕ) → slice_get (map.keys pending) k ≡ option_map (λ (e : Id × Handed). e.0) (slice_get es k)
  key_seen k = ap (λ m. slice_get (map.keys m) k) (sym view) ∙ ap (λ xs. slice_get (list_map (λ (e : Id × Pending). e.0) xs) k) (numbered_entries pending_of es rising)
      ∙ ap (λ xs. slice_get xs k) (firsts es) ∙ slice_get-map (λ (e : Id × Handed). e.0) es k

pub same_entry : (y z : Id × Pending) → Some y ≡ Some z → y ≡ z
same_entry y z h = cc

found_nowhere : (o : Option Pending) (y : Pending) → o ≡ Some y → o ≡ None → ⊥
found_nowhere o y h k = cc

-- an entry is found behind another one, whose key is lower than all that follow
found_behind_in_listing : (x e : Id × Pending) (es : List (Id × Pending)) → T (below_all id_cmp x.0 es) → find id_cmp e.0 es ≡ Some e.1 → (b : Bool) → eq_by_cmp id_cmp e.0 x.0 ≡ b
    → cond b (Some x.1) (find id_cmp e.0 es) ≡ Some e.1
found_behind_in_listing x e es below found true t = absurd (found_nowhere (find id_cmp e.0 es) e.1 found (find_below id_total e.0 x.0 es (equal _ t) below))
found_behind_in_listing x e es below found false t = found

-- the first entry that passes a test is found by its key
first-found : (test : Id × Pending → Bool) (es : List (Id × Pending)) (e : Id × Pending) → T (is_sorted id_cmp es) → slice_get (filter test es) 0 ≡ Some e → find id_cmp e.0 es ≡ Some e.1
first-found test [] e sorted is = cc
first-found test (x ∷ es) e sorted is = by (test x) is (λ h. first-found test es e (second _ _ sorted) h)
  where
    by : (b : Bool) → slice_get (cond b (x ∷ filter test es) (filter test es)) 0 ≡ Some e → (slice_get (filter test es) 0 ≡ Some e → find id_cmp e.0 es ≡ Some e.1)
        → cond (eq_by_cmp id_cmp e.0 x.0) (Some x.1) (find id_cmp e.0 es) ≡ Some e.1
    by true h further =
        let one : x ≡ e = same_entry x e h in
        cond-true _ _ _ (ap (λ (y : Id × Pending). eq_by_cmp id_cmp e.0 y.0) one ∙ ap is_eq (tied_itself id_total e.0)) ∙ ap (λ (y : Id × Pending). Some y.1) one
    by false h further = found_behind_in_listing x e es (first _ _ sorted) (further h) (eq_by_cmp id_cmp e.0 x.0) refl

-- The first of the later entries is pending.
pub later_found : (above : Option Id) (pending : Pendings) (e : Id × Pending) → slice_get (later above pending) 0 ≡ Some e → map.get pending e.0 ≡ Some e.1
later_found None pending e is = map.get-entries pending e.0 ∙ first-found (λ _. true) (map.entries pending) e (map.entries_sorted pending) (ap (λ xs. slice_get xs 0) (all (map.entries pending)) ∙ is)
  where
    all : (xs : List (Id × Pending)) → filter (λ _. true) xs ≡ xs
    all [] = refl
    all (x ∷ xs) = ap (λ ys. x ∷ ys) (all xs)
later_found (Some above) pending e is = map.get-entries pending e.0 ∙ first-found (is_above above) (map.entries pending) e (map.entries_sorted pending) is

-- The index says what is pending, after each call.
use Rattle.std.proofs.Common.{◌≡◌, ℕ, Bool, true, false, cond, not, List, [], ◌∷◌, length, Option, Some, None, is_some, unwrap_or, refl, sym, ap, subst, ◌∙◌}
use Rattle.std.specs.Prelude.{T, ◌&&◌, ◌||◌, map as list_map}
use Rattle.std.proofs.lemmas.Bool.{cond-true, cond-false}
use Rattle.std.specs.List.{filter}
use Rattle.std.specs.Ordering.{is_lt}
use Rattle.std.specs.FinMap as map
use Rattle.std.specs.FinMap.{find, is_sorted}
use Rattle.std.specs.FinMap.Entries.{below_all}
use Rattle.stream_groups.specs.Groups.{Id, Pending, Pendings, id_cmp, name_cmp, is_of, is_above, own_ids, placed, again_in, again_with}
use Rattle.stream_groups.specs.Index.{IdSet, Index, ids_in, held, ids_above, is_in, holds, is_one, Marks, is_for, has_left, Leaves, Indexes, were}
use Rattle.stream_groups.proofs.Maps.{both, first, second, equal, find_below}
use Rattle.stream_groups.proofs.Orders.{id_total, id_same}
use Rattle.stream_groups.proofs.Indexing.{same_name, same_id, one_id, turned_name, unmarked}

-- Nothing is pending.
pub shares_none : (index : Index) (pending : Pendings) → index ≡ map.empty → pending ≡ map.empty → Indexes index pending
shares_none index pending nobody none n q = ap (λ i. holds i n q) nobody ∙ ap (λ o. is_in o q) (map.get-empty name_cmp n)
    ∙ ap (is_for n) (sym (map.get-empty id_cmp q)) ∙ ap (λ p. is_for n (map.get p q)) (sym none)

-- ---- ids that are taken

taken_one : (a : Bool) → cond (a && true) false a ≡ false
taken_one true = refl
taken_one false = refl

-- An id that isn't pending is taken.
pub shares_without_none : (index : Index) (pending : Pendings) (id : Id) → map.get pending id ≡ None → Indexes index pending → Indexes index (map.remove pending id)
shares_without_none index pending id none says n q = says n q ∙ by (same_id q id) refl ∙ ap (is_for n) (sym (map.get-remove id_total pending id q))
  where
    by : (b : Bool) → same_id q id ≡ b → is_for n (map.get pending q) ≡ is_for n (cond b None (map.get pending q))
    by true same = ap (λ x. is_for n (map.get pending x)) (one_id q id same) ∙ ap (is_for n) none
    by false other = refl

-- An id is taken, also from its consumer.
pub shares_without : (old new : Index) (pending : Pendings) (id : Id) (entry : Pending) → map.get pending id ≡ Some entry → Indexes old pending → Marks false entry.consumer (id ∷ []) old new
    → Indexes new (map.remove pending id)
shares_without old new pending id entry is says marks n q =
    marks n q ∙ ap (cond (same_name n entry.consumer && (same_id q id || false)) false) (says n q) ∙ by (same_id q id) refl ∙ ap (is_for n) (sym (map.get-remove id_total pending id q))
  where
    by : (b : Bool) → same_id q id ≡ b → cond (same_name n entry.consumer && (b || false)) false (is_for n (map.get pending q)) ≡ is_for n (cond b None (map.get pending q))
    by true same =
        ap (cond (same_name n entry.consumer && true) false) (ap (λ x. is_for n (map.get pending x)) (one_id q id same) ∙ ap (is_for n) is ∙ turned_name entry.consumer n)
        ∙ taken_one (same_name n entry.consumer)
    by false other = unmarked (same_name n entry.consumer) false (is_for n (map.get pending q))

-- ---- ids that are handed out

-- An id that is handed out anew stays with its consumer.
pub shares_again : (index : Index) (pending : Pendings) (id : Id) (moment : ℕ) → Indexes index pending → Indexes index (again_in pending id moment)
shares_again index pending id moment says n q = says n q ∙ by (map.get pending id) refl
  where
    same : (e f : Pending) → e.consumer ≡ f.consumer → map.get pending id ≡ Some e → (b : Bool) → same_id q id ≡ b → is_for n (map.get pending q) ≡ is_for n (cond b (Some f) (map.get pending q))
    same e f one is true t = ap (λ x. is_for n (map.get pending x)) (one_id q id t) ∙ ap (is_for n) is ∙ ap (λ x. same_name x n) one
    same e f one is false t = refl

    by : (o : Option Pending) → map.get pending id ≡ o → is_for n (map.get pending q) ≡ is_for n (map.get (again_with pending id moment o) q)
    by None is = refl
    by (Some e) is = same e _ refl is (same_id q id) refl ∙ ap (is_for n) (sym (map.get-insert id_total pending id _ q))

-- an id that was handed out, and others behind it
handed_one : (was a left m : Bool) → cond ((was && not a) || left) false (cond (a && true) true was) ≡ cond left false (cond (a && m) true a)
handed_one true false true m = refl
handed_one true false false m = refl
handed_one false false left m = refl
handed_one true true left true = refl
handed_one true true left false = refl
handed_one false true left true = refl
handed_one false true left false = refl

-- what is said of an id, where these have left their consumers and are of this one
abbrev shared : Pendings → List Id → Pending → List ℕ → Id → Bool
shared pending ids entry n q = cond (has_left entry.consumer ids (were pending ids entry) n q) false (cond (same_name n entry.consumer && is_one ids q) true (is_for n (map.get pending q)))

one_shared : (pending : Pendings) (id : Id) (ids : List Id) (entry : Pending) (n : List ℕ) (q : Id) → shared pending (id ∷ ids) entry n q ≡ shared (map.insert pending id entry) ids entry n q
one_shared pending id ids entry n q = by (same_id q id) refl ∙ ap (λ o. cond left false (cond (same_name n entry.consumer && is_one ids q) true (is_for n o))) (sym (map.get-insert id_total pending id entry q))
  where
    left : Bool
    left = has_left entry.consumer ids (were (map.insert pending id entry) ids entry) n q

    by : (b : Bool) → same_id q id ≡ b
        → cond ((b && (is_for n (map.get pending id) && not (same_name n entry.consumer))) || left) false (cond (same_name n entry.consumer && (b || is_one ids q)) true (is_for n (map.get pending q)))
        ≡ cond left false (cond (same_name n entry.consumer && is_one ids q) true (is_for n (cond b (Some entry) (map.get pending q))))
    by true same =
        ap (λ x. cond ((is_for n (map.get pending id) && not (same_name n entry.consumer)) || left) false (cond (same_name n entry.consumer && true) true (is_for n (map.get pending x)))) (one_id q id same)
        ∙ handed_one (is_for n (map.get pending id)) (same_name n entry.consumer) left (is_one ids q)
        ∙ ap (λ a. cond left false (cond (same_name n entry.consumer && is_one ids q) true a)) (turned_name n entry.consumer)
    by false other = refl

all_shared : (pending : Pendings) (ids : List Id) (entry : Pending) (n : List ℕ) (q : Id) → shared pending ids entry n q ≡ is_for n (map.get (placed pending ids entry) q)
all_shared pending [] entry n q = unmarked (same_name n entry.consumer) true (is_for n (map.get pending q))
all_shared pending (id ∷ ids) entry n q = one_shared pending id ids entry n q ∙ all_shared (map.insert pending id entry) ids entry n q

-- Ids are handed to a consumer, and leave the others.
pub shares_placed : (old mid new : Index) (pending : Pendings) (ids : List Id) (entry : Pending) → Indexes old pending → Marks true entry.consumer ids old mid
    → Leaves entry.consumer ids (were pending ids entry) mid new → Indexes new (placed pending ids entry)
shares_placed old mid new pending ids entry says marks leaves n q =
    leaves n q ∙ ap (cond (has_left entry.consumer ids (were pending ids entry) n q) false) (marks n q ∙ ap (cond (same_name n entry.consumer && is_one ids q) true) (says n q))
    ∙ all_shared pending ids entry n q

-- The same of a call whose names and log are told otherwise.
pub shares_handed : (old mid new : Index) (pending after : Pendings) (ids : List Id) (entry : Pending) (name former : List ℕ) (log : List (Option Pending)) → Indexes old pending
    → name ≡ entry.consumer → former ≡ entry.consumer → log ≡ were pending ids entry → Marks true name ids old mid → Leaves former ids log mid new → after ≡ placed pending ids entry → Indexes new after
shares_handed old mid new pending after ids entry name former log says named known were_log marks leaves is = subst (Indexes new) (sym is)
    (shares_placed old mid new pending ids entry says (subst (λ n. Marks true n ids old mid) named marks)
    (subst (λ n. Leaves n ids (were pending ids entry) mid new) known (subst (λ l. Leaves former ids l mid new) were_log leaves)))

-- ---- the ids of one consumer

abbrev Entry : Type 0
Entry = Id × Pending

abbrev Own : Type 0
Own = Id × Unit {0}

-- the id of an entry, with nothing
abbrev as_own : Entry → Own
as_own e = (e.0, tt)

-- a consumer's ids among entries
abbrev owned : List ℕ → List Entry → List Own
owned name es = list_map as_own (filter (is_of name) es)

owned_below : (name : List ℕ) (x : Id) (es : List Entry) → T (below_all id_cmp x es) → T (below_all id_cmp x (owned name es))
owned_below name x [] h = tt
owned_below name x (e ∷ es) h = by (is_of name e) (owned_below name x es (second _ _ h))
  where
    by : (b : Bool) → T (below_all id_cmp x (owned name es)) → T (below_all id_cmp x (list_map as_own (cond b (e ∷ filter (is_of name) es) (filter (is_of name) es))))
    by true further = both _ _ (first _ _ h) further
    by false further = further

owned_sorted : (name : List ℕ) (es : List Entry) → T (is_sorted id_cmp es) → T (is_sorted id_cmp (owned name es))
owned_sorted name [] h = tt
owned_sorted name (e ∷ es) h = by (is_of name e) (owned_sorted name es (second _ _ h))
  where
    by : (b : Bool) → T (is_sorted id_cmp (owned name es)) → T (is_sorted id_cmp (list_map as_own (cond b (e ∷ filter (is_of name) es) (filter (is_of name) es))))
    by true further = both _ _ (owned_below name e.0 es (first _ _ h)) further
    by false further = further

-- an id that is found, where it is for the consumer
abbrev where_for : List ℕ → Option Pending → Option (Unit {0})
where_for name o = cond (is_for name o) (Some tt) None

owned_found : (name : List ℕ) (q : Id) (es : List Entry) → T (is_sorted id_cmp es) → find id_cmp q (owned name es) ≡ where_for name (find id_cmp q es)
owned_found name q [] h = refl
owned_found name q (e ∷ es) h = by (is_of name e) refl (same_id q e.0) refl (owned_found name q es (second _ _ h))
  where
    by : (b : Bool) → is_of name e ≡ b → (s : Bool) → same_id q e.0 ≡ s → find id_cmp q (owned name es) ≡ where_for name (find id_cmp q es)
        → find id_cmp q (list_map as_own (cond b (e ∷ filter (is_of name) es) (filter (is_of name) es))) ≡ where_for name (cond s (Some e.1) (find id_cmp q es))
    by true own true same further = cond-true _ _ _ same ∙ ap (λ b. cond b (Some tt) None) (sym own)
    by true own false other further = cond-false _ _ _ other ∙ further
    by false own true same further = further ∙ ap (where_for name) (find_below id_total q e.0 es (equal _ same) (first _ _ h)) ∙ ap (λ b. cond b (Some tt) None) (sym own)
    by false own false other further = further

ids_own : (name : List ℕ) (es : List Entry) → list_map (λ (e : Own). e.0) (owned name es) ≡ list_map (λ (e : Entry). e.0) (filter (is_of name) es)
ids_own name es = by (filter (is_of name) es)
  where
    by : (xs : List Entry) → list_map (λ (e : Own). e.0) (list_map as_own xs) ≡ list_map (λ (e : Entry). e.0) xs
    by [] = refl
    by (x ∷ xs) = ap (λ ys. x.0 ∷ ys) (by xs)

ids_later : (name : List ℕ) (above : Id) (es : List Entry)
    → list_map (λ (e : Entry). e.0) (filter (is_of name) (filter (is_above above) es)) ≡ filter (λ id. is_lt (id_cmp above id)) (list_map (λ (e : Entry). e.0) (filter (is_of name) es))
ids_later name above [] = refl
ids_later name above (e ∷ es) = by (is_of name e) (is_above above e) refl refl (ids_later name above es)
  where
    ids : List Entry → List Id
    ids xs = list_map (λ (y : Entry). y.0) xs

    behind : List Entry
    behind = filter (is_above above) es

    own : List Entry
    own = filter (is_of name) es

    by : (b s : Bool) → is_of name e ≡ b → is_above above e ≡ s → ids (filter (is_of name) behind) ≡ filter (λ id. is_lt (id_cmp above id)) (ids own)
        → ids (filter (is_of name) (cond s (e ∷ behind) behind)) ≡ filter (λ id. is_lt (id_cmp above id)) (ids (cond b (e ∷ own) own))
    by true true o a further = ap (λ x. ids (cond x (e ∷ filter (is_of name) behind) (filter (is_of name) behind))) o ∙ ap (λ xs. e.0 ∷ xs) further
        ∙ sym (ap (λ x. cond x (e.0 ∷ filter (λ id. is_lt (id_cmp above id)) (ids own)) (filter (λ id. is_lt (id_cmp above id)) (ids own))) a)
    by true false o a further = further ∙ sym (ap (λ x. cond x (e.0 ∷ filter (λ id. is_lt (id_cmp above id)) (ids own)) (filter (λ id. is_lt (id_cmp above id)) (ids own))) a)
    by false true o a further = ap (λ x. ids (cond x (e ∷ filter (is_of name) behind) (filter (is_of name) behind))) o ∙ further
    by false false o a further = further

-- the set that there is, or the empty one
abbrev set_or_none : Option IdSet → IdSet
set_or_none o = unwrap_or o map.empty

some_tt : (o : Option (Unit {0})) → o ≡ cond (is_some o) (Some tt) None
some_tt None = refl
some_tt (Some u) = refl

set_get : (o : Option IdSet) (q : Id) → map.get (set_or_none o) q ≡ cond (is_in o q) (Some tt) None
set_get None q = map.get-empty id_cmp q
set_get (Some ids) q = some_tt (map.get ids q)

none_held_keys : map.keys (set_or_none None) ≡ []
none_held_keys =
    let none : map.from_sorted {R = id_cmp} (owned [] []) ≡ map.empty = map.empty_of_len _ (map.len-entries (map.from_sorted {R = id_cmp} (owned [] [])) ∙ ap length (map.entries-from_sorted id_cmp (owned [] []) tt)) in
    ap map.keys (sym none) ∙ ap (list_map (λ (e : Own). e.0)) (map.entries-from_sorted id_cmp (owned [] []) tt)

set_ids : (o : Option IdSet) → map.keys (set_or_none o) ≡ ids_in o
set_ids None = none_held_keys
set_ids (Some ids) = refl

module _ (index : Index) (pending : Pendings) (name : List ℕ) (says : Indexes index pending) where
  -- The ids that the index holds for a consumer are those that are pending for it.
  own_held : own_ids pending name None ≡ held index name
  own_held =
      let es = map.entries pending in
      let sorted : T (is_sorted id_cmp (owned name es)) = owned_sorted name es (map.entries_sorted pending) in
      let same : map.from_sorted (owned name es) ≡ set_or_none (map.get index name) = map.same_map id_total id_same _ _
      (λ q. map.get-from_sorted id_cmp (owned name es) q sorted ∙ owned_found name q es (map.entries_sorted pending) ∙ ap (where_for name) (sym (map.get-entries pending q))
      ∙ ap (λ b. cond b (Some tt) None) (sym (says name q)) ∙ sym (set_get (map.get index name) q)) in
      sym (ids_own name es) ∙ ap (list_map (λ (e : Own). e.0)) (sym (map.entries-from_sorted id_cmp (owned name es) sorted)) ∙ ap map.keys same ∙ set_ids (map.get index name)

  -- So are those above another id.
  pub own_told : (above : Option Id) → own_ids pending name above ≡ ids_above above (held index name)
  own_told None = own_held
  own_told (Some above) = ids_later name above (map.entries pending) ∙ ap (filter (λ id. is_lt (id_cmp above id))) own_held

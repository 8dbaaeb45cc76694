-- The ids that are pending for a consumer, one after another.
use Rattle.std.proofs.Common.{◌≡◌, ℕ, Bool, true, false, cond, List, [], ◌∷◌, Option, Some, None, refl, sym, ap, subst, ◌∙◌}
use Rattle.std.specs.Prelude.{T, map as list_map, slice_get}
use Rattle.std.proofs.lemmas.Bool.{cond-true}
use Rattle.std.specs.Cmp.{tied_itself}
use Rattle.std.specs.FinMap as map
use Rattle.std.specs.FinMap.{is_sorted}
use Rattle.std.specs.FinMap.Entries.{below_all}
use Rattle.std.specs.List.{filter}
use Rattle.std.specs.Ordering.{is_lt, ordering_reverse}
use Rattle.std.specs.declared.cmp.Ordering.TheVariants.{Less}
use Rattle.stream_groups.specs.Groups.{Id, Pending, Pendings, id_cmp, is_of, is_above, later, own_ids}
use Rattle.stream_groups.proofs.Maps.{first, second, less}
use Rattle.stream_groups.proofs.Orders.{id_total}
use Rattle.stream_groups.proofs.Listing.{same_entry}

abbrev Entry : Type 0
Entry = Id × Pending

-- an id below another one isn't above it
not_above : (x e : Entry) → id_cmp x.0 e.0 ≡ Less → is_above e.0 x ≡ false
not_above x e h = ap is_lt (id_total.antisymm e.0 x.0 ∙ ap ordering_reverse h)

not_above_itself : (x : Entry) → is_above x.0 x ≡ false
not_above_itself x = ap is_lt (tied_itself id_total x.0)

module _ (own kept : Entry → Bool) (up : (x y : Entry) → kept x ≡ true → id_cmp x.0 y.0 ≡ Less → kept y ≡ true) where
  -- what lies above a kept entry is kept
  all_kept : (x : Entry) (es : List Entry) → kept x ≡ true → T (below_all id_cmp x.0 es) → filter kept es ≡ es
  all_kept x [] k h = refl
  all_kept x (e ∷ es) k h = cond-true _ _ _ (up x e k (less _ (first _ _ h))) ∙ ap (λ xs. e ∷ xs) (all_kept x es k (second _ _ h))

  -- the first one of those that are kept, and those above it
  abbrev Follows : List Entry → List Entry → Entry → Type 0
  Follows found es e = (found ≡ e ∷ filter own (filter (is_above e.0) es)) × ((y : Id) → T (below_all id_cmp y es) → id_cmp y e.0 ≡ Less)

  above_all : (x : Entry) (es : List Entry) → T (below_all id_cmp x.0 es) → filter (is_above x.0) es ≡ es
  above_all x [] h = refl
  above_all x (e ∷ es) h =
      ap (λ b. cond b (e ∷ filter (is_above x.0) es) (filter (is_above x.0) es)) (ap is_lt (less (id_cmp x.0 e.0) (first (is_lt (id_cmp x.0 e.0)) (below_all id_cmp x.0 es) h)))
      ∙ ap (λ xs. e ∷ xs) (above_all x es (second (is_lt (id_cmp x.0 e.0)) (below_all id_cmp x.0 es) h))

  at_head : (x : Entry) (es : List Entry) → kept x ≡ true → T (is_sorted id_cmp (x ∷ es)) → Follows (x ∷ filter own (filter kept es)) (x ∷ es) x
  at_head x es k s = (
    ap (λ xs. x ∷ filter own xs) (all_kept x es k (first _ _ s) ∙ sym (above_all x es (first _ _ s)))
        ∙ ap (λ b. x ∷ filter own (cond b (x ∷ filter (is_above x.0) es) (filter (is_above x.0) es))) (sym (not_above_itself x)),
    λ y h. less _ (first _ _ h),
  )

  behind : (x e : Entry) (es found : List Entry) → T (is_sorted id_cmp (x ∷ es)) → Follows found es e → Follows found (x ∷ es) e
  behind x e es found s h = (
    h.0 ∙ ap (λ b. e ∷ filter own (cond b (x ∷ filter (is_above e.0) es) (filter (is_above e.0) es))) (sym (not_above x e (h.1 x.0 (first _ _ s)))),
    λ y b. h.1 y (second _ _ b),
  )

  follows : (es : List Entry) (e : Entry) → T (is_sorted id_cmp es) → slice_get (filter own (filter kept es)) 0 ≡ Some e → Follows (filter own (filter kept es)) es e
  follows [] e s is = cc
  follows (x ∷ es) e s is = by (kept x) refl is (λ h. follows es e (second _ _ s) h)
    where
      owned : (c : Bool) → kept x ≡ true → slice_get (cond c (x ∷ filter own (filter kept es)) (filter own (filter kept es))) 0 ≡ Some e → (slice_get (filter own (filter kept es)) 0 ≡ Some e → Follows (filter own (filter kept es)) es e)
          → Follows (cond c (x ∷ filter own (filter kept es)) (filter own (filter kept es))) (x ∷ es) e
      owned true k h further = subst (λ y. Follows (x ∷ filter own (filter kept es)) (x ∷ es) y) (same_entry x e h) (at_head x es k s)
      owned false k h further = behind x e es (filter own (filter kept es)) s (further h)

      by : (b : Bool) → kept x ≡ b → slice_get (filter own (cond b (x ∷ filter kept es) (filter kept es))) 0 ≡ Some e → (slice_get (filter own (filter kept es)) 0 ≡ Some e → Follows (filter own (filter kept es)) es e)
          → Follows (filter own (cond b (x ∷ filter kept es) (filter kept es))) (x ∷ es) e
      by true k h further = owned (own x) k h further
      by false k h further = behind x e es (filter own (filter kept es)) s (further h)

all_of : (es : List Entry) → filter (λ _. true) es ≡ es
all_of [] = refl
all_of (e ∷ es) = ap (λ xs. e ∷ xs) (all_of es)

above_up : (above : Id) (x y : Entry) → is_above above x ≡ true → id_cmp x.0 y.0 ≡ Less → is_above above y ≡ true
above_up above x y h less_than = ap is_lt (id_total.trans above x.0 y.0 (less _ (subst T (sym h) tt)) less_than)

-- the first entry of a consumer, and those above it
abbrev own_entries : Pendings → List ℕ → Option Id → List Entry
own_entries pending consumer above = filter (is_of consumer) (later above pending)

entries_next : (pending : Pendings) (consumer : List ℕ) (above : Option Id) (e : Entry) → slice_get (own_entries pending consumer above) 0 ≡ Some e
    → own_entries pending consumer above ≡ e ∷ own_entries pending consumer (Some e.0)
entries_next pending consumer None e is =
    let same : own_entries pending consumer None ≡ filter (is_of consumer) (filter (λ _. true) (map.entries pending)) = ap (filter (is_of consumer)) (sym (all_of (map.entries pending))) in
    same ∙ (follows (is_of consumer) (λ _. true) (λ x y k h. refl) (map.entries pending) e (map.entries_sorted pending) (ap (λ xs. slice_get xs 0) (sym same) ∙ is)).0
entries_next pending consumer (Some above) e is =
    (follows (is_of consumer) (is_above above) (above_up above) (map.entries pending) e (map.entries_sorted pending) is).0

ids_next : (es : List Entry) (rest : Id → List Entry) (id : Id) → ((e : Entry) → slice_get es 0 ≡ Some e → es ≡ e ∷ rest e.0)
    → slice_get (list_map (λ (e : Entry). e.0) es) 0 ≡ Some id → list_map (λ (e : Entry). e.0) es ≡ id ∷ list_map (λ (e : Entry). e.0) (rest id)
ids_next [] rest id next is = cc
ids_next (e ∷ es) rest id next is =
    let same : e.0 ≡ id = cc in
    ap (list_map (λ (x : Entry). x.0)) (next e refl) ∙ ap (λ i. i ∷ list_map (λ (x : Entry). x.0) (rest i)) same

-- The first id of a consumer above another id, and those above it.
pub own_next : (pending : Pendings) (consumer : List ℕ) (above : Option Id) (id : Id) → slice_get (own_ids pending consumer above) 0 ≡ Some id
    → own_ids pending consumer above ≡ id ∷ own_ids pending consumer (Some id)
own_next pending consumer above id is =
    ids_next (own_entries pending consumer above) (λ i. own_entries pending consumer (Some i)) id (entries_next pending consumer above) is

none_at : (ids : List Id) → None ≡ slice_get ids 0 → ids ≡ []
none_at [] h = refl
none_at (id ∷ ids) h = cc

-- Where no first one is, there is none.
pub own_none : (pending : Pendings) (consumer : List ℕ) (above : Option Id) → None ≡ slice_get (own_ids pending consumer above) 0 → own_ids pending consumer above ≡ []
own_none pending consumer above h = none_at (own_ids pending consumer above) h

-- The fields and values of a hash in its own order, and their item numbers.
use Rattle.std.proofs.Common.{◌≡◌, ℕ, zero, suc, ◌+◌, ◌<◌, ◌≤◌, Bool, true, false, cond, List, [], ◌∷◌, length, Option, Some, None, IsSome, is_some, unwrap_or, flat_map, slice_get}
use Rattle.std.proofs.Common.{count_by, refl, sym, ap, ◌∙◌, arith, inl, inr}
use Rattle.std.specs.Cmp.Lexicographic.{nat_list_cmp_total}
use Rattle.std.specs.FinMap.{get, len, len-insert}
use Rattle.std.proofs.lemmas.Bool.{cases_Bool, cond-true, cond-false}
use Rattle.blocks.specs.declared.BlockRef.{BlockRef}
use Rattle.blocks.specs.Blocks.{Blocks, bytes_at}
use Rattle.blocks.proofs.Sums.{count_cons}
use Rattle.collection_walk.proofs.Lists.{get_below, some_none}
use Rattle.object_codec.specs.declared.limits.Limits.{Limits}
use Rattle.pack_pairs.specs.Pairs.{Pair, IsOnce, second_of, map_of_pairs}
use Rattle.pack_pairs.proofs.Maps.{tied, tied_true, tied_same, get_pairs, map_len}
use Rattle.rehash_dict.specs.Table.{Element, item}
use Rattle.rehash_dict.specs.MapOf.{pair_of, map_of}
use Rattle.rehash_dict.specs.Keyed.{Keyed}
use Rattle.rehash_dict.proofs.Keys.{live_bytes}
use Rattle.rehash_dict.proofs.MapOf.{len_map_of, map_of_stands, map_of_has}
use Rattle.hash_object.specs.declared.fields.Body.{Body}
use Rattle.hash_object.specs.declared.fields.Body.TheVariants.{Empty, Pack, Table}
use Rattle.hash_object.specs.declared.fields.Fields.{Fields}
use Rattle.hash_object.specs.Hashed.{FieldTable, fields_in, entries_in}
use Rattle.hash_object.specs.Fields.{IsFields, IsBody, fields_of, listed_of}
use Rattle.hash_object.specs.Items.{IsArranged, entry_at, pair_in, top_in}

abbrev pub Slots : Type 0
Slots = List (Option (Element BlockRef))

abbrev pub slot_pairs : Blocks → Slots → List Pair
slot_pairs m items = flat_map (pair_of m (λ (at : BlockRef). bytes_at m at)) items

-- ---- lists in which no first text stands twice

absent : (list : List Pair) (k : List ℕ) → is_some (get (map_of_pairs list) k) ≡ false → second_of k list ≡ None
absent list k h = none (second_of k list) (sym (ap is_some (get_pairs list k)) ∙ h)
  where
    none : (o : Option (List ℕ)) → is_some o ≡ false → o ≡ None
    none None h = refl
    none (Some x) h = cc

len_put : (p : Pair) (rest : List Pair) (b : Bool) → is_some (get (map_of_pairs rest) p.0) ≡ b → len (map_of_pairs (p ∷ rest)) ≡ cond b (len (map_of_pairs rest)) (len (map_of_pairs rest) + 1)
len_put p rest b is = len-insert nat_list_cmp_total (map_of_pairs rest) p.0 p.1 ∙ ap (λ t. cond t (len (map_of_pairs rest)) (len (map_of_pairs rest) + 1)) is

len_most : (list : List Pair) → len (map_of_pairs list) ≤ length list
len_most [] = omega (arith, map_len [] tt)
len_most (p ∷ rest) = elim (cases_Bool (is_some (get (map_of_pairs rest) p.0))) [
  | inl there ↦ omega (arith, len_put p rest true there, len_most rest)
  | inr lacks ↦ omega (arith, len_put p rest false lacks, len_most rest)
]

-- as many first texts as pairs
once_of_len : (list : List Pair) → len (map_of_pairs list) ≡ length list → IsOnce list
once_of_len [] h = tt
once_of_len (p ∷ rest) h = elim (cases_Bool (is_some (get (map_of_pairs rest) p.0))) [
  | inl there ↦ absurd (omega (arith, h, len_put p rest true there, len_most rest))
  | inr lacks ↦ (absent rest p.0 lacks, once_of_len rest (omega (arith, h, len_put p rest false lacks)))
]

list_found : (list : List Pair) (k v : List ℕ) → second_of k list ≡ Some v → (i : ℕ) × (slice_get list i ≡ Some (k, v))
list_found [] k v h = absurd (some_none None v h refl)
list_found (p ∷ rest) k v h = elim (cases_Bool (tied k p.0)) [
  | inl t ↦ (let same : p.1 ≡ v = (let e : Some p.1 ≡ Some v = sym (cond-true _ _ _ t) ∙ h in cc) in (0, (λ j. Some (sym (tied_true k p.0 t) j, same j))))
  | inr f ↦ (let q = list_found rest k v (sym (cond-false _ _ _ f) ∙ h) in (suc q.0, q.1))
]

list_there : (list : List Pair) (i : ℕ) (k v : List ℕ) → slice_get list i ≡ Some (k, v) → second_of k list ≡ None → ⊥
list_there [] i k v is none = cc
list_there (p ∷ rest) zero k v is none =
    let key : p.0 ≡ k = (let e : Some p ≡ Some (k, v) = is in ap (λ (o : Option Pair). (unwrap_or o (k, v)).0) e) in
    some_none (second_of k (p ∷ rest)) p.1 (cond-true _ _ _ (tied_same k p.0 (sym key))) none
list_there (p ∷ rest) (suc i) k v is none = elim (cases_Bool (tied k p.0)) [
  | inl t ↦ some_none (second_of k (p ∷ rest)) p.1 (cond-true _ _ _ t) none
  | inr f ↦ list_there rest i k v is (sym (cond-false _ _ _ f) ∙ none)
]

list_has : (list : List Pair) (i : ℕ) (k v : List ℕ) → IsOnce list → slice_get list i ≡ Some (k, v) → second_of k list ≡ Some v
list_has [] i k v once is = cc
list_has (p ∷ rest) zero k v once is =
    let same : p ≡ (k, v) = (let e : Some p ≡ Some (k, v) = is in ap (λ (o : Option Pair). unwrap_or o (k, v)) e) in
    cond-true _ _ _ (tied_same k p.0 (sym (ap (λ (q : Pair). q.0) same))) ∙ ap (λ (q : Pair). Some q.1) same
list_has (p ∷ rest) (suc i) k v once is = elim (cases_Bool (tied k p.0)) [
  | inl t ↦ absurd (list_there rest i k v is (ap (λ q. second_of q rest) (tied_true k p.0 t) ∙ once.0))
  | inr f ↦ cond-false _ _ _ f ∙ list_has rest i k v once.1 is
]

list_apart : (list : List Pair) (i j : ℕ) (k v w : List ℕ) → IsOnce list → slice_get list i ≡ Some (k, v) → slice_get list j ≡ Some (k, w) → i ≡ j
list_apart [] i j k v w once h g = cc
list_apart (p ∷ rest) zero zero k v w once h g = refl
list_apart (p ∷ rest) zero (suc j) k v w once h g =
    let key : p.0 ≡ k = (let e : Some p ≡ Some (k, v) = h in ap (λ (o : Option Pair). (unwrap_or o (k, v)).0) e) in
    absurd (list_there rest j k w g (ap (λ q. second_of q rest) (sym key) ∙ once.0))
list_apart (p ∷ rest) (suc i) zero k v w once h g =
    let key : p.0 ≡ k = (let e : Some p ≡ Some (k, w) = g in ap (λ (o : Option Pair). (unwrap_or o (k, w)).0) e) in
    absurd (list_there rest i k v h (ap (λ q. second_of q rest) (sym key) ∙ once.0))
list_apart (p ∷ rest) (suc i) (suc j) k v w once h g = ap suc (list_apart rest i j k v w once.1 h g)

-- ---- the elements of a dictionary

pub table_listed : (m : Blocks) (t : FieldTable) → fields_in m t ≡ map_of_pairs (entries_in m t)
unfolding map_of
table_listed m t = refl

pub slots_len : (m : Blocks) (items : Slots) → length (slot_pairs m items) ≡ count_by is_some items
slots_len m [] = refl
slots_len m (None ∷ items) = omega (arith, slots_len m items, count_cons (is_some {T = Element BlockRef}) None items)
slots_len m (Some e ∷ items) = omega (arith, slots_len m items, count_cons is_some (Some e) items)

pub table_once : (m : Blocks) (t : FieldTable) → Keyed m t → IsOnce (entries_in m t)
table_once m t k = once_of_len (entries_in m t) (ap len (sym (table_listed m t)) ∙ len_map_of m (λ v. bytes_at m v) t k ∙ sym (slots_len m t.items))

-- the fields of a hash are those of its list, in which none stands twice
pub listed_is : (m : Blocks) (limits : Limits) (seed : ℕ) (body : Body) → IsBody m limits seed body → (fields_of m body ≡ map_of_pairs (listed_of m body)) × IsOnce (listed_of m body)
listed_is m limits seed Empty is = (refl, tt)
listed_is m limits seed (Pack p) is = (refl, is.once)
listed_is m limits seed (Table t) is = (table_listed m t, table_once m t is.keyed)

entry_some : (m : Blocks) (o : Option (Element BlockRef)) (k v : List ℕ) → entry_at m o ≡ Some (k, v) → (e : Element BlockRef) × (o ≡ Some e) × (bytes_at m e.key ≡ k) × (bytes_at m e.value ≡ v)
entry_some m None k v h = cc
entry_some m (Some e) k v h = (e, refl, ap (λ (o : Option Pair). (unwrap_or o (k, v)).0) h, ap (λ (o : Option Pair). (unwrap_or o (k, v)).1) h)

pub entry_there : (m : Blocks) (o : Option (Element BlockRef)) → IsSome (entry_at m o) → IsSome o
entry_there m None h = h
entry_there m (Some e) h = refl

module _ (m : Blocks) (t : FieldTable) (k : Keyed m t) where
  key_live : (at : ℕ) (e : Element BlockRef) (x : List ℕ) → item t at ≡ Some e → bytes_at m e.key ≡ x → m e.key ≡ Some x
  key_live at e x there is = live_bytes m e.key (k.live at e there) ∙ ap Some is

  table_found : (x v : List ℕ) → get (fields_in m t) x ≡ Some v → (at : ℕ) × (entry_at m (item t at) ≡ Some (x, v))
  table_found x v h =
      let p = map_of_has m (λ a. bytes_at m a) t x v k h in
      (p.0.at, ap (entry_at m) p.0.found ∙ (λ j. Some (ap (λ o. unwrap_or o []) p.0.bytes j, p.1 j)))

  table_has : (at : ℕ) (x v : List ℕ) → entry_at m (item t at) ≡ Some (x, v) → get (fields_in m t) x ≡ Some v
  table_has at x v h = let p = entry_some m (item t at) x v h in map_of_stands m (λ a. bytes_at m a) t at p.0 x k p.1 (key_live at p.0 x p.1 p.2) ∙ ap Some p.3

  table_apart : (at other : ℕ) (x v w : List ℕ) → entry_at m (item t at) ≡ Some (x, v) → entry_at m (item t other) ≡ Some (x, w) → at ≡ other
  table_apart at other x v w h l =
      let p = entry_some m (item t at) x v h in
      let q = entry_some m (item t other) x w l in
      k.apart at other p.0 q.0 p.1 q.1 (key_live at p.0 x p.1 p.2 ∙ sym (key_live other q.0 x q.1 q.2))

-- ---- item numbers

module _ (m : Blocks) (limits : Limits) (seed : ℕ) where
  found_in : (body : Body) → IsBody m limits seed body → (k v : List ℕ) → get (fields_of m body) k ≡ Some v → (at : ℕ) × (pair_in m body at ≡ Some (k, v))
  found_in Empty is k v h = list_found [] k v (sym (get_pairs [] k) ∙ h)
  found_in (Pack p) is k v h = list_found (listed_of m (Pack p)) k v (sym (get_pairs (listed_of m (Pack p)) k) ∙ h)
  found_in (Table t) is k v h = table_found m t is.keyed k v h

  has_in : (body : Body) → IsBody m limits seed body → (at : ℕ) (k v : List ℕ) → pair_in m body at ≡ Some (k, v) → get (fields_of m body) k ≡ Some v
  has_in Empty is at k v h = absurd cc
  has_in (Pack p) is at k v h = get_pairs (listed_of m (Pack p)) k ∙ list_has (listed_of m (Pack p)) at k v is.once h
  has_in (Table t) is at k v h = table_has m t is.keyed at k v h

  apart_in : (body : Body) → IsBody m limits seed body → (at other : ℕ) (k v w : List ℕ) → pair_in m body at ≡ Some (k, v) → pair_in m body other ≡ Some (k, w) → at ≡ other
  apart_in Empty is at other k v w h g = absurd cc
  apart_in (Pack p) is at other k v w h g = list_apart (listed_of m (Pack p)) at other k v w is.once h g
  apart_in (Table t) is at other k v w h g = table_apart m t is.keyed at other k v w h g

  pub below_in : (body : Body) → IsBody m limits seed body → (at : ℕ) → IsSome (pair_in m body at) → at < top_in body
  below_in Empty is at h = cc
  below_in (Pack p) is at h = omega (arith, get_below (listed_of m (Pack p)) at h, is.counted)
  below_in (Table t) is at h = is.keyed.placed.below at (entry_there m (item t at) h)

pub arranged : (m : Blocks) (f : Fields) → IsFields m f → IsArranged m f
arranged m f sound = record {
  listed_are = sym (listed_is m f.limits f.seed f.body sound.body).0;
  once = (listed_is m f.limits f.seed f.body sound.body).1;
  found = found_in m f.limits f.seed f.body sound.body;
  pair = has_in m f.limits f.seed f.body sound.body;
  apart = apart_in m f.limits f.seed f.body sound.body;
  below = below_in m f.limits f.seed f.body sound.body;
}

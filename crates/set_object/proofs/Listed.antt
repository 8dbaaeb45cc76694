-- The members of a set in its own order, and their item numbers.
use Rattle.std.proofs.Common.{◌≡◌, ℕ, zero, suc, ◌<◌, true, List, [], ◌∷◌, map, length, Option, Some, None, IsSome, is_some, unwrap_or, flat_map, slice_get, count_by, refl, sym, ap, ◌∙◌}
use Rattle.std.proofs.Common.{arith, inl, inr}
use Rattle.std.specs.Ordering.{nat_cmp}
use Rattle.std.specs.Cmp.Lexicographic.{slice_cmp}
use Rattle.std.specs.FinMap.{from_entries, len}
use Rattle.std.proofs.lemmas.Bool.{cases_Bool, cond-false}
use Rattle.std.proofs.lemmas.List.{length-map}
use Rattle.blocks.specs.Blocks.{Blocks, bytes_at}
use Rattle.blocks.proofs.Sums.{count_cons}
use Rattle.collection_walk.proofs.Lists.{get_below}
use Rattle.object_codec.specs.declared.limits.Limits.{Limits}
use Rattle.rehash_dict.specs.Table.{Element, item}
use Rattle.rehash_dict.specs.MapOf.{pair_of, content, map_of}
use Rattle.rehash_dict.specs.Keyed.{Keyed}
use Rattle.rehash_dict.proofs.Keys.{live_bytes}
use Rattle.rehash_dict.proofs.MapOf.{len_map_of, map_of_stands, map_of_lacks, cases_key}
use Rattle.int_text.specs.Decimal.{canonical}
use Rattle.intset.specs.Intset.{numbers_of}
use Rattle.set_object.specs.declared.members.Body.{Body}
use Rattle.set_object.specs.declared.members.Body.TheVariants.{Empty, Numbers, Pack, Table}
use Rattle.set_object.specs.declared.members.Members.{Members}
use Rattle.set_object.specs.Strings.{set_of, has, IsOnce}
use Rattle.set_object.specs.Members.{IsMembers, IsBody, members_of, listed_of, key_in}
use Rattle.set_object.specs.Items.{IsArranged, key_at, member_in, top_in}
use Rattle.set_object.proofs.Sets.{two_ways, tied, tied_true, among, has_among, set_nil, once_nil, once_parts, stands_get}
use Rattle.set_object.proofs.Texts.{numbers_once}
use Rattle.set_object.proofs.Hashing.{Dict}

abbrev pub Slots : Type 0
Slots = List (Option (Element (Unit {0})))

-- ---- the keys of a dictionary

pairs : (m : Blocks) (items : Slots) → flat_map (pair_of m (λ (v : Unit {0}). v)) items ≡ map (λ (x : List ℕ). (x, tt)) (flat_map (key_in m) items)
pairs m [] = refl
pairs m (None ∷ items) = pairs m items
pairs m (Some e ∷ items) = ap (λ xs. (bytes_at m e.key, tt) ∷ xs) (pairs m items)

pub table_listed : (m : Blocks) (t : Dict) → content m t ≡ set_of (flat_map (key_in m) t.items)
unfolding map_of set_of
table_listed m t = ap (from_entries {R = slice_cmp nat_cmp}) (pairs m t.items)

pub keys_len : (m : Blocks) (items : Slots) → length (flat_map (key_in m) items) ≡ count_by is_some items
keys_len m [] = refl
keys_len m (None ∷ items) = omega (arith, keys_len m items, count_cons (is_some {T = Element (Unit {0})}) None items)
keys_len m (Some e ∷ items) = omega (arith, keys_len m items, count_cons is_some (Some e) items)

pub table_once : (m : Blocks) (t : Dict) → Keyed m t → IsOnce (flat_map (key_in m) t.items)
table_once m t k = ap len (sym (table_listed m t)) ∙ len_map_of m (λ v. v) t k ∙ sym (keys_len m t.items)

-- the members of a set are those of its list, in which none stands twice
pub listed_is : (m : Blocks) (limits : Limits) (seed : ℕ) (body : Body) → IsBody m limits seed body → (members_of m body ≡ set_of (listed_of m body)) × IsOnce (listed_of m body)
listed_is m limits seed Empty is = (sym set_nil, once_nil)
listed_is m limits seed (Numbers p) is = (refl, numbers_once (numbers_of (bytes_at m p.at)) is.intset.rising is.fit)
listed_is m limits seed (Pack p) is = (refl, is.once)
listed_is m limits seed (Table t) is =
    (table_listed m t, table_once m t is.keyed)

-- ---- item numbers

index_of : (xs : List (List ℕ)) (x : List ℕ) → among x xs ≡ true → (i : ℕ) × (slice_get xs i ≡ Some x)
index_of [] x h = absurd cc
index_of (y ∷ xs) x h = elim (cases_Bool (tied x y)) [
  | inl t ↦ (0, ap Some (sym (tied_true x y t)))
  | inr f ↦ (let p = index_of xs x (sym (cond-false _ _ _ f) ∙ h) in (suc p.0, p.1))
]

pub once_apart : (xs : List (List ℕ)) (i j : ℕ) (x : List ℕ) → IsOnce xs → slice_get xs i ≡ Some x → slice_get xs j ≡ Some x → i ≡ j
once_apart [] i j x once h k = cc
once_apart (y ∷ xs) zero zero x once h k = refl
once_apart (y ∷ xs) zero (suc j) x once h k =
    let same : y ≡ x = cc in
    absurd (two_ways (among y xs) (ap (λ q. among q xs) same ∙ stands_get xs j x k) (once_parts y xs once).0)
once_apart (y ∷ xs) (suc i) zero x once h k =
    let same : y ≡ x = cc in
    absurd (two_ways (among y xs) (ap (λ q. among q xs) same ∙ stands_get xs i x h) (once_parts y xs once).0)
once_apart (y ∷ xs) (suc i) (suc j) x once h k = ap suc (once_apart xs i j x (once_parts y xs once).1 h k)

key_some : (m : Blocks) (o : Option (Element (Unit {0}))) (x : List ℕ) → key_at m o ≡ Some x → (e : Element (Unit {0})) × (o ≡ Some e) × (bytes_at m e.key ≡ x)
key_some m None x h = cc
key_some m (Some e) x h = (e, refl, (let is : bytes_at m e.key ≡ x = cc in is))

key_entry : (m : Blocks) (o : Option (Element (Unit {0}))) → IsSome (key_at m o) → IsSome o
key_entry m None h = h
key_entry m (Some e) h = refl

has_list : (xs : List (List ℕ)) (at : ℕ) (x : List ℕ) → slice_get xs at ≡ Some x → has (set_of xs) x ≡ true
has_list xs at x h = has_among xs x ∙ stands_get xs at x h

list_has : (xs : List (List ℕ)) (x : List ℕ) → has (set_of xs) x ≡ true → (i : ℕ) × (slice_get xs i ≡ Some x)
list_has xs x h = index_of xs x (sym (has_among xs x) ∙ h)

read : (o : Option (List ℕ)) (x : List ℕ) → o ≡ Some x → unwrap_or o [] ≡ x
read o x is = ap (λ q. unwrap_or q []) is

module _ (m : Blocks) (t : Dict) (k : Keyed m t) where
  key_live : (at : ℕ) (e : Element (Unit {0})) (x : List ℕ) → item t at ≡ Some e → bytes_at m e.key ≡ x → m e.key ≡ Some x
  key_live at e x there is = live_bytes m e.key (k.live at e there) ∙ ap Some is

  table_found : (x : List ℕ) → has (content m t) x ≡ true → (at : ℕ) × (key_at m (item t at) ≡ Some x)
  table_found x h = elim (cases_key m t x k) [
    | inl s ↦ (s.at, ap (key_at m) s.found ∙ ap Some (read (m s.element.key) x s.bytes))
    | inr lacks ↦ absurd (two_ways (has (content m t) x) h (ap is_some (map_of_lacks m (λ (v : Unit {0}). v) t x k lacks)))
  ]

  table_has : (at : ℕ) (x : List ℕ) → key_at m (item t at) ≡ Some x → has (content m t) x ≡ true
  table_has at x h = let p = key_some m (item t at) x h in ap is_some (map_of_stands m (λ (v : Unit {0}). v) t at p.0 x k p.1 (key_live at p.0 x p.1 p.2))

  table_apart : (at other : ℕ) (x : List ℕ) → key_at m (item t at) ≡ Some x → key_at m (item t other) ≡ Some x → at ≡ other
  table_apart at other x h l =
      let p = key_some m (item t at) x h in
      let q = key_some m (item t other) x l in
      k.apart at other p.0 q.0 p.1 q.1 (key_live at p.0 x p.1 p.2 ∙ sym (key_live other q.0 x q.1 q.2))

module _ (m : Blocks) (limits : Limits) (seed : ℕ) where
  found_in : (body : Body) → IsBody m limits seed body → (x : List ℕ) → has (members_of m body) x ≡ true → (at : ℕ) × (member_in m body at ≡ Some x)
  found_in Empty is x h = list_has [] x (ap (λ s. has s x) set_nil ∙ h)
  found_in (Numbers p) is x h = list_has (listed_of m (Numbers p)) x h
  found_in (Pack p) is x h = list_has (listed_of m (Pack p)) x h
  found_in (Table t) is x h = table_found m t is.keyed x h

  has_in : (body : Body) → IsBody m limits seed body → (at : ℕ) (x : List ℕ) → member_in m body at ≡ Some x → has (members_of m body) x ≡ true
  has_in Empty is at x h = absurd cc
  has_in (Numbers p) is at x h = has_list (listed_of m (Numbers p)) at x h
  has_in (Pack p) is at x h = has_list (listed_of m (Pack p)) at x h
  has_in (Table t) is at x h = table_has m t is.keyed at x h

  apart_in : (body : Body) → IsBody m limits seed body → (at other : ℕ) (x : List ℕ) → member_in m body at ≡ Some x → member_in m body other ≡ Some x → at ≡ other
  apart_in Empty is at other x h k = absurd cc
  apart_in (Numbers p) is at other x h k = once_apart (listed_of m (Numbers p)) at other x (listed_is m limits seed (Numbers p) is).1 h k
  apart_in (Pack p) is at other x h k = once_apart (listed_of m (Pack p)) at other x is.once h k
  apart_in (Table t) is at other x h k = table_apart m t is.keyed at other x h k

  pub below_in : (body : Body) → IsBody m limits seed body → (at : ℕ) → IsSome (member_in m body at) → at < top_in body
  below_in Empty is at h = cc
  below_in (Numbers p) is at h = let ns = numbers_of (bytes_at m p.at) in omega (arith, get_below (listed_of m (Numbers p)) at h, length-map ns canonical, is.counted)
  below_in (Pack p) is at h = omega (arith, get_below (listed_of m (Pack p)) at h, is.counted)
  below_in (Table t) is at h = is.keyed.placed.below at (key_entry m (item t at) h)

pub arranged : (m : Blocks) (s : Members) → IsMembers m s → IsArranged m s
arranged m s sound = record {
  listed_are = sym (listed_is m s.limits s.seed s.body sound.body).0;
  once = (listed_is m s.limits s.seed s.body sound.body).1;
  found = found_in m s.limits s.seed s.body sound.body;
  member = has_in m s.limits s.seed s.body sound.body;
  apart = apart_in m s.limits s.seed s.body sound.body;
  below = below_in m s.limits s.seed s.body sound.body;
}

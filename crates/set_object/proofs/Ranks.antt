-- How many elements of a dictionary stand before an item number, and which member each is in the dictionary's order.
use Rattle.std.proofs.Common.{map, ◌≡◌, ℕ, zero, suc, ◌+◌, ◌<◌, [], ◌∷◌, length, Option, Some, None, IsSome, flat_map, slice_index_or, refl, sym, ap, ◌∙◌, subst, arith}
use Rattle.std.specs.Prelude.{MatchOption}
use Rattle.blocks.specs.Blocks.{Blocks, bytes_at}
use Rattle.std.specs.FinMap.{len}
use Rattle.std.proofs.lemmas.List.{length-map}
use Rattle.int_text.specs.Decimal.{canonical}
use Rattle.intset.specs.Intset.{numbers_of}
use Rattle.listpack.specs.Pack.{IsAt, texts}
use Rattle.object_codec.specs.declared.limits.Limits.{Limits}
use Rattle.rehash_dict.specs.Table.{Element, at_item, item}
use Rattle.set_object.specs.declared.members.Packed.{Packed}
use Rattle.set_object.specs.declared.members.Body.{Body}
use Rattle.set_object.specs.declared.members.Body.TheVariants.{Empty, Numbers, Pack, Table}
use Rattle.set_object.specs.Members.{IsBody, members_of, listed_of, key_in}
use Rattle.set_object.specs.Items.{IsPlace, member_in, key_at}
use Rattle.collection_walk.proofs.Ranks.{IsNext, rank, rank_none, rank_some, rank_below, first_stands, next_stands}
use Rattle.collection_walk.proofs.Lists.{some_of, get_below, get_is}
use Rattle.set_object.proofs.Hashing.{Dict}
use Rattle.set_object.proofs.Listed.{Slots, keys_len, listed_is}

-- the member at an index of the order is that of the element at its item number
pub key_there : (m : Blocks) (items : Slots) (at : ℕ) (e : Element (Unit {0})) → at_item items at ≡ Some e → slice_index_or (flat_map (key_in m) items) (rank items at) [] ≡ bytes_at m e.key
key_there m [] at e h = cc
key_there m (None ∷ items) zero e h = cc
key_there m (Some d ∷ items) zero e h = (let same : d ≡ e = cc in ap (λ (q : Element (Unit {0})). bytes_at m q.key) same)
key_there m (None ∷ items) (suc at) e h = ap (λ i. slice_index_or (flat_map (key_in m) items) i []) (rank_none items at) ∙ key_there m items at e h
key_there m (Some d ∷ items) (suc at) e h = ap (λ i. slice_index_or (bytes_at m d.key ∷ flat_map (key_in m) items) i []) (rank_some d items at) ∙ key_there m items at e h

-- ---- places

-- a place is that of a member
pub place_inside : (m : Blocks) (limits : Limits) (seed : ℕ) (body : Body) (i place : ℕ) → IsBody m limits seed body → IsPlace m body i place → i < length (listed_of m body)
place_inside m limits seed Empty i place is at = absurd at
place_inside m limits seed (Numbers p) i place is at = omega (arith, at.1, length-map (numbers_of (bytes_at m p.at)) canonical)
place_inside m limits seed (Pack p) i place is at = at.0
place_inside m limits seed (Table t) i place is at = (let e = some_of (item t place) at.0 in omega (arith, at.1, rank_below t.items place e.0 e.1, keys_len m t.items))

pub listed_len : (m : Blocks) (limits : Limits) (seed : ℕ) (body : Body) → IsBody m limits seed body → len (members_of m body) ≡ length (listed_of m body)
listed_len m limits seed body is = ap len (listed_is m limits seed body is).0 ∙ (listed_is m limits seed body is).1

module _ (m : Blocks) (b : Body) (t : Dict) (is : b ≡ Table t) where
  pub first_in : (o : Option ℕ) → IsNext t 0 o → MatchOption o (length (listed_of m b) ≡ 0) (λ place. IsPlace m b 0 place)
  first_in o h = subst (λ c. MatchOption o (length (listed_of m c) ≡ 0) (λ place. IsPlace m c 0 place)) (sym is) (first_stands t (length (listed_of m (Table t))) o (keys_len m t.items) h)

  pub behind_in : (place i : ℕ) (o : Option ℕ) → IsNext t (place + 1) o → IsPlace m b i place → MatchOption o (i + 1 ≡ length (listed_of m b)) (λ to. IsPlace m b (i + 1) to)
  behind_in place i o h at =
      subst (λ c. MatchOption o (i + 1 ≡ length (listed_of m c)) (λ to. IsPlace m c (i + 1) to)) (sym is)
      (next_stands t (length (listed_of m (Table t))) place i o (keys_len m t.items) h (subst (λ c. IsPlace m c i place) is at))

  pub table_element : (i place : ℕ) (e : Element (Unit {0})) → item t place ≡ Some e → IsPlace m b i place → bytes_at m e.key ≡ slice_index_or (listed_of m b) i []
  table_element i place e there at =
      sym (key_there m t.items place e there) ∙ ap (λ n. slice_index_or (flat_map (key_in m) t.items) n []) (subst (λ c. IsPlace m c i place) is at).1
      ∙ ap (λ c. slice_index_or (listed_of m c) i []) (sym is)

-- the place of an item number, and its member
abbrev pub Spot : Blocks → Body → ℕ → ℕ → Type 0
Spot m b item place = (x : ℕ) × IsPlace m b x place × (member_in m b item ≡ Some (slice_index_or (listed_of m b) x []))

pub pack_spot : (m : Blocks) (b : Body) (p : Packed) (at place : ℕ) → b ≡ Pack p → IsAt (bytes_at m p.at) at place → IsSome (member_in m b at) → Spot m b at place
pack_spot m b p at place is h some =
    subst (λ c. Spot m c at place) (sym is) (at, h, get_is (texts (bytes_at m p.at)) at [] (subst (λ c. IsSome (member_in m c at)) is some))

pub other_spot : (m : Blocks) (b : Body) (at : ℕ) → ((p : Packed) → b ≡ Pack p → ⊥) → IsSome (member_in m b at) → Spot m b at at
other_spot m Empty at other some = cc
other_spot m (Numbers p) at other some =
    let list = map canonical (numbers_of (bytes_at m p.at)) in
    (at, (refl, omega (arith, get_below list at some, length-map (numbers_of (bytes_at m p.at)) canonical)), get_is list at [] some)
other_spot m (Pack p) at other some = absurd (other p refl)
other_spot m (Table t) at other some =
    let e = some_of (item t at) (entry (item t at) some) in
    (rank t.items at, (entry (item t at) some, refl), ap (key_at m) e.1 ∙ ap Some (sym (key_there m t.items at e.0 e.1)))
  where
    entry : (o : Option (Element (Unit {0}))) → IsSome (key_at m o) → IsSome o
    entry None h = h
    entry (Some e) h = refl

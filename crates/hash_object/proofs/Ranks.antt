-- How many elements of a dictionary stand before an item number, and which pair each is in the dictionary's order.
use Rattle.std.proofs.Common.{◌≡◌, ℕ, zero, suc, ◌+◌, ◌<◌, [], ◌∷◌, length, Option, Some, None, slice_index_or, sym, ap, ◌∙◌, subst, arith}
use Rattle.std.specs.Prelude.{MatchOption}
use Rattle.blocks.specs.declared.BlockRef.{BlockRef}
use Rattle.blocks.specs.Blocks.{Blocks, bytes_at}
use Rattle.std.specs.FinMap.{len}
use Rattle.object_codec.specs.declared.limits.Limits.{Limits}
use Rattle.pack_pairs.proofs.Maps.{map_len}
use Rattle.pack_pairs.proofs.Packs.{pair_inside}
use Rattle.pack_pairs.specs.Pairs.{Pair}
use Rattle.rehash_dict.specs.Table.{Element, at_item, item}
use Rattle.collection_walk.proofs.Ranks.{IsNext, rank, rank_none, rank_some, rank_below, first_stands, next_stands}
use Rattle.collection_walk.proofs.Lists.{some_of}
use Rattle.hash_object.specs.declared.fields.Body.{Body}
use Rattle.hash_object.specs.declared.fields.Body.TheVariants.{Empty, Pack, Table}
use Rattle.hash_object.specs.Hashed.{FieldTable, entries_in}
use Rattle.hash_object.specs.Fields.{IsBody, fields_of, listed_of}
use Rattle.hash_object.specs.Items.{IsPlace}
use Rattle.hash_object.proofs.Listed.{Slots, slot_pairs, slots_len, listed_is}

-- what an element gives
abbrev pub pair_of_element : Blocks → Element BlockRef → Pair
pair_of_element m e = (bytes_at m e.key, bytes_at m e.value)

-- the pair at an index of the order is that of the element at its item number
pub pair_there : (m : Blocks) (items : Slots) (at : ℕ) (e : Element BlockRef) → at_item items at ≡ Some e → slice_index_or (slot_pairs m items) (rank items at) ([], []) ≡ pair_of_element m e
pair_there m [] at e h = cc
pair_there m (None ∷ items) zero e h = cc
pair_there m (Some d ∷ items) zero e h = (let same : d ≡ e = cc in ap (pair_of_element m) same)
pair_there m (None ∷ items) (suc at) e h = ap (λ i. slice_index_or (slot_pairs m items) i ([], [])) (rank_none items at) ∙ pair_there m items at e h
pair_there m (Some d ∷ items) (suc at) e h = ap (λ i. slice_index_or (pair_of_element m d ∷ slot_pairs m items) i ([], [])) (rank_some d items at) ∙ pair_there m items at e h

-- ---- places

-- a place is that of a pair
pub place_inside : (m : Blocks) (limits : Limits) (seed : ℕ) (body : Body) (i place : ℕ) → IsBody m limits seed body → IsPlace m body i place → i < length (listed_of m body)
place_inside m limits seed Empty i place is at = absurd at
place_inside m limits seed (Pack p) i place is at = pair_inside (bytes_at m p.at) i place is.pack at
place_inside m limits seed (Table t) i place is at = (let e = some_of (item t place) at.0 in omega (arith, at.1, rank_below t.items place e.0 e.1, slots_len m t.items))

pub listed_len : (m : Blocks) (limits : Limits) (seed : ℕ) (body : Body) → IsBody m limits seed body → len (fields_of m body) ≡ length (listed_of m body)
listed_len m limits seed body is = ap len (listed_is m limits seed body is).0 ∙ map_len (listed_of m body) (listed_is m limits seed body is).1

module _ (m : Blocks) (b : Body) (t : FieldTable) (is : b ≡ Table t) where
  pub first_in : (o : Option ℕ) → IsNext t 0 o → MatchOption o (length (listed_of m b) ≡ 0) (λ place. IsPlace m b 0 place)
  first_in o h = subst (λ c. MatchOption o (length (listed_of m c) ≡ 0) (λ place. IsPlace m c 0 place)) (sym is) (first_stands t (length (listed_of m (Table t))) o (slots_len m t.items) h)

  pub behind_in : (place i : ℕ) (o : Option ℕ) → IsNext t (place + 1) o → IsPlace m b i place → MatchOption o (i + 1 ≡ length (listed_of m b)) (λ to. IsPlace m b (i + 1) to)
  behind_in place i o h at =
      subst (λ c. MatchOption o (i + 1 ≡ length (listed_of m c)) (λ to. IsPlace m c (i + 1) to)) (sym is)
      (next_stands t (length (listed_of m (Table t))) place i o (slots_len m t.items) h (subst (λ c. IsPlace m c i place) is at))

  pub table_pair : (i place : ℕ) (e : Element BlockRef) → item t place ≡ Some e → IsPlace m b i place → pair_of_element m e ≡ slice_index_or (listed_of m b) i ([], [])
  table_pair i place e there at =
      sym (pair_there m t.items place e there) ∙ ap (λ n. slice_index_or (entries_in m t) n ([], [])) (subst (λ c. IsPlace m c i place) is at).1
      ∙ ap (λ c. slice_index_or (listed_of m c) i ([], [])) (sym is)

-- The map that a dictionary means over the blocks of a store, and the references that it names.
use Rattle.std.specs.Prelude.{ℕ, List, [], ◌∷◌, Option, Some, None}
use Rattle.std.specs.List.{flat_map}
use Rattle.std.specs.Ordering.{nat_cmp}
use Rattle.std.specs.Cmp.Lexicographic.{slice_cmp}
use Rattle.std.specs.FinMap.{FinMap, from_entries}
use Rattle.blocks.specs.declared.BlockRef.{BlockRef}
use Rattle.blocks.specs.Blocks.{Blocks, bytes_at}
use Rattle.rehash_dict.specs.Table.{Element, Table, item}

module _ {V : Type 0} where
  -- an element's key bytes, beside what its value means
  abbrev pub pair_of : {X : Type 0} → Blocks → (V → X) → Option (Element V) → List (List ℕ × X)
  pair_of blocks meaning None = []
  pair_of blocks meaning (Some e) = (bytes_at blocks e.key, meaning e.value) ∷ []

  -- from the key bytes of each element to what its value means
  unfoldable pub map_of : {X : Type 0} → Blocks → (V → X) → Table V → FinMap (slice_cmp nat_cmp) X
  map_of blocks meaning t = from_entries (flat_map (pair_of blocks meaning) t.items)

  -- from the key bytes of each element to its value
  abbrev pub content : Blocks → Table V → FinMap (slice_cmp nat_cmp) V
  content blocks t = map_of blocks (λ v. v) t

  -- the value of an element
  abbrev pub value_of : Option (Element V) → Option V
  value_of None = None
  value_of (Some e) = Some e.value

  -- the value at an item number that was found
  abbrev pub value_found : Table V → Option ℕ → Option V
  value_found t None = None
  value_found t (Some at) = value_of (item t at)

  -- the value of an element that was taken out
  abbrev pub value_taken : Option (BlockRef × V) → Option V
  value_taken None = None
  value_taken (Some pair) = Some pair.1

  -- an element's key block, beside the blocks that its value owns
  abbrev pub own_of : (V → List BlockRef) → Option (Element V) → List BlockRef
  own_of own None = []
  own_of own (Some e) = e.key ∷ own e.value

  -- the key block of each element, beside the blocks that its value owns
  abbrev pub refs_of : (V → List BlockRef) → Table V → List BlockRef
  refs_of own t = flat_map (own_of own) t.items

  -- the key block of each element
  abbrev pub key_refs : Table V → List BlockRef
  key_refs t = refs_of (λ _. []) t

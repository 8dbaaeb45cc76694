-- The blocks that the databases own, as tree nodes and others.
use Rattle.std.specs.Prelude.{◌≡◌, ℕ, ◌+◌, ◌≤◌, ◌<◌, Bool, false, IsTrue, List, [], ◌∷◌, map, Option, Some, None, IsSome, is_some, refl}
use Rattle.std.specs.List.{flat_map}
use Rattle.std.proofs.Common.{arith, ap, ◌∙◌, sym, get_or}
use Rattle.blocks.specs.declared.BlockRef.{BlockRef}
use Rattle.blocks.specs.Blocks.{Blocks}
use Rattle.blocks.specs.Slabs.{Heap, used_of, IsSoundHeap}
use Rattle.blocks.proofs.Sums.{count_cons}
use Rattle.held.specs.declared.databases.Base.{Base}
use Rattle.held.specs.Databases.{owned}
use Rattle.held.specs.Table.{Table, Element, refs}
use Rattle.keyspace.specs.Databases.{Bases}
use Rattle.keyspace.specs.Sound.{Sound}
use Rattle.keyspace.specs.Values.{value_refs}
use Rattle.keyspace.specs.declared.value.Value.{Value}
use Rattle.keyspace.specs.declared.value.Value.TheVariants as kinds
use Rattle.rax_packed.specs.Maps.{refs_of, entries_of}
use Rattle.rax_packed.specs.Trees.{Entry}
use Rattle.rehash_dict.specs.MapOf.{own_of}
use Rattle.slab_counts.specs.Counts.{in_class, count_in}
use Rattle.slab_counts.proofs.Counted.{counted_used}
use Rattle.stream_object.specs.Parts.{all_refs}
use Rattle.defrag_rax.specs.Owned.{tree_refs, other_refs, element_nodes, table_nodes, tree_nodes, other_blocks}
use Rattle.defrag_rax.proofs.Tallies.{count_append}

module _ (h : Heap) (class : ℕ) (m : Blocks) where
  value_split : (v : Value) → count_in h class (value_refs m v) ≡ count_in h class (tree_refs m v) + count_in h class (other_refs m v)
  unfolding all_refs
  value_split (kinds.Text text) = omega arith
  value_split (kinds.List b) = omega arith
  value_split (kinds.Set b) = omega arith
  value_split (kinds.Hash b) = omega arith
  value_split (kinds.Zset b) = omega arith
  value_split (kinds.Stream b) = count_append h class (refs_of m b.value.tree) (map (λ (e : Entry). e.value) (entries_of m b.value.tree))

  element_split : (o : Option (Element Value))
      → count_in h class (own_of (value_refs m) o) ≡ count_in h class (element_nodes m o) + count_in h class (own_of (other_refs m) o)
  element_split None = omega arith
  element_split (Some e) =
      omega (arith, count_cons (in_class h class) e.key (value_refs m e.value), count_cons (in_class h class) e.key (other_refs m e.value), value_split e.value)

  -- what many things own is split as that of each
  all_split : {X : Type 0} (f g k : X → List BlockRef) → ((x : X) → count_in h class (f x) ≡ count_in h class (g x) + count_in h class (k x)) → (xs : List X)
      → count_in h class (flat_map f xs) ≡ count_in h class (flat_map g xs) + count_in h class (flat_map k xs)
  all_split f g k each [] = omega arith
  all_split f g k each (x ∷ xs) =
      omega (
        arith,
        count_append h class (f x) (flat_map f xs),
        count_append h class (g x) (flat_map g xs),
        count_append h class (k x) (flat_map k xs),
        each x,
        all_split f g k each xs,
      )

  pub databases_split : (bases : Bases)
      → count_in h class (owned (value_refs m) bases) ≡ count_in h class (tree_nodes bases m) + count_in h class (other_blocks bases m)
  databases_split bases =
      all_split (λ (base : Base Value). refs (value_refs m) base.keys) (λ (base : Base Value). table_nodes m base.keys) (λ (base : Base Value). refs (other_refs m) base.keys)
      (λ (base : Base Value). all_split (own_of (value_refs m)) (element_nodes m) (own_of (other_refs m)) element_split base.keys.items) bases.bases

-- tree nodes and other blocks are all that the slabs of a class hold
pub used_split : (m : Blocks) (h : Heap) (bases : Bases) → IsSoundHeap m h → Sound bases m → (class : ℕ)
    → count_in h class (tree_nodes bases m) + count_in h class (other_blocks bases m) ≡ used_of h class
used_split m h bases heap sound class =
    sym (databases_split h class m bases) ∙ counted_used m h (owned (value_refs m) bases) heap (λ r. omega (arith, sound.owns r)) class

-- behind the item numbers that were given no element stands
pub nothing_behind : (table : Table Value) (top n : ℕ) → top ≤ n → ((at : ℕ) → IsSome (get_or table.items at None) → at < top)
    → (j : ℕ) → n ≤ j → get_or table.items j None ≡ None
nothing_behind table top n upto above j le = by_item (get_or table.items j None) refl
  where
    by_item : (o : Option (Element Value)) → get_or table.items j None ≡ o → get_or table.items j None ≡ None
    by_item None is = is
    by_item (Some e) is = absurd (let lt = above j (ap is_some is) in omega (arith, upto, le, lt))

-- where an item number has no element, there is none
pub nothing_there : (o : Option (Element Value)) (b : Bool) → (IsSome o → IsTrue b) → b ≡ false → o ≡ None
nothing_there None b found is = refl
nothing_there (Some e) b found is = absurd (let holds = found refl in cc)

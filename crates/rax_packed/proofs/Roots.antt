-- The map of no key, and that of one.
use Rattle.std.proofs.Common.{◌≡◌, ◌∙◌, ℕ, Bool, cond, List, [], ◌∷◌, length, Some, None, refl, sym, ap, subst}
use Rattle.std.specs.List.{filter, find}
use Rattle.std.specs.Option.{option_map}
use Rattle.std.specs.Ordering.{is_eq, is_ne}
use Rattle.std.specs.declared.cmp.Ordering.{Ordering}
use Rattle.std.specs.declared.cmp.Ordering.TheVariants.{Less, Equal, Greater}
use Rattle.blocks.specs.declared.BlockRef.{BlockRef}
use Rattle.blocks.specs.Blocks.{Blocks, Changes, Owned, with_block}
use Rattle.blocks.proofs.Refs.{with_block_same}
use Rattle.blocks.proofs.Change.{changes_owned}
use Rattle.rax_packed.specs.Nodes.{Leaf, IsRef, spelled}
use Rattle.rax_packed.specs.Trees.{Entry, entries_at, refs_at}
use Rattle.rax_packed.specs.Packed.{order, value_at, with_entry, without, nearest}
use Rattle.rax_packed.proofs.Ends.{nearest_empty}
use Rattle.rax_packed.specs.declared.tree.PackedTree.{PackedTree}
use Rattle.rax_packed.specs.Maps.{root_entries, root_refs, entries_of, refs_of, IsRoot, IsSound}
use Rattle.rax_packed.proofs.Frames.{LeafAt, leaf_tree, leaf_node, leaf_entries, leaf_refs}
use Rattle.rax_packed.proofs.Looks.{empty_value}
use Rattle.rax_packed.proofs.Splits.{one_entry}

-- a map without a root
pub rootless_entries : (b : Blocks) (tree : PackedTree) → tree.root ≡ None → entries_of b tree ≡ []
rootless_entries b tree is = ap (root_entries b) is

pub rootless_refs : (b : Blocks) (tree : PackedTree) → tree.root ≡ None → refs_of b tree ≡ []
rootless_refs b tree is = ap (root_refs b) is

pub rootless_value : (b : Blocks) (tree : PackedTree) (key : List ℕ) → tree.root ≡ None → value_at (entries_of b tree) key ≡ None
rootless_value b tree key is = ap (λ es. value_at es key) (rootless_entries b tree is) ∙ empty_value key

-- taking out a key that is missing
pub without_missing : (key : List ℕ) (es : List Entry) → value_at es key ≡ None → without es key ≡ es
unfolding value_at without
without_missing key [] h = refl
without_missing key (e ∷ es) h = step (order e.key key) h (without_missing key es)
  where
    step : (o : Ordering) → option_map (λ x. x.value) (cond (is_eq o) (Some e) (find (λ x. is_eq (order x.key key)) es)) ≡ None
        → (option_map (λ x. x.value) (find (λ x. is_eq (order x.key key)) es) ≡ None → filter (λ x. is_ne (order x.key key)) es ≡ es)
        → cond (is_ne o) (e ∷ filter (λ x. is_ne (order x.key key)) es) (filter (λ x. is_ne (order x.key key)) es) ≡ e ∷ es
    step Less h rest = ap (λ xs. e ∷ xs) (rest h)
    step Greater h rest = ap (λ xs. e ∷ xs) (rest h)
    step Equal h rest = cc

empty_without : (key : List ℕ) → without [] key ≡ []
unfolding without
empty_without key = refl

pub rootless_without : (b : Blocks) (tree : PackedTree) (key : List ℕ) → tree.root ≡ None → entries_of b tree ≡ without (entries_of b tree) key
rootless_without b tree key is = rootless_entries b tree is ∙ sym (ap (λ es. without es key) (rootless_entries b tree is) ∙ empty_without key)

-- the first leaf of a map
module _ (b after : Blocks) (tree : PackedTree) (leaf : BlockRef) (key : List ℕ) (value : BlockRef) (bytes : List ℕ) (is : tree.root ≡ None)
    (placed : after ≡ with_block b leaf (Some bytes)) (spelled_is : bytes ≡ spelled (Leaf key value)) (long : length key ≡ 16) (fits : IsRef value)
    (changes : Changes b after [] (leaf ∷ [])) where
  node : LeafAt 16 after leaf key value
  node = record { bytes = bytes; block = ap (λ m. m leaf) placed ∙ with_block_same b leaf (Some bytes); holds = spelled_is; fits = (long, fits) }

  pub first_refs : refs_at 16 after leaf ≡ leaf ∷ []
  first_refs = leaf_refs 16 after leaf key value (leaf_node 16 16 after leaf key value node)

  pub first_sound : (now : PackedTree) → now.root ≡ Some leaf → now.nodes ≡ 1 → now.keys ≡ 1 → IsSound after now
  first_sound now root nodes keys = record {
    stands = subst (λ r. IsRoot after r) (sym root) (leaf_tree 16 16 after leaf key value node);
    owned = subst (λ xs. Owned xs after) (sym (ap (root_refs after) root ∙ first_refs)) (changes_owned b after [] (leaf ∷ []) changes);
    nodes_are = nodes ∙ sym (ap length (ap (root_refs after) root ∙ first_refs));
    keys_are = keys ∙ sym (ap length (ap (root_entries after) root ∙ leaf_entries 16 after leaf key value (leaf_node 16 16 after leaf key value node)));
  }

  pub first_entries : entries_at 16 after leaf ≡ with_entry (entries_of b tree) key value
  first_entries = leaf_entries 16 after leaf key value (leaf_node 16 16 after leaf key value node) ∙ sym (ap (λ es. with_entry es key value) (rootless_entries b tree is) ∙ one_entry key value)

  pub first_changes : Changes b after (refs_of b tree) (refs_at 16 after leaf)
  first_changes = subst (λ xs. Changes b after xs (refs_at 16 after leaf)) (sym (rootless_refs b tree is)) (subst (Changes b after []) (sym first_refs) changes)

pub rootless_nearest : (up : Bool) (b : Blocks) (tree : PackedTree) (key : List ℕ) → tree.root ≡ None → option_map (λ e. e.key) (nearest up (entries_of b tree) key) ≡ None
rootless_nearest up b tree key is = ap (λ es. option_map (λ e. e.key) (nearest up es key)) (rootless_entries b tree is) ∙ ap (option_map (λ e. e.key)) (nearest_empty up key)

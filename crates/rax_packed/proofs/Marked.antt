-- The marks of a tree's nodes name the references of the tree, in their order.
use Rattle.std.proofs.Common.{◌≡◌, ◌∙◌, ℕ, zero, suc, ◌++◌, List, [], ◌∷◌, length, map, Option, Some, None, refl, sym, ap}
use Rattle.std.specs.List.{flat_map}
use Rattle.std.proofs.lemmas.List.{length-map, map-append}
use Rattle.blocks.specs.declared.BlockRef.{BlockRef}
use Rattle.blocks.specs.Blocks.{Blocks}
use Rattle.rax_packed.specs.declared.tree.PackedTree.{PackedTree}
use Rattle.rax_packed.specs.Nodes.{Node, Leaf, Inner, Link}
use Rattle.rax_packed.specs.Trees.{Mark, refs, marks, refs_in, marks_in, mark_under, node_at}
use Rattle.rax_packed.specs.Maps.{refs_of, marks_of, root_marks, root_refs}

-- what a mark names
abbrev pub at_of : Mark → BlockRef
at_of m = m.at

named_under : (begin : List ℕ) (ms : List Mark) → map at_of (map (mark_under begin) ms) ≡ map at_of ms
named_under begin [] = refl
named_under begin (m ∷ ms) = ap (λ rs. m.at ∷ rs) (named_under begin ms)

named_links : (levels : ℕ) (blocks : Blocks) → ((at : BlockRef) → map at_of (marks levels blocks at) ≡ refs levels blocks at) → (prefix : List ℕ) (links : List Link)
    → map at_of (flat_map (λ l. map (mark_under (prefix ++ l.edge ∷ [])) (marks levels blocks l.to)) links) ≡ flat_map (λ l. refs levels blocks l.to) links
named_links levels blocks each prefix [] = refl
named_links levels blocks each prefix (l ∷ links) =
    map-append at_of (map (mark_under (prefix ++ l.edge ∷ [])) (marks levels blocks l.to)) (flat_map (λ k. map (mark_under (prefix ++ k.edge ∷ [])) (marks levels blocks k.to)) links)
    ∙ (λ i. (named_under (prefix ++ l.edge ∷ []) (marks levels blocks l.to) ∙ each l.to) i ++ named_links levels blocks each prefix links i)

named_in : (levels : ℕ) (blocks : Blocks) → ((at : BlockRef) → map at_of (marks levels blocks at) ≡ refs levels blocks at) → (node : Node)
    → map at_of (marks_in (marks levels blocks) node) ≡ refs_in (refs levels blocks) node
named_in levels blocks each (Leaf prefix value) = refl
named_in levels blocks each (Inner prefix links) = named_links levels blocks each prefix links

pub named : (levels : ℕ) (blocks : Blocks) (at : BlockRef) → map at_of (marks levels blocks at) ≡ refs levels blocks at
unfolding refs marks
named zero blocks at = refl
named (suc levels) blocks at = ap (λ rs. at ∷ rs) (named_in levels blocks (named levels blocks) (node_at blocks at))

pub marks_name : (blocks : Blocks) (tree : PackedTree) → map (λ (m : Mark). m.at) (marks_of blocks tree) ≡ refs_of blocks tree
marks_name blocks tree = by_root tree.root
  where
    by_root : (root : Option BlockRef) → map at_of (root_marks blocks root) ≡ root_refs blocks root
    by_root None = refl
    by_root (Some at) = named 17 blocks at

-- whatever else is told of each mark, there are as many of them as references
pub tree_marked : (number : Mark → ℕ) (blocks : Blocks) (tree : PackedTree) → length (map number (marks_of blocks tree)) ≡ length (refs_of blocks tree)
tree_marked number blocks tree = length-map (marks_of blocks tree) number ∙ sym (length-map (marks_of blocks tree) at_of) ∙ ap length (marks_name blocks tree)

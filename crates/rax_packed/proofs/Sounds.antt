-- Maps whose tree has become another, with as many nodes and keys as they count.
use Rattle.std.proofs.Common.{◌≡◌, ◌∙◌, ℕ, suc, ◌+◌, List, [], ◌∷◌, length, map, Some, None, refl, sym, ap, subst, arith}
use Rattle.std.proofs.lemmas.List.{length-map}
use Rattle.blocks.specs.declared.BlockRef.{BlockRef}
use Rattle.blocks.specs.Blocks.{Blocks, live, Owned}
use Rattle.blocks.specs.Slabs.{Heap}
use Rattle.blocks.proofs.Change.{changes_owned}
use Rattle.rax_packed.specs.declared.tree.PackedTree.{PackedTree}
use Rattle.rax_packed.specs.Copies.{IsCopy}
use Rattle.rax_packed.specs.Maps.{root_entries, root_refs, entries_of, refs_of, IsRoot, IsSound}
use Rattle.rax_packed.specs.Packed.{value_at, with_entry, without}
use Rattle.rax_packed.specs.Paths.{ArePassed}
use Rattle.rax_packed.specs.Trees.{Entry, Mark, entries_at, marks_at, refs_at, Becomes}
use Rattle.rax_packed.proofs.Marked.{at_of, named}
use Rattle.rax_packed.proofs.Onces.{with_missing}
use Rattle.rax_packed.proofs.Tallies.{many}

-- a map of a root counts its nodes and keys
pub nodes_at : (b : Blocks) (tree : PackedTree) (at : BlockRef) → IsSound b tree → tree.root ≡ Some at → tree.nodes ≡ length (refs_at 16 b at)
nodes_at b tree at s root = s.nodes_are ∙ ap (λ r. length (root_refs b r)) root

pub keys_at : (b : Blocks) (tree : PackedTree) (at : BlockRef) → IsSound b tree → tree.root ≡ Some at → tree.keys ≡ length (entries_at 16 b at)
keys_at b tree at s root = s.keys_are ∙ ap (λ r. length (root_entries b r)) root

owned_at : (b : Blocks) (tree : PackedTree) (at : BlockRef) → IsSound b tree → tree.root ≡ Some at → Owned (refs_at 16 b at) b
owned_at b tree at s root = subst (λ xs. Owned xs b) (ap (root_refs b) root) s.owned

-- a tree that has become another is a map that counts as many nodes and keys
sound_root : (b after : Blocks) (now : PackedTree) (old new : BlockRef) (es : List Entry) → Becomes 16 b after old new es → now.root ≡ Some new → now.nodes ≡ length (refs_at 16 after new)
    → now.keys ≡ length es → IsSound after now
sound_root b after now old new es becomes root nodes keys = record {
  stands = subst (λ r. IsRoot after r) (sym root) becomes.tree;
  owned = subst (λ xs. Owned xs after) (sym (ap (root_refs after) root)) (changes_owned b after (refs_at 16 b old) (refs_at 16 after new) becomes.changes);
  nodes_are = nodes ∙ sym (ap (λ r. length (root_refs after r)) root);
  keys_are = keys ∙ sym (ap length (ap (root_entries after) root ∙ becomes.entries_are));
}

-- another value at a key that stands
pub set_sound : (b after : Blocks) (tree : PackedTree) (at : BlockRef) (key : List ℕ) (value : BlockRef) → IsSound b tree → tree.root ≡ Some at
    → Becomes 16 b after at at (with_entry (entries_at 16 b at) key value)
    → ((r : BlockRef) → live after r ≡ live b r) → map (λ (e : Entry). e.key) (with_entry (entries_at 16 b at) key value) ≡ map (λ (e : Entry). e.key) (entries_at 16 b at) → IsSound after tree
set_sound b after tree at key value s root becomes same keys =
    let many_keys : length (with_entry (entries_at 16 b at) key value) ≡ length (entries_at 16 b at) = sym (length-map (with_entry (entries_at 16 b at) key value) (λ (e : Entry). e.key))
    ∙ ap length keys ∙ length-map (entries_at 16 b at) (λ (e : Entry). e.key) in
    let sum = many b after (refs_at 16 b at) (refs_at 16 after at) [] [] (owned_at b tree at s root) becomes.changes (λ r. omega (arith, same r)) in
    sound_root b after tree at at (with_entry (entries_at 16 b at) key value) becomes root (omega (arith, sum, nodes_at b tree at s root)) (keys_at b tree at s root ∙ sym many_keys)

-- one key more
pub grown_sound : (b after : Blocks) (tree now : PackedTree) (at new : BlockRef) (key : List ℕ) (value : BlockRef) (more : ℕ) → IsSound b tree → tree.root ≡ Some at
    → value_at (entries_at 16 b at) key ≡ None
    → Becomes 16 b after at new (with_entry (entries_at 16 b at) key value) → length (refs_at 16 after new) ≡ length (refs_at 16 b at) + more → now.root ≡ Some new
    → now.nodes ≡ tree.nodes + more → now.keys ≡ tree.keys + 1 → IsSound after now
grown_sound b after tree now at new key value more s root missing becomes sum now_root nodes keys =
    sound_root b after now at new (with_entry (entries_at 16 b at) key value) becomes now_root (omega (arith, sum, nodes, nodes_at b tree at s root))
    (omega (arith, keys, keys_at b tree at s root, with_missing (entries_at 16 b at) key value missing))

-- one key fewer
pub kept_sound : (b after : Blocks) (tree now : PackedTree) (at : BlockRef) (key : List ℕ) (fewer : ℕ) → IsSound b tree → tree.root ≡ Some at
    → Becomes 16 b after at at (without (entries_at 16 b at) key)
    → length (refs_at 16 b at) ≡ length (refs_at 16 after at) + fewer → suc (length (without (entries_at 16 b at) key)) ≡ length (entries_at 16 b at) → now.root ≡ Some at
    → now.nodes + fewer ≡ tree.nodes → now.keys + 1 ≡ tree.keys → IsSound after now
kept_sound b after tree now at key fewer s root becomes sum once now_root nodes keys =
    sound_root b after now at at (without (entries_at 16 b at) key) becomes now_root (omega (arith, sum, nodes, nodes_at b tree at s root)) (omega (arith, keys, keys_at b tree at s root, once))

-- no key left
pub gone_sound : (b after : Blocks) (tree now : PackedTree) (at : BlockRef) (key : List ℕ) (fewer : ℕ) → IsSound b tree → tree.root ≡ Some at → without (entries_at 16 b at) key ≡ []
    → length (refs_at 16 b at) ≡ fewer → suc (length (without (entries_at 16 b at) key)) ≡ length (entries_at 16 b at) → now.root ≡ None → now.nodes + fewer ≡ tree.nodes
    → now.keys + 1 ≡ tree.keys → IsSound after now
gone_sound b after tree now at key fewer s root none sum once now_root nodes keys =
    let no_refs : refs_of after now ≡ [] = ap (root_refs after) now_root in
    let no_entries : entries_of after now ≡ [] = ap (root_entries after) now_root in
    record {
      stands = subst (λ r. IsRoot after r) (sym now_root) tt;
      owned = subst (λ xs. Owned xs after) (sym no_refs) (λ r. omega arith);
      nodes_are = omega (arith, sum, nodes, nodes_at b tree at s root, ap length no_refs);
      keys_are = omega (arith, keys, keys_at b tree at s root, once, ap length none, ap length no_entries);
    }

-- as many nodes as before were passed
passed_many : (h k : Heap) (key : List ℕ) (xs us : List Mark) → ArePassed h k key xs us → length us ≡ length xs
passed_many h k key [] [] p = refl
passed_many h k key [] (u ∷ us) p = absurd p
passed_many h k key (x ∷ xs) [] p = absurd p
passed_many h k key (x ∷ xs) (u ∷ us) p = ap suc (passed_many h k key xs us p.1)

-- a tree has as many references as marks
marks_many : (b : Blocks) (at : BlockRef) → length (marks_at 16 b at) ≡ length (refs_at 16 b at)
marks_many b at = sym (length-map (marks_at 16 b at) at_of) ∙ ap length (named 17 b at)

-- nodes that have moved
pub passed_sound : (b after : Blocks) (h k : Heap) (tree now : PackedTree) (at new : BlockRef) (key : List ℕ) → IsSound b tree → tree.root ≡ Some at → Becomes 16 b after at new (entries_at 16 b at)
    → ArePassed h k key (marks_at 16 b at) (marks_at 16 after new) → now.root ≡ Some new → now.nodes ≡ tree.nodes → now.keys ≡ tree.keys → IsSound after now
passed_sound b after h k tree now at new key s root becomes passed now_root nodes keys =
    sound_root b after now at new (entries_at 16 b at) becomes now_root
    (omega (arith, nodes, nodes_at b tree at s root, passed_many h k key (marks_at 16 b at) (marks_at 16 after new) passed, marks_many b at, marks_many after new)) (keys ∙ keys_at b tree at s root)

-- a copy
pub copy_counts : (b after : Blocks) (tree now : PackedTree) (at new : BlockRef) → IsSound b tree → tree.root ≡ Some at → IsCopy 16 b after at new → now.root ≡ Some new
    → now.nodes ≡ tree.nodes → now.keys ≡ tree.keys → IsSound after now
copy_counts b after tree now at new s root copy now_root nodes keys = record {
  stands = subst (λ r. IsRoot after r) (sym now_root) copy.tree;
  owned = subst (λ xs. Owned xs after) (sym (ap (root_refs after) now_root)) (changes_owned b after [] (refs_at 16 after new) copy.changes);
  nodes_are = nodes ∙ nodes_at b tree at s root ∙ sym copy.as_many ∙ sym (ap (λ r. length (root_refs after r)) now_root);
  keys_are = keys ∙ keys_at b tree at s root ∙ sym (ap length (ap (root_entries after) now_root ∙ copy.entries_are));
}

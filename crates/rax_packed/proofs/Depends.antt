-- Maps over blocks that others change, and the keys of their nodes.
use Rattle.std.proofs.Common.{◌≡◌, ◌∙◌, ℕ, zero, suc, ◌-◌, ◌<◌, cond, is_some, List, [], ◌∷◌, ◌++◌, length, map, Option, Some, None, IsSome, refl, sym, ap, subst, inl, inr, arith}
use Rattle.std.proofs.Common.{append_assoc, Bool, true, false}
use Rattle.std.specs.List.{AllByRecursion, find}
use Rattle.std.specs.Option.{option_map}
use Rattle.std.specs.Ordering.{is_eq}
use Rattle.blocks.specs.declared.BlockRef.{BlockRef}
use Rattle.blocks.specs.Blocks.{Blocks, live, IsIn, Changes, Owned}
use Rattle.blocks.proofs.Times.{times-append}
use Rattle.blocks.proofs.Change.{cases_in, live_once, owned_others}
use Rattle.rax_packed.specs.declared.tree.PackedTree.{PackedTree}
use Rattle.rax_packed.specs.Nodes.{Link, Node, Leaf, Inner, Fits, Rising, node_of}
use Rattle.rax_packed.specs.Trees.{Entry, Mark, node_at, mark_under, entries, entries_in, refs, first_key, marks, marks_in, Below, IsTree}
use Rattle.rax_packed.specs.Packed.{order, value_at}
use Rattle.rax_packed.specs.Maps.{root_entries, root_refs, root_marks, refs_of, IsRoot}
use Rattle.rax_packed.specs.Laws.{Stays, PackedLaws}
use Rattle.rax_packed.proofs.Keys.{order_same}
use Rattle.rax_packed.proofs.Costs.{tree_keys, tree_few, tree_blocks}
use Rattle.rax_packed.proofs.Entries.{all-append, value_at_link, key_under, below_links}
use Rattle.rax_packed.proofs.Frames.{marks_below, block_node, same_tree}
use Rattle.rax_packed.proofs.Looks.{rising_split}
use Rattle.rax_packed.proofs.Marked.{marks_name}
use Rattle.rax_packed.proofs.Paths.{tree_some}

pub still_owned : (a b : Blocks) (refs : List BlockRef) → ((r : BlockRef) → IsIn r refs → b r ≡ a r) → Owned refs a → Owned refs b
still_owned a b refs same own r = elim (cases_in r refs) [
  | inl out ↦ omega (arith, out)
  | inr isin ↦ (let still : live b r ≡ live a r = ap (λ x. cond (is_some x) 1 0) (same r isin) in omega (arith, own r, still))
]

record RootStays (a b : Blocks) (root : Option BlockRef) : Type 0 where
  pub entries_are : root_entries b root ≡ root_entries a root
  pub refs_are : root_refs b root ≡ root_refs a root
  pub marks_are : root_marks b root ≡ root_marks a root
  pub tree : IsRoot a root → IsRoot b root

root_stays : (a b : Blocks) (root : Option BlockRef) → ((r : BlockRef) → IsIn r (root_refs a root) → b r ≡ a r) → RootStays a b root
root_stays a b None same = record { entries_are = refl; refs_are = refl; marks_are = refl; tree = λ t. t }
root_stays a b (Some at) same =
    let all = same_tree 17 a b at same in
    record { entries_are = all.entries_are; refs_are = all.refs_are; marks_are = all.marks_are; tree = λ t. all.tree 16 t }

pub stays : (a b : Blocks) (tree : PackedTree) → ((r : BlockRef) → IsIn r (refs_of a tree) → b r ≡ a r) → Stays a b tree
stays a b tree same =
    let all = root_stays a b tree.root same in
    record {
      entries_are = all.entries_are;
      refs_are = all.refs_are;
      marks_are = all.marks_are;
      sound = λ s. record {
        stands = all.tree s.stands;
        owned = subst (λ xs. Owned xs b) (sym all.refs_are) (still_owned a b (refs_of a tree) same s.owned);
        nodes_are = s.nodes_are ∙ sym (ap length all.refs_are);
        keys_are = s.keys_are ∙ sym (ap length all.entries_are);
      };
    }

beside : (a b : Blocks) (refs old new : List BlockRef) → Owned (refs ++ old) a → Changes a b old new → (r : BlockRef) → IsIn r refs → b r ≡ a r
beside a b refs old new own p r isin =
    owned_others a b old new (refs ++ old) own p r (omega (arith, isin, times-append r refs old)) (omega (arith, isin, own r, times-append r refs old, live_once a r))

-- the first key of entries is one of theirs
first_stands : (es : List Entry) → 0 < length es → IsSome (value_at es (first_key es))
unfolding value_at
first_stands [] h = absurd (omega arith)
first_stands (e ∷ es) h = by_test (is_eq (order e.key e.key)) (ap is_eq (order_same e.key))
  where
    by_test : (t : Bool) → t ≡ true → IsSome (option_map (λ x. x.value) (cond t (Some e) (find (λ x. is_eq (order x.key e.key)) es)))
    by_test true h = refl
    by_test false h = cc

-- the keys of marks stand among entries
abbrev Stand : List Entry → List Mark → Type 0
Stand es ms = AllByRecursion (λ m. IsSome (value_at es m.least)) ms

module _ (levels left : ℕ) (b : Blocks) (prefix : List ℕ) (each : (to : BlockRef) → IsTree levels left b to → Stand (entries levels b to) (marks levels b to)) where
  -- below one link among others
  stand_under : (before after : List Link) (l : Link) (ms : List Mark) → Rising (before ++ l ∷ after) → Stand (entries levels b l.to) ms
      → Stand (below_links prefix (entries levels b) (before ++ l ∷ after)) (map (mark_under (prefix ++ l.edge ∷ [])) ms)
  stand_under before after l [] rising h = tt
  stand_under before after l (m ∷ ms) rising h =
      let sides = rising_split before after l rising in
      let all = below_links prefix (entries levels b) (before ++ l ∷ after) in (
        subst (λ o. IsSome o) (sym (ap (value_at all) (sym (key_under prefix m.least l.edge)) ∙ value_at_link prefix m.least (entries levels b) before after l sides.0 sides.1)) h.0,
        stand_under before after l ms rising h.1,
      )

  stand_links : (before links : List Link) → Rising (before ++ links) → AllByRecursion (λ l. IsTree levels left b l.to) links
      → Stand (below_links prefix (entries levels b) (before ++ links)) (marks_below prefix (marks levels b) links)
  stand_links before [] rising trees = tt
  stand_links before (l ∷ links) rising trees =
      let all = below_links prefix (entries levels b) (before ++ l ∷ links) in
      let moved : (before ++ l ∷ []) ++ links ≡ before ++ l ∷ links = append_assoc before (l ∷ []) links in
      all-append (λ m. IsSome (value_at all m.least)) (map (mark_under (prefix ++ l.edge ∷ [])) (marks levels b l.to)) (marks_below prefix (marks levels b) links)
      (stand_under before links l (marks levels b l.to) rising (each l.to trees.0))
      (subst (λ ls. Stand (below_links prefix (entries levels b) ls) (marks_below prefix (marks levels b) links)) moved
      (stand_links (before ++ l ∷ []) links (subst Rising (sym moved) rising) trees.1))

stand_node : (levels rest : ℕ) (b : Blocks) (node : Node) → ((left : ℕ) (to : BlockRef) → IsTree levels left b to → Stand (entries levels b to) (marks levels b to)) → Fits rest node
    → Below (λ left to. IsTree levels left b to) rest node → Stand (entries_in (entries levels b) node) (marks_in (marks levels b) node)
stand_node levels rest b (Leaf prefix value) each fits below = tt
stand_node levels rest b (Inner prefix links) each fits below = stand_links levels (rest - suc (length prefix)) b prefix (λ to t. each (rest - suc (length prefix)) to t) [] links fits.rising below

pub marks_stand : (levels rest : ℕ) (b : Blocks) (at : BlockRef) → IsTree levels rest b at → Stand (entries levels b at) (marks levels b at)
unfolding entries marks IsTree
marks_stand zero rest b at t = absurd t
marks_stand (suc levels) rest b at t =
    let told : node_of t.0 ≡ node_at b at = sym (block_node levels rest b at t.0 t.1) in (
      first_stands (entries_in (entries levels b) (node_at b at)) (tree_some (suc levels) rest b at t),
      stand_node levels rest b (node_at b at) (λ left to u. marks_stand levels left b to u) (subst (Fits rest) told t.2.fits) (subst (Below (λ left to. IsTree levels left b to) rest) told t.3),
    )

root_stand : (a : Blocks) (root : Option BlockRef) → IsRoot a root → Stand (root_entries a root) (root_marks a root)
root_stand a None t = tt
root_stand a (Some at) t = marks_stand 17 16 a at t

pub packed_laws_hold : PackedLaws
packed_laws_hold = record {
  own = stays;
  others = λ a b tree old new own p. stays a b tree (beside a b (refs_of a tree) old new own p);
  least = λ a tree s. root_stand a tree.root s.stands;
  named = marks_name;
  keys = tree_keys;
  few = tree_few;
  blocks = tree_blocks;
}

-- A tree is the same where its blocks are, and what a node with links makes of the trees below.
use Rattle.std.proofs.Common.{◌≡◌, ◌∙◌, ℕ, zero, suc, ◌-◌, ◌<◌, List, [], ◌∷◌, ◌++◌, length, map, Some, unwrap_or, refl, sym, ap, subst, arith}
use Rattle.std.specs.List.{flat_map, AllByRecursion}
use Rattle.std.proofs.lemmas.Bool.{cond-true}
use Rattle.blocks.specs.declared.BlockRef.{BlockRef}
use Rattle.blocks.specs.Blocks.{Blocks, IsIn, bytes_at}
use Rattle.blocks.proofs.Times.{times-append}
use Rattle.blocks.proofs.Refs.{ref_eq_refl}
use Rattle.blocks.proofs.Change.{one}
use Rattle.rax_packed.specs.Nodes.{Link, Node, Leaf, Inner, HoldsNode, IsInner, IsRef, Fits, node_of}
use Rattle.rax_packed.specs.Trees.{Mark, node_at, under, mark_under, entries_in, entries, refs_in, refs, first_key, marks_in, marks, Below, IsTree}
use Rattle.rax_packed.proofs.Spellings.{node_told, node_held}
use Rattle.rax_packed.proofs.Entries.{below_links}

-- the references of the trees that links name, one link after the other
abbrev pub refs_below : ℕ → Blocks → List Link → List BlockRef
refs_below levels blocks links = flat_map (λ l. refs levels blocks l.to) links

-- the marks of the nodes below links, behind the prefix and each link's edge
abbrev pub marks_below : List ℕ → (BlockRef → List Mark) → List Link → List Mark
marks_below prefix marks links = flat_map (λ l. map (mark_under (prefix ++ l.edge ∷ [])) (marks l.to)) links

-- the tree at the reference is the same in both stores
pub record SameTree (levels : ℕ) (b after : Blocks) (at : BlockRef) : Type 0 where
  pub entries_are : entries levels after at ≡ entries levels b at
  pub refs_are : refs levels after at ≡ refs levels b at
  pub marks_are : marks levels after at ≡ marks levels b at
  pub tree : (rest : ℕ) → IsTree levels rest b at → IsTree levels rest after at

-- the trees below links are the same in both stores
pub record SameBelow (levels : ℕ) (b after : Blocks) (links : List Link) : Type 0 where
  pub entries_are : (prefix : List ℕ) → below_links prefix (entries levels after) links ≡ below_links prefix (entries levels b) links
  pub refs_are : refs_below levels after links ≡ refs_below levels b links
  pub marks_are : (prefix : List ℕ) → marks_below prefix (marks levels after) links ≡ marks_below prefix (marks levels b) links
  pub trees : (rest : ℕ) → AllByRecursion (λ l. IsTree levels rest b l.to) links → AllByRecursion (λ l. IsTree levels rest after l.to) links

-- lists that are joined of equal parts are equal
joined : {A : Type 0} (xs ys us vs : List A) → xs ≡ ys → us ≡ vs → xs ++ us ≡ ys ++ vs
joined xs ys us vs p q = ap (λ z. z ++ us) p ∙ ap (λ z. ys ++ z) q

-- where each tree depends on the blocks of its references alone, so do the trees below links
below_from : (levels : ℕ) (b after : Blocks) → ((to : BlockRef) → ((r : BlockRef) → IsIn r (refs levels b to) → after r ≡ b r) → SameTree levels b after to)
    → (links : List Link) → ((r : BlockRef) → IsIn r (refs_below levels b links) → after r ≡ b r) → SameBelow levels b after links
below_from levels b after each [] h = record { entries_are = λ prefix. refl; refs_are = refl; marks_are = λ prefix. refl; trees = λ rest t. t }
below_from levels b after each (l ∷ links) h =
    let first = each l.to (λ r is. h r (omega (arith, times-append r (refs levels b l.to) (refs_below levels b links), is))) in
    let rest = below_from levels b after each links (λ r is. h r (omega (arith, times-append r (refs levels b l.to) (refs_below levels b links), is))) in
    record {
      entries_are = λ prefix. joined (map (under (prefix ++ l.edge ∷ [])) (entries levels after l.to)) (map (under (prefix ++ l.edge ∷ [])) (entries levels b l.to))
          (below_links prefix (entries levels after) links) (below_links prefix (entries levels b) links) (ap (map (under (prefix ++ l.edge ∷ []))) first.entries_are)
          (rest.entries_are prefix);
      refs_are = joined (refs levels after l.to) (refs levels b l.to) (refs_below levels after links) (refs_below levels b links) first.refs_are rest.refs_are;
      marks_are = λ prefix. joined (map (mark_under (prefix ++ l.edge ∷ [])) (marks levels after l.to)) (map (mark_under (prefix ++ l.edge ∷ [])) (marks levels b l.to))
          (marks_below prefix (marks levels after) links) (marks_below prefix (marks levels b) links) (ap (map (mark_under (prefix ++ l.edge ∷ []))) first.marks_are)
          (rest.marks_are prefix);
      trees = λ n t. (first.tree n t.0, rest.trees n t.1);
    }

-- the same node over the same trees
pub in_node : (levels : ℕ) (b after : Blocks) (node : Node) → ((to : BlockRef) → ((r : BlockRef) → IsIn r (refs levels b to) → after r ≡ b r) → SameTree levels b after to)
    → ((r : BlockRef) → IsIn r (refs_in (refs levels b) node) → after r ≡ b r)
    → (entries_in (entries levels after) node ≡ entries_in (entries levels b) node) × (refs_in (refs levels after) node ≡ refs_in (refs levels b) node)
    × (marks_in (marks levels after) node ≡ marks_in (marks levels b) node)
    × ((rest : ℕ) → Below (λ left to. IsTree levels left b to) rest node → Below (λ left to. IsTree levels left after to) rest node)
in_node levels b after (Leaf prefix value) each h = (refl, refl, refl, λ rest t. t)
in_node levels b after (Inner prefix links) each h =
    let same = below_from levels b after each links h in
    (same.entries_are prefix, same.refs_are, same.marks_are prefix, λ rest t. same.trees (rest - suc (length prefix)) t)

-- a tree is the same in both stores where the blocks of its references are
pub same_tree : (levels : ℕ) (b after : Blocks) (at : BlockRef) → ((r : BlockRef) → IsIn r (refs levels b at) → after r ≡ b r) → SameTree levels b after at
unfolding entries refs marks IsTree
same_tree zero b after at h = record { entries_are = refl; refs_are = refl; marks_are = refl; tree = λ rest t. t }
same_tree (suc levels) b after at h =
    let here : one at at ≡ 1 = cond-true _ _ _ (ref_eq_refl at) in
    let block : after at ≡ b at = h at (omega arith) in
    let node : node_at after at ≡ node_at b at = ap (λ o. node_of (unwrap_or o [])) block in
    let parts = in_node levels b after (node_at b at) (λ to k. same_tree levels b after to k) (λ r is. h r (omega (arith, is))) in
    let all : entries (suc levels) after at ≡ entries (suc levels) b at = ap (entries_in (entries levels after)) node ∙ parts.0 in
    let below : marks_in (marks levels after) (node_at after at) ≡ marks_in (marks levels b) (node_at b at) = ap (marks_in (marks levels after)) node ∙ parts.2 in
    record {
      entries_are = all;
      refs_are = ap (λ n. at ∷ refs_in (refs levels after) n) node ∙ ap (λ xs. at ∷ xs) parts.1;
      marks_are = ap (λ es. record { least = first_key es; at = at } ∷ marks_in (marks levels after) (node_at after at)) all
          ∙ ap (λ ms. record { least = first_key (entries (suc levels) b at); at = at } ∷ ms) below;
      tree = λ rest t. (let told : bytes_at b at ≡ t.0 = ap (λ o. unwrap_or o []) t.1 in (
        t.0,
        block ∙ t.1,
        t.2,
        subst (Below (λ left to. IsTree levels left after to) rest) (ap node_of told)
            (parts.3 rest (subst (Below (λ left to. IsTree levels left b to) rest) (sym (ap node_of told)) t.3)),
      ));
    }

-- the trees below links are the same in both stores where the blocks of their references are
pub same_below : (levels : ℕ) (b after : Blocks) (links : List Link) → ((r : BlockRef) → IsIn r (refs_below levels b links) → after r ≡ b r) → SameBelow levels b after links
same_below levels b after links h = below_from levels b after (λ to k. same_tree levels b after to k) links h

-- an inner node in a block, over the trees that its links name
pub record InnerAt (levels rest : ℕ) (b : Blocks) (at : BlockRef) (prefix : List ℕ) (links : List Link) : Type 0 where
  pub bytes : List ℕ
  pub block : b at ≡ Some bytes
  pub holds : HoldsNode bytes (Inner prefix links)
  pub inner : IsInner rest prefix links
  pub below : AllByRecursion (λ l. IsTree levels (rest - suc (length prefix)) b l.to) links

-- a leaf in a block, with a prefix as long as what is left of each key
pub record LeafAt (rest : ℕ) (b : Blocks) (at : BlockRef) (prefix : List ℕ) (value : BlockRef) : Type 0 where
  pub bytes : List ℕ
  pub block : b at ≡ Some bytes
  pub holds : HoldsNode bytes (Leaf prefix value)
  pub fits : (length prefix ≡ rest) × IsRef value

module _ (levels rest : ℕ) (b : Blocks) (at : BlockRef) where
  -- the node at a reference is the one that its block's bytes tell
  pub block_node : (bytes : List ℕ) → b at ≡ Some bytes → node_at b at ≡ node_of bytes
  block_node bytes is = ap (λ o. node_of (unwrap_or o [])) is

  -- where a tree's top node is an inner one, its block holds that node over the trees that its links name
  pub inner_at : (prefix : List ℕ) (links : List Link) → IsTree (suc levels) rest b at → node_at b at ≡ Inner prefix links → InnerAt levels rest b at prefix links
  unfolding IsTree
  inner_at prefix links t is =
      let told : node_of t.0 ≡ Inner prefix links = sym (block_node t.0 t.1) ∙ is in
      record {
        bytes = t.0;
        block = t.1;
        holds = subst (HoldsNode t.0) told t.2.holds;
        inner = subst (Fits rest) told t.2.fits;
        below =
            subst (Below (λ left to. IsTree levels left b to) rest) told t.3;
      }

  -- where a tree's top node is a leaf, its block holds that leaf
  pub leaf_at : (prefix : List ℕ) (value : BlockRef) → IsTree (suc levels) rest b at → node_at b at ≡ Leaf prefix value → LeafAt rest b at prefix value
  unfolding IsTree
  leaf_at prefix value t is =
      let told : node_of t.0 ≡ Leaf prefix value = sym (block_node t.0 t.1) ∙ is in
      record { bytes = t.0; block = t.1; holds = subst (HoldsNode t.0) told t.2.holds; fits = subst (Fits rest) told t.2.fits }

  -- the node at a reference is the inner one that its block holds
  pub inner_node : (prefix : List ℕ) (links : List Link) → InnerAt levels rest b at prefix links → node_at b at ≡ Inner prefix links
  inner_node prefix links s = block_node s.bytes s.block ∙ node_told rest s.bytes (Inner prefix links) s.holds s.inner

  -- the node at a reference is the leaf that its block holds
  pub leaf_node : (prefix : List ℕ) (value : BlockRef) → LeafAt rest b at prefix value → node_at b at ≡ Leaf prefix value
  leaf_node prefix value s = block_node s.bytes s.block ∙ node_told rest s.bytes (Leaf prefix value) s.holds s.fits

  -- an inner node in a block, over the trees that its links name, is a tree
  pub inner_tree : (prefix : List ℕ) (links : List Link) → InnerAt levels rest b at prefix links → IsTree (suc levels) rest b at
  unfolding IsTree
  inner_tree prefix links s =
      let told = node_told rest s.bytes (Inner prefix links) s.holds s.inner in
      (s.bytes, s.block, node_held rest s.bytes (Inner prefix links) s.holds s.inner, subst (Below (λ left to. IsTree levels left b to) rest) (sym told) s.below)

  -- a leaf in a block is a tree
  pub leaf_tree : (prefix : List ℕ) (value : BlockRef) → LeafAt rest b at prefix value → IsTree (suc levels) rest b at
  unfolding IsTree
  leaf_tree prefix value s =
      let told = node_told rest s.bytes (Leaf prefix value) s.holds s.fits in
      (s.bytes, s.block, node_held rest s.bytes (Leaf prefix value) s.holds s.fits, subst (Below (λ left to. IsTree levels left b to) rest) (sym told) tt)

module _ (levels : ℕ) (b : Blocks) (at : BlockRef) where
  -- the entries of an inner node are those below its links
  pub inner_entries : (prefix : List ℕ) (links : List Link) → node_at b at ≡ Inner prefix links → entries (suc levels) b at ≡ below_links prefix (entries levels b) links
  unfolding entries
  inner_entries prefix links is = ap (entries_in (entries levels b)) is

  -- the references of an inner node are its own and those below its links
  pub inner_refs : (prefix : List ℕ) (links : List Link) → node_at b at ≡ Inner prefix links → refs (suc levels) b at ≡ at ∷ refs_below levels b links
  unfolding refs
  inner_refs prefix links is = ap (λ n. at ∷ refs_in (refs levels b) n) is

  -- a leaf has one entry, of its prefix and its value
  pub leaf_entries : (prefix : List ℕ) (value : BlockRef) → node_at b at ≡ Leaf prefix value → entries (suc levels) b at ≡ record { key = prefix; value = value } ∷ []
  unfolding entries
  leaf_entries prefix value is = ap (entries_in (entries levels b)) is

  -- a leaf has one reference, its own
  pub leaf_refs : (prefix : List ℕ) (value : BlockRef) → node_at b at ≡ Leaf prefix value → refs (suc levels) b at ≡ at ∷ []
  unfolding refs
  leaf_refs prefix value is = ap (λ n. at ∷ refs_in (refs levels b) n) is

-- the marks of an inner node are its own, with the first key of its entries, and those below its links
pub inner_marks : (levels : ℕ) (b : Blocks) (at : BlockRef) (prefix : List ℕ) (links : List Link) → node_at b at ≡ Inner prefix links
    → marks (suc levels) b at ≡ (record { least = first_key (entries (suc levels) b at); at = at }) ∷ marks_below prefix (marks levels b) links
unfolding marks
inner_marks levels b at prefix links is = ap (λ n. (record { least = first_key (entries (suc levels) b at); at = at }) ∷ marks_in (marks levels b) n) is

-- a leaf has one mark, its own, whose least key is its prefix
pub leaf_marks : (levels : ℕ) (b : Blocks) (at : BlockRef) (prefix : List ℕ) (value : BlockRef) → node_at b at ≡ Leaf prefix value → marks (suc levels) b at ≡ (record { least = prefix; at = at }) ∷ []
unfolding marks
leaf_marks levels b at prefix value is =
    ap (λ n. (record { least = first_key (entries (suc levels) b at); at = at }) ∷ marks_in (marks levels b) n) is
    ∙ ap (λ es. (record { least = first_key es; at = at }) ∷ []) (leaf_entries levels b at prefix value is)

-- the tree at the reference is the same for both numbers of levels
pub record SameLevels (m k rest : ℕ) (b : Blocks) (at : BlockRef) : Type 0 where
  pub entries_are : entries k b at ≡ entries m b at
  pub refs_are : refs k b at ≡ refs m b at
  pub marks_are : marks k b at ≡ marks m b at
  pub tree : IsTree k rest b at

-- the trees below links are the same for both numbers of levels
pub record LevelsBelow (m k rest : ℕ) (b : Blocks) (links : List Link) : Type 0 where
  pub entries_are : (prefix : List ℕ) → below_links prefix (entries k b) links ≡ below_links prefix (entries m b) links
  pub refs_are : refs_below k b links ≡ refs_below m b links
  pub marks_are : (prefix : List ℕ) → marks_below prefix (marks k b) links ≡ marks_below prefix (marks m b) links
  pub trees : AllByRecursion (λ l. IsTree k rest b l.to) links

-- where each tree is the same for both numbers of levels, so are the trees below links
levels_from : (m k rest : ℕ) (b : Blocks) → ((to : BlockRef) → IsTree m rest b to → SameLevels m k rest b to) → (links : List Link) → AllByRecursion (λ l. IsTree m rest b l.to) links
    → LevelsBelow m k rest b links
levels_from m k rest b each [] h = record { entries_are = λ prefix. refl; refs_are = refl; marks_are = λ prefix. refl; trees = tt }
levels_from m k rest b each (l ∷ links) h =
    let first = each l.to h.0 in
    let more = levels_from m k rest b each links h.1 in
    record {
      entries_are = λ prefix. joined (map (under (prefix ++ l.edge ∷ [])) (entries k b l.to)) (map (under (prefix ++ l.edge ∷ [])) (entries m b l.to))
          (below_links prefix (entries k b) links) (below_links prefix (entries m b) links) (ap (map (under (prefix ++ l.edge ∷ []))) first.entries_are) (more.entries_are prefix);
      refs_are = joined (refs k b l.to) (refs m b l.to) (refs_below k b links) (refs_below m b links) first.refs_are more.refs_are;
      marks_are = λ prefix. joined (map (mark_under (prefix ++ l.edge ∷ [])) (marks k b l.to)) (map (mark_under (prefix ++ l.edge ∷ [])) (marks m b l.to))
          (marks_below prefix (marks k b) links) (marks_below prefix (marks m b) links) (ap (map (mark_under (prefix ++ l.edge ∷ []))) first.marks_are) (more.marks_are prefix);
      trees = (first.tree, more.trees);
    }

-- a node has the same for both numbers of levels where the trees below it are the same
levels_in : (m k rest : ℕ) (b : Blocks) (node : Node) → ((left : ℕ) (to : BlockRef) → left < rest → IsTree m left b to → SameLevels m k left b to) → Fits rest node
    → Below (λ left to. IsTree m left b to) rest node
    → (entries_in (entries k b) node ≡ entries_in (entries m b) node) × (refs_in (refs k b) node ≡ refs_in (refs m b) node) × (marks_in (marks k b) node ≡ marks_in (marks m b) node)
    × Below (λ left to. IsTree k left b to) rest node
levels_in m k rest b (Leaf prefix value) each fits h = (refl, refl, refl, tt)
levels_in m k rest b (Inner prefix links) each fits h =
    let short = fits.short in
    let same = levels_from m k (rest - suc (length prefix)) b (λ to t. each (rest - suc (length prefix)) to (omega arith) t) links h in
    (same.entries_are prefix, same.refs_are, same.marks_are prefix, same.trees)

-- a tree is the same for each number of levels that is greater than the length of its keys
pub same_levels : (m k rest : ℕ) (b : Blocks) (at : BlockRef) → rest < k → IsTree m rest b at → SameLevels m k rest b at
unfolding entries refs marks IsTree
same_levels zero k rest b at h t = absurd t
same_levels (suc m) zero rest b at h t = absurd (omega arith)
same_levels (suc m) (suc k) rest b at h t =
    let told : node_of t.0 ≡ node_at b at = sym (ap (λ o. node_of (unwrap_or o [])) t.1) in
    let fits : Fits rest (node_at b at) = subst (Fits rest) told t.2.fits in
    let below : Below (λ left to. IsTree m left b to) rest (node_at b at) = subst (Below (λ left to. IsTree m left b to) rest) told t.3 in
    let parts = levels_in m k rest b (node_at b at) (λ left to less u. same_levels m k left b to (omega arith) u) fits below in
    record {
      entries_are = parts.0;
      refs_are = ap (λ xs. at ∷ xs) parts.1;
      marks_are = ap (λ es. record { least = first_key es; at = at } ∷ marks_in (marks k b) (node_at b at)) parts.0
          ∙ ap (λ ms. record { least = first_key (entries (suc m) b at); at = at } ∷ ms) parts.2;
      tree = (t.0, t.1, t.2, subst (Below (λ left to. IsTree k left b to) rest) (sym told) parts.3);
    }

-- the trees below links are the same for each number of levels greater than the length of their keys
pub levels_below : (m k rest : ℕ) (b : Blocks) → rest < k → (links : List Link) → AllByRecursion (λ l. IsTree m rest b l.to) links → LevelsBelow m k rest b links
levels_below m k rest b less links h = levels_from m k rest b (λ to t. same_levels m k rest b to less t) links h

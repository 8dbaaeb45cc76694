-- What stands at a key, by the way that it goes on.
use Rattle.std.proofs.Common.{◌≡◌, ◌⊎◌, ◌∙◌, ℕ, zero, suc, ◌+◌, ◌-◌, ◌<◌, ◌≤◌, List, [], ◌∷◌, ◌++◌, length, drop, map, Option, Some, None, IsSome, unwrap_or, refl, sym, ap, subst, inl}
use Rattle.std.proofs.Common.{inr, arith, append_assoc, length-append, length-drop}
use Rattle.std.proofs.lemmas.List.{drop_at, append-nil}
use Rattle.std.specs.List.{AllByRecursion}
use Rattle.std.proofs.lemmas.List.Concat.{flat_map-append}
use Rattle.std.specs.declared.cmp.Ordering.{Ordering}
use Rattle.std.specs.declared.cmp.Ordering.TheVariants.{Less, Greater}
use Rattle.std.specs.Ordering.{is_eq}
use Rattle.std.proofs.lemmas.Bool.{cond-true}
use Rattle.blocks.specs.declared.BlockRef.{BlockRef}
use Rattle.blocks.specs.Blocks.{Blocks, bytes_at}
use Rattle.rax_packed.specs.Nodes.{Link, Node, Leaf, Inner, IsNode, node_of, ref_bytes, Rising}
use Rattle.rax_packed.proofs.Spellings.{length_ref_bytes}
use Rattle.rax_packed.specs.Trees.{Entry, node_at, under, entries_in, entries, refs, marks, IsTree, entries_at, refs_at, marks_at, IsTreeAt}
use Rattle.rax_packed.specs.Ways.{prefix_in, PartsAt, Lacks, LeadsTo}
use Rattle.rax_packed.specs.Packed.{order, value_at}
use Rattle.rax_packed.proofs.Keys.{order_less_in_keys, order_greater_in_keys, order_same, cases_order}
use Rattle.rax_packed.proofs.Entries.{All, all-append, below_links, links_less, links_greater, value_at_parts, value_at_link}
use Rattle.rax_packed.proofs.Frames.{InnerAt, inner_at, leaf_at, inner_entries, leaf_entries, same_levels}

-- a tree's reference has a block, whose bytes hold a node that fits there
pub tree_block : (levels rest : ℕ) (b : Blocks) (at : BlockRef) → IsTree levels rest b at → (bytes : List ℕ) × (b at ≡ Some bytes) × IsNode rest bytes
unfolding IsTree
tree_block zero rest b at t = absurd t
tree_block (suc levels) rest b at t = (t.0, t.1, t.2)

-- a tree's reference is live
pub tree_live : (levels rest : ℕ) (b : Blocks) (at : BlockRef) → IsTree levels rest b at → IsSome (b at)
tree_live levels rest b at t = let block = tree_block levels rest b at t in subst (λ o. IsSome o) (sym block.1) refl

-- equal options hold equal lists
pub same_some : (xs ys : List ℕ) → Some xs ≡ Some ys → xs ≡ ys
same_some xs ys e = cc

-- the bytes read at a tree's reference are those of a node that fits there
pub tree_node : (levels rest : ℕ) (b : Blocks) (at : BlockRef) (bytes : List ℕ) → IsTree levels rest b at → b at ≡ Some bytes → IsNode rest bytes
tree_node levels rest b at bytes t read = let block = tree_block levels rest b at t in subst (IsNode rest) (same_some block.0 bytes (sym block.1 ∙ read)) block.2

-- the node at a reference is the one that the bytes read there tell
pub node_read : (b : Blocks) (at : BlockRef) (bytes : List ℕ) → b at ≡ Some bytes → node_at b at ≡ node_of bytes
node_read b at bytes read = ap (λ o. node_of (unwrap_or o [])) read

-- where all keys with a prefix stand alike to a key, so do all keys below links behind that prefix
links_side : (o : Ordering) (prefix key : List ℕ) (below : BlockRef → List Entry) (links : List Link) → ((rest : List ℕ) → order (prefix ++ rest) key ≡ o) → All o key (below_links prefix below links)
links_side o prefix key below [] h = tt
links_side o prefix key below (l ∷ links) h = all-append (λ e. order e.key key ≡ o) (map (under (prefix ++ l.edge ∷ [])) (below l.to)) (below_links prefix below links) (each (below l.to))
    (links_side o prefix key below links h)
  where
    each : (es : List Entry) → All o key (map (under (prefix ++ l.edge ∷ [])) es)
    each [] = tt
    each (e ∷ es) = (ap (λ k. order k key) (append_assoc prefix (l.edge ∷ []) e.key) ∙ h (l.edge ∷ e.key), each es)

-- where all keys with a node's prefix stand alike to a key, so do all keys of the node
node_side : (o : Ordering) (key : List ℕ) (below : BlockRef → List Entry) (node : Node) → ((rest : List ℕ) → order (prefix_in node ++ rest) key ≡ o) → All o key (entries_in below node)
node_side o key below (Leaf prefix value) h = (ap (λ k. order k key) (sym (append-nil prefix)) ∙ h [], tt)
node_side o key below (Inner prefix links) h = links_side o prefix key below links h

-- where a key parts from a node's prefix, all of its keys come before it, or all after it
pub parts_side : (levels : ℕ) (b : Blocks) (at : BlockRef) (key : List ℕ) (shared : ℕ) (parts : PartsAt (node_at b at) key shared)
    → ((parts.node_byte < parts.other) × All Less key (entries (suc levels) b at)) ⊎ ((parts.other < parts.node_byte) × All Greater key (entries (suc levels) b at))
unfolding entries
parts_side levels b at key shared parts =
    let begin = parts.begin in
    let split : (rest : List ℕ) → prefix_in (node_at b at) ++ rest ≡ begin ++ parts.node_byte ∷ (parts.node_rest ++ rest) = λ rest. ap (λ xs. xs ++ rest) parts.prefix_is
    ∙ append_assoc begin (parts.node_byte ∷ parts.node_rest) rest in
    elim (cases_order parts.node_byte parts.other) [
      | inl less ↦ inl (
        less,
        node_side Less key (entries levels b) (node_at b at)
            (λ rest. ap (λ xs. order xs key) (split rest) ∙ ap (order (begin ++ parts.node_byte ∷ (parts.node_rest ++ rest))) parts.key_is
            ∙ order_less_in_keys begin (parts.node_rest ++ rest) parts.other_rest parts.node_byte parts.other less),
      )
      | inr upto ↦ elim upto [
        | inl same ↦ absurd (parts.apart same)
        | inr more ↦ inr (
          more,
          node_side Greater key (entries levels b) (node_at b at)
              (λ rest. ap (λ xs. order xs key) (split rest) ∙ ap (order (begin ++ parts.node_byte ∷ (parts.node_rest ++ rest))) parts.key_is
              ∙ order_greater_in_keys begin (parts.node_rest ++ rest) parts.other_rest parts.node_byte parts.other more),
        )
      ]
    ]

-- a key has no value among no entries
pub empty_value : (key : List ℕ) → value_at [] key ≡ None
unfolding value_at
empty_value key = refl

-- a key that leaves the prefix of a tree's top node has no value in the tree
pub parts_value : (levels : ℕ) (b : Blocks) (at : BlockRef) (key : List ℕ) (shared : ℕ) → PartsAt (node_at b at) key shared → value_at (entries (suc levels) b at) key ≡ None
parts_value levels b at key shared parts =
    let es = entries (suc levels) b at in
    elim (parts_side levels b at key shared parts) [
      | inl less ↦ ap (λ xs. value_at xs key) (sym (append-nil es)) ∙ value_at_parts key es [] [] less.1 tt ∙ empty_value key
      | inr more ↦ ap (λ xs. value_at xs key) refl ∙ value_at_parts key [] [] es tt more.1 ∙ empty_value key
    ]

-- a leaf whose prefix is the key has its value at the key
pub leaf_value : (levels : ℕ) (b : Blocks) (at value : BlockRef) (key : List ℕ) → node_at b at ≡ Leaf key value → value_at (entries (suc levels) b at) key ≡ Some value
unfolding value_at
leaf_value levels b at value key is =
    ap (λ es. value_at es key) (leaf_entries levels b at key value is) ∙ ap (λ r. unwrap_entry r) (cond-true _ _ _ (ap is_eq (order_same key)))
  where
    unwrap_entry : Option Entry → Option BlockRef
    unwrap_entry None = None
    unwrap_entry (Some e) = Some e.value

-- where all links have edges greater than a number, the first one has
all_apart : (l : Link) (links : List Link) (n : ℕ) → AllByRecursion (λ m. n < m.edge) (l ∷ links) → n < l.edge
all_apart l links n h = h.0

-- of rising links those before one have lesser edges, those after it greater ones, and both parts rise
pub rising_split : (before after : List Link) (link : Link) → Rising (before ++ link ∷ after) → AllByRecursion (λ l. l.edge < link.edge) before
    × AllByRecursion (λ l. link.edge < l.edge) after × Rising before × Rising after
rising_split [] after link rising = (tt, rising.0, tt, rising.1)
rising_split (l ∷ before) after link rising =
    let rest = rising_split before after link rising.1 in
    ((middle before link after l.edge rising.0, rest.0), rest.1, (front before link after l.edge rising.0, rest.2), rest.3)
  where
    middle : (xs : List Link) (link : Link) (ys : List Link) (n : ℕ) → AllByRecursion (λ m. n < m.edge) (xs ++ link ∷ ys) → n < link.edge
    middle [] link ys n h = h.0
    middle (x ∷ xs) link ys n h = middle xs link ys n h.1

    front : (xs : List Link) (link : Link) (ys : List Link) (n : ℕ) → AllByRecursion (λ m. n < m.edge) (xs ++ link ∷ ys) → AllByRecursion (λ m. n < m.edge) xs
    front [] link ys n h = tt
    front (x ∷ xs) link ys n h = (h.0, front xs link ys n h.1)

-- what holds of all elements of a list holds of one between two parts of it
pub all_middle : {X : Type 0} (P : X → Type 0) (xs ys : List X) (x : X) → AllByRecursion P (xs ++ x ∷ ys) → P x
all_middle P [] ys x h = h.0
all_middle P (y ∷ xs) ys x h = all_middle P xs ys x h.1

-- a node and a key at the link by which the key goes on, with lesser edges before it and greater ones after it
pub record Split (b : Blocks) (at : BlockRef) (key : List ℕ) (place from : ℕ) (to : BlockRef) (n rest : ℕ) : Type 0 where
  pub prefix : List ℕ
  pub before : List Link
  pub after : List Link
  pub edge : ℕ
  pub below : List ℕ
  pub node : InnerAt n rest b at prefix (before ++ (record { edge = edge; to = to }) ∷ after)
  pub many : length before ≡ place
  pub key_is : key ≡ prefix ++ edge ∷ below
  pub begins : from ≡ suc (length prefix)
  pub less : AllByRecursion (λ l. l.edge < edge) before
  pub more : AllByRecursion (λ l. edge < l.edge) after

unfoldable pub link_split : (n rest : ℕ) (b : Blocks) (at to : BlockRef) (key : List ℕ) (place from : ℕ) → IsTree (suc n) rest b at → LeadsTo (node_at b at) key place from to
    → Split b at key place from to n rest
link_split n rest b at to key place from t leads =
    let links = leads.before ++ (record { edge = leads.edge; to = to }) ∷ leads.after in
    let node = inner_at n rest b at leads.prefix links t leads.node_is in
    let sides = rising_split leads.before leads.after (record { edge = leads.edge; to = to }) node.inner.rising in
    record {
      prefix = leads.prefix;
      before = leads.before;
      after = leads.after;
      edge = leads.edge;
      below = leads.below;
      node = node;
      many = leads.many;
      key_is = leads.key_is;
      begins =
          leads.begins;
      less = sides.0;
      more = sides.1;
    }

-- without a prefix and the byte after it, a key that begins with them is what follows them
pub rest_is : (prefix below key : List ℕ) (edge from : ℕ) → key ≡ prefix ++ edge ∷ below → from ≡ suc (length prefix) → drop from key ≡ below
rest_is prefix below key edge from is begins =
    ap (drop from) (is ∙ sym (append_assoc prefix (edge ∷ []) below)) ∙ drop_at (prefix ++ edge ∷ []) below from (length-append prefix (edge ∷ []) ∙ omega arith)

-- the value of a key that goes on by a link is that of its rest in the tree below the link
pub link_value : (n : ℕ) (b : Blocks) (at to : BlockRef) (key : List ℕ) (place from rest : ℕ) → IsTree (suc n) rest b at → LeadsTo (node_at b at) key place from to
    → value_at (entries (suc n) b at) key ≡ value_at (entries n b to) (drop from key)
unfolding link_split
link_value n b at to key place from rest t leads =
    let s = link_split n rest b at to key place from t leads in
    ap (λ es. value_at es key) (inner_entries n b at s.prefix (s.before ++ (record { edge = s.edge; to = to }) ∷ s.after) leads.node_is)
    ∙ ap (value_at (below_links s.prefix (entries n b) (s.before ++ (record { edge = s.edge; to = to }) ∷ s.after))) s.key_is
    ∙ value_at_link s.prefix s.below (entries n b) s.before s.after (record { edge = s.edge; to = to }) s.less s.more
    ∙ ap (value_at (entries n b to)) (sym (rest_is s.prefix s.below key s.edge from s.key_is leads.begins))

-- the link by which a key goes on names a tree with one level less, whose keys are as long as the key's rest
pub link_tree : (n rest : ℕ) (b : Blocks) (at to : BlockRef) (key : List ℕ) (place from : ℕ) → IsTree (suc n) rest b at → rest ≡ length key → LeadsTo (node_at b at) key place from to
    → IsTree n (length (drop from key)) b to
unfolding link_split
link_tree n rest b at to key place from t all leads =
    let s = link_split n rest b at to key place from t leads in
    let below = ap length (rest_is s.prefix s.below key s.edge from s.key_is leads.begins) in
    let left : length (drop from key) ≡ rest - suc (length s.prefix) = omega (arith, ap length s.key_is, length-append s.prefix (s.edge ∷ s.below)) in
    subst (λ m. IsTree n m b to) (sym left) (all_middle (λ l. IsTree n (rest - suc (length s.prefix)) b l.to) s.before s.after (record { edge = s.edge; to = to }) s.node.below)

-- the rest of a key that goes on by a link begins no later than where the key ends
pub from_within : (node : Node) (to : BlockRef) (key : List ℕ) (place from : ℕ) → LeadsTo node key place from to → from ≤ length key
from_within node to key place from leads = omega (arith, leads.begins, ap length leads.key_is, length-append leads.prefix (leads.edge ∷ leads.below))

-- a key whose next byte no link of the top node has is without a value in the tree
pub lacks_value : (levels : ℕ) (b : Blocks) (at : BlockRef) (key : List ℕ) (place from : ℕ) → Lacks (node_at b at) key place from → value_at (entries (suc levels) b at) key ≡ None
lacks_value levels b at key place from lacks =
    let f = below_links lacks.prefix (entries levels b) in
    let full = lacks.prefix ++ lacks.edge ∷ lacks.below in
    ap (λ es. value_at es key)
    (inner_entries levels b at lacks.prefix (lacks.before ++ lacks.after) lacks.node_is
    ∙ flat_map-append (λ l. map (under (lacks.prefix ++ l.edge ∷ [])) (entries levels b l.to)) lacks.before lacks.after)
    ∙ ap (value_at (f lacks.before ++ f lacks.after)) lacks.key_is
    ∙ value_at_parts full (f lacks.before) [] (f lacks.after) (links_less lacks.prefix lacks.below lacks.edge (entries levels b) lacks.before lacks.less)
    (links_greater lacks.prefix lacks.below lacks.edge (entries levels b) lacks.after lacks.more)
    ∙ empty_value full

-- a tree that is named by a link, by the bytes that its keys have
pub record Named (b : Blocks) (to : BlockRef) (n left : ℕ) : Type 0 where
  pub tree : IsTreeAt left b to
  pub entries_are : entries_at left b to ≡ entries n b to
  pub refs_are : refs_at left b to ≡ refs n b to
  pub marks_are : marks_at left b to ≡ marks n b to

-- a tree of any number of levels is the same with those that the length of its keys allows
pub named : (b : Blocks) (to : BlockRef) (n left : ℕ) → IsTree n left b to → Named b to n left
named b to n left t = let same = same_levels n (suc left) left b to (omega arith) t in record { tree = same.tree; entries_are = same.entries_are; refs_are = same.refs_are; marks_are = same.marks_are }

module _ (b : Blocks) (at : BlockRef) (bytes key : List ℕ) (t : IsTreeAt (length key) b at) (read : b at ≡ Some bytes) where
  -- where the bytes read are those of a leaf of the key, its value is the key's
  pub found_leaf : (value : BlockRef) → node_of bytes ≡ Leaf key value → value_at (entries_at (length key) b at) key ≡ Some value
  found_leaf value is = leaf_value (length key) b at value key (node_read b at bytes read ∙ is)

  -- where the key leaves the prefix of the node read, it has no value in the tree
  pub found_parts : (shared : ℕ) → PartsAt (node_of bytes) key shared → value_at (entries_at (length key) b at) key ≡ None
  found_parts shared parts = parts_value (length key) b at key shared (subst (λ node. PartsAt node key shared) (sym (node_read b at bytes read)) parts)

  -- where no link of the node read has the key's next byte, the key has no value in the tree
  pub found_missing : (place from : ℕ) → Lacks (node_of bytes) key place from → value_at (entries_at (length key) b at) key ≡ None
  found_missing place from lacks = lacks_value (length key) b at key place from (subst (λ node. Lacks node key place from) (sym (node_read b at bytes read)) lacks)

  -- the link of the node read by which the key goes on is one of the node that stands there
  pub leads_at : (place from : ℕ) (to : BlockRef) → LeadsTo (node_of bytes) key place from to → LeadsTo (node_at b at) key place from to
  leads_at place from to leads = subst (λ node. LeadsTo node key place from to) (sym (node_read b at bytes read)) leads

  -- the link by which the key goes on names a tree, whose keys are as long as the key's rest
  pub link_below : (place from : ℕ) (to : BlockRef) → LeadsTo (node_of bytes) key place from to → Named b to (length key) (length (drop from key))
  link_below place from to leads = named b to (length key) (length (drop from key)) (link_tree (length key) (length key) b at to key place from t refl (leads_at place from to leads))

  -- where the key goes on by a link of the node read, its value is that of its rest in the tree below
  pub found_link : (place from : ℕ) (to : BlockRef) → LeadsTo (node_of bytes) key place from to
      → value_at (entries_at (length key) b at) key ≡ value_at (entries_at (length (drop from key)) b to) (drop from key)
  found_link place from to leads =
      link_value (length key) b at to key place from (length key) t (leads_at place from to leads) ∙ ap (λ es. value_at es (drop from key)) (sym (link_below place from to leads).entries_are)

-- less of the key is left below a link
pub shorter : (node : Node) (to : BlockRef) (key : List ℕ) (place from bound : ℕ) → length key ≡ bound → LeadsTo node key place from to → length (drop from key) < bound
shorter node to key place from bound all leads =
    let within = from_within node to key place from leads in
    omega (arith, length-drop from key, leads.begins)

-- a leaf's bytes have room for the twelve of a value behind its prefix
pub leaf_room : (b : Blocks) (at old : BlockRef) (bytes key : List ℕ) → IsTreeAt (length key) b at → b at ≡ Some bytes → node_of bytes ≡ Leaf key old → (2 + length key) + 12 ≤ length (bytes_at b at)
leaf_room b at old bytes key t read is =
    let leaf = leaf_at (length key) (length key) b at key old t (node_read b at bytes read ∙ is) in
    let long : length (bytes_at b at) ≡ 2 + (length key + 12) = ap (λ o. length (unwrap_or o [])) leaf.block ∙ ap length leaf.holds
    ∙ ap (λ n. suc (suc n)) (length-append key (ref_bytes old) ∙ ap (λ n. length key + n) (length_ref_bytes old)) ∙ omega arith in
    omega arith

-- The nodes of a key's way whose least key it is.
use Rattle.std.proofs.Common.{◌≡◌, ◌≢◌, ◌∙◌, ℕ, zero, suc, ◌-◌, ◌<◌, Bool, true, false, cond, List, [], ◌∷◌, ◌++◌, length, drop, map, Some, refl, sym, ap, subst, inl, inr, arith}
use Rattle.std.proofs.Common.{append_assoc, length-append}
use Rattle.std.proofs.lemmas.List.{append-nil, map-append, length-map}
use Rattle.std.proofs.lemmas.List.Elements.{filter-append}
use Rattle.std.proofs.lemmas.Bool.{cases_eq, cond-true, cond-false}
use Rattle.std.proofs.lemmas.List.Concat.{flat_map-append}
use Rattle.std.specs.List.{filter, AllByRecursion}
use Rattle.std.specs.Ordering.{is_eq}
use Rattle.blocks.specs.declared.BlockRef.{BlockRef}
use Rattle.blocks.specs.Blocks.{Blocks}
use Rattle.rax_packed.specs.Nodes.{Link, Node, Leaf, Inner, Fits, node_of}
use Rattle.rax_packed.specs.Trees.{Entry, Mark, node_at, under, mark_under, entries_in, entries, first_key, marks, Below, IsTree, entries_at, marks_at, IsTreeAt}
use Rattle.rax_packed.specs.Ways.{LeadsTo}
use Rattle.rax_packed.specs.Packed.{order}
use Rattle.rax_packed.specs.Paths.{is_least, is_first, nodes_with}
use Rattle.rax_packed.proofs.Keys.{order_append, order_less_in_keys, order_greater_in_keys, order_same, cases_order}
use Rattle.rax_packed.proofs.Entries.{all-append, all_front, all_weaker, below_links, key_under}
use Rattle.rax_packed.proofs.Frames.{marks_below, block_node, inner_node, inner_entries, inner_marks, leaf_entries, leaf_marks}
use Rattle.rax_packed.proofs.Looks.{Split, Named, all_middle}
use Rattle.rax_packed.proofs.Steps.{split, below_is, child}

-- a node that fits has an entry where each tree below it has one
some_in : (levels rest : ℕ) (b : Blocks) (node : Node) → ((left : ℕ) (to : BlockRef) → IsTree levels left b to → 0 < length (entries levels b to)) → Fits rest node
    → Below (λ left to. IsTree levels left b to) rest node → 0 < length (entries_in (entries levels b) node)
some_in levels rest b (Leaf prefix value) each fits below = omega arith
some_in levels rest b (Inner prefix []) each fits below = absurd (let some = fits.some in omega arith)
some_in levels rest b (Inner prefix (l ∷ links)) each fits below =
    omega (
      arith,
      length-append (map (under (prefix ++ l.edge ∷ [])) (entries levels b l.to)) (below_links prefix (entries levels b) links),
      length-map (entries levels b l.to)
          (under (prefix ++ l.edge ∷ [])),
      each (rest - suc (length prefix)) l.to below.0,
    )

-- each tree has at least one entry
pub tree_some : (levels rest : ℕ) (b : Blocks) (at : BlockRef) → IsTree levels rest b at → 0 < length (entries levels b at)
unfolding entries IsTree
tree_some zero rest b at t = absurd t
tree_some (suc levels) rest b at t =
    let told : node_of t.0 ≡ node_at b at = sym (block_node levels rest b at t.0 t.1) in
    some_in levels rest b (node_at b at) (λ left to u. tree_some levels left b to u) (subst (Fits rest) told t.2.fits) (subst (Below (λ left to. IsTree levels left b to) rest) told t.3)

-- a key is the first of entries that begin with those below its link just where its rest is the first of these
pub first_under : (prefix below : List ℕ) (edge : ℕ) (es more : List Entry) → 0 < length es → is_first (map (under (prefix ++ edge ∷ [])) es ++ more) (prefix ++ edge ∷ below) ≡ is_first es below
first_under prefix below edge [] more h = absurd (omega arith)
first_under prefix below edge (e ∷ es) more h =
    ap (λ k. is_eq (order ((prefix ++ edge ∷ []) ++ e.key) k)) (key_under prefix below edge) ∙ ap is_eq (order_append (prefix ++ edge ∷ []) e.key below)

-- a key isn't the first of entries that begin with one behind a lesser edge
pub first_before : (prefix below : List ℕ) (lower edge : ℕ) (es more : List Entry) → lower < edge → 0 < length es
    → is_first (map (under (prefix ++ lower ∷ [])) es ++ more) (prefix ++ edge ∷ below) ≡ false
first_before prefix below lower edge [] more less h = absurd (omega arith)
first_before prefix below lower edge (e ∷ es) more less h =
    ap (λ k. is_eq (order k (prefix ++ edge ∷ below))) (append_assoc prefix (lower ∷ []) e.key) ∙ ap is_eq (order_less_in_keys prefix e.key below lower edge less)

-- a key isn't the first of the entries below links that begin with ones of lesser edges, each with an entry
pub first_later : (prefix below : List ℕ) (edge : ℕ) (es : BlockRef → List Entry) (before after : List Link) → 0 < length before → AllByRecursion (λ l. l.edge < edge) before
    → AllByRecursion (λ l. 0 < length (es l.to)) before → is_first (below_links prefix es (before ++ after)) (prefix ++ edge ∷ below) ≡ false
first_later prefix below edge es [] after some less full = absurd (omega arith)
first_later prefix below edge es (l ∷ before) after some less full = first_before prefix below l.edge edge (es l.to) (below_links prefix es (before ++ after)) less.0 full.0

-- the nodes of a key among joined lists of marks are those of both parts
pub nodes_with_append : (xs ys : List Mark) (key : List ℕ) → nodes_with (xs ++ ys) key ≡ nodes_with xs key ++ nodes_with ys key
unfolding nodes_with
nodes_with_append xs ys key = ap (map (λ m. m.at)) (filter-append (is_least key) xs ys) ∙ map-append (λ m. m.at) (filter (is_least key) xs) (filter (is_least key) ys)

-- a mark in front adds its node to those of a key just where the key is its least one
pub nodes_with_cons : (m : Mark) (ms : List Mark) (key : List ℕ) → nodes_with (m ∷ ms) key ≡ cond (is_least key m) (m.at ∷ nodes_with ms key) (nodes_with ms key)
unfolding nodes_with
nodes_with_cons m ms key = by_test (is_least key m)
  where
    by_test : (t : Bool) → map (λ m. m.at) (cond t (m ∷ filter (is_least key) ms) (filter (is_least key) ms)) ≡ cond t (m.at ∷ map (λ m. m.at) (filter (is_least key) ms))
        (map (λ m. m.at) (filter (is_least key) ms))
    by_test true = refl
    by_test false = refl

-- among no marks there is no node of a key
pub nodes_with_none : (key : List ℕ) → nodes_with [] key ≡ []
unfolding nodes_with
nodes_with_none key = refl

-- with more bytes before both, a key is the least one of a mark just where it was without them
pub least_under : (begin key : List ℕ) (m : Mark) → is_least (begin ++ key) (mark_under begin m) ≡ is_least key m
least_under begin key m = ap is_eq (order_append begin m.least key)

-- the nodes of a key are the same with more bytes before the key and before each least key
pub nodes_with_under : (begin key : List ℕ) (ms : List Mark) → nodes_with (map (mark_under begin) ms) (begin ++ key) ≡ nodes_with ms key
nodes_with_under begin key [] = nodes_with_none (begin ++ key) ∙ sym (nodes_with_none key)
nodes_with_under begin key (m ∷ ms) =
    nodes_with_cons (mark_under begin m) (map (mark_under begin) ms) (begin ++ key)
    ∙ ap (λ t. cond t (m.at ∷ nodes_with (map (mark_under begin) ms) (begin ++ key)) (nodes_with (map (mark_under begin) ms) (begin ++ key))) (least_under begin key m)
    ∙ ap (λ xs. cond (is_least key m) (m.at ∷ xs) xs) (nodes_with_under begin key ms)
    ∙ sym (nodes_with_cons m ms key)

-- the key is the least of none of these
abbrev pub AreOthers : List ℕ → List Mark → Type 0
AreOthers key ms = AllByRecursion (λ m. is_least key m ≡ false) ms

-- where the key is the least of none of the marks, there is no node of it
pub others_none : (key : List ℕ) (ms : List Mark) → AreOthers key ms → nodes_with ms key ≡ []
others_none key [] h = nodes_with_none key
others_none key (m ∷ ms) h = nodes_with_cons m ms key ∙ cond-false _ _ _ h.0 ∙ others_none key ms h.1

-- keys that go on behind the same bytes by different ones aren't equal in the order
other_order : (prefix below rest : List ℕ) (x y : ℕ) → x ≢ y → is_eq (order (prefix ++ x ∷ rest) (prefix ++ y ∷ below)) ≡ false
other_order prefix below rest x y apart = elim (cases_order x y) [
  | inl less ↦ ap is_eq (order_less_in_keys prefix rest below x y less)
  | inr upto ↦ elim upto [
    | inl same ↦ absurd (apart same)
    | inr more ↦ ap is_eq (order_greater_in_keys prefix rest below x y more)
  ]
]

-- a key is the least of no mark behind another edge than its own
other_marks : (prefix below : List ℕ) (x y : ℕ) (ms : List Mark) → x ≢ y → AreOthers (prefix ++ y ∷ below) (map (mark_under (prefix ++ x ∷ [])) ms)
other_marks prefix below x y [] apart = tt
other_marks prefix below x y (m ∷ ms) apart =
    (ap (λ k. is_eq (order k (prefix ++ y ∷ below))) (append_assoc prefix (x ∷ []) m.least) ∙ other_order prefix below m.least x y apart, other_marks prefix below x y ms apart)

-- a key is the least of no mark below links that have other edges than its own
pub other_links : (prefix below : List ℕ) (edge : ℕ) (below_of : BlockRef → List Mark) (links : List Link) → AllByRecursion (λ l. l.edge ≢ edge) links
    → AreOthers (prefix ++ edge ∷ below) (marks_below prefix below_of links)
other_links prefix below edge below_of [] h = tt
other_links prefix below edge below_of (l ∷ links) h =
    all-append (λ m. is_least (prefix ++ edge ∷ below) m ≡ false) (map (mark_under (prefix ++ l.edge ∷ [])) (below_of l.to)) (marks_below prefix below_of links)
    (other_marks prefix below l.edge edge (below_of l.to) h.0) (other_links prefix below edge below_of links h.1)

-- links with lesser edges than a byte don't have it as their edge
pub less_apart : (edge : ℕ) (links : List Link) → AllByRecursion (λ l. l.edge < edge) links → AllByRecursion (λ l. l.edge ≢ edge) links
less_apart edge links h = all_weaker (λ l. l.edge < edge) (λ l. l.edge ≢ edge) links (λ l less same. omega arith) h

-- links with greater edges than a byte don't have it as their edge
pub more_apart : (edge : ℕ) (links : List Link) → AllByRecursion (λ l. edge < l.edge) links → AllByRecursion (λ l. l.edge ≢ edge) links
more_apart edge links h = all_weaker (λ l. edge < l.edge) (λ l. l.edge ≢ edge) links (λ l more same. omega arith) h

-- a leaf's prefix is the first key of its entries
pub leaf_first : (levels : ℕ) (b : Blocks) (at : BlockRef) (key : List ℕ) (value : BlockRef) → node_at b at ≡ Leaf key value → is_first (entries (suc levels) b at) key ≡ true
leaf_first levels b at key value is = ap (λ es. is_first es key) (leaf_entries levels b at key value is) ∙ ap is_eq (order_same key)

-- the nodes of a leaf's key are the leaf alone
pub leaf_nodes : (levels : ℕ) (b : Blocks) (at : BlockRef) (key : List ℕ) (value : BlockRef) → node_at b at ≡ Leaf key value → nodes_with (marks (suc levels) b at) key ≡ at ∷ []
leaf_nodes levels b at key value is =
    ap (λ ms. nodes_with ms key) (leaf_marks levels b at key value is) ∙ nodes_with_cons (record { least = key; at = at }) [] key ∙ cond-true _ _ _ (ap is_eq (order_same key))
    ∙ ap (λ xs. at ∷ xs) (nodes_with_none key)

-- links whose number is zero are the empty list
no_links : (links : List Link) → length links ≡ 0 → links ≡ []
no_links [] h = refl
no_links (l ∷ links) h = absurd (omega arith)

-- the way goes on by a link
module _ (b : Blocks) (at to : BlockRef) (bytes key : List ℕ) (place from : ℕ) (t : IsTreeAt (length key) b at) (read : b at ≡ Some bytes) (leads : LeadsTo (node_of bytes) key place from to) where
  -- the parts of the node and of the key at the link
  abbrev pub s : Split b at key place from to (length key) (length key)
  s = split b at to bytes key place from t read leads

  -- the link by which the key goes on
  abbrev pub link : Link
  link = record { edge = s.edge; to = to }

  -- all links of the node
  abbrev pub links : List Link
  links = s.before ++ (record { edge = s.edge; to = to }) ∷ s.after

  -- the node at the reference is the inner one with these links
  pub node_is : node_at b at ≡ Inner s.prefix links
  node_is = inner_node (length key) (length key) b at s.prefix links s.node

  -- the entries of the tree are those below the node's links
  pub entries_below : entries_at (length key) b at ≡ below_links s.prefix (entries (length key) b) links
  entries_below = inner_entries (length key) b at s.prefix links node_is

  -- each link of the node names a tree that has an entry
  full : AllByRecursion (λ l. 0 < length (entries (length key) b l.to)) links
  full = all_weaker (λ l. IsTree (length key) (length key - suc (length s.prefix)) b l.to) (λ l. 0 < length (entries (length key) b l.to)) links
      (λ l u. tree_some (length key) (length key - suc (length s.prefix)) b l.to u) s.node.below

  -- the link names a tree, whose keys are as long as the key's rest
  named : Named b to (length key) (length (drop from key))
  named = child b at to bytes key place from t read leads

  -- the rest of the key is what follows the link's edge
  rest : drop from key ≡ s.below
  rest = below_is b at to bytes key place from t read leads

  -- a key that goes on by the first link is the first of the tree just where its rest is the first below
  pub first_zero : place ≡ 0 → is_first (entries_at (length key) b at) key ≡ is_first (entries_at (length (drop from key)) b to) (drop from key)
  first_zero zeroth =
      ap (λ es. is_first es key) entries_below
      ∙ ap (λ ls. is_first (below_links s.prefix (entries (length key) b) (ls ++ link ∷ s.after)) key) (no_links s.before (omega (arith, s.many, zeroth)))
      ∙ ap (is_first (below_links s.prefix (entries (length key) b) (link ∷ s.after))) s.key_is
      ∙ first_under s.prefix s.below s.edge (entries (length key) b to) (below_links s.prefix (entries (length key) b) s.after)
      (all_middle (λ l. 0 < length (entries (length key) b l.to)) s.before s.after link full)
      ∙ ap (λ es. is_first es s.below) (sym named.entries_are)
      ∙ ap (is_first (entries_at (length (drop from key)) b to)) (sym rest)

  -- a key that goes on by another link than the first isn't the first of the tree
  pub first_other : place ≢ 0 → is_first (entries_at (length key) b at) key ≡ false
  first_other other =
      ap (λ es. is_first es key) entries_below
      ∙ ap (is_first (below_links s.prefix (entries (length key) b) links)) s.key_is
      ∙ first_later s.prefix s.below s.edge (entries (length key) b) s.before (link ∷ s.after) (omega (arith, s.many, other)) s.less
      (all_front (λ l. 0 < length (entries (length key) b l.to)) s.before (link ∷ s.after) full)

  -- the key's nodes below all links of the node are those of its rest in the tree below its own link
  middle : nodes_with (marks_below s.prefix (marks (length key) b) links) key ≡ nodes_with (marks_at (length (drop from key)) b to) (drop from key)
  middle =
      let f : List Link → List Mark = marks_below s.prefix (marks (length key) b) in
      let whole = s.prefix ++ s.edge ∷ s.below in
      let here : List Mark = map (mark_under (s.prefix ++ s.edge ∷ [])) (marks (length key) b to) in
      ap (nodes_with (f links)) s.key_is
      ∙ ap (λ ms. nodes_with ms whole) (flat_map-append (λ l. map (mark_under (s.prefix ++ l.edge ∷ [])) (marks (length key) b l.to)) s.before (link ∷ s.after))
      ∙ nodes_with_append (f s.before) (here ++ f s.after) whole
      ∙ ap (λ xs. xs ++ nodes_with (here ++ f s.after) whole) (others_none whole (f s.before) (other_links s.prefix s.below s.edge (marks (length key) b) s.before (less_apart s.edge s.before s.less)))
      ∙ nodes_with_append here (f s.after) whole
      ∙ ap (λ xs. nodes_with here whole ++ xs) (others_none whole (f s.after) (other_links s.prefix s.below s.edge (marks (length key) b) s.after (more_apart s.edge s.after s.more)))
      ∙ append-nil (nodes_with here whole)
      ∙ ap (nodes_with here) (key_under s.prefix s.below s.edge)
      ∙ nodes_with_under (s.prefix ++ s.edge ∷ []) s.below (marks (length key) b to)
      ∙ ap (λ ms. nodes_with ms s.below) (sym named.marks_are)
      ∙ ap (nodes_with (marks_at (length (drop from key)) b to)) (sym rest)

  -- the key's nodes are those of its rest below the link, with the top one before them where the key is the first
  nodes_are : nodes_with (marks_at (length key) b at) key ≡ cond (is_first (entries_at (length key) b at) key) (at ∷ nodes_with (marks_at (length (drop from key)) b to) (drop from key))
      (nodes_with (marks_at (length (drop from key)) b to) (drop from key))
  nodes_are =
      ap (λ ms. nodes_with ms key) (inner_marks (length key) b at s.prefix links node_is)
      ∙ nodes_with_cons (record { least = first_key (entries_at (length key) b at); at = at }) (marks_below s.prefix (marks (length key) b) links) key
      ∙ ap (λ xs. cond (is_first (entries_at (length key) b at) key) (at ∷ xs) xs) middle

  -- under one test, the top node may end the nodes above it or begin those below
  by_first : (t : Bool) (old new xs : List BlockRef) → new ≡ cond t (old ++ at ∷ []) [] ++ xs → new ≡ cond t old [] ++ cond t (at ∷ xs) xs
  by_first true old new xs h = h ∙ append_assoc old (at ∷ []) xs
  by_first false old new xs h = h

  -- a choice of two empty lists is empty
  none_either : (t : Bool) → cond {A = List BlockRef} t [] [] ≡ []
  none_either true = refl
  none_either false = refl

  -- the nodes of the key, after those above
  pub passed_nodes : (old mid new : List BlockRef) → (place ≡ 0 → mid ≡ old ++ at ∷ []) → (place ≢ 0 → mid ≡ [])
      → new ≡ cond (is_first (entries_at (length (drop from key)) b to) (drop from key)) mid [] ++ nodes_with (marks_at (length (drop from key)) b to) (drop from key)
      → new ≡ cond (is_first (entries_at (length key) b at) key) old [] ++ nodes_with (marks_at (length key) b at) key
  passed_nodes old mid new zeroth other h =
      let low : Bool = is_first (entries_at (length (drop from key)) b to) (drop from key) in
      let high : Bool = is_first (entries_at (length key) b at) key in
      let xs = nodes_with (marks_at (length (drop from key)) b to) (drop from key) in
      elim (cases_eq place 0) [
        | inl here ↦ (let same : low ≡ high = sym (first_zero here) in
            by_first high old new xs (h ∙ ap (λ ys. cond low ys [] ++ xs) (zeroth here) ∙ ap (λ q. cond q (old ++ at ∷ []) [] ++ xs) same) ∙ ap (λ ys. cond high old [] ++ ys) (sym nodes_are))
        | inr there ↦ (let no : high ≡ false = first_other there in
            h ∙ ap (λ ys. cond low ys [] ++ xs) (other there) ∙ ap (λ ys. ys ++ xs) (none_either low)
            ∙ sym (ap (λ q. cond q old [] ++ nodes_with (marks_at (length key) b at) key) no ∙ nodes_are ∙ ap (λ q. cond q (at ∷ xs) xs) no))
      ]

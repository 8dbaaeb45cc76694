-- Nodes of a list made anew.
use Rattle.std.proofs.Common.{◌≡◌, ◌⊎◌, ℕ, ◌+◌, ◌<◌, ◌≤◌, List, [], ◌∷◌, ◌++◌, Option, Some, length, map, take, drop, get_or, unwrap_or, refl, ap, ◌∙◌, sym, subst, inl, inr, arith, rules}
use Rattle.std.proofs.Common.{length-append, deque_len}
use Rattle.std.specs.List.{All}
use Rattle.std.proofs.lemmas.List.{append-nil, take_at, drop_at, take_more, take-append-drop}
use Rattle.std.proofs.lemmas.List.Concat.{flat_map-append}
use Rattle.std.proofs.lemmas.List.Elements.{All-nil, All-cons, All-append, All-take, All-drop}
use Rattle.blocks.specs.declared.BlockRef.{BlockRef}
use Rattle.blocks.specs.Blocks.{Blocks, bytes_at, times, IsIn, Changes, Owned}
use Rattle.blocks.proofs.Refs.{apart_live, with_block_other}
use Rattle.blocks.proofs.Times.{times-append}
use Rattle.blocks.proofs.Change.{live_is_in_change, live_once, Counts, counts_placed, counts_changed, changes_counted, changes_then, changes_same, changes_owned, owned_others}
use Rattle.blocks.proofs.Written.{bytes_at_placed}
use Rattle.listpack.specs.Pack.{texts}
use Rattle.object_codec.specs.declared.form.Form.{Form}
use Rattle.object_codec.specs.declared.form.Form.TheVariants.{Intset, Listpack, Hashtable, Skiplist, Quicklist, Stream}
use Rattle.quicklist.specs.declared.node.Container.{Container}
use Rattle.quicklist.specs.declared.node.Container.TheVariants.{Packed}
use Rattle.quicklist.specs.declared.node.Node.{Node}
use Rattle.quicklist.specs.declared.clearing.Left.{Left}
use Rattle.quicklist.specs.declared.clearing.Left.TheVariants.{Whole, Nothing, Part}
use Rattle.quicklist.specs.declared.reach.Reach.{Reach}
use Rattle.quicklist.specs.declared.rebuilt.Rebuilt.{Rebuilt}
use Rattle.quicklist.specs.Nodes.{IsNode, IsChain, IsReadable, IsHeld, IsPacked, held, node_list, bytes_of, elements_of, refs_of, container_of}
use Rattle.quicklist.specs.Chain.{Chain, IsFormed, IsQuick, IsChanged}
use Rattle.quicklist.specs.Equal.{cleared, IsLeft, IsKept, IsPackedNode, IsRebuilt, IsGrown, IsFresh, IsAdded, IsOpen, HasRoom}
use Rattle.quicklist.proofs.Chains.{Same, times_refs, elements_same, each_same, all_same, node_read, readable_as}
use Rattle.quicklist.proofs.Elements.{elements_split}
use Rattle.quicklist.proofs.Going.{cleared_append}
use Rattle.quicklist.proofs.Moving.{in_refs}

-- nothing is taken up yet
pub none_rebuilt : (m : Blocks) (r : Rebuilt) → r.nodes.items ≡ [] → r.placed.items ≡ [] → r.replaced.items ≡ [] → IsRebuilt m m [] [] r
none_rebuilt m r nodes placed replaced = record {
  changes = subst (λ (xs : List Node). Changes m m [] (refs_of xs)) (sym placed) (changes_same m [] (λ at. omega arith));
  balance = λ at. omega (arith, ap (λ (xs : List Node). times at (refs_of xs)) nodes, ap (λ (xs : List Node). times at (refs_of xs)) placed, ap (λ (xs : List Node). times at (refs_of xs)) replaced);
  within = λ at. omega (arith, ap (λ (xs : List Node). times at (refs_of xs)) replaced);
  each = subst (All (IsNode m)) (sym nodes) (All-nil (IsNode m));
  list_is = ap (elements_of m) nodes;
  packed = λ all. subst (All IsPackedNode) (sym nodes) (All-nil IsPackedNode);
  fewer = omega (arith, ap length nodes);
}

-- what is left of a node is what a node can hold
pub kept_of : (was list : List (List ℕ)) (left : Left) → IsLeft was list left → IsKept left
kept_of was list Whole l = tt
kept_of was list Nothing l = tt
kept_of was list (Part pack count) l = (l.0, l.2 ∙ ap length (sym l.1), l.3)

-- where nodes came behind others, all name a reference as often as both together
one_more : (r : BlockRef) (now before : List Node) (more : List Node) → now ≡ before ++ more → times r (refs_of now) ≡ times r (refs_of before) + times r (refs_of more)
one_more r now before more is = ap (λ (xs : List Node). times r (refs_of xs)) is ∙ times_refs r before more

-- the nodes taken up so far own their blocks
nodes_owned : (m mid : Blocks) (old : List Node) (list : List (List ℕ)) (r : Rebuilt) → Owned (refs_of old) m → IsRebuilt m mid old list r
    → Owned (refs_of r.nodes.items ++ refs_of r.replaced.items) mid
nodes_owned m mid old list r own is at =
    let b = (counts_changed m mid [] (refs_of r.placed.items) (λ q. omega arith) is.changes).balance at in
    omega (arith, own at, b, is.balance at, times-append at (refs_of r.nodes.items) (refs_of r.replaced.items))

-- the block of an old node stays where others are placed
old_same : (m mid : Blocks) (nodes placed : List Node) → Owned (refs_of nodes) m → Changes m mid [] (refs_of placed) → Same m mid nodes
old_same m mid nodes placed own p r isin = owned_others m mid [] (refs_of placed) (refs_of nodes) own p r isin refl

-- the parts of a list of which each has a property
All-front : (P : Node → Type 0) (xs ys : List Node) → All P (xs ++ ys) → All P xs
All-front P xs ys all = subst (All P) (take_at xs ys (length xs) refl) (All-take P (length xs) (xs ++ ys) all)

-- where each node of two joined lists has a property, each of the back list has it
all_behind_in_rebuilding : (P : Node → Type 0) (xs ys : List Node) → All P (xs ++ ys) → All P ys
all_behind_in_rebuilding P xs ys all = subst (All P) (drop_at xs ys (length xs) refl) (All-drop P (length xs) (xs ++ ys) all)

module _ (m mid n : Blocks) (old : List Node) (node : Node) (list rest : List (List ℕ)) (r after : Rebuilt) (own : Owned (refs_of (old ++ node ∷ [])) m) (is_node : IsNode m node)
    (is : IsRebuilt m mid old list r) where
  -- the old nodes before the one that is taken up own their blocks
  own_old : Owned (refs_of old) m
  own_old at = omega (arith, own at, times_refs at old (node ∷ []))

  -- the node that is taken up owns its block
  own_node : Owned (refs_of (node ∷ [])) m
  own_node at = omega (arith, own at, times_refs at old (node ∷ []))

  -- the block of the node that is taken up is the same after what was placed so far
  same_node : Same m mid (node ∷ [])
  same_node = old_same m mid (node ∷ []) r.placed.items own_node is.changes

  -- with a node taken up as it is, one old node more is rebuilt, with all its elements
  pub whole_more : n ≡ mid → IsGrown r after (node ∷ []) [] [] → rest ≡ node_list m node → IsRebuilt m n (old ++ node ∷ []) (list ++ rest) after
  whole_more same g left = subst (λ (b : Blocks). IsRebuilt m b (old ++ node ∷ []) (list ++ rest) after) (sym same) (record {
    changes = subst (λ (xs : List Node). Changes m mid [] (refs_of xs)) (sym (g.placed_is ∙ append-nil r.placed.items)) is.changes;
    balance = λ at. omega (
      arith,
      is.balance at,
      one_more at after.nodes.items r.nodes.items (node ∷ []) g.nodes_is,
      one_more at after.placed.items r.placed.items [] g.placed_is,
      one_more at
          after.replaced.items r.replaced.items [] g.replaced_is,
      times_refs at old (node ∷ []),
    );
    within = λ at. omega (arith, is.within at, one_more at after.replaced.items r.replaced.items [] g.replaced_is, times_refs at old (node ∷ []));
    each = subst (All (IsNode mid)) (sym g.nodes_is)
        (All-append (IsNode mid) r.nodes.items (node ∷ []) is.each (each_same m mid (node ∷ []) same_node (All-cons (IsNode m) node [] is_node (All-nil (IsNode m)))));
    list_is = ap (elements_of mid) g.nodes_is ∙ flat_map-append (node_list mid) r.nodes.items (node ∷ []) ∙ ap (λ (xs : List (List ℕ)). xs ++ elements_of mid (node ∷ [])) is.list_is
        ∙ ap (λ (xs : List (List ℕ)). list ++ xs) (elements_same m mid (node ∷ []) same_node ∙ append-nil (node_list m node) ∙ sym left);
    packed = λ all. subst (All IsPackedNode) (sym g.nodes_is)
        (All-append IsPackedNode r.nodes.items (node ∷ []) (is.packed (All-front IsPackedNode old (node ∷ []) all)) (all_behind_in_rebuilding IsPackedNode old (node ∷ []) all));
    fewer = omega (arith, is.fewer, ap length g.nodes_is, length-append r.nodes.items (node ∷ []), length-append old (node ∷ []));
  })

  -- with a node left out of which nothing is left, one old node more is rebuilt, without its elements
  pub nothing_more : n ≡ mid → IsGrown r after [] [] (node ∷ []) → rest ≡ [] → IsRebuilt m n (old ++ node ∷ []) (list ++ rest) after
  nothing_more same g left = subst (λ (b : Blocks). IsRebuilt m b (old ++ node ∷ []) (list ++ rest) after) (sym same) (record {
    changes = subst (λ (xs : List Node). Changes m mid [] (refs_of xs)) (sym (g.placed_is ∙ append-nil r.placed.items)) is.changes;
    balance = λ at. omega (
      arith,
      is.balance at,
      one_more at after.nodes.items r.nodes.items [] g.nodes_is,
      one_more at after.placed.items r.placed.items [] g.placed_is,
      one_more at after.replaced.items
          r.replaced.items (node ∷ []) g.replaced_is,
      times_refs at old (node ∷ []),
    );
    within = λ at. omega (arith, is.within at, one_more at after.replaced.items r.replaced.items (node ∷ []) g.replaced_is, times_refs at old (node ∷ []));
    each = subst (All (IsNode mid)) (sym (g.nodes_is ∙ append-nil r.nodes.items)) is.each;
    list_is = ap (elements_of mid) (g.nodes_is ∙ append-nil r.nodes.items) ∙ is.list_is ∙ sym (append-nil list) ∙ ap (λ (xs : List (List ℕ)). list ++ xs) (sym left);
    packed = λ all. subst (All IsPackedNode) (sym (g.nodes_is ∙ append-nil r.nodes.items)) (is.packed (All-front IsPackedNode old (node ∷ []) all));
    fewer = omega (arith, is.fewer, ap length (g.nodes_is ∙ append-nil r.nodes.items), length-append old (node ∷ []));
  })

  -- a fresh packed node of what is left of the old one is a node of those elements
  part_node : (fresh : Node) (bytes : List ℕ) (count : ℕ) → IsFresh mid n fresh bytes count → IsPacked bytes → texts bytes ≡ rest → count ≡ length rest → 0 < count → IsNode n fresh
      × (node_list n fresh ≡ rest)
  part_node fresh bytes count f packed left counted some =
      let bytes_is : bytes_of n fresh ≡ bytes = ap (λ (k : Blocks). bytes_at k fresh.at) f.placed.placed ∙ bytes_at_placed mid fresh.at bytes in
      let list_here : node_list n fresh ≡ rest = ap (λ (c : Container). held c (bytes_of n fresh)) f.container ∙ ap texts bytes_is ∙ left in (
        record {
          is_held = subst (λ (c : Container). IsHeld c (bytes_of n fresh)) (sym f.container) (subst IsPacked (sym bytes_is) packed);
          counted = f.counted ∙ counted ∙ ap length (sym list_here);
          some = omega (arith, some, f.counted);
        },
        list_here,
      )

  -- with a fresh node in the place of the old one, one old node more is rebuilt, with the elements that are left
  pub part_more : (fresh : Node) (bytes : List ℕ) (count : ℕ) → IsFresh mid n fresh bytes count → IsGrown r after (fresh ∷ []) (fresh ∷ []) (node ∷ []) → IsPacked bytes
      → texts bytes ≡ rest → count ≡ length rest → 0 < count
      → IsRebuilt m n (old ++ node ∷ []) (list ++ rest) after
  part_more fresh bytes count f g packed left counted some =
      let owned = nodes_owned m mid old list r own_old is in
      let apart = λ (at : BlockRef) (h : IsIn at (refs_of r.nodes.items)). live_is_in_change mid at (omega (arith, h, owned at, times-append at (refs_of r.nodes.items) (refs_of r.replaced.items))) in
      let same : Same mid n r.nodes.items = λ at isin. ap (λ k. k at) f.placed.placed
      ∙ with_block_other mid fresh.at at (Some bytes) (apart_live mid at fresh.at (apart at isin) f.placed.free) in
      let placed_own = changes_owned m mid [] (refs_of r.placed.items) is.changes in
      let step : Changes mid n (refs_of r.placed.items) (refs_of (r.placed.items ++ fresh ∷ [])) =
      changes_counted mid n (refs_of r.placed.items) (refs_of (r.placed.items ++ fresh ∷ [])) placed_own
      (counts_placed mid n fresh.at bytes (refs_of r.placed.items) (refs_of (r.placed.items ++ fresh ∷ [])) f.placed.free f.placed.placed
      (λ at. omega (arith, times_refs at r.placed.items (fresh ∷ [])))) in
      let one' = part_node fresh bytes count f packed left counted some in
      record {
        changes = subst (λ (xs : List Node). Changes m n [] (refs_of xs)) (sym g.placed_is) (changes_then m mid n [] (refs_of r.placed.items) (refs_of (r.placed.items ++ fresh ∷ [])) is.changes step);
        balance = λ at. omega (
          arith,
          is.balance at,
          one_more at after.nodes.items r.nodes.items (fresh ∷ []) g.nodes_is,
          one_more at after.placed.items r.placed.items (fresh ∷ []) g.placed_is,
          one_more at
              after.replaced.items r.replaced.items (node ∷ []) g.replaced_is,
          times_refs at old (node ∷ []),
        );
        within = λ at. omega (arith, is.within at, one_more at after.replaced.items r.replaced.items (node ∷ []) g.replaced_is, times_refs at old (node ∷ []));
        each = subst (All (IsNode n)) (sym g.nodes_is)
            (All-append (IsNode n) r.nodes.items (fresh ∷ []) (each_same mid n r.nodes.items same is.each) (All-cons (IsNode n) fresh [] one'.0 (All-nil (IsNode n))));
        list_is = ap (elements_of n) g.nodes_is ∙ flat_map-append (node_list n) r.nodes.items (fresh ∷ [])
            ∙ ap (λ (xs : List (List ℕ)). xs ++ elements_of n (fresh ∷ [])) (elements_same mid n r.nodes.items same ∙ is.list_is)
            ∙ ap (λ (xs : List (List ℕ)). list ++ xs) (append-nil (node_list n fresh) ∙ one'.1);
        packed = λ all. subst (All IsPackedNode) (sym g.nodes_is)
            (All-append IsPackedNode r.nodes.items (fresh ∷ []) (is.packed (All-front IsPackedNode old (node ∷ []) all))
            (All-cons IsPackedNode fresh [] f.container (All-nil IsPackedNode)));
        fewer = omega (arith, is.fewer, ap length g.nodes_is, length-append r.nodes.items (fresh ∷ []), length-append old (node ∷ []));
      }

  -- one node more is taken up
  pub rebuilt_more : (left : Left) → IsAdded mid n node left r after → IsLeft (node_list m node) rest left → IsRebuilt m n (old ++ node ∷ []) (list ++ rest) after
  rebuilt_more Whole a l = whole_more a.0 a.1 l
  rebuilt_more Nothing a l = nothing_more a.0 a.1 l
  rebuilt_more (Part pack count) a l = part_more a.0 pack.items count a.1 a.2 l.0 l.1 l.2 l.3

-- the block of a node that is still to be taken up
pub node_stays : (m mid : Blocks) (nodes placed : List Node) (k : ℕ) (node : Node) → IsChain m nodes → k < length nodes → node ≡ get_or nodes k node → Changes m mid [] (refs_of placed)
    → mid node.at ≡ m node.at
node_stays m mid nodes placed k node c h is p = owned_others m mid [] (refs_of placed) (refs_of nodes) c.owned p node.at (in_refs nodes k node h is) refl

-- it is live, and holds what the node counts
pub node_there : (m mid : Blocks) (nodes placed : List Node) (k : ℕ) (node : Node) → IsChain m nodes → k < length nodes → node ≡ get_or nodes k node → Changes m mid [] (refs_of placed)
    → IsReadable mid node
node_there m mid nodes placed k node c h is p =
    readable_as m mid node (sym (node_stays m mid nodes placed k node c h is p)) (node_read m nodes k node h is c)

-- what stands in it
module _ (m mid : Blocks) (nodes placed : List Node) (k : ℕ) (node : Node) (bytes : List ℕ) (c : IsChain m nodes) (h : k < length nodes) (is : node ≡ get_or nodes k node)
    (p : Changes m mid [] (refs_of placed)) (there : bytes_of mid node ≡ bytes) where
  -- over the blocks before, the node at the index holds what it counts
  pub is_node_of : IsNode m node
  is_node_of = subst (λ (x : Node). IsNode m x) (sym is) (c.each k node h)

  -- the bytes that are there are those that the node had before
  bytes_there : bytes_of m node ≡ bytes
  bytes_there = ap (λ (o : Option (List ℕ)). unwrap_or o []) (sym (node_stays m mid nodes placed k node c h is p)) ∙ there

  -- the bytes that are there are such as the node's container holds
  pub held_there : IsHeld node.container bytes
  held_there = subst (IsHeld node.container) bytes_there is_node_of.is_held

  -- the elements of the node are those of the bytes that are there
  pub list_there : node_list m node ≡ held node.container bytes
  list_there = ap (held node.container) bytes_there

  -- the node counts as many elements as the bytes that are there hold
  pub count_there : node.count ≡ length (held node.container bytes)
  count_there = is_node_of.counted ∙ ap length list_there

  -- the nodes up to and with the one at the index are those before it, and then that node
  pub front_next : take (k + 1) nodes ≡ take k nodes ++ node ∷ []
  front_next = take_more nodes k node h ∙ ap (λ (x : Node). take k nodes ++ x ∷ []) (sym is)

  -- the elements of the nodes up to and with the one at the index are those before it, and then its own
  pub elements_next : elements_of m (take (k + 1) nodes) ≡ elements_of m (take k nodes) ++ node_list m node
  elements_next = ap (elements_of m) front_next ∙ flat_map-append (node_list m) (take k nodes) (node ∷ [])
      ∙ ap (λ (xs : List (List ℕ)). elements_of m (take k nodes) ++ xs) (append-nil (node_list m node))

  -- a node's start and its count add up to the number of the elements up to and with its own
  pub start_next : (start : ℕ) → start ≡ length (elements_of m (take k nodes)) → start + node.count ≡ length (elements_of m (take (k + 1) nodes))
  start_next start at = omega (arith, at, ap length elements_next, length-append (elements_of m (take k nodes)) (node_list m node), is_node_of.counted)

  -- a node's start and its count add up to no more than the number of all elements
  pub start_small : (start : ℕ) → start ≡ length (elements_of m (take k nodes)) → start + node.count ≤ length (elements_of m nodes)
  start_small start at =
      omega (arith, start_next start at, ap length (elements_split m nodes (k + 1)), length-append (elements_of m (take (k + 1) nodes)) (elements_of m (drop (k + 1) nodes)))

  -- the nodes up to and with the one at the index own their blocks
  owned_front : Owned (refs_of (take k nodes ++ node ∷ [])) m
  owned_front at =
      let whole = ap (λ (xs : List Node). times at (refs_of xs)) (take-append-drop (k + 1) nodes) in
      let front = ap (λ (xs : List Node). times at (refs_of xs)) front_next in
      omega (arith, c.owned at, whole, front, times_refs at (take (k + 1) nodes) (drop (k + 1) nodes))

  -- with what is left of the next node taken up, one node more is rebuilt without the elements that go
  pub rebuilt_next : (n : Blocks) (reach : Reach) (start : ℕ) (left : Left) (r after : Rebuilt) → start ≡ length (elements_of m (take k nodes))
      → IsRebuilt m mid (take k nodes) (cleared reach 0 (elements_of m (take k nodes))) r → IsLeft (held node.container bytes) (cleared reach start (held node.container bytes)) left
      → IsAdded mid n node left r after
      → IsRebuilt m n (take (k + 1) nodes) (cleared reach 0 (elements_of m (take (k + 1) nodes))) after
  rebuilt_next n reach start left r after at so_far l a =
      let xs = elements_of m (take k nodes) in
      let rest = cleared reach start (node_list m node) in
      let zero_on : 0 + length xs ≡ start = omega (arith, at) in
      let here' : IsLeft (node_list m node) rest left = subst (λ (ys : List (List ℕ)). IsLeft ys (cleared reach start ys) left) (sym list_there) l in
      let whole : cleared reach 0 (elements_of m (take (k + 1) nodes)) ≡ cleared reach 0 xs ++ rest =
      ap (cleared reach 0) elements_next ∙ cleared_append reach 0 xs (node_list m node) ∙ ap (λ (i : ℕ). cleared reach 0 xs ++ cleared reach i (node_list m node)) zero_on in
      subst (λ (ys : List (List ℕ)). IsRebuilt m n (take (k + 1) nodes) ys after) (sym whole)
      (subst (λ (ns : List Node). IsRebuilt m n ns (cleared reach 0 xs ++ rest) after) (sym front_next)
      (rebuilt_more m mid n (take k nodes) node (cleared reach 0 xs) rest r after owned_front is_node_of so_far left a here'))

-- the room that is left
pub room_open : (r : Rebuilt) (used most : ℕ) → HasRoom r used most → used < most → IsOpen r
room_open r used most room h =
    let n : deque_len r.nodes ≡ length r.nodes.items = search rules in
    let p : deque_len r.placed ≡ length r.placed.items = search rules in
    let q : deque_len r.replaced ≡ length r.replaced.items = search rules in
    record { nodes = omega (arith, n, h, room.nodes, room.nodes_used); placed = omega (arith, p, h, room.placed, room.placed_used); replaced = omega (arith, q, h, room.replaced, room.replaced_used) }

-- where each part grew by one node at most, its room has one more node in use at most
room_grown : (r after : Rebuilt) (nodes placed replaced : List Node) (used most : ℕ) → HasRoom r used most → IsGrown r after nodes placed replaced → length nodes ≤ 1 → length placed ≤ 1
    → length replaced ≤ 1
    → HasRoom after (used + 1) most
room_grown r after nodes placed replaced used most room g a b c = record {
  nodes = omega (arith, room.nodes, g.nodes_room);
  placed = omega (arith, room.placed, g.placed_room);
  replaced = omega (arith, room.replaced, g.replaced_room);
  nodes_used = omega (arith, a, room.nodes_used, ap length g.nodes_is, length-append r.nodes.items nodes);
  placed_used = omega (arith, b, room.placed_used, ap length g.placed_is, length-append r.placed.items placed);
  replaced_used = omega (arith, c, room.replaced_used, ap length g.replaced_is, length-append r.replaced.items replaced);
}

-- to take up a node uses the room of one node at most
pub room_more : (mid n : Blocks) (node : Node) (left : Left) (r after : Rebuilt) (used most : ℕ) → HasRoom r used most → IsAdded mid n node left r after → HasRoom after (used + 1) most
room_more mid n node Whole r after used most room a = room_grown r after (node ∷ []) [] [] used most room a.1 (omega arith) (omega arith) (omega arith)
room_more mid n node Nothing r after used most room a = room_grown r after [] [] (node ∷ []) used most room a.1 (omega arith) (omega arith) (omega arith)
room_more mid n node (Part pack count) r after used most room a = room_grown r after (a.0 ∷ []) (a.0 ∷ []) (node ∷ []) used most room a.2 (omega arith) (omega arith) (omega arith)

-- The old nodes that are in the list no more are given back.
module _ (m mid n : Blocks) (nodes : List Node) (list : List (List ℕ)) (r : Rebuilt) (own : Owned (refs_of nodes) m) (is : IsRebuilt m mid nodes list r)
    (ended : Changes mid n (refs_of r.replaced.items) []) where
  -- the nodes that are in the list no more own their blocks until they are given back
  pub replaced_owned : Owned (refs_of r.replaced.items) mid
  replaced_owned at = omega (arith, nodes_owned m mid nodes list r own is at, times-append at (refs_of r.nodes.items) (refs_of r.replaced.items))

  -- counted, the nodes that were placed bring their blocks in, and every other block stays
  placing : Counts m mid [] (refs_of r.placed.items)
  placing = counts_changed m mid [] (refs_of r.placed.items) (λ at. omega arith) is.changes

  -- counted, the blocks of the replaced nodes end, and every other block stays
  ending : Counts mid n (refs_of r.replaced.items) []
  ending = counts_changed mid n (refs_of r.replaced.items) [] replaced_owned ended

  -- over the whole rebuilding, the rebuilt nodes' references take the place of the old nodes'
  pub rebuilt_changes : Changes m n (refs_of nodes) (refs_of r.nodes.items)
  rebuilt_changes = changes_counted m n (refs_of nodes) (refs_of r.nodes.items) own (record {
    balance = λ at. omega (arith, placing.balance at, ending.balance at, is.balance at);
    kept = λ at out in_new. ending.kept at (omega (arith, out, is.within at)) (omega arith) ∙ placing.kept at (omega arith) (omega (arith, out, in_new, is.within at, is.balance at));
  })

  -- the blocks of the rebuilt nodes are the same after the replaced ones are given back
  same_nodes : Same mid n r.nodes.items
  same_nodes at isin = ending.kept at (omega (arith, isin, nodes_owned m mid nodes list r own is at, times-append at (refs_of r.nodes.items) (refs_of r.replaced.items), live_once mid at))
      (omega arith)

  -- the rebuilt nodes are a chain once the replaced ones are given back
  pub rebuilt_chain : IsChain n r.nodes.items
  rebuilt_chain = record { owned = changes_owned m n (refs_of nodes) (refs_of r.nodes.items) rebuilt_changes; each = each_same mid n r.nodes.items same_nodes is.each }

  -- the rebuilt nodes have their elements still once the replaced ones are given back
  pub rebuilt_list : elements_of n r.nodes.items ≡ list
  rebuilt_list = elements_same mid n r.nodes.items same_nodes ∙ is.list_is

-- the form of a list of which some nodes went
containers_few : (nodes : List Node) → length nodes ≤ 1 → All IsPackedNode nodes → (map container_of nodes ≡ []) ⊎ (map container_of nodes ≡ Packed ∷ [])
containers_few [] h all = inl refl
containers_few (node ∷ []) h all = inr (ap (λ (c : Container). c ∷ []) (all 0 node (omega arith)))
containers_few (node ∷ next ∷ nodes) h all = absurd (omega (arith, h))

-- where the containers are none or one packed one, there is at most one node, and each is packed
packed_all : (nodes : List Node) → (map container_of nodes ≡ []) ⊎ (map container_of nodes ≡ Packed ∷ []) → (length nodes ≤ 1) × All IsPackedNode nodes
packed_all [] t = (omega arith, All-nil IsPackedNode)
packed_all (node ∷ []) (inl none) = absurd (omega (arith, ap length none))
packed_all (node ∷ []) (inr one) = (omega arith, All-cons IsPackedNode node [] (cc) (All-nil IsPackedNode))
packed_all (node ∷ next ∷ nodes) (inl none) = absurd (omega (arith, ap length none))
packed_all (node ∷ next ∷ nodes) (inr one) = absurd (omega (arith, ap length one))

-- the form of old nodes suits new ones that are no more, and packed where all old ones were
formed_fewer : (f : Form) (old new : List Node) → length new ≤ length old → (All IsPackedNode old → All IsPackedNode new) → IsFormed f (map container_of old) → IsFormed f (map container_of new)
formed_fewer Intset old new h packed t = t
formed_fewer Listpack old new h packed t = let few = packed_all old t in containers_few new (omega (arith, h, few.0)) (packed few.1)
formed_fewer Hashtable old new h packed t = t
formed_fewer Skiplist old new h packed t = t
formed_fewer Quicklist old new h packed t = tt
formed_fewer Stream old new h packed t = t

-- a list of the rebuilt nodes, with the old form and as long as their elements, is the old one changed to these
pub rebuilt_is : (m mid n : Blocks) (old new : Chain) (list : List (List ℕ)) (r : Rebuilt) → IsQuick m old → IsRebuilt m mid old.nodes list r → Changes mid n (refs_of r.replaced.items) []
    → new.nodes ≡ r.nodes.items → new.len ≡ length list → new.form ≡ old.form → IsChanged m n old new list
rebuilt_is m mid n old new list r s is ended nodes len form = record {
  quick = record {
    chain = subst (IsChain n) (sym nodes) (rebuilt_chain m mid n old.nodes list r s.chain.owned is ended);
    counted = len ∙ ap length (sym (ap (elements_of n) nodes ∙ rebuilt_list m mid n old.nodes list r s.chain.owned is ended));
    formed = subst (λ (f : Form). IsFormed f (map container_of new.nodes)) (sym form)
        (subst (λ (xs : List Node). IsFormed old.form (map container_of xs)) (sym nodes) (formed_fewer old.form old.nodes r.nodes.items is.fewer is.packed s.formed));
  };
  list_is = ap (elements_of n) nodes ∙ rebuilt_list m mid n old.nodes list r s.chain.owned is ended;
  changes = subst (λ (xs : List Node). Changes m n (refs_of old.nodes) (refs_of xs)) (sym nodes) (rebuilt_changes m mid n old.nodes list r s.chain.owned is ended);
}

-- what was placed is given back
pub unbuilt : (m mid n : Blocks) (placed : List Node) → Changes m mid [] (refs_of placed) → Changes mid n (refs_of placed) [] → n ≡ m
unbuilt m mid n placed p ended = all_same m n (changes_then m mid n [] (refs_of placed) [] p ended)

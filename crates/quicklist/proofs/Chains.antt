-- Chains of nodes over blocks that change.
use Rattle.std.proofs.Common.{◌≡◌, ℕ, ◌+◌, ◌<◌, ◌≤◌, List, [], ◌∷◌, ◌++◌, Option, Some, None, IsSome, length, map, take, drop, get_or, refl, ap, ◌∙◌, sym, subst, inl, inr, arith}
use Rattle.std.proofs.Common.{unwrap_or, flat_map, take-add}
use Rattle.std.specs.List.{All, remove_range}
use Rattle.std.proofs.lemmas.Bool.{cond-true, cond-false}
use Rattle.std.proofs.lemmas.List.{append_assoc, take-append-drop, drop_more, take-map, drop-map, map-append, length-append, length-map, length-drop, drop-drop, take_at, drop_at, length-take-le}
use Rattle.std.proofs.lemmas.List.Concat.{flat_map-append}
use Rattle.std.proofs.lemmas.List.Elements.{All-nil, All-cons, All-append, All-take, All-drop}
use Rattle.blocks.specs.declared.BlockRef.{BlockRef}
use Rattle.blocks.specs.Blocks.{Blocks, bytes_at, ref_eq, with_block, live, times, IsIn, Changes, Owned}
use Rattle.blocks.proofs.Refs.{apart_live, ref_eq_refl, ref_eq_sym, cases_ref, with_block_other}
use Rattle.blocks.proofs.Times.{times-append}
use Rattle.blocks.proofs.Written.{bytes_at_placed}
use Rattle.blocks.proofs.Change.{one, live_is_in_change, live_some, live_once, Counts, counts_placed, counts_ended, counts_changed, changes_counted, changes_then, changes_both}
use Rattle.blocks.proofs.Change.{changes_same, changes_owned}
use Rattle.quicklist.specs.declared.node.Container.{Container}
use Rattle.quicklist.specs.declared.node.Node.{Node}
use Rattle.quicklist.specs.declared.piece.Piece.{Piece}
use Rattle.quicklist.specs.Nodes.{IsNode, IsChain, IsReadable, IsPiece, IsPlacedOf, Placed, Exchanged, Inserted, refs_of, elements_of, node_list, bytes_of, piece_list, held}
use Rattle.quicklist.specs.Nodes.{IsHeld, container_of, container_of_piece}

-- at itself a reference counts as one
pub one_self : (at : BlockRef) → one at at ≡ 1
one_self at = cond-true _ _ _ (ref_eq_refl at)

-- the references of parts
pub refs_append : (xs ys : List Node) → refs_of (xs ++ ys) ≡ refs_of xs ++ refs_of ys
refs_append xs ys = map-append (λ (node : Node). node.at) xs ys

-- two lists of nodes, joined, name a reference as often as the one and the other together
pub times_refs : (r : BlockRef) (xs ys : List Node) → times r (refs_of (xs ++ ys)) ≡ times r (refs_of xs) + times r (refs_of ys)
times_refs r xs ys = ap (times r) (refs_append xs ys) ∙ times-append r (refs_of xs) (refs_of ys)

-- the blocks of these nodes are the same
abbrev pub Same : Blocks → Blocks → List Node → Type 0
Same m n nodes = (r : BlockRef) → IsIn r (refs_of nodes) → n r ≡ m r

-- where the blocks of nodes are the same, so are those of the nodes behind the first
same_rest : (m n : Blocks) (node : Node) (nodes : List Node) → Same m n (node ∷ nodes) → Same m n nodes
same_rest m n node nodes same r isin = same r (omega (arith, isin))

-- where the blocks of nodes are the same, the first node has the same bytes
same_bytes_in_chains : (m n : Blocks) (node : Node) (nodes : List Node) → Same m n (node ∷ nodes) → bytes_of n node ≡ bytes_of m node
same_bytes_in_chains m n node nodes same = ap (λ o. unwrap_or o []) (same node.at (omega (arith, one_self node.at)))

-- so their elements are
pub elements_same : (m n : Blocks) (nodes : List Node) → Same m n nodes → elements_of n nodes ≡ elements_of m nodes
elements_same m n [] same = refl
elements_same m n (node ∷ nodes) same =
    ap (λ (bytes : List ℕ). held node.container bytes ++ elements_of n nodes) (same_bytes_in_chains m n node nodes same)
    ∙ ap (λ (xs : List (List ℕ)). node_list m node ++ xs) (elements_same m n nodes (same_rest m n node nodes same))

-- and they stay nodes
is_node_as : (m n : Blocks) (node : Node) → bytes_of n node ≡ bytes_of m node → IsNode m node → IsNode n node
is_node_as m n node same is = record {
  is_held = subst (IsHeld node.container) (sym same) is.is_held;
  counted = is.counted ∙ ap (λ (bytes : List ℕ). length (held node.container bytes)) (sym same);
  some = is.some;
}

-- where their blocks are the same, all nodes over the one store are nodes over the other
pub each_same : (m n : Blocks) (nodes : List Node) → Same m n nodes → All (IsNode m) nodes → All (IsNode n) nodes
each_same m n [] same all = All-nil (IsNode n)
each_same m n (node ∷ nodes) same all = All-cons (IsNode n) node nodes (is_node_as m n node (same_bytes_in_chains m n node nodes same) (all 0 node (omega arith)))
    (each_same m n nodes (same_rest m n node nodes same) (All-drop (IsNode m) 1 (node ∷ nodes) all))

-- a chain, cut at a node
pub cut_at : (nodes : List Node) (k : ℕ) (node : Node) → k < length nodes → node ≡ get_or nodes k node → nodes ≡ take k nodes ++ (node ∷ drop (k + 1) nodes)
cut_at nodes k node h is =
    sym (take-append-drop k nodes) ∙ ap (λ (xs : List Node). take k nodes ++ xs) (drop_more nodes k node h)
    ∙ ap (λ (n : Node). take k nodes ++ (n ∷ drop (k + 1) nodes)) (sym is)

-- the block of the node at an index is live where the nodes own their blocks
pub node_live : (m : Blocks) (nodes : List Node) (k : ℕ) (node : Node) → k < length nodes → node ≡ get_or nodes k node → Owned (refs_of nodes) m → IsSome (m node.at)
node_live m nodes k node h is own =
    let whole = ap (λ (xs : List Node). times node.at (refs_of xs)) (cut_at nodes k node h is) in
    live_is_in_change m node.at (omega (arith, own node.at, whole, times_refs node.at (take k nodes) (node ∷ drop (k + 1) nodes), one_self node.at))

-- and holds what the node counts
pub node_read : (m : Blocks) (nodes : List Node) (k : ℕ) (node : Node) → k < length nodes → node ≡ get_or nodes k node → IsChain m nodes → IsReadable m node
node_read m nodes k node h is c = record { live = node_live m nodes k node h is c.owned; is_node = subst (λ (x : Node). IsNode m x) (sym is) (c.each k node h) }

-- so it is over other blocks where its own is the same
pub readable_as : (m n : Blocks) (node : Node) → m node.at ≡ n node.at → IsReadable m node → IsReadable n node
readable_as m n node same r = record {
  live = subst (λ (o : Option (List ℕ)). IsSome o) same r.live;
  is_node = is_node_as m n node (ap (λ (o : Option (List ℕ)). unwrap_or o []) (sym same)) r.is_node;
}

-- a part of the nodes
abbrev pub part : ℕ → ℕ → List Node → List Node
part k count nodes = take count (drop k nodes)

-- the part of one node from an index on is the node there
pub part_one : (nodes : List Node) (k : ℕ) (node : Node) → k < length nodes → node ≡ get_or nodes k node → part k 1 nodes ≡ node ∷ []
part_one nodes k node h is = ap (take 1) (drop_more nodes k node h) ∙ ap (λ (n : Node). n ∷ []) (sym is)

-- the block of a node was given back
pub one_ended : (m n : Blocks) (nodes : List Node) (k : ℕ) (node : Node) → k < length nodes → node ≡ get_or nodes k node → IsSome (m node.at) → n ≡ with_block m node.at None
    → Changes m n (refs_of (part k 1 nodes)) []
one_ended m n nodes k node h is was gone =
    subst (λ (xs : List Node). Changes m n (refs_of xs) []) (sym (part_one nodes k node h is))
    (changes_counted m n (node.at ∷ []) [] (λ r. own r) (counts_ended m n node.at (node.at ∷ []) [] was gone (λ r. omega arith)))
  where
    own : (r : BlockRef) → times r (node.at ∷ []) ≤ live m r
    own r = elim (cases_ref r node.at) [
      | inl same ↦ subst (λ (q : BlockRef). times q (node.at ∷ []) ≤ live m q) (sym same) (omega (arith, one_self node.at, live_some m node.at was))
      | inr other ↦ omega (arith, cond-false {A = ℕ} (ref_eq node.at r) 1 0 (ref_eq_sym node.at r ∙ other))
    ]

-- nodes name a reference as often as those before a part, those of the part and those behind it together
times_cut : (r : BlockRef) (nodes : List Node) (k count : ℕ)
    → times r (refs_of nodes) ≡ times r (refs_of (take k nodes)) + (times r (refs_of (part k count nodes)) + times r (refs_of (drop (k + count) nodes)))
times_cut r nodes k count =
    let one = ap (λ (xs : List Node). times r (refs_of xs)) (take-append-drop k nodes) in
    let two = ap (λ (xs : List Node). times r (refs_of xs)) (take-append-drop count (drop k nodes)) in
    let rest = ap (λ (xs : List Node). times r (refs_of xs)) (drop-drop count k nodes) in
    omega (arith, one, two, rest, times_refs r (take k nodes) (drop k nodes), times_refs r (part k count nodes) (drop count (drop k nodes)))

-- where nodes own their blocks, so does each part of them
pub owned_part : (m : Blocks) (nodes : List Node) (k count : ℕ) → Owned (refs_of nodes) m → Owned (refs_of (part k count nodes)) m
owned_part m nodes k count own r = omega (arith, own r, times_cut r nodes k count)

-- the block of the next node behind those that ended is live
pub next_live : (m mid : Blocks) (nodes : List Node) (k i : ℕ) (node : Node) → k + i < length nodes → node ≡ get_or nodes (k + i) node → Owned (refs_of nodes) m
    → Changes m mid (refs_of (part k i nodes)) []
    → IsSome (mid node.at)
next_live m mid nodes k i node h is own p =
    let b = (counts_changed m mid (refs_of (part k i nodes)) [] (owned_part m nodes k i own) p).balance node.at in
    let rest = ap (λ (xs : List Node). times node.at (refs_of xs)) (drop_more nodes (k + i) node h ∙ ap (λ (n : Node). n ∷ drop (k + i + 1) nodes) (sym is)) in
    live_is_in_change mid node.at (omega (arith, own node.at, b, times_cut node.at nodes k i, rest, one_self node.at))

-- one node more ended
more_part : (nodes : List Node) (k i : ℕ) → part k (i + 1) nodes ≡ part k i nodes ++ part (k + i) 1 nodes
more_part nodes k i = take-add i 1 (drop k nodes) ∙ ap (λ (xs : List Node). part k i nodes ++ take 1 xs) (drop-drop i k nodes)

-- where the blocks of a part of the nodes ended, and then that of the next node, those of the longer part ended
pub more_ended : (m mid n : Blocks) (nodes : List Node) (k i : ℕ) → Owned (refs_of nodes) m → Changes m mid (refs_of (part k i nodes)) [] → Changes mid n (refs_of (part (k + i) 1 nodes)) []
    → Changes m n (refs_of (part k (i + 1) nodes)) []
more_ended m mid n nodes k i own p q =
    let whole : refs_of (part k (i + 1) nodes) ≡ refs_of (part k i nodes) ++ refs_of (part (k + i) 1 nodes) = ap refs_of (more_part nodes k i) ∙ refs_append (part k i nodes) (part (k + i) 1 nodes) in
    let both : Owned (refs_of (part k i nodes) ++ refs_of (part (k + i) 1 nodes)) m = subst (λ (xs : List BlockRef). Owned xs m) whole (owned_part m nodes k (i + 1) own) in
    subst (λ (xs : List BlockRef). Changes m n xs []) (sym whole) (changes_both m mid n (refs_of (part k i nodes)) [] (refs_of (part (k + i) 1 nodes)) [] both p q)

-- no block changed
pub all_same : (m n : Blocks) → Changes m n [] [] → n ≡ m
all_same m n p = λ i r. p.kept r refl refl i

-- nothing is placed yet
pub none_placed : (m : Blocks) → Placed m m [] []
none_placed m = record { changes = changes_same m [] (λ r. omega arith); each = All-nil (IsNode m); list = refl; containers = refl }

-- a node with the count and container of a piece, placed of its bytes, is a node of its elements
pub node_of_piece : (n : Blocks) (piece : Piece) (node : Node) → IsPiece piece → bytes_of n node ≡ piece.bytes.now → node.count ≡ piece.count → node.container ≡ piece.container
    → IsNode n node × (node_list n node ≡ piece_list piece)
node_of_piece n piece node is bytes count container =
    let list : node_list n node ≡ piece_list piece = ap (λ (c : Container). held c (bytes_of n node)) container ∙ ap (held piece.container) bytes in (
      record {
        is_held = subst (λ (c : Container). IsHeld c (bytes_of n node)) (sym container) (subst (IsHeld piece.container) (sym bytes) is.is_held);
        counted = count ∙ is.counted ∙ ap length (sym list);
        some = omega (arith, is.some, count);
      },
      list,
    )

-- one node more is placed
pub one_placed : (m mid n : Blocks) (pieces : List Piece) (piece : Piece) (fresh : List Node) (node : Node) → Placed m mid pieces fresh → IsPiece piece
    → IsPlacedOf mid n piece.bytes.now node → node.count ≡ piece.count → node.container ≡ piece.container → Placed m n (pieces ++ piece ∷ []) (fresh ++ node ∷ [])
one_placed m mid n pieces piece fresh node p is put count container =
    let own = changes_owned m mid [] (refs_of fresh) p.changes in
    let same : Same mid n fresh = λ r isin.
    ap (λ k. k r) put.placed ∙ with_block_other mid node.at r (Some piece.bytes.now) (apart_live mid r node.at (live_is_in_change mid r (omega (arith, own r, isin))) put.free) in
    let one' = node_of_piece n piece node is (ap (λ (k : Blocks). bytes_at k node.at) put.placed ∙ bytes_at_placed mid node.at piece.bytes.now) count container in
    let step : Changes mid n (refs_of fresh) (refs_of (fresh ++ node ∷ [])) =
    changes_counted mid n (refs_of fresh) (refs_of (fresh ++ node ∷ [])) own
    (counts_placed mid n node.at piece.bytes.now (refs_of fresh) (refs_of (fresh ++ node ∷ [])) put.free put.placed (λ r. omega (arith, times_refs r fresh (node ∷ [])))) in
    record {
      changes = changes_then m mid n [] (refs_of fresh) (refs_of (fresh ++ node ∷ [])) p.changes step;
      each = All-append (IsNode n) fresh (node ∷ []) (each_same mid n fresh same p.each) (All-cons (IsNode n) node [] one'.0 (All-nil (IsNode n)));
      list = flat_map-append (node_list n) fresh (node ∷ []) ∙ ap (λ (xs : List (List ℕ)). xs ++ (node_list n node ++ [])) (elements_same mid n fresh same ∙ p.list)
          ∙ ap (λ (xs : List (List ℕ)). flat_map piece_list pieces ++ (xs ++ [])) one'.1 ∙ sym (flat_map-append piece_list pieces (piece ∷ []));
      containers = map-append container_of fresh (node ∷ []) ∙ ap (λ (xs : List Container). xs ++ node.container ∷ []) p.containers
          ∙ ap (λ (c : Container). map container_of_piece pieces ++ c ∷ []) container ∙ sym (map-append container_of_piece pieces (piece ∷ []));
    }

-- where it stands
pub inserted_behind : (old now after fresh : List Node) (node : Node) (k i : ℕ) → k ≤ length old → length fresh ≡ i → now ≡ take k old ++ (fresh ++ drop k old)
    → after ≡ take (k + i) now ++ (node ∷ drop (k + i) now) → after ≡ take k old ++ ((fresh ++ node ∷ []) ++ drop k old)
inserted_behind old now after fresh node k i h long is at =
    let front = take k old in
    let back = drop k old in
    let whole : now ≡ (front ++ fresh) ++ back = is ∙ sym (append_assoc front fresh back) in
    let size : length (front ++ fresh) ≡ k + i = omega (arith, length-append front fresh, length-take-le k old h, long) in
    at ∙ ap (λ (xs : List Node). xs ++ (node ∷ drop (k + i) now)) (ap (take (k + i)) whole ∙ take_at (front ++ fresh) back (k + i) size)
    ∙ ap (λ (xs : List Node). (front ++ fresh) ++ (node ∷ xs)) (ap (drop (k + i)) whole ∙ drop_at (front ++ fresh) back (k + i) size)
    ∙ append_assoc front fresh (node ∷ back) ∙ ap (λ (xs : List Node). front ++ xs) (sym (append_assoc fresh (node ∷ []) back))

-- what was placed is given back
pub unplaced : (m mid n : Blocks) (old now : List Node) (pieces : List Piece) (fresh : List Node) (k i : ℕ) → k ≤ length old → length fresh ≡ i → Placed m mid pieces fresh
    → now ≡ take k old ++ (fresh ++ drop k old) → Changes mid n (refs_of (part k i now)) [] → n ≡ m
unplaced m mid n old now pieces fresh k i h long p is ended =
    let back = drop k old in
    let behind : drop k now ≡ fresh ++ back = ap (drop k) is ∙ drop_at (take k old) (fresh ++ back) k (length-take-le k old h) in
    let same : part k i now ≡ fresh = ap (take i) behind ∙ take_at fresh back i long in
    all_same m n (changes_then m mid n [] (refs_of fresh) [] p.changes (subst (λ (xs : List Node). Changes mid n (refs_of xs) []) same ended))

-- without the nodes that were placed among them, the nodes are the old ones
pub nodes_unplaced : (old now after fresh : List Node) (k i : ℕ) → k ≤ length old → length fresh ≡ i → now ≡ take k old ++ (fresh ++ drop k old) → after ≡ remove_range now k (k + i) → after ≡ old
nodes_unplaced old now after fresh k i h long is gone =
    let front = take k old in
    let back = drop k old in
    let whole : now ≡ (front ++ fresh) ++ back = is ∙ sym (append_assoc front fresh back) in
    let size : length (front ++ fresh) ≡ k + i = omega (arith, length-append front fresh, length-take-le k old h, long) in
    gone ∙ ap (λ (xs : List Node). xs ++ drop (k + i) now) (ap (take k) is ∙ take_at front (fresh ++ back) k (length-take-le k old h))
    ∙ ap (λ (xs : List Node). front ++ xs) (ap (drop (k + i)) whole ∙ drop_at (front ++ fresh) back (k + i) size) ∙ take-append-drop k old

-- as many nodes are placed as there are pieces
pub length-placed : (m n : Blocks) (pieces : List Piece) (fresh : List Node) → Placed m n pieces fresh → length fresh ≡ length pieces
length-placed m n pieces fresh p = sym (length-map fresh container_of) ∙ ap length p.containers ∙ length-map pieces container_of_piece

-- nodes with others placed among them own their blocks
pub placed_owned : (m mid : Blocks) (old now fresh : List Node) (pieces : List Piece) (k : ℕ) → Owned (refs_of old) m → Placed m mid pieces fresh → now ≡ take k old
    ++ (fresh ++ drop k old) → Owned (refs_of now) mid
placed_owned m mid old now fresh pieces k own p is r =
    let was = ap (λ (xs : List Node). times r (refs_of xs)) (take-append-drop k old) in
    let here' = ap (λ (xs : List Node). times r (refs_of xs)) is in
    let b = (counts_changed m mid [] (refs_of fresh) (λ q. omega arith) p.changes).balance r in
    omega (arith, own r, was, here', b, times_refs r (take k old) (drop k old), times_refs r (take k old) (fresh ++ drop k old), times_refs r fresh (drop k old))

-- the chain before and after nodes have taken the place of others
module _ (m mid n : Blocks) (front gone back fresh : List Node) (pieces : List Piece) (own : Owned (refs_of (front ++ (gone ++ back))) m) (p : Placed m mid pieces fresh)
    (ended : Changes mid n (refs_of gone) []) where
  -- how often the nodes in front, those that go and those at the back name a reference
  abbrev parts : BlockRef → ℕ
  parts r = times r (refs_of front) + (times r (refs_of gone) + times r (refs_of back))

  -- the old nodes name a reference as often as their three parts together
  count_old : (r : BlockRef) → times r (refs_of (front ++ (gone ++ back))) ≡ parts r
  count_old r = omega (arith, times_refs r front (gone ++ back), times_refs r gone back)

  -- the new nodes name a reference as often as those in front, the fresh ones and those at the back together
  count_new : (r : BlockRef) → times r (refs_of (front ++ (fresh ++ back))) ≡ times r (refs_of front) + (times r (refs_of fresh) + times r (refs_of back))
  count_new r = omega (arith, times_refs r front (fresh ++ back), times_refs r fresh back)

  -- counted, the fresh nodes bring their blocks in, and every other block stays
  placing : Counts m mid [] (refs_of fresh)
  placing = counts_changed m mid [] (refs_of fresh) (λ r. omega arith) p.changes

  -- the nodes that go own their blocks where the fresh ones are placed
  gone_owned : Owned (refs_of gone) mid
  gone_owned r = omega (arith, own r, count_old r, placing.balance r)

  -- counted, the blocks of the nodes that go end, and every other block stays
  ending : Counts mid n (refs_of gone) []
  ending = counts_changed mid n (refs_of gone) [] gone_owned ended

  -- over the whole exchange, the new nodes' references take the place of the old nodes'
  pub exchange_changes : Changes m n (refs_of (front ++ (gone ++ back))) (refs_of (front ++ (fresh ++ back)))
  exchange_changes = changes_counted m n (refs_of (front ++ (gone ++ back))) (refs_of (front ++ (fresh ++ back))) own (record {
    balance = λ r. omega (arith, placing.balance r, ending.balance r, count_old r, count_new r);
    kept = λ r out in_new. ending.kept r (omega (arith, out, count_old r)) (omega arith) ∙ placing.kept r (omega arith) (omega (arith, in_new, count_new r));
  })

  -- the blocks of the nodes in front and at the back are the same after the exchange
  stays : (r : BlockRef) → 0 < times r (refs_of front) + times r (refs_of back) → n r ≡ m r
  stays r isin =
      let was : times r (refs_of fresh) ≡ 0 = omega (arith, own r, isin, count_old r, placing.balance r, live_once mid r) in
      let not_gone : times r (refs_of gone) ≡ 0 = omega (arith, own r, isin, count_old r, live_once m r) in
      ending.kept r not_gone (omega arith) ∙ placing.kept r (omega arith) was

  -- the blocks of the fresh nodes are the same after those that go are given back
  same_fresh : Same mid n fresh
  same_fresh r isin = ending.kept r (omega (arith, isin, gone_owned r, placing.balance r, own r, count_old r, live_once mid r)) (omega arith)

  -- the nodes in front, the fresh ones and those at the back are a chain after the exchange
  pub exchange_chain : All (IsNode m) front → All (IsNode m) back → IsChain n (front ++ (fresh ++ back))
  exchange_chain a b = record {
    owned = changes_owned m n (refs_of (front ++ (gone ++ back))) (refs_of (front ++ (fresh ++ back))) exchange_changes;
    each = All-append (IsNode n) front (fresh ++ back) (each_same m n front (λ r isin. stays r (omega (arith, isin))) a)
        (All-append (IsNode n) fresh back (each_same mid n fresh same_fresh p.each) (each_same m n back (λ r isin. stays r (omega (arith, isin))) b));
  }

  -- the elements after the exchange are those in front, those of the pieces and those at the back
  pub exchange_list : elements_of n (front ++ (fresh ++ back)) ≡ elements_of m front ++ (flat_map piece_list pieces ++ elements_of m back)
  exchange_list =
      flat_map-append (node_list n) front (fresh ++ back)
      ∙ ap (λ (xs : List (List ℕ)). elements_of n front ++ xs) (flat_map-append (node_list n) fresh back)
      ∙ ap (λ (xs : List (List ℕ)). xs ++ (elements_of n fresh ++ elements_of n back)) (elements_same m n front (λ r isin. stays r (omega (arith, isin))))
      ∙ ap (λ (xs : List (List ℕ)). elements_of m front ++ (xs ++ elements_of n back)) (elements_same mid n fresh same_fresh ∙ p.list)
      ∙ ap (λ (xs : List (List ℕ)). elements_of m front ++ (flat_map piece_list pieces ++ xs)) (elements_same m n back (λ r isin. stays r (omega (arith, isin))))

-- Nodes placed before the node k, and then the `gone` nodes behind them taken out.
pub exchanged : (m mid n : Blocks) (old now after : List Node) (pieces : List Piece) (k gone placed : ℕ) → k + gone ≤ length old → placed ≡ length pieces → IsChain m old
    → Inserted m mid old now k pieces → after ≡ remove_range now (k + placed) (k + placed + gone) → Changes mid n (refs_of (part (k + placed) gone now)) []
    → Exchanged m n old after k (k + gone) pieces
exchanged m mid n old now after pieces k gone placed h long c ins removed ended =
    let fresh = ins.0 in
    let p = ins.1 in
    let front = take k old in
    let middle = part k gone old in
    let back = drop (k + gone) old in
    let size : length (front ++ fresh) ≡ k + placed = omega (arith, length-append front fresh, length-take-le k old (omega arith), length-placed m mid pieces fresh p, long) in
    let rest : drop k old ≡ middle ++ back = sym (take-append-drop gone (drop k old)) ∙ ap (λ (xs : List Node). middle ++ xs) (drop-drop gone k old) in
    let whole : old ≡ front ++ (middle ++ back) = sym (take-append-drop k old) ∙ ap (λ (xs : List Node). front ++ xs) rest in
    let now_is : now ≡ (front ++ fresh) ++ (middle ++ back) = ins.2 ∙ sym (append_assoc front fresh (drop k old)) ∙ ap (λ (xs : List Node). (front ++ fresh) ++ xs) rest in
    let behind : drop (k + placed) now ≡ middle ++ back = ap (drop (k + placed)) now_is ∙ drop_at (front ++ fresh) (middle ++ back) (k + placed) size in
    let long_middle : length middle ≡ gone = length-take-le gone (drop k old) (omega (arith, length-drop k old)) in
    let gone_is : part (k + placed) gone now ≡ middle = ap (take gone) behind ∙ take_at middle back gone long_middle in
    let tail : drop (k + placed + gone) now ≡ back = sym (drop-drop gone (k + placed) now) ∙ ap (drop gone) behind ∙ drop_at middle back gone long_middle in
    let after_is : after ≡ front ++ (fresh ++ back) =
    removed ∙ ap (λ (xs : List Node). xs ++ drop (k + placed + gone) now) (ap (take (k + placed)) now_is ∙ take_at (front ++ fresh) (middle ++ back) (k + placed) size)
    ∙ ap (λ (xs : List Node). (front ++ fresh) ++ xs) tail ∙ append_assoc front fresh back in
    let own : Owned (refs_of (front ++ (middle ++ back))) m = subst (λ (xs : List Node). Owned (refs_of xs) m) whole c.owned in
    let end : Changes mid n (refs_of middle) [] = subst (λ (xs : List Node). Changes mid n (refs_of xs) []) gone_is ended in
    record {
      chain = subst (IsChain n) (sym after_is) (exchange_chain m mid n front middle back fresh pieces own p end (All-take (IsNode m) k old c.each) (All-drop (IsNode m) (k + gone) old c.each));
      list = ap (elements_of n) after_is ∙ exchange_list m mid n front middle back fresh pieces own p end;
      changes = subst (λ (xs : List Node). Changes m n (refs_of old) (refs_of xs)) (sym after_is)
          (subst (λ (xs : List Node). Changes m n (refs_of xs) (refs_of (front ++ (fresh ++ back)))) (sym whole) (exchange_changes m mid n front middle back fresh pieces own p end));
      containers = ap (map container_of) after_is ∙ map-append container_of front (fresh ++ back) ∙ ap (λ (xs : List Container). map container_of front ++ xs) (map-append container_of fresh back)
          ∙ ap (λ (xs : List Container). map container_of front ++ (xs ++ map container_of back)) p.containers
          ∙ ap (λ (xs : List Container). xs ++ (map container_of_piece pieces ++ map container_of back)) (sym (take-map container_of k old))
          ∙ ap (λ (xs : List Container). take k (map container_of old) ++ (map container_of_piece pieces ++ xs)) (sym (drop-map container_of (k + gone) old));
    }

-- Chains that are copied, and chains whose blocks move.
use Rattle.std.proofs.Common.{◌≡◌, ◌≢◌, ℕ, zero, suc, ◌+◌, ◌-◌, ◌<◌, ◌≤◌, List, [], ◌∷◌, ◌++◌, Option, Some, None, length, map, take, drop, get_or, set, refl, ap, ◌∙◌, sym, subst, arith}
use Rattle.std.proofs.Common.{flat_map, unwrap_or, get_or-set_other, inl, inr}
use Rattle.std.specs.Prelude.{IfSome, false}
use Rattle.std.specs.List.{All}
use Rattle.blocks.specs.Slabs.{Heap, wants}
use Rattle.std.proofs.lemmas.List.{take_more, map-append, set_split, take_all, length-map, length-take-le}
use Rattle.std.proofs.lemmas.List.Concat.{flat_map-append}
use Rattle.std.proofs.lemmas.List.Elements.{All-cons, All-append, All-take, All-drop}
use Rattle.blocks.specs.declared.BlockRef.{BlockRef}
use Rattle.blocks.specs.Blocks.{Blocks, times, IsIn, Changes, Owned}
use Rattle.blocks.proofs.Change.{live_once, changes_then, changes_owned, changes_beside, owned_others}
use Rattle.quicklist.specs.declared.node.Container.{Container}
use Rattle.quicklist.specs.declared.node.Node.{Node}
use Rattle.quicklist.specs.declared.piece.Piece.{Piece}
use Rattle.quicklist.specs.Nodes.{IsNode, IsChain, IsReadable, IsPiece, IsPlacedOf, Placed, held, IsHeld, node_at, node_list, bytes_of, piece_list, refs_of, elements_of}
use Rattle.quicklist.specs.Nodes.{container_of, container_of_piece}
use Rattle.quicklist.specs.Chain.{IsCopied, IsSettled, IsPassed, IsOutside, ref_at, passed_to}
use Rattle.quicklist.proofs.Chains.{Same, node_read, readable_as, times_refs, elements_same, each_same, one_placed, cut_at, one_self, all_same, length-placed}

-- what a copy of a node is placed of
abbrev pub piece_for : Blocks → Node → Piece
piece_for m node = record { container = node.container; count = node.count; bytes = record { ref_ptr = (0, 0); now = bytes_of m node } }

pub pieces_for_list : (m : Blocks) (nodes : List Node) → flat_map piece_list (map (piece_for m) nodes) ≡ elements_of m nodes
pieces_for_list m [] = refl
pieces_for_list m (node ∷ nodes) = ap (λ (xs : List (List ℕ)). node_list m node ++ xs) (pieces_for_list m nodes)

pub pieces_for_containers : (m : Blocks) (nodes : List Node) → map container_of_piece (map (piece_for m) nodes) ≡ map container_of nodes
pieces_for_containers m [] = refl
pieces_for_containers m (node ∷ nodes) = ap (λ (xs : List Container). node.container ∷ xs) (pieces_for_containers m nodes)

pub piece_for_is : (m : Blocks) (node : Node) → IsNode m node → IsPiece (piece_for m node)
piece_for_is m node is = record { is_held = is.is_held; counted = is.counted; some = is.some }

-- the blocks that a chain owned stay where others are placed
pub placed_same : (m mid : Blocks) (nodes fresh : List Node) (pieces : List Piece) → Owned (refs_of nodes) m → Placed m mid pieces fresh → Same m mid nodes
placed_same m mid nodes fresh pieces own p r isin = owned_others m mid [] (refs_of fresh) (refs_of nodes) own p.changes r isin refl

pub in_refs : (nodes : List Node) (k : ℕ) (node : Node) → k < length nodes → node ≡ get_or nodes k node → IsIn node.at (refs_of nodes)
in_refs nodes k node h is =
    omega (arith, ap (λ (xs : List Node). times node.at (refs_of xs)) (cut_at nodes k node h is), times_refs node.at (take k nodes) (node ∷ drop (k + 1) nodes), one_self node.at)

-- one node more is copied
pub one_copied : (m mid n : Blocks) (nodes fresh : List Node) (k : ℕ) (node copy : Node) → IsChain m nodes → k < length nodes → node ≡ get_or nodes k node
    → Placed m mid (map (piece_for m) (take k nodes)) fresh → IsPlacedOf mid n (bytes_of mid node) copy → copy.count ≡ node.count → copy.container ≡ node.container
    → Placed m n (map (piece_for m) (take (k + 1) nodes)) (fresh ++ copy ∷ [])
one_copied m mid n nodes fresh k node copy c h is p put count container =
    let same : bytes_of mid node ≡ bytes_of m node =
    ap (λ (o : Option (List ℕ)). unwrap_or o []) (placed_same m mid nodes fresh (map (piece_for m) (take k nodes)) c.owned p node.at (in_refs nodes k node h is)) in
    let more : take (k + 1) nodes ≡ take k nodes ++ node ∷ [] = take_more nodes k node h ∙ ap (λ (x : Node). take k nodes ++ x ∷ []) (sym is) in
    let all : map (piece_for m) (take (k + 1) nodes) ≡ map (piece_for m) (take k nodes) ++ piece_for m node ∷ [] = ap (map (piece_for m)) more ∙ map-append (piece_for m) (take k nodes) (node ∷ []) in
    let node_is : IsNode m node = subst (λ (x : Node). IsNode m x) (sym is) (c.each k node h) in
    subst (λ (ps : List Piece). Placed m n ps (fresh ++ copy ∷ [])) (sym all)
    (one_placed m mid n (map (piece_for m) (take k nodes)) (piece_for m node) fresh copy p (piece_for_is m node node_is) (subst (λ (bytes : List ℕ). IsPlacedOf mid n bytes copy) same put)
    count container)

-- the block of a node that is still to be copied is live, and holds what the node counts
pub still_live : (m mid : Blocks) (nodes fresh : List Node) (pieces : List Piece) (k : ℕ) (node : Node) → IsChain m nodes → k < length nodes → node ≡ get_or nodes k node
    → Placed m mid pieces fresh → IsReadable mid node
still_live m mid nodes fresh pieces k node c h is p =
    let same = owned_others m mid [] (refs_of fresh) (refs_of nodes) c.owned p.changes node.at (in_refs nodes k node h is) refl in
    readable_as m mid node (sym same) (node_read m nodes k node h is c)

-- what was copied so far is given back
pub uncopied : (m mid n : Blocks) (nodes fresh : List Node) (k : ℕ) → k ≤ length nodes → Placed m mid (map (piece_for m) (take k nodes)) fresh → Changes mid n (refs_of (take k fresh)) [] → n ≡ m
uncopied m mid n nodes fresh k h p ended =
    let long : length fresh ≡ k = omega (arith, length-placed m mid (map (piece_for m) (take k nodes)) fresh p, length-map (take k nodes) (piece_for m), length-take-le k nodes h) in
    let all : take k fresh ≡ fresh = take_all k fresh (omega (arith, long)) in
    all_same m n (changes_then m mid n [] (refs_of fresh) [] p.changes (subst (λ (xs : List Node). Changes mid n (refs_of xs) []) all ended))

pub copied_is : (m n : Blocks) (nodes fresh : List Node) → Placed m n (map (piece_for m) nodes) fresh → IsCopied m n nodes fresh
copied_is m n nodes fresh p = record {
  chain = record { owned = changes_owned m n [] (refs_of fresh) p.changes; each = p.each };
  list_is = p.list ∙ pieces_for_list m nodes;
  changes = p.changes;
  containers = p.containers ∙ pieces_for_containers m nodes;
}

-- the block of one node moved
module _ (m n : Blocks) (front back : List Node) (node : Node) (at : BlockRef) (own : Owned (refs_of (front ++ (node ∷ back))) m) (a : All (IsNode m) front) (is : IsNode m node)
    (b : All (IsNode m) back) (bytes : n at ≡ m node.at) (p : Changes m n (node.at ∷ []) (at ∷ [])) where
  abbrev moved : Node
  moved = record { at = at; count = node.count; container = node.container }

  whole : (r : BlockRef) (x : Node) → times r (refs_of (front ++ (x ∷ back))) ≡ times r (x.at ∷ []) + (times r (refs_of front) + times r (refs_of back))
  whole r x = omega (arith, times_refs r front (x ∷ back))

  moved_changes : Changes m n (refs_of (front ++ (node ∷ back))) (refs_of (front ++ (moved ∷ back)))
  moved_changes = changes_beside m n (node.at ∷ []) (at ∷ []) (refs_of (front ++ (node ∷ back))) (refs_of (front ++ (moved ∷ back))) p own
      (λ r. times r (refs_of front) + times r (refs_of back)) (λ r. whole r node) (λ r. whole r moved)

  stays_at : (r : BlockRef) → 0 < times r (refs_of front) + times r (refs_of back) → n r ≡ m r
  stays_at r isin =
      owned_others m n (node.at ∷ []) (at ∷ []) (refs_of (front ++ (node ∷ back))) own p r (omega (arith, isin, whole r node)) (omega (arith, isin, whole r node, own r, live_once m r))

  same_bytes : bytes_of n moved ≡ bytes_of m node
  same_bytes = ap (λ (o : Option (List ℕ)). unwrap_or o []) bytes

  same_list : node_list n moved ≡ node_list m node
  same_list = ap (held node.container) same_bytes

  moved_is : IsNode n moved
  moved_is = record { is_held = subst (IsHeld node.container) (sym same_bytes) is.is_held; counted = is.counted ∙ ap length (sym same_list); some = is.some }

  pub moved_settled : (stays : ℕ → Type 0) → ((i : ℕ) → stays i → node_at (front ++ (moved ∷ back)) i ≡ node_at (front ++ (node ∷ back)) i)
      → IsSettled m n (front ++ (node ∷ back)) (front ++ (moved ∷ back)) stays
  moved_settled stays others = record {
    chain = record {
      owned = changes_owned m n (refs_of (front ++ (node ∷ back))) (refs_of (front ++ (moved ∷ back))) moved_changes;
      each = All-append (IsNode n) front (moved ∷ back) (each_same m n front (λ r isin. stays_at r (omega (arith, isin))) a)
          (All-cons (IsNode n) moved back moved_is (each_same m n back (λ r isin. stays_at r (omega (arith, isin))) b));
    };
    list_is = flat_map-append (node_list n) front (moved ∷ back) ∙ ap (λ (xs : List (List ℕ)). xs ++ (node_list n moved ++ elements_of n back))
        (elements_same m n front (λ r isin. stays_at r (omega (arith, isin))))
        ∙ ap (λ (xs : List (List ℕ)). elements_of m front ++ (xs ++ elements_of n back)) same_list
        ∙ ap (λ (xs : List (List ℕ)). elements_of m front ++ (node_list m node ++ xs)) (elements_same m n back (λ r isin. stays_at r (omega (arith, isin))))
        ∙ sym (flat_map-append (node_list m) front (node ∷ back));
    changes = moved_changes;
    containers = map-append container_of front (moved ∷ back) ∙ sym (map-append container_of front (node ∷ back));
    others = others;
  }

pub node_settled : (m n : Blocks) (nodes new : List Node) (k : ℕ) (node : Node) (at : BlockRef) → IsChain m nodes → k < length nodes → node ≡ get_or nodes k node → n at ≡ m node.at
    → Changes m n (node.at ∷ []) (at ∷ [])
    → new ≡ set nodes k (record { at = at; count = node.count; container = node.container }) → IsSettled m n nodes new (λ i. i ≢ k)
node_settled m n nodes new k node at c h is bytes p put =
    let moved : Node = record { at = at; count = node.count; container = node.container } in
    let front = take k nodes in
    let back = drop (k + 1) nodes in
    let was = cut_at nodes k node h is in
    let next : suc k ≡ k + 1 = omega arith in
    let now : new ≡ front ++ (moved ∷ back) = put ∙ set_split nodes k moved h ∙ ap (λ (i : ℕ). front ++ (moved ∷ drop i nodes)) next in
    let node_is : IsNode m node = subst (λ (x : Node). IsNode m x) (sym is) (c.each k node h) in
    let others : (i : ℕ) → i ≢ k → node_at (front ++ (moved ∷ back)) i ≡ node_at (front ++ (node ∷ back)) i =
    λ i ne. ap (λ (xs : List Node). node_at xs i) (sym now ∙ put) ∙ get_or-set_other nodes k i moved _ ne ∙ ap (λ (xs : List Node). node_at xs i) was in
    let settled = moved_settled m n front back node at (subst (λ (xs : List Node). Owned (refs_of xs) m) was c.owned) (All-take (IsNode m) k nodes c.each) node_is
    (All-drop (IsNode m) (k + 1) nodes c.each) bytes p (λ i. i ≢ k) others in
    subst (λ (xs : List Node). IsSettled m n nodes xs (λ i. i ≢ k)) (sym now) (subst (λ (xs : List Node). IsSettled m n xs (front ++ (moved ∷ back)) (λ i. i ≢ k)) (sym was) settled)

-- one move after others
pub more_settled : (m mid n : Blocks) (nodes between new : List Node) (start k : ℕ) → start ≤ k → IsSettled m mid nodes between (IsOutside start k)
    → IsSettled mid n between new (λ i. i ≢ k) → IsSettled m n nodes new (IsOutside start (k + 1))
more_settled m mid n nodes between new start k h p q = record {
  chain = q.chain;
  list_is = q.list_is ∙ p.list_is;
  changes = changes_then m mid n (refs_of nodes) (refs_of between) (refs_of new) p.changes q.changes;
  containers = q.containers ∙ p.containers;
  others = λ i out. q.others i (λ e. apart i out e) ∙ p.others i (wider i out);
}
  where
    apart : (i : ℕ) → IsOutside start (k + 1) i → i ≡ k → ⊥
    apart i out e = elim out [ inl lt ↦ omega (arith, e, lt, h) | inr le ↦ omega (arith, e, le) ]

    wider : (i : ℕ) → IsOutside start (k + 1) i → IsOutside start k i
    wider i out = elim out [ inl lt ↦ inl lt | inr le ↦ inr (omega (arith, le)) ]

pub settled_len : (m n : Blocks) (nodes new : List Node) (stays : ℕ → Type 0) → IsSettled m n nodes new stays → length new ≡ length nodes
settled_len m n nodes new stays p = sym (length-map new container_of) ∙ ap length p.containers ∙ length-map nodes container_of

pub ref_node : (nodes : List Node) (i : ℕ) → ref_at (refs_of nodes) i ≡ (node_at nodes i).at
ref_node [] i = refl
ref_node (node ∷ nodes) zero = refl
ref_node (node ∷ nodes) (suc i) = ref_node nodes i

-- what was passed
pub passed_by : (heap : Heap) (m n : Blocks) (old new : List Node) (from room end used : ℕ) (next : Option ℕ) → IsSettled m n old new (IsOutside from end)
    → ((i : ℕ) → from ≤ i → i < end → wants heap (node_at new i).at ≡ false) → used ≡ end - from → from ≤ end → used ≤ room → passed_to (length old) next ≡ end
    → IfSome next (λ to. (from < to) × (room ≤ used + 17) × (to < length old)) → IsPassed heap (refs_of old) (refs_of new) from room (record { next = next; used = used })
passed_by heap m n old new from room end used next p calm so_many order few to on = record {
  within = few;
  counted = so_many ∙ ap (λ e. e - from) (sym (ap (λ k. passed_to k next) (length-map old (λ (node : Node). node.at)) ∙ to));
  on = at_length next on;
  same_count = same;
  calm = λ i low high. ap (wants heap) (ref_node new i) ∙ calm i low (omega (arith, high, to, ap (λ k. passed_to k next) (same ∙ length-map old (λ (node : Node). node.at))));
  stays = λ i out. ref_node new i ∙ ap (λ (node : Node). node.at)
      (p.others i (subst (λ e. IsOutside from e i) (ap (λ k. passed_to k next) (length-map old (λ (node : Node). node.at)) ∙ to) out)) ∙ sym (ref_node old i);
}
  where
    same : length (refs_of new) ≡ length (refs_of old)
    same = length-map new (λ (node : Node). node.at) ∙ settled_len m n old new (IsOutside from end) p ∙ sym (length-map old (λ (node : Node). node.at))

    at_length : (o : Option ℕ) → IfSome o (λ to. (from < to) × (room ≤ used + 17) × (to < length old)) → IfSome o (λ to. (from < to) × (room ≤ used + 17) × (to < length (refs_of new)))
    at_length None h = tt
    at_length (Some to) h = (h.0, h.1, omega (arith, h.2, same, length-map old (λ (node : Node). node.at)))

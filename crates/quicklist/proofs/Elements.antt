-- The elements of a chain, by its nodes.
use Rattle.std.proofs.Common.{◌≡◌, ℕ, suc, ◌+◌, ◌-◌, ◌<◌, ◌≤◌, List, [], ◌∷◌, ◌++◌, length, map, take, drop, get_or, set, refl, ap, ◌∙◌, sym, subst, inl, inr, arith, flat_map, length-append}
use Rattle.std.specs.Prelude.{sum_by}
use Rattle.std.specs.List.{All, insert, remove, remove_range}
use Rattle.std.proofs.lemmas.List.{append_assoc, append-nil, take-append-drop, take_at, drop_at, length-take-le, set_split, drop_more, take_more, get_or_default, length-drop, drop_all, length-set}
use Rattle.std.proofs.lemmas.List.Edits.{length-insert}
use Rattle.std.proofs.lemmas.List.Concat.{flat_map-append, get_or-flat_map}
use Rattle.std.proofs.lemmas.Grind.{common_steps}
use Rattle.std.proofs.lemmas.Bool.{cases_lt}
use Rattle.std.proofs.lemmas.List.Sums.{sum_by-cons, sum_by-take-le}
use Rattle.std.proofs.lemmas.List.Elements.{All-take, All-drop}
use Rattle.blocks.specs.Blocks.{Blocks}
use Rattle.object_codec.specs.declared.form.Form.{Form}
use Rattle.quicklist.proofs.Rising.{respelled_alone}
use Rattle.quicklist.specs.declared.node.Container.{Container}
use Rattle.quicklist.specs.declared.node.Container.TheVariants.{Plain, Packed}
use Rattle.quicklist.specs.declared.node.Node.{Node}
use Rattle.listpack.specs.Entry.{back_length}
use Rattle.listpack.specs.Pack.{texts}
use Rattle.listpack.specs.Writing.{entry, spelling}
use Rattle.quicklist.proofs.Written.{packed_len, back_some}
use Rattle.quicklist.specs.declared.piece.Piece.{Piece}
use Rattle.quicklist.specs.Nodes.{IsNode, IsPlace, IsGap, IsPacked, IsHeld, IsPart, three, container_of, pack_len, held, piece_list, node_at, node_list, elements_of, count_of, bytes_of}
use Rattle.quicklist.specs.Chain.{Chain, IsQuick, IsFormed, IsOverfull, respelled, around, elements}

-- the counts of the nodes are those of their elements
pub sum_is : (m : Blocks) (nodes : List Node) → All (IsNode m) nodes → sum_by count_of nodes ≡ length (elements_of m nodes)
sum_is m [] all = refl
sum_is m (node ∷ nodes) all =
    let one : IsNode m node = all 0 node (omega arith) in
    let more = sum_by-cons count_of node nodes in
    let held_more : elements_of m (node ∷ nodes) ≡ node_list m node ++ elements_of m nodes = refl in
    omega (arith, more, ap length held_more, one.counted, sum_is m nodes (All-drop (IsNode m) 1 (node ∷ nodes) all), length-append (node_list m node) (elements_of m nodes))

-- the counts of the first nodes add up to the number of their elements
pub sum_front : (m : Blocks) (nodes : List Node) (k : ℕ) → All (IsNode m) nodes → sum_by count_of (take k nodes) ≡ length (elements_of m (take k nodes))
sum_front m nodes k all = sum_is m (take k nodes) (All-take (IsNode m) k nodes all)

-- the length of a list is the sum of its nodes' counts
pub len_is : (m : Blocks) (q : Chain) → IsQuick m q → q.len ≡ sum_by count_of q.nodes
len_is m q s = s.counted ∙ sym (sum_is m q.nodes s.chain.each)

-- a list, cut at a node
pub elements_cut : (m : Blocks) (nodes : List Node) (k : ℕ) → k < length nodes → elements_of m nodes ≡ elements_of m (take k nodes)
    ++ (node_list m (node_at nodes k) ++ elements_of m (drop (k + 1) nodes))
elements_cut m nodes k h =
    ap (elements_of m) (sym (take-append-drop k nodes)) ∙ flat_map-append (node_list m) (take k nodes) (drop k nodes)
    ∙ ap (λ (xs : List Node). elements_of m (take k nodes) ++ elements_of m xs) (drop_more nodes k (record { at = record { slab = 0; slot = 0 }; count = 0; container = Plain }) h)

-- the elements of nodes are those of the first nodes, and then those of the others
pub elements_split : (m : Blocks) (nodes : List Node) (k : ℕ) → elements_of m nodes ≡ elements_of m (take k nodes) ++ elements_of m (drop k nodes)
elements_split m nodes k = ap (elements_of m) (sym (take-append-drop k nodes)) ∙ flat_map-append (node_list m) (take k nodes) (drop k nodes)

-- with one node more, the first nodes have as many elements more as that node has
pub front_more : (m : Blocks) (nodes : List Node) (k : ℕ) → k < length nodes
    → length (elements_of m (take (k + 1) nodes)) ≡ length (elements_of m (take k nodes)) + length (node_list m (node_at nodes k))
front_more m nodes k h =
    let more = take_more nodes k (record { at = record { slab = 0; slot = 0 }; count = 0; container = Plain }) h in
    omega (
      arith,
      ap (λ (xs : List Node). length (elements_of m xs)) more,
      ap length (flat_map-append (node_list m) (take k nodes) (node_at nodes k ∷ [])),
      length-append (elements_of m (take k nodes)) (node_list m (node_at nodes k) ++ []),
      length-append (node_list m (node_at nodes k)) [],
    )

-- where each of the nodes holds what it counts, the one at an index does
pub node_of : (m : Blocks) (nodes : List Node) (k : ℕ) → All (IsNode m) nodes → k < length nodes → IsNode m (node_at nodes k)
node_of m nodes k all h = all k (record { at = record { slab = 0; slot = 0 }; count = 0; container = Plain }) h

-- elements between those of others
module _ {X : Type 0} (a b c : List X) where
  -- a cut within the middle one of three joined lists cuts that one alone
  pub front_of : (i : ℕ) → i ≤ length b → (take (length a + i) (a ++ (b ++ c)) ≡ a ++ take i b) × (drop (length a + i) (a ++ (b ++ c)) ≡ drop i b ++ c)
  front_of i h =
      let whole : a ++ (b ++ c) ≡ (a ++ take i b) ++ (drop i b ++ c) =
      ap (λ (xs : List X). a ++ (xs ++ c)) (sym (take-append-drop i b)) ∙ ap (λ (xs : List X). a ++ xs) (append_assoc (take i b) (drop i b) c) ∙ sym (append_assoc a (take i b) (drop i b ++ c)) in
      let size : length (a ++ take i b) ≡ length a + i = omega (arith, length-append a (take i b), length-take-le i b h) in
      (ap (take (length a + i)) whole ∙ take_at (a ++ take i b) (drop i b ++ c) (length a + i) size, ap (drop (length a + i)) whole ∙ drop_at (a ++ take i b) (drop i b ++ c) (length a + i) size)

  -- to put an element in the place of a range within the middle one of three lists changes that one alone
  pub around_within : (i j : ℕ) (x : X) → i ≤ length b → j ≤ length b
      → take (length a + i) (a ++ (b ++ c)) ++ (x ∷ drop (length a + j) (a ++ (b ++ c))) ≡ a ++ ((take i b ++ (x ∷ drop j b)) ++ c)
  around_within i j x h l =
      ap (λ (xs : List X). xs ++ (x ∷ drop (length a + j) (a ++ (b ++ c)))) (front_of i h).0 ∙ ap (λ (xs : List X). (a ++ take i b) ++ (x ∷ xs)) (front_of j l).1
      ∙ append_assoc a (take i b) (x ∷ (drop j b ++ c)) ∙ ap (λ (xs : List X). a ++ xs) (sym (append_assoc (take i b) (x ∷ drop j b) c))

  -- to take a range within the middle one of three lists out changes that one alone
  pub cut_within : (i j : ℕ) → i ≤ length b → j ≤ length b
      → take (length a + i) (a ++ (b ++ c)) ++ drop (length a + j) (a ++ (b ++ c)) ≡ a ++ ((take i b ++ drop j b) ++ c)
  cut_within i j h l =
      ap (λ (xs : List X). xs ++ drop (length a + j) (a ++ (b ++ c))) (front_of i h).0 ∙ ap (λ (xs : List X). (a ++ take i b) ++ xs) (front_of j l).1
      ∙ append_assoc a (take i b) (drop j b ++ c) ∙ ap (λ (xs : List X). a ++ xs) (sym (append_assoc (take i b) (drop j b) c))

-- an element put in within a node
pub insert_node_is : (m : Blocks) (q : Chain) (index k j : ℕ) (x : List ℕ) → IsQuick m q → IsGap q.nodes index k j
    → respelled m q k (insert (node_list m (node_at q.nodes k)) j x) (k + 1) ≡ insert (elements m q) index x
insert_node_is m q index k j x s gap =
    let nodes = q.nodes in
    let a = elements_of m (take k nodes) in
    let b = node_list m (node_at nodes k) in
    let c = elements_of m (drop (k + 1) nodes) in
    let whole = elements_cut m nodes k gap.inside in
    let room : j ≤ length b = omega (arith, gap.among, (node_of m nodes k s.chain.each gap.inside).counted) in
    let at : index ≡ length a + j = omega (arith, gap.before, sum_front m nodes k s.chain.each) in
    sym (around_within a b c j j x room room) ∙ ap (λ (xs : List (List ℕ)). insert xs (length a + j) x) (sym whole) ∙ ap (λ (i : ℕ). insert (elements m q) i x) (sym at)

-- or beside one
pub insert_beside_is : (m : Blocks) (q : Chain) (index k : ℕ) (x : List ℕ) → index ≡ length (elements_of m (take k q.nodes)) → respelled m q k (x ∷ []) k ≡ insert (elements m q) index x
insert_beside_is m q index k x at =
    let a = elements_of m (take k q.nodes) in
    let b = elements_of m (drop k q.nodes) in
    ap (λ (xs : List (List ℕ)). xs ++ (x ∷ b)) (sym (take_at a b index (sym at))) ∙ ap (λ (xs : List (List ℕ)). take index (a ++ b) ++ (x ∷ xs)) (sym (drop_at a b index (sym at)))
    ∙ ap (λ (xs : List (List ℕ)). insert xs index x) (sym (elements_split m q.nodes k))

-- the element at a place
pub place_room : (m : Blocks) (q : Chain) (index k j : ℕ) → IsQuick m q → IsPlace q.nodes index k j → (j < length (node_list m (node_at q.nodes k)))
    × (index ≡ length (elements_of m (take k q.nodes)) + j)
place_room m q index k j s place =
    let more = front_more m q.nodes k place.inside in
    (omega (arith, place.among, more, sum_front m q.nodes k s.chain.each, sum_front m q.nodes (k + 1) s.chain.each), omega (arith, place.before, sum_front m q.nodes k s.chain.each))

-- to set an element within its node sets it at its index in the list
pub set_node_is : (m : Blocks) (q : Chain) (index k j : ℕ) (x : List ℕ) → IsQuick m q → IsPlace q.nodes index k j
    → respelled m q k (set (node_list m (node_at q.nodes k)) j x) (k + 1) ≡ set (elements m q) index x
set_node_is m q index k j x s place =
    let nodes = q.nodes in
    let a = elements_of m (take k nodes) in
    let b = node_list m (node_at nodes k) in
    let c = elements_of m (drop (k + 1) nodes) in
    let whole = elements_cut m nodes k place.inside in
    let room = place_room m q index k j s place in
    let next : suc index ≡ length a + suc j = omega (arith, room.1) in
    let inside : index < length (elements m q) = omega (arith, ap length whole, length-append a (b ++ c), length-append b c, room.0, room.1) in
    ap (λ (xs : List (List ℕ)). a ++ (xs ++ c)) (set_split b j x room.0) ∙ sym (around_within a b c j (suc j) x (omega (arith, room.0)) room.0)
    ∙ ap (λ (i : ℕ). take (length a + j) (a ++ (b ++ c)) ++ (x ∷ drop i (a ++ (b ++ c)))) (sym next)
    ∙ ap (λ (i : ℕ). take i (a ++ (b ++ c)) ++ (x ∷ drop (suc index) (a ++ (b ++ c)))) (sym room.1)
    ∙ ap (λ (xs : List (List ℕ)). take index xs ++ (x ∷ drop (suc index) xs)) (sym whole) ∙ sym (set_split (elements m q) index x inside)

-- to take an element out of its node takes it out at its index in the list
pub remove_node_is : (m : Blocks) (q : Chain) (index k j : ℕ) → IsQuick m q → IsPlace q.nodes index k j
    → respelled m q k (remove_range (node_list m (node_at q.nodes k)) j (j + 1)) (k + 1) ≡ remove (elements m q) index
remove_node_is m q index k j s place =
    let nodes = q.nodes in
    let a = elements_of m (take k nodes) in
    let b = node_list m (node_at nodes k) in
    let c = elements_of m (drop (k + 1) nodes) in
    let room = place_room m q index k j s place in
    let next : suc index ≡ length a + (j + 1) = omega (arith, room.1) in
    sym (cut_within a b c j (j + 1) (omega (arith, room.0)) (omega (arith, room.0)))
    ∙ ap (λ (i : ℕ). take (length a + j) (a ++ (b ++ c)) ++ drop i (a ++ (b ++ c))) (sym next)
    ∙ ap (λ (i : ℕ). take i (a ++ (b ++ c)) ++ drop (suc index) (a ++ (b ++ c))) (sym room.1)
    ∙ ap (λ (xs : List (List ℕ)). remove xs index) (sym (elements_cut m nodes k place.inside))

-- the element at an index of a list is the one at its place in its node
pub get_is : (m : Blocks) (q : Chain) (index k j : ℕ) → IsQuick m q → IsPlace q.nodes index k j → get_or (elements m q) index [] ≡ get_or (node_list m (node_at q.nodes k)) j []
get_is m q index k j s place =
    let room = place_room m q index k j s place in
    ap (λ (i : ℕ). get_or (elements m q) i []) room.1
    ∙ get_or-flat_map (node_list m) q.nodes k j (record { at = record { slab = 0; slot = 0 }; count = 0; container = Plain }) [] place.inside room.0

-- the node that an index gives
pub node_is : (nodes : List Node) (k : ℕ) (node : Node) → k < length nodes → node ≡ get_or nodes k node → node ≡ node_at nodes k
node_is nodes k node h is = is ∙ get_or_default nodes k node (record { at = record { slab = 0; slot = 0 }; count = 0; container = Plain }) h

-- the elements of a packed node are the texts of its block's bytes
pub packed_list : (m : Blocks) (node : Node) (bytes : List ℕ) → node.container ≡ Packed → bytes_of m node ≡ bytes → node_list m node ≡ texts bytes
packed_list m node bytes is there =
    ap (λ (c : Container). held c (bytes_of m node)) is ∙ ap texts there

-- the elements of a node are those that its container has in its block's bytes
pub held_is : (m : Blocks) (node : Node) (bytes : List ℕ) → bytes_of m node ≡ bytes → node_list m node ≡ held node.container bytes
held_is m node bytes there = ap (held node.container) there

-- pieces beside each other
pub part_list : (piece : Piece) → IsPart piece → piece_list piece ≡ texts piece.bytes.now
part_list piece p = ap (λ (c : Container). held c piece.bytes.now) p.packed

-- a list of length 0 is empty
none_left : (xs : List (List ℕ)) → length xs ≡ 0 → xs ≡ []
none_left [] h = refl
none_left (x ∷ xs) h = absurd (omega arith)

-- a part that counts no element has none
pub part_empty : (piece : Piece) → IsPart piece → piece.count ≡ 0 → piece_list piece ≡ []
part_empty piece p none = part_list piece p ∙ none_left (texts piece.bytes.now) (omega (arith, p.counted, none))

-- the three parts of a node that was split
pub split_is : (xs left right : List (List ℕ)) (from to count : ℕ) (x : List ℕ) → count ≡ length xs → left ≡ remove_range xs from count → right ≡ remove_range xs 0 to
    → left ++ ((x ∷ []) ++ right) ≡ around from to x xs
split_is xs left right from to count x all l r =
    let none : drop count xs ≡ [] = drop_all count xs (omega (arith, all)) in
    ap (λ (ys : List (List ℕ)). ys ++ (x ∷ right)) (l ∙ ap (λ (ys : List (List ℕ)). take from xs ++ ys) none ∙ append-nil (take from xs))
    ∙ ap (λ (ys : List (List ℕ)). take from xs ++ (x ∷ ys)) r

-- what is left of a list before an index has as many elements as the index says
pub split_front : (xs left : List (List ℕ)) (from count : ℕ) → count ≡ length xs → from ≤ count → left ≡ remove_range xs from count → length left ≡ from
split_front xs left from count all h l =
    let none : drop count xs ≡ [] = drop_all count xs (omega (arith, all)) in
    omega (arith, ap length l, ap length none, length-append (take from xs) (drop count xs), length-take-le from xs (omega (arith, all, h)))

-- what is left of a list from an index on has the list's length less the index
pub split_back : (xs right : List (List ℕ)) (to : ℕ) → right ≡ remove_range xs 0 to → length right ≡ length xs - to
split_back xs right to r = omega (arith, ap length r, length-drop to xs)

-- the bytes of a packed node, and how many elements they have
pub packed_node : (m : Blocks) (nodes : List Node) (k : ℕ) (node : Node) (bytes : List ℕ) → All (IsNode m) nodes → k < length nodes → node ≡ node_at nodes k
    → (node_at nodes k).container ≡ Packed → bytes_of m node ≡ bytes
    → (node_list m (node_at nodes k) ≡ texts bytes) × (node.count ≡ length (texts bytes))
packed_node m nodes k node bytes each h is packed there =
    let list = packed_list m (node_at nodes k) bytes packed (ap (bytes_of m) (sym is) ∙ there) in
    (list, ap count_of is ∙ (node_of m nodes k each h).counted ∙ ap length list)

-- the three pieces of a packed node that was split have its elements with a new one in the place of a range
pub split_whole : (m : Blocks) (nodes : List Node) (k : ℕ) (node : Node) (bytes left right : List ℕ) (a b c : Piece) (from to : ℕ) (x : List ℕ) → All (IsNode m) nodes → k < length nodes
    → node ≡ node_at nodes k
    → (node_at nodes k).container ≡ Packed → bytes_of m node ≡ bytes → texts left ≡ remove_range (texts bytes) from node.count → texts right ≡ remove_range (texts bytes) 0 to
    → piece_list a ≡ texts left → piece_list b ≡ x ∷ [] → piece_list c ≡ texts right → three a b c ≡ around from to x (node_list m (node_at nodes k))
split_whole m nodes k node bytes left right a b c from to x each h is packed there l r one two last =
    let facts = packed_node m nodes k node bytes each h is packed there in
    ap (λ (ys : List (List ℕ)). ys ++ (piece_list b ++ piece_list c)) one ∙ ap (λ (ys : List (List ℕ)). texts left ++ (ys ++ piece_list c)) two
    ∙ ap (λ (ys : List (List ℕ)). texts left ++ ((x ∷ []) ++ ys)) last ∙ split_is (texts bytes) (texts left) (texts right) from to node.count x facts.1 l r
    ∙ ap (around from to x) (sym facts.0)

-- what an element put in at a place gives
pub overfull_insert : (m : Blocks) (q : Chain) (index k j len : ℕ) (x : List ℕ) (list : List (List ℕ)) → IsQuick m q → IsGap q.nodes index k j
    → 8192 < pack_len (insert (node_list m (node_at q.nodes k)) j x)
    → index ≤ length (elements m q) → len ≡ q.len + 1 → list ≡ insert (elements m q) index x → IsOverfull q list len
overfull_insert m q index k j len x list s gap long h more is = record {
  counted = omega (arith, more, s.counted, ap length is, length-insert (elements m q) index x h);
  long = λ listpack.
      let alone = respelled_alone m q.nodes k (insert (node_list m (node_at q.nodes k)) j x) gap.inside (subst (λ (f : Form). IsFormed f (map container_of q.nodes)) listpack s.formed) in
      omega (arith, long, ap pack_len (sym alone ∙ insert_node_is m q index k j x s gap ∙ sym is));
}

-- where one listpack of a node with an element set is too long, the list with it set is overfull
pub overfull_set : (m : Blocks) (q : Chain) (index k j len : ℕ) (x : List ℕ) (list : List (List ℕ)) → IsQuick m q → IsPlace q.nodes index k j
    → 8192 < pack_len (set (node_list m (node_at q.nodes k)) j x)
    → len ≡ q.len → list ≡ set (elements m q) index x → IsOverfull q list len
overfull_set m q index k j len x list s place long same is = record {
  counted = omega (arith, same, s.counted, ap length is, length-set (elements m q) index x);
  long = λ listpack.
      let alone = respelled_alone m q.nodes k (set (node_list m (node_at q.nodes k)) j x) place.inside (subst (λ (f : Form). IsFormed f (map container_of q.nodes)) listpack s.formed) in
      omega (arith, long, ap pack_len (sym alone ∙ set_node_is m q index k j x s place ∙ sym is));
}

-- beside a node, at its front and behind it
pub at_front : (m : Blocks) (q : Chain) (index k j : ℕ) (x : List ℕ) → IsQuick m q → IsGap q.nodes index k j → j ≡ 0 → respelled m q k (x ∷ []) (k + 0) ≡ insert (elements m q) index x
at_front m q index k j x s gap none =
    let same : k + 0 ≡ k = omega arith in
    ap (respelled m q k (x ∷ [])) same ∙ insert_beside_is m q index k x (omega (arith, gap.before, none, sum_front m q.nodes k s.chain.each))

-- where the gap is at a node's end, an element placed behind that node is put in at the gap's index
pub at_back : (m : Blocks) (q : Chain) (index k j : ℕ) (x : List ℕ) → IsQuick m q → IsGap q.nodes index k j → j ≡ (node_at q.nodes k).count
    → respelled m q (k + 1) (x ∷ []) (k + 1 + 0) ≡ insert (elements m q) index x
at_back m q index k j x s gap all =
    let same : k + 1 + 0 ≡ k + 1 = omega arith in
    ap (respelled m q (k + 1) (x ∷ [])) same
    ∙ insert_beside_is m q index (k + 1) x
    (omega (arith, gap.before, all, sum_front m q.nodes k s.chain.each, front_more m q.nodes k gap.inside, (node_of m q.nodes k s.chain.each gap.inside).counted))

-- the one element of a node in the place of which another stands
pub set_alone : (m : Blocks) (q : Chain) (index k j : ℕ) (x : List ℕ) → IsQuick m q → IsPlace q.nodes index k j → (node_at q.nodes k).count ≡ 1
    → respelled m q k (x ∷ []) (k + 1) ≡ set (elements m q) index x
set_alone m q index k j x s place one =
    let room = place_room m q index k j s place in
    let long : length (node_list m (node_at q.nodes k)) ≡ 1 = omega (arith, one, (node_of m q.nodes k s.chain.each place.inside).counted) in
    let first : j ≡ 0 = omega (arith, room.0, long) in
    ap (λ (xs : List (List ℕ)). respelled m q k xs (k + 1)) (sym (ap (λ (i : ℕ). set (node_list m (node_at q.nodes k)) i x) first ∙ only (node_list m (node_at q.nodes k)) long))
    ∙ set_node_is m q index k j x s place
  where
    only : (xs : List (List ℕ)) → length xs ≡ 1 → set xs 0 x ≡ x ∷ []
    only [] h = absurd (omega arith)
    only (y ∷ []) h = refl
    only (y ∷ z ∷ ys) h = absurd (omega arith)

-- to put an element in the place of a range of one is to set it there
pub around_set : (xs : List (List ℕ)) (j : ℕ) (x : List ℕ) → j < length xs → around j (j + 1) x xs ≡ set xs j x
around_set xs j x h = let next : j + 1 ≡ suc j = omega arith in ap (λ (i : ℕ). take j xs ++ (x ∷ drop i xs)) next ∙ sym (set_split xs j x h)

-- a node of one element gone
pub remove_alone : (m : Blocks) (q : Chain) (index k j : ℕ) → IsQuick m q → IsPlace q.nodes index k j → (node_at q.nodes k).count ≡ 1 → respelled m q k [] (k + 1) ≡ remove (elements m q) index
remove_alone m q index k j s place one =
    let room = place_room m q index k j s place in
    let long : length (node_list m (node_at q.nodes k)) ≡ 1 = omega (arith, one, (node_of m q.nodes k s.chain.each place.inside).counted) in
    let first : j ≡ 0 = omega (arith, room.0, long) in
    ap (λ (xs : List (List ℕ)). respelled m q k xs (k + 1))
    (sym (ap (λ (i : ℕ). remove_range (node_list m (node_at q.nodes k)) i (i + 1)) first ∙ drop_all 1 (node_list m (node_at q.nodes k)) (omega (arith, long))))
    ∙ remove_node_is m q index k j s place

-- the elements of the node at a place, by its bytes
pub list_at : (m : Blocks) (nodes : List Node) (k : ℕ) (node : Node) (bytes : List ℕ) → node ≡ node_at nodes k → bytes_of m node ≡ bytes → node_list m (node_at nodes k) ≡ held node.container bytes
list_at m nodes k node bytes is there = ap (node_list m) (sym is) ∙ held_is m node bytes there

-- with an element set in what a node's bytes hold, the list has it set at its index
pub replaced_list : (m : Blocks) (q : Chain) (index k j : ℕ) (x : List ℕ) (node : Node) (bytes : List ℕ) (list : List (List ℕ)) → IsQuick m q → IsPlace q.nodes index k j
    → node ≡ node_at q.nodes k → bytes_of m node ≡ bytes
    → list ≡ set (held node.container bytes) j x → respelled m q k list (k + 1) ≡ set (elements m q) index x
replaced_list m q index k j x node bytes list s place is there same =
    ap (λ (xs : List (List ℕ)). respelled m q k xs (k + 1)) (same ∙ ap (λ (xs : List (List ℕ)). set xs j x) (sym (list_at m q.nodes k node bytes is there))) ∙ set_node_is m q index k j x s place

-- how many elements the node has
pub count_at : (m : Blocks) (nodes : List Node) (k : ℕ) (node : Node) (bytes : List ℕ) → All (IsNode m) nodes → k < length nodes → node ≡ node_at nodes k → bytes_of m node ≡ bytes
    → node.count ≡ length (held node.container bytes)
count_at m nodes k node bytes each h is there = ap count_of is ∙ (node_of m nodes k each h).counted ∙ ap length (list_at m nodes k node bytes is there)

-- a packed node has few elements, since each takes a byte at least
entries_some : (list : List (List ℕ)) → length list ≤ length (flat_map entry list)
entries_some [] = omega arith
entries_some (x ∷ list) =
    omega (arith, entries_some list, length-append (entry x) (flat_map entry list), length-append (spelling x) (back_length (length (spelling x))), back_some (length (spelling x)))

-- the listpack of a packed node has at most 8,192 elements
pub count_small : (bytes : List ℕ) → IsPacked bytes → length (texts bytes) ≤ 8192
count_small bytes p = omega (arith, entries_some (texts bytes), packed_len bytes p, p.short)

-- the bytes at a place are those of its node
pub held_at : (m : Blocks) (nodes : List Node) (k : ℕ) (node : Node) (bytes : List ℕ) → All (IsNode m) nodes → k < length nodes → node ≡ node_at nodes k → bytes_of m node ≡ bytes
    → IsHeld node.container bytes
held_at m nodes k node bytes each h is there =
    let one = subst (λ (n : Node). IsNode m n) (sym is) (node_of m nodes k each h) in
    subst (IsHeld node.container) there one.is_held

-- elements taken out of two nodes and all nodes between them
pub range_is : (m : Blocks) (q : Chain) (from last_index first i last j : ℕ) → IsQuick m q → IsPlace q.nodes from first i → IsPlace q.nodes last_index last j
    → respelled m q first (take i (node_list m (node_at q.nodes first)) ++ drop (j + 1) (node_list m (node_at q.nodes last))) (last + 1) ≡ remove_range (elements m q) from (last_index + 1)
range_is m q from last_index first i last j s one two =
    let nodes = q.nodes in
    let a = elements_of m (take first nodes) in
    let b = node_list m (node_at nodes first) in
    let c = elements_of m (drop (first + 1) nodes) in
    let d = elements_of m (take last nodes) in
    let e = node_list m (node_at nodes last) in
    let f = elements_of m (drop (last + 1) nodes) in
    let room_one = place_room m q from first i s one in
    let room_two = place_room m q last_index last j s two in
    let front : take from (elements m q) ≡ a ++ take i b =
    ap (take from) (elements_cut m nodes first one.inside) ∙ ap (λ (k : ℕ). take k (a ++ (b ++ c))) room_one.1 ∙ (front_of a b c i (omega (arith, room_one.0))).0 in
    let next : last_index + 1 ≡ length d + (j + 1) = omega (arith, room_two.1) in
    let back : drop (last_index + 1) (elements m q) ≡ drop (j + 1) e ++ f =
    ap (drop (last_index + 1)) (elements_cut m nodes last two.inside) ∙ ap (λ (k : ℕ). drop k (d ++ (e ++ f))) next ∙ (front_of d e f (j + 1) (omega (arith, room_two.0))).1 in
    ap (λ (xs : List (List ℕ)). a ++ xs) (append_assoc (take i b) (drop (j + 1) e) f) ∙ sym (append_assoc a (take i b) (drop (j + 1) e ++ f))
    ∙ ap (λ (xs : List (List ℕ)). xs ++ (drop (j + 1) e ++ f)) (sym front) ∙ ap (λ (xs : List (List ℕ)). take from (elements m q) ++ xs) (sym back)

-- places stand in the order of their indexes
sums_rise : (nodes : List Node) (i j : ℕ) → i ≤ j → sum_by count_of (take i nodes) ≤ sum_by count_of (take j nodes)
sums_rise nodes i j h =
    let same : take i (take j nodes) ≡ take i nodes = grind (arith, common_steps) in
    omega (arith, sum_by-take-le count_of (take j nodes) i, ap (sum_by count_of) same)

-- the place of the greater of two indexes is in no earlier node
pub place_order : (nodes : List Node) (a b k l i j : ℕ) → IsPlace nodes a k i → IsPlace nodes b l j → a ≤ b → k ≤ l
place_order nodes a b k l i j one two h = elim (cases_lt l k) [
  | inl less ↦ absurd (omega (arith, one.before, two.before, two.among, h, sums_rise nodes (l + 1) k (omega (arith, less))))
  | inr more ↦ more
]

-- what is left of a list without a range, and the length of the range, add up to its length
pub range_len : (xs : List (List ℕ)) (i j : ℕ) → i ≤ j → j ≤ length xs → length (remove_range xs i j) + (j - i) ≡ length xs
range_len xs i j h l = omega (arith, length-append (take i xs) (drop j xs), length-take-le i xs (omega arith), length-drop j xs)

-- what is left of a node, to its end and from its front
pub front_left : (xs : List (List ℕ)) (i n : ℕ) → n ≡ length xs → remove_range xs i n ≡ take i xs
front_left xs i n h = ap (λ (ys : List (List ℕ)). take i xs ++ ys) (drop_all n xs (omega (arith, h))) ∙ append-nil (take i xs)

-- what is left of two nodes and of those between them
pub across_is : (m : Blocks) (q : Chain) (first last i j gone : ℕ) (head tail : Node) (one two : List ℕ) (before behind : List (List ℕ)) → All (IsNode m) q.nodes → first < length q.nodes
    → first ≤ last
    → head ≡ node_at q.nodes first → tail ≡ node_at q.nodes last → bytes_of m head ≡ one → bytes_of m tail ≡ two → gone ≡ last + 1 - first
    → before ≡ remove_range (held head.container one) i head.count → behind ≡ remove_range (held tail.container two) 0 j
    → respelled m q first (before ++ behind) (first + gone) ≡ respelled m q first (take i (node_list m (node_at q.nodes first)) ++ drop j (node_list m (node_at q.nodes last))) (last + 1)
across_is m q first last i j gone head tail one two before behind each h order is_head is_tail there_one there_two so_many b e =
    let count = count_at m q.nodes first head one each h is_head there_one in
    let end : first + gone ≡ last + 1 = omega (arith, so_many, order) in
    let front : before ≡ take i (node_list m (node_at q.nodes first)) =
    b ∙ front_left (held head.container one) i head.count count ∙ ap (take i) (sym (list_at m q.nodes first head one is_head there_one)) in
    let back : behind ≡ drop j (node_list m (node_at q.nodes last)) = e ∙ ap (drop j) (sym (list_at m q.nodes last tail two is_tail there_two)) in
    ap (λ (xs : List (List ℕ)). respelled m q first (xs ++ behind) (first + gone)) front
    ∙ ap (λ (xs : List (List ℕ)). respelled m q first (take i (node_list m (node_at q.nodes first)) ++ xs) (first + gone)) back
    ∙ ap (respelled m q first (take i (node_list m (node_at q.nodes first)) ++ drop j (node_list m (node_at q.nodes last)))) end

-- Cursors, and the places next to theirs.
use Rattle.std.proofs.Common.{◌≡◌, ℕ, ◌+◌, ◌-◌, ◌<◌, List, ◌++◌, length, take, drop, ap, sym, subst, inl, inr, arith, length-append}
use Rattle.std.proofs.lemmas.Bool.{cases_lt}
use Rattle.std.proofs.lemmas.List.{drop_all}
use Rattle.blocks.specs.Blocks.{Blocks}
use Rattle.quicklist.specs.declared.node.Container.{Container}
use Rattle.quicklist.specs.declared.node.Container.TheVariants.{Plain, Packed}
use Rattle.quicklist.specs.declared.node.Node.{Node}
use Rattle.quicklist.specs.Nodes.{IsPlace, held, node_at, node_list, elements_of, bytes_of}
use Rattle.quicklist.specs.Chain.{Chain, IsQuick, elements}
use Rattle.quicklist.specs.Cursor.{IsOffsetIn}
use Rattle.quicklist.proofs.Elements.{sum_front, front_more, node_of, elements_cut, place_room}

pub offset_at : (m : Blocks) (nodes : List Node) (k j at : ℕ) (node : Node) (bytes : List ℕ) → node ≡ node_at nodes k → bytes_of m node ≡ bytes
    → IsOffsetIn (node_at nodes k).container (bytes_of m (node_at nodes k)) j at → IsOffsetIn node.container bytes j at
offset_at m nodes k j at node bytes is there off =
    let one = subst (λ (n : Node). IsOffsetIn n.container (bytes_of m n) j at) (sym is) off in
    subst (λ (xs : List ℕ). IsOffsetIn node.container xs j at) there one

pub offset_back : (m : Blocks) (nodes : List Node) (k j at : ℕ) (node : Node) (bytes : List ℕ) → node ≡ node_at nodes k → bytes_of m node ≡ bytes
    → IsOffsetIn node.container bytes j at → IsOffsetIn (node_at nodes k).container (bytes_of m (node_at nodes k)) j at
offset_back m nodes k j at node bytes is there off =
    let one = subst (λ (xs : List ℕ). IsOffsetIn node.container xs j at) (sym there) off in
    subst (λ (n : Node). IsOffsetIn n.container (bytes_of m n) j at) is one

pub offset_inside : (container : Container) (bytes : List ℕ) (j at : ℕ) → IsOffsetIn container bytes j at → j < length (held container bytes)
offset_inside Plain bytes j at off = omega (arith, off.0)
offset_inside Packed bytes j at off = off.0

pub place_from : (m : Blocks) (q : Chain) (index k j : ℕ) → IsQuick m q → k < length q.nodes → j < length (node_list m (node_at q.nodes k))
    → index ≡ length (elements_of m (take k q.nodes)) + j → IsPlace q.nodes index k j
place_from m q index k j s h l at =
    let front = sum_front m q.nodes k s.chain.each in
    let next = sum_front m q.nodes (k + 1) s.chain.each in
    let more = front_more m q.nodes k h in
    record { inside = h; before = omega (arith, at, front); among = omega (arith, at, front, next, more, l) }

-- how many elements stand before, in and behind a node
pub counts_at : (m : Blocks) (q : Chain) (k : ℕ) → k < length q.nodes
    → length (elements m q) ≡ length (elements_of m (take k q.nodes)) + (length (node_list m (node_at q.nodes k)) + length (elements_of m (drop (k + 1) q.nodes)))
counts_at m q k h =
    omega (
      arith,
      ap length (elements_cut m q.nodes k h),
      length-append (elements_of m (take k q.nodes)) (node_list m (node_at q.nodes k) ++ elements_of m (drop (k + 1) q.nodes)),
      length-append (node_list m (node_at q.nodes k)) (elements_of m (drop (k + 1) q.nodes)),
    )

pub index_inside : (m : Blocks) (q : Chain) (index k j : ℕ) → IsQuick m q → IsPlace q.nodes index k j → index < length (elements m q)
index_inside m q index k j s place = let room = place_room m q index k j s place in omega (arith, room.0, room.1, counts_at m q k place.inside)

-- the next element of the same node
pub place_behind : (m : Blocks) (q : Chain) (index k j : ℕ) → IsQuick m q → IsPlace q.nodes index k j → j + 1 < length (node_list m (node_at q.nodes k)) → IsPlace q.nodes (index + 1) k (j + 1)
place_behind m q index k j s place h = place_from m q (index + 1) k (j + 1) s place.inside h (omega (arith, (place_room m q index k j s place).1))

-- the first one of the next node
pub node_behind : (m : Blocks) (q : Chain) (index k j : ℕ) → IsQuick m q → IsPlace q.nodes index k j → j + 1 ≡ length (node_list m (node_at q.nodes k)) → index + 1 < length (elements m q)
    → k + 1 < length q.nodes
node_behind m q index k j s place last more = elim (cases_lt (k + 1) (length q.nodes)) [
  | inl inside ↦ inside
  | inr past ↦
      let none = ap (λ (xs : List Node). length (elements_of m xs)) (drop_all (k + 1) q.nodes past) in
      absurd (omega (arith, counts_at m q k place.inside, place_room m q index k j s place, none, last, more))
]

pub node_some : (m : Blocks) (q : Chain) (k : ℕ) → IsQuick m q → k < length q.nodes → 0 < length (node_list m (node_at q.nodes k))
node_some m q k s h = let node = node_of m q.nodes k s.chain.each h in omega (arith, node.some, node.counted)

pub place_next : (m : Blocks) (q : Chain) (index k j : ℕ) → IsQuick m q → IsPlace q.nodes index k j → j + 1 ≡ length (node_list m (node_at q.nodes k)) → k + 1 < length q.nodes
    → IsPlace q.nodes (index + 1) (k + 1) 0
place_next m q index k j s place last h =
    place_from m q (index + 1) (k + 1) 0 s h (node_some m q (k + 1) s h) (omega (arith, front_more m q.nodes k place.inside, (place_room m q index k j s place).1, last))

-- and the last one of the node before
pub node_before : (m : Blocks) (q : Chain) (index k j : ℕ) → IsQuick m q → IsPlace q.nodes index k j → j ≡ 0 → (index ≡ 0 → ⊥) → 0 < k
node_before m q index k j s place first some = elim (cases_lt 0 k) [
  | inl more ↦ more
  | inr none ↦ let zero_th : k ≡ 0 = omega arith in absurd (some (omega (arith, (place_room m q index k j s place).1, first, ap (λ (i : ℕ). length (elements_of m (take i q.nodes))) zero_th)))
]

pub place_last : (m : Blocks) (q : Chain) (index k j : ℕ) → IsQuick m q → IsPlace q.nodes index k j → j ≡ 0 → 0 < k
    → IsPlace q.nodes (index - 1) (k - 1) (length (node_list m (node_at q.nodes (k - 1))) - 1)
place_last m q index k j s place first some =
    let back : k - 1 + 1 ≡ k = omega arith in
    let more = front_more m q.nodes (k - 1) (omega (arith, place.inside, some)) in
    let long = node_some m q (k - 1) s (omega (arith, place.inside, some)) in
    place_from m q (index - 1) (k - 1) (length (node_list m (node_at q.nodes (k - 1))) - 1) s (omega (arith, place.inside, some)) (omega (arith, long))
    (omega (arith, more, long, (place_room m q index k j s place).1, first, ap (λ (i : ℕ). length (elements_of m (take i q.nodes))) back))

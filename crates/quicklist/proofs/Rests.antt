-- What is left of nodes when a range of elements goes.
use Rattle.std.proofs.Common.{◌≡◌, ℕ, ◌+◌, ◌-◌, ◌<◌, ◌≤◌, ◌^◌, List, [], ◌∷◌, ◌++◌, length, map, take, drop, Option, Some, None, IsSome}
use Rattle.std.proofs.Common.{refl, ap, ◌∙◌, sym, subst, arith, Result, Ok, Err, inl, inr, flat_map}
use Rattle.std.specs.Prelude.{IfOk, IfSome, OnOk, OnErr, MatchOption, sum_by}
use Rattle.std.specs.Option.{option_copied}
use Rattle.std.specs.Borrow.{Bor}
use Rattle.std.specs.Global.{Vec}
use Rattle.std.specs.List.{All, remove_range}
use Rattle.std.proofs.lemmas.List.{append-nil, length-append, length-drop, length-map, length-take-le}
use Rattle.blocks.specs.Blocks.{Blocks}
use Rattle.listpack.specs.Pack.{texts}
use Rattle.object_codec.specs.declared.form.Form.{Form}
use Rattle.object_codec.specs.declared.form.Form.TheVariants.{Intset, Listpack, Hashtable, Skiplist, Quicklist, Stream}
use Rattle.quicklist.specs.declared.cursor.Cursor.{Cursor}
use Rattle.quicklist.specs.declared.node.Container.{Container}
use Rattle.quicklist.specs.declared.node.Container.TheVariants.{Plain, Packed}
use Rattle.quicklist.specs.declared.node.Node.{Node}
use Rattle.quicklist.specs.declared.piece.Piece.{Piece}
use Rattle.quicklist.specs.Nodes.{IsNode, Inserted, Placed, IsHeld, held, IsPacked, IsPart, IsPiece, IsPlace, piece_list, three}
use Rattle.quicklist.specs.Nodes.{left_list, rest_list, node_at, node_list, count_of, container_of, bytes_of}
use Rattle.quicklist.specs.Chain.{Chain, IsFormed, IsQuick, elements, respelled}
use Rattle.quicklist.specs.Cursor.{IsCursor}
use Rattle.quicklist.proofs.Chains.{length-placed}
use Rattle.quicklist.proofs.Moving.{piece_for}
use Rattle.quicklist.proofs.Going.{IsNext}
use Rattle.quicklist.proofs.Elements.{held_at, part_list, count_small, range_is, range_len}

-- the bytes are a packed node's of so many elements, one at least
abbrev pub IsRest : ℕ → Vec ℕ → Type 0
IsRest count v = IsPacked v.items × (count ≡ length (texts v.items)) × (0 < count) × (count < 2 ^ 32)

-- what holds of an answer's `Ok`
pub if_ok : {A E : Type 0} (P Q : A → Type 0) (r : Result A E) → ((x : A) → P x → Q x) → IfOk r P → IfOk r Q
if_ok P Q (Ok x) f h = f x h
if_ok P Q (Err e) f h = tt

-- of so many elements is what is left of a node
pub rest_counted : (count gone : ℕ) (o : Option (Vec ℕ)) → IfSome o (λ v. IsPacked v.items × (length (texts v.items) + gone ≡ count) × (0 < length (texts v.items))) → IfSome o (IsRest (count - gone))
rest_counted count gone None h = tt
rest_counted count gone (Some v) h =
    let same : count - gone ≡ length (texts v.items) = omega (arith, h.1) in
    (h.0, same, omega (arith, same, h.2), omega (arith, same, count_small v.items h.0))

-- what a borrowed rest holds
pub copied_list : (o : Option (Bor (Vec ℕ))) → rest_list o ≡ left_list (option_copied o)
copied_list None = refl
copied_list (Some v) = refl

-- a borrowed rest is one
pub copied_rest : (o : Option (Bor (Vec ℕ))) (left : Option (Vec ℕ)) (n count : ℕ) → option_copied o ≡ left → n ≡ count → IfSome left (IsRest n) → IfSome o (λ v. IsRest count v.now)
copied_rest o left n count is same h = borrowed o (subst (λ k. IfSome (option_copied o) (IsRest k)) same (subst (λ x. IfSome x (IsRest n)) (sym is) h))
  where
    borrowed : (o : Option (Bor (Vec ℕ))) → IfSome (option_copied o) (IsRest count) → IfSome o (λ v. IsRest count v.now)
    borrowed None h = tt
    borrowed (Some v) h = h

-- the elements of two rests, of which one may be none
pub none_before : (before behind : Option (Bor (Vec ℕ))) → before ≡ None → rest_list behind ≡ rest_list before ++ rest_list behind
none_before before behind is = ap (λ (o : Option (Bor (Vec ℕ))). rest_list o ++ rest_list behind) (sym is)

pub none_behind_rest : (before behind : Option (Bor (Vec ℕ))) → behind ≡ None → rest_list before ≡ rest_list before ++ rest_list behind
none_behind_rest before behind is = sym (append-nil (rest_list before)) ∙ ap (λ (o : Option (Bor (Vec ℕ))). rest_list before ++ rest_list o) (sym is)

-- the elements of a range, by the places of its first one and its last one
pub range_found : (m : Blocks) (q : Chain) (from to first i last j : ℕ) → IsQuick m q → IsPlace q.nodes from first i → IsPlace q.nodes (to - 1) last j → from < to
    → respelled m q first (take i (node_list m (node_at q.nodes first)) ++ drop (j + 1) (node_list m (node_at q.nodes last))) (last + 1) ≡ remove_range (elements m q) from to
range_found m q from to first i last j s one two less =
    let more : to - 1 + 1 ≡ to = omega (arith, less) in
    range_is m q from (to - 1) first i last j s one two ∙ ap (λ (k : ℕ). remove_range (elements m q) from k) more

-- both in one node
pub range_within : (m : Blocks) (q : Chain) (from to k i last j : ℕ) → IsQuick m q → IsPlace q.nodes from k i → IsPlace q.nodes (to - 1) last j → from < to → last ≡ k
    → respelled m q k (take i (node_list m (node_at q.nodes k)) ++ drop (j + 1) (node_list m (node_at q.nodes k))) (k + 1) ≡ remove_range (elements m q) from to
range_within m q from to k i last j s one two less same =
    ap (λ (l : ℕ). respelled m q k (take i (node_list m (node_at q.nodes k)) ++ drop (j + 1) (node_list m (node_at q.nodes l))) (l + 1)) (sym same) ∙ range_found m q from to k i last j s one two less

-- the places in one node are in the order of their indexes
pub order_within : (nodes : List Node) (a b k i l j : ℕ) → IsPlace nodes a k i → IsPlace nodes b l j → l ≡ k → a ≤ b → i < j + 1
order_within nodes a b k i l j one two same h =
    omega (arith, one.before, two.before, ap (λ (x : ℕ). sum_by count_of (take x nodes)) same, h)

-- how many elements are left
pub range_left : (m : Blocks) (q : Chain) (from to : ℕ) (list : List (List ℕ)) → IsQuick m q → from ≤ to → to ≤ length (elements m q) → list ≡ remove_range (elements m q) from to
    → q.len - (to - from) ≡ length list
range_left m q from to list s order inside is = omega (arith, s.counted, ap length is, range_len (elements m q) from to order inside)

-- a part that counts elements is a piece
pub part_piece : (piece : Piece) → IsPart piece → 0 < piece.count → IsPiece piece
part_piece piece p some = record {
  is_held = subst (λ (c : Container). IsHeld c piece.bytes.now) (sym p.packed) p.is_packed;
  counted = p.counted ∙ sym (ap length (part_list piece p));
  some = some;
}

-- the pieces around the middle one
pub piece_between : (a b c : Piece) → piece_list a ≡ [] → piece_list c ≡ [] → flat_map piece_list (b ∷ []) ≡ three a b c
piece_between a b c none end = ap (λ (xs : List (List ℕ)). piece_list b ++ xs) (sym end) ∙ ap (λ (xs : List (List ℕ)). xs ++ (piece_list b ++ piece_list c)) (sym none)

pub pieces_before : (a b c : Piece) → piece_list c ≡ [] → flat_map piece_list (a ∷ b ∷ []) ≡ three a b c
pieces_before a b c end = ap (λ (xs : List (List ℕ)). piece_list a ++ (piece_list b ++ xs)) (sym end)

pub pieces_around : (a b c : Piece) → flat_map piece_list (a ∷ b ∷ c ∷ []) ≡ three a b c
pieces_around a b c = ap (λ (xs : List (List ℕ)). piece_list a ++ (piece_list b ++ xs)) (append-nil (piece_list c))

-- with more than one node, whatever they become has the form that the list has
pub formed_many : (f : Form) (cs others : List Container) → 1 < length cs → IsFormed f cs → IsFormed f others
formed_many Intset cs others h t = t
formed_many Listpack cs others h (inl none) = absurd (omega (arith, h, ap length none))
formed_many Listpack cs others h (inr one) = absurd (omega (arith, h, ap length one))
formed_many Hashtable cs others h t = t
formed_many Skiplist cs others h t = t
formed_many Quicklist cs others h t = tt
formed_many Stream cs others h t = t

-- where nodes go and none comes, the list keeps its form
pub formed_fewer : (f : Form) (cs : List Container) (k gone : ℕ) → 0 < gone → k + gone ≤ length cs → IsFormed f cs → IsFormed f (take k cs ++ ([] ++ drop (k + gone) cs))
formed_fewer Intset cs k gone some h t = t
formed_fewer Listpack cs k gone some h (inl none) = absurd (omega (arith, some, h, ap length none))
formed_fewer Listpack cs k gone some h (inr one) =
    let first : k ≡ 0 = omega (arith, some, h, ap length one) in
    let end : k + gone ≡ 1 = omega (arith, some, h, ap length one) in
    inl (ap (λ (i : ℕ). take i cs ++ ([] ++ drop (k + gone) cs)) first ∙ ap (λ (i : ℕ). take 0 cs ++ ([] ++ drop i cs)) end ∙ ap (λ (xs : List Container). take 0 xs ++ ([] ++ drop 1 xs)) one)
formed_fewer Hashtable cs k gone some h t = t
formed_fewer Skiplist cs k gone some h t = t
formed_fewer Quicklist cs k gone some h t = tt
formed_fewer Stream cs k gone some h t = t

-- a call that gives this form, or leaves all, gives this form
pub form_of : {A E : Type 0} (r : Result A E) (old new : Chain) (form : Form) → form ≡ old.form → OnOk r (new.form ≡ form) → OnErr r (new ≡ old) → new.form ≡ old.form
form_of (Ok x) old new form is ok err = ok ∙ is
form_of (Err e) old new form is ok err = ap (λ (q : Chain). q.form) err

-- the bytes of a packed node are a written listpack
pub packed_bytes : (m : Blocks) (nodes : List Node) (k : ℕ) (node : Node) (bytes : List ℕ) → All (IsNode m) nodes → k < length nodes → node ≡ node_at nodes k → (node_at nodes k).container ≡ Packed
    → bytes_of m node ≡ bytes → IsPacked bytes
packed_bytes m nodes k node bytes each h is packed there =
    subst (λ (c : Container). IsHeld c bytes) (ap container_of is ∙ packed) (held_at m nodes k node bytes each h is there)

-- there is an element at an index below their number
pub next_some : (bytes : List ℕ) (j : ℕ) (place : Option ℕ) → IsNext bytes j place → j < length (texts bytes) → IsSome place
next_some bytes j None h less = absurd (omega (arith, h, less))
next_some bytes j (Some at) h less = refl

-- a node of more elements than one is packed
pub many_packed : (container : Container) (bytes : List ℕ) (count : ℕ) → count ≡ length (held container bytes) → (count ≡ 1 → ⊥) → container ≡ Packed
many_packed Plain bytes count is many = absurd (many is)
many_packed Packed bytes count is many = refl

-- the place of the element before one in its node
pub place_before : (nodes : List Node) (index k j : ℕ) → 0 < j → IsPlace nodes index k j → IsPlace nodes (index - 1) k (j - 1)
place_before nodes index k j some place = record { inside = place.inside; before = omega (arith, some, place.before); among = omega (arith, some, place.among) }

-- above the head there is a place
pub cursor_some : (m : Blocks) (q : Chain) (i : ℕ) (o : Option Cursor) → MatchOption o (i ≡ 0) (λ cursor. IsCursor m q cursor × (cursor.index + 1 ≡ i)) → 0 < i → IsSome o
cursor_some m q i None h some = absurd (omega (arith, h, some))
cursor_some m q i (Some cursor) h some = refl

-- so many nodes were copied
pub copied_count : (m mid : Blocks) (nodes fresh : List Node) (k : ℕ) → k ≤ length nodes → Placed m mid (map (piece_for m) (take k nodes)) fresh → length fresh ≡ k
copied_count m mid nodes fresh k h p = omega (arith, length-placed m mid (map (piece_for m) (take k nodes)) fresh p, length-map (take k nodes) (piece_for m), length-take-le k nodes h)

-- before the end there is a place
pub cursor_there : (m : Blocks) (q : Chain) (i count : ℕ) (o : Option Cursor) → MatchOption o (count ≤ i) (λ cursor. IsCursor m q cursor × (cursor.index ≡ i)) → i < count → IsSome o
cursor_there m q i count None h inside = absurd (omega (arith, h, inside))
cursor_there m q i count (Some cursor) h inside = refl

-- the first node of an empty list is packed in any form
pub formed_first : (f : Form) (cs : List Container) → cs ≡ [] → IsFormed f cs → IsFormed f (take 0 cs ++ ((Packed ∷ []) ++ drop 0 cs))
formed_first Intset cs none t = t
formed_first Listpack cs none t = inr (ap (λ (xs : List Container). take 0 xs ++ ((Packed ∷ []) ++ drop 0 xs)) none)
formed_first Hashtable cs none t = t
formed_first Skiplist cs none t = t
formed_first Quicklist cs none t = tt
formed_first Stream cs none t = t

-- where nodes were put in, those behind them are there still
pub inserted_room : (m mid : Blocks) (old now : List Node) (k gone : ℕ) (pieces : List Piece) → k + gone ≤ length old → Inserted m mid old now k pieces → k + length pieces + gone ≤ length now
inserted_room m mid old now k gone pieces h ins =
    omega (
      arith,
      h,
      ap length ins.2,
      length-append (take k old) (ins.0 ++ drop k old),
      length-append ins.0 (drop k old),
      length-take-le k old (omega (arith, h)),
      length-drop k old,
      length-placed m mid pieces ins.0 ins.1,
    )

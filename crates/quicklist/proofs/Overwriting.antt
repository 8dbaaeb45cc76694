-- Chains of which one node's block was edited.
use Rattle.std.proofs.Common.{◌≡◌, ℕ, suc, ◌+◌, ◌-◌, ◌<◌, ◌≤◌, List, [], ◌∷◌, ◌++◌, Option, Some, None, IsSome, Result, Ok, Err, length, map, take, drop, replicate, get_or, set, refl, ap, ◌∙◌, sym, subst, arith, flat_map, unwrap_or}
use Rattle.std.specs.Prelude.{IfOk}
use Rattle.std.specs.List.{All, insert, remove_range}
use Rattle.std.proofs.lemmas.List.{append-nil, length-map, map-append, take-map, drop-map, set_split, length-append, length-replicate, length-take, length-take-le, length-drop, nil_from_length}
use Rattle.std.proofs.lemmas.List.Concat.{flat_map-append}
use Rattle.std.proofs.lemmas.List.Elements.{All-cons, All-append, All-take, All-drop}
use Rattle.blocks.specs.declared.BlockRef.{BlockRef}
use Rattle.blocks.specs.Blocks.{Blocks, with_block, overwritten, resized, bytes_at, times, Changes, Owned}
use Rattle.blocks.proofs.Change.{live_once, changes_owned, changes_beside, owned_others}
use Rattle.blocks.proofs.Written.{overwritten_all}
use Rattle.object_codec.specs.declared.form.Form.{Form}
use Rattle.listpack.specs.Pack.{texts, spellings_of}
use Rattle.listpack.specs.Writing.{entry, spelling}
use Rattle.listpack.specs.Edits.{IsEdited}
use Rattle.pack_block.proofs.Blocks.{written_twice, moved_changes, placed_blocks, holds_written}
use Rattle.quicklist.specs.declared.node.Container.{Container}
use Rattle.quicklist.specs.declared.node.Node.{Node}
use Rattle.quicklist.specs.declared.piece.Piece.{Piece}
use Rattle.quicklist.specs.Nodes.{IsNode, IsChain, IsPiece, IsHeld, IsPacked, IsRemade, HasSpace, IsExact, Exchanged, pack_len, node_len, held, node_list, piece_list, refs_of, elements_of, container_of}
use Rattle.quicklist.specs.declared.node.Container.TheVariants.{Plain, Packed}
use Rattle.quicklist.specs.Chain.{Chain, IsQuick, IsWritten, IsRisen, respelled}
use Rattle.quicklist.proofs.Elements.{count_small}
use Rattle.quicklist.proofs.Rising.{written_by, changed_by, formed_rewrite, stays_rewrite, one_piece}
use Rattle.quicklist.proofs.Written.{packed_len, pack_len_insert, joined_is, cut_is}
use Rattle.quicklist.proofs.Chains.{times_refs, elements_same, each_same, cut_at, node_of_piece}

-- a node in the place of another
module _ (m n : Blocks) (front back : List Node) (node fresh : Node) (own : Owned (refs_of (front ++ (node ∷ back))) m) (p : Changes m n (node.at ∷ []) (fresh.at ∷ [])) where
  whole : (r : BlockRef) (x : Node) → times r (refs_of (front ++ (x ∷ back))) ≡ times r (x.at ∷ []) + (times r (refs_of front) + times r (refs_of back))
  whole r x = omega (arith, times_refs r front (x ∷ back))

  pub one_changes : Changes m n (refs_of (front ++ (node ∷ back))) (refs_of (front ++ (fresh ∷ back)))
  one_changes = changes_beside m n (node.at ∷ []) (fresh.at ∷ []) (refs_of (front ++ (node ∷ back))) (refs_of (front ++ (fresh ∷ back))) p own
      (λ r. times r (refs_of front) + times r (refs_of back)) (λ r. whole r node) (λ r. whole r fresh)

  stays_beside : (r : BlockRef) → 0 < times r (refs_of front) + times r (refs_of back) → n r ≡ m r
  stays_beside r isin =
      owned_others m n (node.at ∷ []) (fresh.at ∷ []) (refs_of (front ++ (node ∷ back))) own p r (omega (arith, isin, whole r node)) (omega (arith, isin, whole r node, own r, live_once m r))

  pub one_chain : All (IsNode m) front → IsNode n fresh → All (IsNode m) back → IsChain n (front ++ (fresh ∷ back))
  one_chain a is b = record {
    owned = changes_owned m n (refs_of (front ++ (node ∷ back))) (refs_of (front ++ (fresh ∷ back))) one_changes;
    each = All-append (IsNode n) front (fresh ∷ back) (each_same m n front (λ r isin. stays_beside r (omega (arith, isin))) a)
        (All-cons (IsNode n) fresh back is (each_same m n back (λ r isin. stays_beside r (omega (arith, isin))) b));
  }

  pub one_list : elements_of n (front ++ (fresh ∷ back)) ≡ elements_of m front ++ (node_list n fresh ++ elements_of m back)
  one_list =
      flat_map-append (node_list n) front (fresh ∷ back)
      ∙ ap (λ (xs : List (List ℕ)). xs ++ (node_list n fresh ++ elements_of n back)) (elements_same m n front (λ r isin. stays_beside r (omega (arith, isin))))
      ∙ ap (λ (xs : List (List ℕ)). elements_of m front ++ (node_list n fresh ++ xs)) (elements_same m n back (λ r isin. stays_beside r (omega (arith, isin))))

-- the node k of what its block is now, in its place
pub node_written : (m n : Blocks) (nodes new : List Node) (k : ℕ) (node : Node) (at : BlockRef) (piece : Piece) → IsChain m nodes → k < length nodes → node ≡ get_or nodes k node
    → Changes m n (node.at ∷ []) (at ∷ [])
    → IsPiece piece → bytes_at n at ≡ piece.bytes.now → new ≡ set nodes k (record { at = at; count = piece.count; container = piece.container })
    → Exchanged m n nodes new k (k + 1) (piece ∷ [])
node_written m n nodes new k node at piece c h is one p read now =
    let fresh : Node = record { at = at; count = piece.count; container = piece.container } in
    let front = take k nodes in
    let back = drop (k + 1) nodes in
    let was : nodes ≡ front ++ (node ∷ back) = cut_at nodes k node h is in
    let next : suc k ≡ k + 1 = omega arith in
    let stands : new ≡ front ++ (fresh ∷ back) = now ∙ set_split nodes k fresh h ∙ ap (λ (i : ℕ). front ++ (fresh ∷ drop i nodes)) next in
    let own : Owned (refs_of (front ++ (node ∷ back))) m = subst (λ (xs : List Node). Owned (refs_of xs) m) was c.owned in
    let held_is = node_of_piece n piece fresh p read refl refl in
    let changes = one_changes m n front back node fresh own one in
    record {
      chain = subst (IsChain n) (sym stands) (one_chain m n front back node fresh own one (All-take (IsNode m) k nodes c.each) held_is.0 (All-drop (IsNode m) (k + 1) nodes c.each));
      list = ap (elements_of n) stands ∙ one_list m n front back node fresh own one
          ∙ ap (λ (xs : List (List ℕ)). elements_of m front ++ (xs ++ elements_of m back)) (held_is.1 ∙ sym (append-nil (piece_list piece)));
      changes = subst (λ (xs : List Node). Changes m n (refs_of nodes) (refs_of xs)) (sym stands)
          (subst (λ (xs : List Node). Changes m n (refs_of xs) (refs_of (front ++ (fresh ∷ back)))) (sym was) changes);
      containers = ap (map container_of) stands ∙ map-append container_of front (fresh ∷ back)
          ∙ ap (λ (xs : List Container). xs ++ (piece.container ∷ map container_of back)) (sym (take-map container_of k nodes))
          ∙ ap (λ (xs : List Container). take k (map container_of nodes) ++ (piece.container ∷ xs)) (sym (drop-map container_of (k + 1) nodes));
    }

-- the list whose node k was made anew, with so many elements now
pub node_remade : (m n : Blocks) (old new : Chain) (k count : ℕ) (node : Node) (at : BlockRef) (list : List (List ℕ)) → IsQuick m old → k < length old.nodes → node ≡ get_or old.nodes k node
    → IsRemade m n node list at → 0 < count → count ≡ length list
    → new.nodes ≡ set old.nodes k (record { at = at; count = count; container = Packed }) → new.len ≡ length (respelled m old k list (k + 1)) → new.form ≡ old.form
    → IsWritten m n old new (respelled m old k list (k + 1))
node_remade m n old new k count node at list s h is r some counted now len form =
    let bytes = bytes_at n at in
    let piece : Piece = record { container = Packed; count = count; bytes = record { ref_ptr = (0, 0); now = bytes } } in
    let p : IsPiece piece = record { is_held = r.packed; counted = counted ∙ ap length (sym r.list_is); some = some } in
    let x = node_written m n old.nodes new.nodes k node at piece s.chain h is r.changes p refl now in
    let whole = respelled m old k list (k + 1) in
    let one : flat_map piece_list (piece ∷ []) ≡ list = one_piece piece list r.list_is in
    let few : pack_len list ≤ 8192 = omega (arith, ap pack_len (sym r.list_is), packed_len bytes r.packed, r.packed.short) in
    let risen = stays_rewrite m old k list s.formed h few in
    let formed = formed_rewrite old.form (map container_of old.nodes) k (omega (arith, h, length-map old.nodes container_of)) s.formed in
    written_by m n old new whole (subst (λ (f : Form). IsRisen old.form whole f) (sym form) risen)
    (changed_by m n old new whole k (k + 1) (length whole) old.form (piece ∷ []) (ap (λ (xs : List (List ℕ)). respelled m old k xs (k + 1)) (sym one)) refl formed x len form)

-- the bytes of the block of a packed node
module _ (m : Blocks) (node : Node) (is : IsNode m node) (packed : node.container ≡ Packed) where
  pub node_packed : IsPacked (bytes_at m node.at)
  node_packed = subst (λ (c : Container). IsHeld c (bytes_at m node.at)) packed is.is_held

  pub node_texts : node_list m node ≡ texts (bytes_at m node.at)
  node_texts = ap (λ (c : Container). held c (bytes_at m node.at)) packed

  pub node_few : node.count ≤ 8192
  node_few = omega (arith, is.counted, ap length node_texts, count_small (bytes_at m node.at) node_packed)

-- beside them an element has no room
pub full_packed : (m : Blocks) (node : Node) (text : List ℕ) (i : ℕ) → IsNode m node → node.container ≡ Packed → 8192 < length (bytes_at m node.at) + length (entry text)
    → 8192 < pack_len (insert (node_list m node) i text)
full_packed m node text i is packed long =
    omega (
      arith,
      long,
      pack_len_insert (node_list m node) i text,
      packed_len (bytes_at m node.at) (node_packed m node is packed),
      ap pack_len (node_texts m node is packed),
    )

-- the block of a packed node with an entry put in
pub remade_put : (m n : Blocks) (node : Node) (at : BlockRef) (text : List ℕ) (i count : ℕ) → IsNode m node → HasSpace m node text
    → IsEdited (bytes_at n at) (insert (spellings_of (bytes_at m node.at)) i (spelling text)) count → texts (bytes_at n at) ≡ insert (texts (bytes_at m node.at)) i text
    → Changes m n (node.at ∷ []) (at ∷ []) → IsRemade m n node (insert (node_list m node) i text) at
remade_put m n node at text i count is space edited list changes = record {
  changes = changes;
  packed = joined_is (bytes_at m node.at) (bytes_at n at) text i count (node_packed m node is space.packed) space.short edited list;
  list_is = list ∙ ap (λ (xs : List (List ℕ)). insert xs i text) (sym (node_texts m node is space.packed));
}

-- and with entries taken out
pub remade_taken : (m n : Blocks) (node : Node) (at : BlockRef) (i j count : ℕ) → IsNode m node → node.container ≡ Packed → i ≤ j
    → IsEdited (bytes_at n at) (remove_range (spellings_of (bytes_at m node.at)) i j) count → texts (bytes_at n at) ≡ remove_range (texts (bytes_at m node.at)) i j
    → Changes m n (node.at ∷ []) (at ∷ []) → IsRemade m n node (remove_range (node_list m node) i j) at
remade_taken m n node at i j count is packed order edited list changes = record {
  changes = changes;
  packed = cut_is (bytes_at m node.at) (bytes_at n at) i j count order (node_packed m node is packed) edited list;
  list_is = list ∙ ap (λ (xs : List (List ℕ)). remove_range xs i j) (sym (node_texts m node is packed));
}

-- a block that has these bytes now
remade_over : (m n : Blocks) (node : Node) (at : BlockRef) (bytes : List ℕ) → Changes m n (node.at ∷ []) (at ∷ []) → n at ≡ Some bytes → IsPacked bytes → IsRemade m n node (texts bytes) at
remade_over m n node at bytes changes is packed =
    let seen : bytes_at n at ≡ bytes = ap (λ (o : Option (List ℕ)). unwrap_or o []) is in
    record { changes = changes; packed = subst IsPacked (sym seen) packed; list_is = ap texts seen }

-- and one that was placed, before the old one was given back
pub remade_anew : (m mid both n : Blocks) (node : Node) (new : BlockRef) (bytes : List ℕ) → IsSome (m node.at) → IsPacked bytes → mid ≡ m → mid new ≡ None
    → both ≡ with_block mid new (Some bytes) → n ≡ with_block both node.at None → IsRemade m n node (texts bytes) new
remade_anew m mid both n node new bytes live packed same free put ended =
    let fresh : m new ≡ None = ap (λ (k : Blocks). k new) (sym same) ∙ free in
    let is = placed_blocks m both n node.at new bytes live fresh (put ∙ ap (λ (k : Blocks). with_block k new (Some bytes)) same) ended in
    remade_over m n node new bytes (moved_changes m n node.at new bytes live fresh is) (holds_written (with_block m node.at None) n new bytes is) packed

pub if_ok_three : {A E : Type 0} (P Q R S : A → Type 0) (r : Result A E) → ((x : A) → P x → Q x → R x → S x) → IfOk r P → IfOk r Q → IfOk r R → IfOk r S
if_ok_three P Q R S (Ok x) f p q s = f x p q s
if_ok_three P Q R S (Err e) f p q s = tt

-- a length given to bytes is theirs then
length_resized : (xs : List ℕ) (n : ℕ) → length (resized xs n) ≡ n
length_resized xs n = omega (arith, length-append (take n xs) (replicate {A = ℕ} (n - length xs) 0), length-take n xs, length-replicate {A = ℕ} (n - length xs) 0)

-- bytes written over a block that was given their length
pub over_all : (m mid n : Blocks) (at : BlockRef) (bytes : List ℕ) → mid ≡ with_block m at (Some (resized (bytes_at m at) (length bytes)))
    → n ≡ with_block mid at (Some (overwritten (bytes_at mid at) 0 bytes)) → n ≡ with_block m at (Some bytes)
over_all m mid n at bytes first then' =
    written_twice m mid n at _ (λ (xs : List ℕ). overwritten xs 0 bytes) first then'
    ∙ ap (λ (xs : List ℕ). with_block m at (Some xs)) (overwritten_all (resized (bytes_at m at) (length bytes)) bytes (length_resized (bytes_at m at) (length bytes)))

-- how many elements are left where some are taken out
pub length_taken : (xs : List (List ℕ)) (i j : ℕ) → i ≤ j → j ≤ length xs → length (remove_range xs i j) + (j - i) ≡ length xs
length_taken xs i j order inside = omega (arith, order, inside, length-append (take i xs) (drop j xs), length-take-le i xs (omega (arith, order, inside)), length-drop j xs)

-- and where all are
pub none_left : (xs : List (List ℕ)) (i j : ℕ) → i ≤ j → j ≤ length xs → length xs ≤ j - i → take i xs ++ drop j xs ≡ []
none_left xs i j order inside all = nil_from_length (take i xs ++ drop j xs) (omega (arith, all, length_taken xs i j order inside))

-- the block of a node is as long as the node
pub node_exact : (m : Blocks) (node : Node) → IsNode m node → IsExact m node
node_exact m node is = by node.container is.is_held
  where
    by : (c : Container) → IsHeld c (bytes_at m node.at) → length (bytes_at m node.at) ≡ node_len c (held c (bytes_at m node.at))
    by Plain h = ap length (sym (append-nil (bytes_at m node.at)))
    by Packed h = packed_len (bytes_at m node.at) h

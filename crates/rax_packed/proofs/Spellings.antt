-- The bytes of a node tell it, and how long they are.
use Rattle.std.proofs.Common.{◌≡◌, ◌⊎◌, ◌∙◌, ℕ, suc, ◌+◌, ◌*◌, ◌-◌, ◌<◌, ◌≤◌, List, [], ◌∷◌, ◌++◌, length, drop, replicate, refl, sym, ap, subst, inl, inr, arith, append_assoc, length-append}
use Rattle.std.proofs.lemmas.List.{drop_at, take_at, append-nil, length-replicate, length-map}
use Rattle.std.specs.Prelude.{slice_index}
use Rattle.std.specs.List.{AllByRecursion}
use Rattle.std.proofs.lemmas.List.Concat.{flat_map-append}
use Rattle.std.proofs.lemmas.Bool.{cases_eq, cond-true, cond-false, eq-eqb, ne_eqb}
use Rattle.byteorder.specs.Endian.{little_bytes, little_number}
use Rattle.byteorder.specs.Numbers.{length-bytes_low_first, little_number-reads_back}
use Rattle.blocks.specs.declared.BlockRef.{BlockRef}
use Rattle.rax_packed.specs.Nodes.{Link, Node, Leaf, Inner, ref_bytes, edges_of, refs_bytes, spelled, HoldsNode, Rising, IsRef, IsInner, Fits, ref_from, links_from, prefix_from, body_from}
use Rattle.rax_packed.specs.Nodes.{inner_from, node_of, IsNode}

-- a reference is twelve bytes long
pub length_ref_bytes : (r : BlockRef) → length (ref_bytes r) ≡ 12
unfolding ref_bytes
length_ref_bytes r = omega (arith, length-append (little_bytes 8 r.slab) (little_bytes 4 r.slot), length-bytes_low_first 0 8 r.slab, length-bytes_low_first 0 4 r.slot)

-- the references of links are twelve bytes long each
pub length_refs_bytes : (links : List Link) → length (refs_bytes links) ≡ 12 * length links
length_refs_bytes [] = refl
length_refs_bytes (l ∷ links) = omega (arith, length-append (ref_bytes l.to) (refs_bytes links), length_ref_bytes l.to, length_refs_bytes links)

-- the bytes of the references of joined links are those of both parts
pub refs_bytes_append : (xs ys : List Link) → refs_bytes (xs ++ ys) ≡ refs_bytes xs ++ refs_bytes ys
refs_bytes_append xs ys = flat_map-append (λ l. ref_bytes l.to) xs ys

-- a reference that code can hold is read back from its bytes, whatever follows them
pub ref_from_bytes : (r : BlockRef) (more : List ℕ) → IsRef r → ref_from (ref_bytes r ++ more) ≡ r
unfolding ref_bytes
ref_from_bytes r more fits =
    let joined : (little_bytes 8 r.slab ++ little_bytes 4 r.slot) ++ more ≡ little_bytes 8 r.slab
    ++ (little_bytes 4 r.slot ++ more) = append_assoc (little_bytes 8 r.slab) (little_bytes 4 r.slot) more in
    let slab : little_number 8 ((little_bytes 8 r.slab ++ little_bytes 4 r.slot) ++ more) ≡ r.slab = ap (little_number 8) joined
    ∙ little_number-reads_back 8 r.slab (little_bytes 4 r.slot ++ more) fits.slab in
    let slot : little_number 4 (drop 8 ((little_bytes 8 r.slab ++ little_bytes 4 r.slot) ++ more)) ≡ r.slot =
    ap (λ xs. little_number 4 (drop 8 xs)) joined ∙ ap (little_number 4) (drop_at (little_bytes 8 r.slab) (little_bytes 4 r.slot ++ more) 8 (length-bytes_low_first 0 8 r.slab))
    ∙ little_number-reads_back 4 r.slot more fits.slot in
    λ i. record { slab = slab i; slot = slot i }

-- links are read back from their edges and the bytes of their references, whatever follows each
pub links_from_spelled : (links : List Link) (edges refs : List ℕ) → AllByRecursion (λ l. IsRef l.to) links → links_from (length links) (edges_of links ++ edges) (refs_bytes links ++ refs) ≡ links
links_from_spelled [] edges refs fit = refl
links_from_spelled (l ∷ links) edges refs fit =
    let joined : (ref_bytes l.to ++ refs_bytes links) ++ refs ≡ ref_bytes l.to ++ (refs_bytes links ++ refs) = append_assoc (ref_bytes l.to) (refs_bytes links) refs in
    let to : ref_from ((ref_bytes l.to ++ refs_bytes links) ++ refs) ≡ l.to = ap ref_from joined ∙ ref_from_bytes l.to (refs_bytes links ++ refs) fit.0 in
    let rest : drop 12 ((ref_bytes l.to ++ refs_bytes links) ++ refs) ≡ refs_bytes links ++ refs = ap (drop 12) joined
    ∙ drop_at (ref_bytes l.to) (refs_bytes links ++ refs) 12 (length_ref_bytes l.to) in
    let more : links_from (length links) (edges_of links ++ edges) (drop 12 ((ref_bytes l.to ++ refs_bytes links) ++ refs)) ≡ links =
    ap (links_from (length links) (edges_of links ++ edges)) rest ∙ links_from_spelled links edges refs fit.1 in
    λ i. record { edge = l.edge; to = to i } ∷ more i

-- links whose edges rise from a number on and are bytes are at most as many as the bytes from it on
count_from : (low : ℕ) (links : List Link) → AllByRecursion (λ l. low ≤ l.edge) links → Rising links → AllByRecursion (λ l. l.edge < 256) links → length links ≤ 256 - low
count_from low [] above rising bytes = omega arith
count_from low (l ∷ links) above rising bytes = let h = count_from (suc l.edge) links rising.0 rising.1 bytes.1 in omega (arith, above.0, bytes.0)

-- each edge is at least zero
any_edge : (links : List Link) → AllByRecursion (λ l. 0 ≤ l.edge) links
any_edge [] = tt
any_edge (l ∷ links) = (omega arith, any_edge links)

-- links whose edges rise and are bytes are at most 256
pub count_most : (links : List Link) → Rising links → AllByRecursion (λ l. l.edge < 256) links → length links ≤ 256
count_most links rising bytes = count_from 0 links (any_edge links) rising bytes

-- the prefix of bytes that begin as a node's do is read back
prefix_at : (kind : ℕ) (prefix body : List ℕ) → prefix_from (kind ∷ length prefix ∷ (prefix ++ body)) ≡ prefix
prefix_at kind prefix body = take_at prefix body (length prefix) refl

-- what follows the prefix in such bytes is read back
body_at : (kind : ℕ) (prefix body : List ℕ) → body_from (kind ∷ length prefix ∷ (prefix ++ body)) ≡ body
body_at kind prefix body = drop_at prefix body (length prefix) refl

-- what an inner node has behind its prefix
abbrev pub inner_body : List Link → List ℕ → List ℕ
inner_body links zeros = little_bytes 2 (length links) ++ (edges_of links ++ (refs_bytes links ++ zeros))

-- the bytes of an inner node are its kind, the length of its prefix, the prefix, and what it has behind that
inner_spelled : (prefix : List ℕ) (links : List Link) (zeros : List ℕ) → spelled (Inner prefix links) ++ zeros ≡ 1 ∷ length prefix ∷ (prefix ++ inner_body links zeros)
inner_spelled prefix links zeros = ap (λ xs. 1 ∷ length prefix ∷ xs) (simp append_assoc)

-- the number of links, 256 at most, is read back from what an inner node has behind its prefix
body_count : (links : List Link) (zeros : List ℕ) → length links ≤ 256 → little_number 2 (inner_body links zeros) ≡ length links
body_count links zeros few = little_number-reads_back 2 (length links) (edges_of links ++ (refs_bytes links ++ zeros)) (omega arith)

-- behind the number of links stand the edges, the references, and what follows them
body_rest : (links : List Link) (zeros : List ℕ) → drop 2 (inner_body links zeros) ≡ edges_of links ++ (refs_bytes links ++ zeros)
body_rest links zeros = drop_at (little_bytes 2 (length links)) (edges_of links ++ (refs_bytes links ++ zeros)) 2 (length-bytes_low_first 0 2 (length links))

-- behind the number of links and the edges stand the references, and what follows them
body_refs : (links : List Link) (zeros : List ℕ) → drop (length links) (drop 2 (inner_body links zeros)) ≡ refs_bytes links ++ zeros
body_refs links zeros = ap (drop (length links)) (body_rest links zeros) ∙ drop_at (edges_of links) (refs_bytes links ++ zeros) (length links) (length-map links (λ l. l.edge))

-- an inner node is read back from its prefix and what it has behind that
inner_back : (prefix : List ℕ) (links : List Link) (zeros : List ℕ) → length links ≤ 256 → AllByRecursion (λ l. IsRef l.to) links → inner_from prefix (inner_body links zeros) ≡ Inner prefix links
inner_back prefix links zeros few fit =
    let count = body_count links zeros few in
    let body = inner_body links zeros in
    ap (λ n. Inner prefix (links_from n (drop 2 body) (drop n (drop 2 body)))) count
    ∙ ap (λ refs. Inner prefix (links_from (length links) (drop 2 body) refs)) (body_refs links zeros)
    ∙ ap (λ edges. Inner prefix (links_from (length links) edges (refs_bytes links ++ zeros))) (body_rest links zeros)
    ∙ ap (Inner prefix) (links_from_spelled links (refs_bytes links ++ zeros) zeros fit)

-- a leaf is read back from its bytes
leaf_node : (prefix : List ℕ) (value : BlockRef) → IsRef value → node_of (spelled (Leaf prefix value)) ≡ Leaf prefix value
unfolding node_of
leaf_node prefix value fit =
    let bytes = spelled (Leaf prefix value) in
    ap (λ p. Leaf p (ref_from (body_from bytes))) (prefix_at 0 prefix (ref_bytes value))
    ∙ ap (λ body. Leaf prefix (ref_from body)) (body_at 0 prefix (ref_bytes value) ∙ sym (append-nil (ref_bytes value)))
    ∙ ap (Leaf prefix) (ref_from_bytes value [] fit)

-- an inner node is read back from its bytes, whatever follows them
inner_node : (prefix : List ℕ) (links : List Link) (zeros : List ℕ) → length links ≤ 256 → AllByRecursion (λ l. IsRef l.to) links
    → node_of (1 ∷ length prefix ∷ (prefix ++ inner_body links zeros)) ≡ Inner prefix links
unfolding node_of
inner_node prefix links zeros few fit =
    let bytes = 1 ∷ length prefix ∷ (prefix ++ inner_body links zeros) in
    ap (λ p. inner_from p (body_from bytes)) (prefix_at 1 prefix (inner_body links zeros))
    ∙ ap (inner_from prefix) (body_at 1 prefix (inner_body links zeros))
    ∙ inner_back prefix links zeros few fit

-- bytes that hold a node tell it
pub node_told : (rest : ℕ) (bytes : List ℕ) (node : Node) → HoldsNode bytes node → Fits rest node → node_of bytes ≡ node
node_told rest bytes (Leaf prefix value) holds fits = ap node_of holds ∙ leaf_node prefix value fits.1
node_told rest bytes (Inner prefix links) holds fits =
    ap node_of (holds.1 ∙ inner_spelled prefix links (replicate holds.0 0)) ∙ inner_node prefix links (replicate holds.0 0) (count_most links fits.rising fits.edges) fits.refs

-- so they are bytes of a node
pub node_held : (rest : ℕ) (bytes : List ℕ) (node : Node) → HoldsNode bytes node → Fits rest node → IsNode rest bytes
node_held rest bytes node holds fits =
    let told = node_told rest bytes node holds fits in
    record { holds = subst (HoldsNode bytes) (sym told) holds; fits = subst (Fits rest) (sym told) fits }

-- the parts of an inner node's bytes
pub record IsLaid (bytes prefix : List ℕ) (links : List Link) : Type 0 where
  pub zeros : ℕ
  pub kind : slice_index bytes 0 ≡ 1
  pub told : slice_index bytes 1 ≡ length prefix
  pub prefix_is : prefix_from bytes ≡ prefix
  pub count : little_number 2 (body_from bytes) ≡ length links
  pub edges : drop 2 (body_from bytes) ≡ edges_of links ++ (refs_bytes links ++ replicate zeros 0)
  pub refs : drop (length links) (drop 2 (body_from bytes)) ≡ refs_bytes links ++ replicate zeros 0
  pub long : length bytes ≡ 4 + length prefix + 13 * length links + zeros
  pub bytes_are : bytes ≡ spelled (Inner prefix links) ++ replicate zeros 0

-- behind its prefix an inner node takes two bytes, thirteen for each link, and what follows them
length_inner_body : (links : List Link) (zeros : List ℕ) → length (inner_body links zeros) ≡ 2 + 13 * length links + length zeros
length_inner_body links zeros =
    omega (
      arith,
      length-append (little_bytes 2 (length links)) (edges_of links ++ (refs_bytes links ++ zeros)),
      length-append (edges_of links) (refs_bytes links ++ zeros),
      length-append
          (refs_bytes links) zeros,
      length-map links (λ l. l.edge),
      length_refs_bytes links,
      length-bytes_low_first 0 2 (length links),
    )

-- bytes that hold an inner node of at most 256 links have its parts in their places
pub laid : (bytes prefix : List ℕ) (links : List Link) → HoldsNode bytes (Inner prefix links) → length links ≤ 256 → IsLaid bytes prefix links
laid bytes prefix links holds few =
    let zeros = replicate holds.0 0 in
    let is : bytes ≡ 1 ∷ length prefix ∷ (prefix ++ inner_body links zeros) = holds.1 ∙ inner_spelled prefix links zeros in
    let zeros_long : length zeros ≡ holds.0 = length-replicate holds.0 0 in
    let body : body_from bytes ≡ inner_body links zeros = ap body_from is ∙ body_at 1 prefix (inner_body links zeros) in
    record {
      zeros = holds.0;
      kind = ap (λ xs. slice_index xs 0) is;
      told = ap (λ xs. slice_index xs 1) is;
      prefix_is = ap prefix_from is ∙ prefix_at 1 prefix (inner_body links zeros);
      count = ap (little_number 2) body ∙ body_count links zeros few;
      edges = ap (drop 2) body ∙ body_rest links zeros;
      refs = ap (λ xs. drop (length links) (drop 2 xs)) body ∙ body_refs links zeros;
      long = ap length is ∙ omega (arith, length-append prefix (inner_body links zeros), length_inner_body links zeros, zeros_long);
      bytes_are = holds.1;
    }

-- the parts of a leaf's bytes
pub record IsLeafAt (rest : ℕ) (bytes : List ℕ) : Type 0 where
  pub node_is : node_of bytes ≡ Leaf (prefix_from bytes) (ref_from (body_from bytes))
  pub told : slice_index bytes 1 ≡ length (prefix_from bytes)
  pub long : length bytes ≡ 14 + length (prefix_from bytes)
  pub body : length (body_from bytes) ≡ 12
  pub whole : length (prefix_from bytes) ≡ rest
  pub bytes_are : bytes ≡ spelled (Leaf (prefix_from bytes) (ref_from (body_from bytes)))
  pub ref : IsRef (ref_from (body_from bytes))

-- the parts of an inner node that fits, with at most 256 links, in the bytes that tell it
pub record IsInnerAt (rest : ℕ) (bytes : List ℕ) : Type 0 where
  pub links : List Link
  pub node_is : node_of bytes ≡ Inner (prefix_from bytes) links
  pub laid : IsLaid bytes (prefix_from bytes) links
  pub inner : IsInner rest (prefix_from bytes) links
  pub few : length links ≤ 256

-- bytes that tell a leaf that fits have the parts of a leaf's
leaf_at : (rest : ℕ) (bytes : List ℕ) → node_of bytes ≡ Leaf (prefix_from bytes) (ref_from (body_from bytes)) → IsNode rest bytes → IsLeafAt rest bytes
leaf_at rest bytes is node =
    let prefix = prefix_from bytes in
    let value = ref_from (body_from bytes) in
    let holds : bytes ≡ spelled (Leaf prefix value) = subst (HoldsNode bytes) is node.holds in
    let fits : (length prefix ≡ rest) × IsRef value = subst (Fits rest) is node.fits in
    record {
      node_is = is;
      told = ap (λ xs. slice_index xs 1) holds;
      long = ap length holds ∙ omega (arith, length-append prefix (ref_bytes value), length_ref_bytes value);
      body = ap (λ xs. length (body_from xs)) holds ∙ ap length (body_at 0 prefix (ref_bytes value)) ∙ length_ref_bytes value;
      whole = fits.0;
      bytes_are = holds;
      ref = fits.1;
    }

-- bytes that tell an inner node that fits have the parts of an inner node's
inner_at : (rest : ℕ) (bytes : List ℕ) (links : List Link) → node_of bytes ≡ Inner (prefix_from bytes) links → IsNode rest bytes → IsInnerAt rest bytes
inner_at rest bytes links is node =
    let holds : HoldsNode bytes (Inner (prefix_from bytes) links) = subst (HoldsNode bytes) is node.holds in
    let fits : IsInner rest (prefix_from bytes) links = subst (Fits rest) is node.fits in
    let few = count_most links fits.rising fits.edges in
    record { links = links; node_is = is; laid = laid bytes (prefix_from bytes) links holds few; inner = fits; few = few }

-- bytes of a node are a leaf's or an inner node's
pub node_cases : (rest : ℕ) (bytes : List ℕ) → IsNode rest bytes → ((slice_index bytes 0 ≡ 0) × IsLeafAt rest bytes) ⊎ ((slice_index bytes 0 ≡ 1) × IsInnerAt rest bytes)
unfolding node_of
node_cases rest bytes node = elim (cases_eq (slice_index bytes 0) 0) [
  | inl leaf ↦ inl (leaf, leaf_at rest bytes (cond-true _ _ _ (eq-eqb (slice_index bytes 0) 0 leaf)) node)
  | inr other ↦
      (let is = inner_at rest bytes (links_from (little_number 2 (body_from bytes)) (drop 2 (body_from bytes)) (drop (little_number 2 (body_from bytes)) (drop 2 (body_from bytes))))
      (cond-false _ _ _ (ne_eqb (slice_index bytes 0) 0 other)) node in
      inr (is.laid.kind, is))
]

-- bytes of a node whose first is zero are a leaf's
pub as_leaf : (rest : ℕ) (bytes : List ℕ) → IsNode rest bytes → slice_index bytes 0 ≡ 0 → IsLeafAt rest bytes
as_leaf rest bytes node is = elim (node_cases rest bytes node) [ inl leaf ↦ leaf.1 | inr inner ↦ absurd (omega (arith, inner.0)) ]

-- bytes of a node whose first isn't zero are an inner node's
pub as_inner : (rest : ℕ) (bytes : List ℕ) → IsNode rest bytes → (slice_index bytes 0 ≡ 0 → ⊥) → IsInnerAt rest bytes
as_inner rest bytes node other = elim (node_cases rest bytes node) [ inl leaf ↦ absurd (other leaf.0) | inr inner ↦ inner.1 ]

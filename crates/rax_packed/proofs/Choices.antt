-- How a key goes on at a node, from what is read of its bytes.
use Rattle.std.proofs.Common.{◌≡◌, ◌≢◌, ◌∙◌, ℕ, zero, suc, ◌+◌, ◌*◌, ◌-◌, ◌<◌, ◌≤◌, List, [], ◌∷◌, ◌++◌, length, take, drop, replicate, get_or, refl, sym, ap, inl, inr, arith}
use Rattle.std.proofs.Common.{append_assoc, length-append, length-drop}
use Rattle.std.proofs.lemmas.List.{drop_at, take_at, take_all, length-take-le, length-map, take-append-drop, drop_more, drop-drop, get_or_default}
use Rattle.std.specs.Prelude.{slice_index}
use Rattle.std.specs.List.{AllByRecursion}
use Rattle.std.specs.List.Sorted.{IsNonDecreasingBy, IsPartitionPoint}
use Rattle.std.specs.Ordering.{nat_cmp, ordering_index}
use Rattle.std.specs.declared.cmp.Ordering.TheVariants.{Less, Greater}
use Rattle.std.proofs.lemmas.Bool.{cases_eq}
use Rattle.rax_packed.specs.Nodes.{Link, Node, Leaf, Inner, ref_bytes, edges_of, refs_bytes, Rising, IsRef, ref_from, prefix_from, body_from, node_of, IsNode}
use Rattle.rax_packed.specs.Ways.{prefix_in, PartsAt, Lacks, LeadsTo, IsInnerBytes}
use Rattle.byteorder.specs.Endian.{little_number}
use Rattle.rax_packed.proofs.Keys.{less_cmp, greater_cmp, index_rises}
use Rattle.rax_packed.proofs.Spellings.{ref_from_bytes, length_ref_bytes, length_refs_bytes, IsLeafAt, IsInnerAt, node_cases, as_inner}

-- a list parts at each of its places
pub split_at : {X : Type 0} (xs : List X) (k : ℕ) (d : X) → k < length xs → xs ≡ take k xs ++ get_or xs k d ∷ drop (suc k) xs
split_at xs k d h =
    let next : k + 1 ≡ suc k = omega arith in
    sym (take-append-drop k xs) ∙ ap (λ ys. take k xs ++ ys) (drop_more xs k d h ∙ ap (λ n. get_or xs k d ∷ drop n xs) next)

-- the prefix of the node that bytes tell is the one read from them
pub prefix_told : (rest : ℕ) (bytes : List ℕ) → IsNode rest bytes → prefix_in (node_of bytes) ≡ prefix_from bytes
prefix_told rest bytes node = elim (node_cases rest bytes node) [ inl leaf ↦ ap prefix_in leaf.1.node_is | inr inner ↦ ap prefix_in inner.1.node_is ]

-- a node's prefix is no longer than what is left of each key
pub prefix_within : (rest : ℕ) (bytes : List ℕ) → IsNode rest bytes → length (prefix_from bytes) ≤ rest
prefix_within rest bytes node = elim (node_cases rest bytes node) [ inl leaf ↦ (let whole = leaf.1.whole in omega arith) | inr inner ↦ (let short = inner.1.inner.short in omega arith) ]

-- there are the two bytes before the prefix, and the prefix
pub parts_within : (rest : ℕ) (bytes : List ℕ) → IsNode rest bytes → 2 + slice_index bytes 1 ≤ length bytes
parts_within rest bytes node = elim (node_cases rest bytes node) [
  | inl leaf ↦ (let told = leaf.1.told in let long = leaf.1.long in omega arith)
  | inr inner ↦ (let told = inner.1.laid.told in let long = inner.1.laid.long in omega arith)
]

-- a key that has the first bytes of a node's prefix, but another byte after them, leaves the prefix there
pub parts_at : (node : Node) (prefix key : List ℕ) (shared : ℕ) → prefix_in node ≡ prefix → shared < length prefix → length prefix ≤ length key → take shared prefix ≡ take shared key
    → slice_index prefix shared ≢ slice_index key shared → PartsAt node key shared
parts_at node prefix key shared is within upto alike apart =
    record {
      begin = take shared prefix;
      node_byte = get_or prefix shared 0;
      node_rest = drop (suc shared) prefix;
      other = get_or key shared 0;
      other_rest = drop (suc shared) key;
      prefix_is = is ∙ split_at prefix shared 0 within;
      key_is = split_at key shared 0 (omega arith) ∙ ap (λ xs. xs ++ get_or key shared 0 ∷ drop (suc shared) key) (sym alike);
      apart = apart;
      many = length-take-le shared prefix (omega arith);
    }

-- a key that has all of a prefix is the prefix and what follows it
pub begun : (prefix key : List ℕ) (shared : ℕ) → shared ≡ length prefix → length prefix ≤ length key → take shared prefix ≡ take shared key → key ≡ prefix ++ drop shared key
begun prefix key shared is upto alike =
    sym (take-append-drop shared key) ∙ ap (λ xs. xs ++ drop shared key) (sym alike ∙ take_all shared prefix (omega arith))

-- where a key has all of a leaf's prefix, the leaf is the key's
pub leaf_way : (rest : ℕ) (bytes key : List ℕ) (shared : ℕ) → IsLeafAt rest bytes → length key ≡ rest → shared ≡ length (prefix_from bytes)
    → take shared (prefix_from bytes) ≡ take shared key → node_of bytes ≡ Leaf key (ref_from (body_from bytes))
leaf_way rest bytes key shared leaf all is alike =
    let whole = leaf.whole in
    let same : prefix_from bytes ≡ key = sym (take_all shared (prefix_from bytes) (omega arith)) ∙ alike ∙ take_all shared key (omega arith) in
    leaf.node_is ∙ ap (λ p. Leaf p (ref_from (body_from bytes))) same

-- the reference of a link
pub ref_at : (links : List Link) (k : ℕ) (d : Link) (more : List ℕ) → k < length links → AllByRecursion (λ l. IsRef l.to) links
    → ref_from (drop (12 * k) (refs_bytes links ++ more)) ≡ (get_or links k d).to
ref_at [] k d more h fit = absurd (omega arith)
ref_at (l ∷ links) zero d more h fit = ap ref_from (append_assoc (ref_bytes l.to) (refs_bytes links) more) ∙ ref_from_bytes l.to (refs_bytes links ++ more) fit.0
ref_at (l ∷ links) (suc k) d more h fit =
    let step : 12 * suc k ≡ 12 + 12 * k = omega arith in
    let joined = append_assoc (ref_bytes l.to) (refs_bytes links) more in
    let skip : drop (12 * suc k) ((ref_bytes l.to ++ refs_bytes links) ++ more) ≡ drop (12 * k) (refs_bytes links ++ more) =
    ap (λ n. drop n ((ref_bytes l.to ++ refs_bytes links) ++ more)) step
    ∙ sym (drop-drop (12 * k) 12 ((ref_bytes l.to ++ refs_bytes links) ++ more))
    ∙ ap (drop (12 * k)) (ap (drop 12) joined ∙ drop_at (ref_bytes l.to) (refs_bytes links ++ more) 12 (length_ref_bytes l.to)) in
    ap ref_from skip ∙ ref_at links k d more (omega arith) fit.1

-- an element of a list of links, by the edges
pub edge_at : (links : List Link) (k : ℕ) (d : Link) → k < length links → (get_or links k d).edge ≡ get_or (edges_of links) k 0
edge_at [] k d h = absurd (omega arith)
edge_at (l ∷ links) zero d h = refl
edge_at (l ∷ links) (suc k) d h = edge_at links k d (omega arith)

-- where all links have edges greater than a number, the edge at each place is greater
all_at : (low : ℕ) (links : List Link) (k : ℕ) → AllByRecursion (λ m. low < m.edge) links → k < length links → low < get_or (edges_of links) k 0
all_at low [] k above h = absurd (omega arith)
all_at low (l ∷ links) zero above h = above.0
all_at low (l ∷ links) (suc k) above h = all_at low links k above.1 (omega arith)

-- rising edges, by their places
pub rising_at : (links : List Link) (i j : ℕ) → Rising links → i < j → j < length links → get_or (edges_of links) i 0 < get_or (edges_of links) j 0
rising_at [] i j rising less within = absurd (omega arith)
rising_at (l ∷ links) zero zero rising less within = absurd (omega arith)
rising_at (l ∷ links) zero (suc j) rising less within = all_at l.edge links j rising.0 (omega arith)
rising_at (l ∷ links) (suc i) zero rising less within = absurd (omega arith)
rising_at (l ∷ links) (suc i) (suc j) rising less within = rising_at links i j rising.1 (omega arith) (omega arith)

-- where the edges at all places before one are less than a byte, so are those of the links before it
below_take : (links : List Link) (k e : ℕ) → ((i : ℕ) → i < k → i < length links → get_or (edges_of links) i 0 < e) → AllByRecursion (λ l. l.edge < e) (take k links)
below_take links zero e h = tt
below_take [] (suc k) e h = tt
below_take (l ∷ links) (suc k) e h = (h 0 (omega arith) (omega arith), below_take links k e (λ i less within. h (suc i) (omega arith) (omega arith)))

-- where the edges at all places from one on are greater than a byte, so are those of the links from it on
above_drop : (links : List Link) (k e : ℕ) → ((i : ℕ) → k ≤ i → i < length links → e < get_or (edges_of links) i 0) → AllByRecursion (λ l. e < l.edge) (drop k links)
above_drop [] zero e h = tt
above_drop [] (suc k) e h = tt
above_drop (l ∷ links) zero e h = (h 0 (omega arith) (omega arith), above_drop links zero e (λ i more within. h (suc i) (omega arith) (omega arith)))
above_drop (l ∷ links) (suc k) e h = above_drop links k e (λ i more within. h (suc i) (omega arith) (omega arith))

-- where edges rise, the answers of their comparison with a number don't fall
pub edges_rise : (links : List Link) (e : ℕ) → Rising links → IsNonDecreasingBy (λ y. ordering_index (nat_cmp y e)) (edges_of links)
edges_rise links e rising i j d upto within =
    let many : length (edges_of links) ≡ length links = length-map links (λ l. l.edge) in
    let first : get_or (edges_of links) i d ≡ get_or (edges_of links) i 0 = get_or_default (edges_of links) i d 0 (omega arith) in
    let second : get_or (edges_of links) j d ≡ get_or (edges_of links) j 0 = get_or_default (edges_of links) j d 0 within in
    index_rises (get_or (edges_of links) i d) (get_or (edges_of links) j d) e (elim (cases_eq i j) [
      | inl same ↦ (let e : get_or (edges_of links) i d ≡ get_or (edges_of links) j d = ap (λ n. get_or (edges_of links) n d) same in omega arith)
      | inr other ↦ (let less = rising_at links i j rising (omega arith) (omega arith) in omega arith)
    ])

-- what is read of an inner node's bytes
pub record IsRead (links : List Link) (edges refs : List ℕ) : Type 0 where
  pub edges_are : edges ≡ edges_of links
  pub more : List ℕ
  pub refs_are : refs ≡ refs_bytes links ++ more

-- the edges and the references read from an inner node's bytes are those of its links
pub read_of : (rest : ℕ) (bytes edges refs : List ℕ) (inner : IsInnerAt rest bytes) → edges ≡ take (little_number 2 (body_from bytes)) (drop 2 (body_from bytes))
    → refs ≡ drop (little_number 2 (body_from bytes)) (drop 2 (body_from bytes)) → IsRead inner.links edges refs
read_of rest bytes edges refs inner edges_is refs_is =
    let links = inner.links in
    let laid = inner.laid in
    record {
      edges_are = edges_is ∙ ap (λ n. take n (drop 2 (body_from bytes))) laid.count ∙ ap (take (length links)) laid.edges
          ∙ take_at (edges_of links) (refs_bytes links ++ replicate laid.zeros 0) (length links) (length-map links (λ l. l.edge));
      more = replicate laid.zeros 0;
      refs_are = refs_is ∙ ap (λ n. drop n (drop 2 (body_from bytes))) laid.count ∙ laid.refs;
    }

-- the key goes on by a link with its byte
pub link_way : (rest : ℕ) (bytes key edges refs : List ℕ) (shared place : ℕ) (inner : IsInnerAt rest bytes) → IsRead inner.links edges refs
    → length key ≡ rest → shared ≡ length (prefix_from bytes) → take shared (prefix_from bytes) ≡ take shared key → place < length edges → slice_index edges place ≡ slice_index key shared
    → LeadsTo (node_of bytes) key place (shared + 1) (ref_from (drop (12 * place) refs))
link_way rest bytes key edges refs shared place inner read all is alike within found =
    let links = inner.links in
    let prefix = prefix_from bytes in
    let byte = slice_index key shared in
    let next : shared + 1 ≡ suc shared = omega arith in
    let short = inner.inner.short in
    let many : length edges ≡ length links = ap length read.edges_are ∙ length-map links (λ l. l.edge) in
    let to = ref_from (drop (12 * place) refs) in
    let there : Link = record { edge = byte; to = to } in
    let stands : get_or links place there ≡ there =
    (let edge : (get_or links place there).edge ≡ byte = edge_at links place there (omega arith) ∙ ap (λ xs. get_or xs place 0) (sym read.edges_are) ∙ found in
    let target : (get_or links place there).to ≡ to = sym (ap (λ xs. ref_from (drop (12 * place) xs)) read.refs_are ∙ ref_at links place there read.more (omega arith) inner.inner.refs) in
    λ i. record { edge = edge i; to = target i }) in
    record {
      prefix = prefix;
      before = take place links;
      after = drop (suc place) links;
      edge = byte;
      below = drop (suc shared) key;
      node_is = inner.node_is ∙ ap (Inner prefix) (split_at links place there (omega arith) ∙ ap (λ l. take place links ++ l ∷ drop (suc place) links) stands);
      many = length-take-le place links (omega arith);
      key_is = begun prefix key shared is (omega arith) alike ∙ ap (λ xs. prefix ++ xs) (drop_more key shared 0 (omega arith) ∙ ap (λ n. get_or key shared 0 ∷ drop n key) next);
      begins = omega arith;
    }

-- no link has the key's byte
pub missing_way : (rest : ℕ) (bytes key edges refs : List ℕ) (shared place : ℕ) (inner : IsInnerAt rest bytes) → IsRead inner.links edges refs
    → length key ≡ rest → shared ≡ length (prefix_from bytes) → take shared (prefix_from bytes) ≡ take shared key → place ≤ length edges
    → IsPartitionPoint (λ y. nat_cmp y (slice_index key shared) ≡ Less) (λ y. nat_cmp y (slice_index key shared) ≡ Greater) edges place
    → Lacks (node_of bytes) key place (shared + 1)
missing_way rest bytes key edges refs shared place inner read all is alike within point =
    let links = inner.links in
    let prefix = prefix_from bytes in
    let byte = slice_index key shared in
    let next : shared + 1 ≡ suc shared = omega arith in
    let short = inner.inner.short in
    let many : length edges ≡ length links = ap length read.edges_are ∙ length-map links (λ l. l.edge) in
    record {
      prefix = prefix;
      before = take place links;
      after = drop place links;
      edge = byte;
      below = drop (suc shared) key;
      node_is = inner.node_is ∙ ap (Inner prefix) (sym (take-append-drop place links));
      many = length-take-le place links (omega arith);
      key_is = begun prefix key shared is (omega arith) alike ∙ ap (λ xs. prefix ++ xs) (drop_more key shared 0 (omega arith) ∙ ap (λ n. get_or key shared 0 ∷ drop n key) next);
      begins = omega arith;
      less = below_take links place byte (λ i less inside. less_cmp (get_or (edges_of links) i 0) byte (ap (λ xs. nat_cmp (get_or xs i 0) byte) (sym read.edges_are) ∙ point.0 i 0 (omega arith) less));
      more = above_drop links place byte
          (λ i more inside. greater_cmp (get_or (edges_of links) i 0) byte (ap (λ xs. nat_cmp (get_or xs i 0) byte) (sym read.edges_are) ∙ point.1 i 0 more (omega arith)));
    }

-- the count of an inner node's links and their edges lie within what stands behind its prefix
pub links_within : (rest : ℕ) (bytes body : List ℕ) → IsInnerAt rest bytes → body ≡ body_from bytes → 2 + little_number 2 body ≤ length body
links_within rest bytes body inner is =
    let links = inner.links in
    let laid = inner.laid in
    let count : little_number 2 body ≡ length links = ap (little_number 2) is ∙ laid.count in
    let long : length (drop 2 body) ≡ length (edges_of links) + length (refs_bytes links ++ replicate laid.zeros 0) = ap (λ xs. length (drop 2 xs)) is ∙ ap length laid.edges
    ∙ length-append (edges_of links) (refs_bytes links ++ replicate laid.zeros 0) in
    let some = inner.inner.some in
    omega (arith, length-drop 2 body, length-map links (λ l. l.edge))

-- the twelve bytes of a link's reference lie within those read for the references
pub link_within : (links : List Link) (edges refs : List ℕ) (place : ℕ) → IsRead links edges refs → place < length edges → 12 * place + 12 ≤ length refs
link_within links edges refs place read within =
    omega (arith, ap length read.refs_are, length-append (refs_bytes links) read.more, length_refs_bytes links, ap length read.edges_are, length-map links (λ l. l.edge))

-- the bytes of an inner node are laid out as one's
pub inner_told : (bytes : List ℕ) (inner : IsInnerBytes bytes) → IsInnerAt inner.rest bytes
inner_told bytes inner = elim (node_cases inner.rest bytes inner.node) [
  | inl leaf ↦ absurd (let both : Leaf (prefix_from bytes) (ref_from (body_from bytes)) ≡ Inner inner.prefix inner.links = sym leaf.1.node_is ∙ inner.is in cc)
  | inr at ↦ at.1
]

-- how many bytes stand behind the prefix of a node, without the zero bytes at its end
pub record IsBody (bytes : List ℕ) (len : ℕ) : Type 0 where
  pub within : len ≤ length (body_from bytes)
  pub few : 2 + length (prefix_from bytes) + len ≤ 3347
  pub short : length (prefix_from bytes) ≤ 16

-- behind the prefix stand all bytes but the first two and as many as the second tells
length_body_from : (bytes : List ℕ) → length (body_from bytes) ≡ length bytes - 2 - slice_index bytes 1
length_body_from bytes = omega (arith, length-drop (slice_index bytes 1) (drop 2 bytes), length-drop 2 bytes)

-- behind its prefix a leaf has twelve bytes, and an inner node two and thirteen for each link
pub body_within : (rest len : ℕ) (bytes : List ℕ) → IsNode rest bytes → rest ≤ 16 → (slice_index bytes 0 ≡ 0 → len ≡ 12)
    → (slice_index bytes 0 ≢ 0 → len ≡ 2 + 13 * little_number 2 (body_from bytes)) → IsBody bytes len
body_within rest len bytes node few leaf inner = elim (node_cases rest bytes node) [
  | inl l ↦ (let is = leaf l.0 in let body = l.1.body in let whole = l.1.whole in record { within = omega arith; few = omega arith; short = omega arith })
  | inr i ↦
      (let is = inner (λ zero. omega (arith, i.0)) in
      let count = i.1.laid.count in
      let long = i.1.laid.long in
      let told = i.1.laid.told in
      let most = i.1.few in
      let short = i.1.inner.short in
      record { within = omega (arith, length_body_from bytes); few = omega arith; short = omega arith })
]

-- an inner node has at least two bytes behind its prefix
pub body_two : (rest : ℕ) (bytes : List ℕ) → IsNode rest bytes → slice_index bytes 0 ≢ 0 → 2 ≤ length (body_from bytes)
body_two rest bytes node other =
    let inner = as_inner rest bytes node other in
    let long = inner.laid.long in
    let told = inner.laid.told in
    omega (arith, length_body_from bytes)

-- the second byte of a node is the length of its prefix
pub prefix_len : (rest : ℕ) (bytes : List ℕ) → IsNode rest bytes → slice_index bytes 1 ≡ length (prefix_from bytes)
prefix_len rest bytes node = elim (node_cases rest bytes node) [ inl leaf ↦ leaf.1.told | inr inner ↦ inner.1.laid.told ]

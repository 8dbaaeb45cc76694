-- The bytes of an inner node with one link more or less, and of a node with a shorter prefix.
use Rattle.std.proofs.Common.{◌≡◌, ◌∙◌, ℕ, suc, ◌+◌, ◌*◌, ◌-◌, ◌<◌, ◌≤◌, List, [], ◌∷◌, ◌++◌, length, take, drop, replicate, refl, sym, ap, arith, append_assoc, length-append}
use Rattle.std.proofs.lemmas.List.{drop_at, take_at, append-nil, map-append, length-map, take-map, take-append-drop, length-take-le, length-drop}
use Rattle.std.specs.List.{insert, remove, drop-map}
use Rattle.byteorder.specs.Endian.{little_bytes, little_number}
use Rattle.rax_packed.specs.Nodes.{Link, Inner, ref_bytes, edges_of, refs_bytes, spelled, ref_from, prefix_from, body_from, node_of}
use Rattle.rax_packed.specs.Ways.{shortened_by}
use Rattle.rax_packed.proofs.Spellings.{length_ref_bytes, refs_bytes_append, length_refs_bytes, IsLeafAt, IsInnerAt, IsLaid}
use Rattle.byteorder.specs.Numbers.{length-bytes_low_first}

-- the references of the first links, and of those behind them
pub refs_take : (links : List Link) (k : ℕ) → k ≤ length links → take (12 * k) (refs_bytes links) ≡ refs_bytes (take k links)
refs_take links k h =
    let long : length (refs_bytes (take k links)) ≡ 12 * k = length_refs_bytes (take k links) ∙ ap (λ n. 12 * n) (length-take-le k links h) in
    ap (λ ls. take (12 * k) (refs_bytes ls)) (sym (take-append-drop k links)) ∙ ap (take (12 * k)) (refs_bytes_append (take k links) (drop k links))
    ∙ take_at (refs_bytes (take k links)) (refs_bytes (drop k links)) (12 * k) long

pub refs_drop : (links : List Link) (k : ℕ) → k ≤ length links → drop (12 * k) (refs_bytes links) ≡ refs_bytes (drop k links)
refs_drop links k h =
    let long : length (refs_bytes (take k links)) ≡ 12 * k = length_refs_bytes (take k links) ∙ ap (λ n. 12 * n) (length-take-le k links h) in
    ap (λ ls. drop (12 * k) (refs_bytes ls)) (sym (take-append-drop k links)) ∙ ap (drop (12 * k)) (refs_bytes_append (take k links) (drop k links))
    ∙ drop_at (refs_bytes (take k links)) (refs_bytes (drop k links)) (12 * k) long

pub edges_take : (links : List Link) (k : ℕ) → take k (edges_of links) ≡ edges_of (take k links)
edges_take links k = take-map (λ l. l.edge) k links

pub edges_drop : (links : List Link) (k : ℕ) → drop k (edges_of links) ≡ edges_of (drop k links)
edges_drop links k = drop-map (λ l. l.edge) k links

-- the sections put together, as code appends them
pub wide : (prefix : List ℕ) (links : List Link) (place : ℕ) (link : Link) (low high low_refs high_refs : List ℕ) (count : ℕ) → place ≤ length links → count ≡ length links + 1
    → low ≡ take place (edges_of links) → high ≡ drop place (edges_of links) → low_refs ≡ take (12 * place) (refs_bytes links) → high_refs ≡ drop (12 * place) (refs_bytes links)
    → ((((((1 ∷ length prefix ∷ (prefix ++ little_bytes 2 count)) ++ low) ++ link.edge ∷ []) ++ high) ++ low_refs) ++ ref_bytes link.to) ++ high_refs ≡ spelled (Inner prefix (insert links place link))
wide prefix links place link low high low_refs high_refs count within counted is_low is_high is_low_refs is_high_refs =
    let first = take place links in
    let last = drop place links in
    let many : length (first ++ link ∷ last) ≡ count = omega (arith, length-append first (link ∷ last), length-take-le place links within, length-drop place links) in
    let edges : edges_of (first ++ link ∷ last) ≡ low ++ link.edge ∷ high = map-append (λ l. l.edge) first (link ∷ last)
    ∙ ap (λ xs. xs ++ link.edge ∷ edges_of last) (sym (is_low ∙ edges_take links place)) ∙ ap (λ xs. low ++ link.edge ∷ xs) (sym (is_high ∙ edges_drop links place)) in
    let refs : refs_bytes (first ++ link ∷ last) ≡ low_refs ++ (ref_bytes link.to ++ high_refs) = refs_bytes_append first (link ∷ last)
    ∙ ap (λ xs. xs ++ (ref_bytes link.to ++ refs_bytes last)) (sym (is_low_refs ∙ refs_take links place within))
    ∙ ap (λ xs. low_refs ++ (ref_bytes link.to ++ xs)) (sym (is_high_refs ∙ refs_drop links place within)) in
    sym (ap (λ n. 1 ∷ length prefix ∷ (prefix ++ (little_bytes 2 n ++ (edges_of (first ++ link ∷ last) ++ refs_bytes (first ++ link ∷ last))))) many
    ∙ ap (λ es. 1 ∷ length prefix ∷ (prefix ++ (little_bytes 2 count ++ (es ++ refs_bytes (first ++ link ∷ last))))) edges
    ∙ ap (λ rs. 1 ∷ length prefix ∷ (prefix ++ (little_bytes 2 count ++ ((low ++ link.edge ∷ high) ++ rs)))) refs
    ∙ ap (λ xs. 1 ∷ length prefix ∷ xs) (assoc prefix (little_bytes 2 count) low high low_refs (ref_bytes link.to) high_refs link.edge))
  where
    assoc : (p c a z x r y : List ℕ) (e : ℕ) → p ++ (c ++ ((a ++ e ∷ z) ++ (x ++ (r ++ y)))) ≡ (((((((p ++ c) ++ a) ++ e ∷ []) ++ z) ++ x) ++ r) ++ y)
    assoc p c a z x r y e = simp append_assoc

pub narrow : (prefix : List ℕ) (links : List Link) (place : ℕ) (low high low_refs high_refs zeros : List ℕ) (count : ℕ) → place < length links → count ≡ length links - 1
    → low ≡ take place (edges_of links) → high ≡ drop (suc place) (edges_of links) → low_refs ≡ take (12 * place) (refs_bytes links) → high_refs ≡ drop (12 * suc place) (refs_bytes links)
    → (((((1 ∷ length prefix ∷ (prefix ++ little_bytes 2 count)) ++ low) ++ high) ++ low_refs) ++ high_refs) ++ zeros ≡ spelled (Inner prefix (remove links place)) ++ zeros
narrow prefix links place low high low_refs high_refs zeros count within counted is_low is_high is_low_refs is_high_refs =
    let first = take place links in
    let last = drop (suc place) links in
    let many : length (first ++ last) ≡ count = omega (arith, length-append first last, length-take-le place links (omega arith), length-drop (suc place) links) in
    let edges : edges_of (first ++ last) ≡ low ++ high = map-append (λ l. l.edge) first last ∙ ap (λ xs. xs ++ edges_of last) (sym (is_low ∙ edges_take links place))
    ∙ ap (λ xs. low ++ xs) (sym (is_high ∙ edges_drop links (suc place))) in
    let refs : refs_bytes (first ++ last) ≡ low_refs ++ high_refs = refs_bytes_append first last
    ∙ ap (λ xs. xs ++ refs_bytes last) (sym (is_low_refs ∙ refs_take links place (omega arith)))
    ∙ ap (λ xs. low_refs ++ xs) (sym (is_high_refs ∙ refs_drop links (suc place) (omega arith))) in
    sym (ap (λ n. (1 ∷ length prefix ∷ (prefix ++ (little_bytes 2 n ++ (edges_of (first ++ last) ++ refs_bytes (first ++ last))))) ++ zeros) many
    ∙ ap (λ es. (1 ∷ length prefix ∷ (prefix ++ (little_bytes 2 count ++ (es ++ refs_bytes (first ++ last))))) ++ zeros) edges
    ∙ ap (λ rs. (1 ∷ length prefix ∷ (prefix ++ (little_bytes 2 count ++ ((low ++ high) ++ rs)))) ++ zeros) refs
    ∙ ap (λ xs. 1 ∷ length prefix ∷ xs) (assoc prefix (little_bytes 2 count) low high low_refs high_refs zeros))
  where
    assoc : (p c a z x y w : List ℕ) → (p ++ (c ++ ((a ++ z) ++ (x ++ y)))) ++ w ≡ (((((p ++ c) ++ a) ++ z) ++ x) ++ y) ++ w
    assoc p c a z x y w = simp append_assoc

-- a shorter prefix before what stands behind it
pub short_leaf : (rest from : ℕ) (bytes : List ℕ) → IsLeafAt rest bytes → 0 ∷ length (drop from (prefix_from bytes))
    ∷ (drop from (prefix_from bytes) ++ take 12 (body_from bytes)) ≡ spelled (shortened_by from (node_of bytes))
short_leaf rest from bytes leaf =
    let prefix = drop from (prefix_from bytes) in
    ap (λ xs. 0 ∷ length prefix ∷ (prefix ++ xs)) (body leaf) ∙ sym (ap (λ n. spelled (shortened_by from n)) leaf.node_is)
  where
    body : (l : IsLeafAt rest bytes) → take 12 (body_from bytes) ≡ ref_bytes (ref_from (body_from bytes))
    body l =
        let value = ref_from (body_from bytes) in
        let is : body_from bytes ≡ ref_bytes value = ap body_from l.bytes_are ∙ drop_at (prefix_from bytes) (ref_bytes value) (length (prefix_from bytes)) refl in
        ap (take 12) (is ∙ sym (append-nil (ref_bytes value))) ∙ take_at (ref_bytes value) [] 12 (length_ref_bytes value)

pub short_inner : (rest from : ℕ) (bytes : List ℕ) → IsInnerAt rest bytes → 1 ∷ length (drop from (prefix_from bytes))
    ∷ (drop from (prefix_from bytes) ++ take (2 + 13 * little_number 2 (body_from bytes)) (body_from bytes)) ≡ spelled (shortened_by from (node_of bytes))
short_inner rest from bytes inner =
    let prefix = drop from (prefix_from bytes) in
    let links = inner.links in
    let body = inner_whole (prefix_from bytes) links inner.laid in
    ap (λ xs. 1 ∷ length prefix ∷ (prefix ++ xs)) body ∙ sym (ap (λ n. spelled (shortened_by from n)) inner.node_is)
  where
    inner_whole : (p : List ℕ) (links : List Link) → IsLaid bytes p links → take (2 + 13 * little_number 2 (body_from bytes)) (body_from bytes) ≡ little_bytes 2 (length links)
        ++ (edges_of links ++ refs_bytes links)
    inner_whole p links l =
        let zeros = replicate l.zeros 0 in
        let whole = little_bytes 2 (length links) ++ (edges_of links ++ refs_bytes links) in
        let is : body_from bytes ≡ whole ++ zeros = ap body_from l.bytes_are ∙ ap (drop (length p)) (append_assoc p whole zeros) ∙ drop_at p (whole ++ zeros) (length p) refl in
        let long : length whole ≡ 2 + 13 * little_number 2 (body_from bytes) =
        (let count = l.count in omega (
          arith,
          length-append (little_bytes 2 (length links)) (edges_of links ++ refs_bytes links),
          length-append (edges_of links) (refs_bytes links),
          length-map links (λ l. l.edge),
          length_refs_bytes links,
          length-bytes_low_first 0 2 (length links),
        )) in
        ap (take (2 + 13 * little_number 2 (body_from bytes))) is ∙ take_at whole zeros (2 + 13 * little_number 2 (body_from bytes)) long

-- Lists of links where one is changed, put in or taken out.
use Rattle.std.proofs.Common.{◌≡◌, ◌∙◌, ℕ, ◌+◌, ◌*◌, ◌<◌, List, [], ◌∷◌, ◌++◌, length, drop, replicate, sym, ap, arith, append_assoc, length-append}
use Rattle.std.proofs.lemmas.List.{drop_at, take_at, append-nil, map-append, length-map}
use Rattle.std.specs.List.{AllByRecursion}
use Rattle.byteorder.specs.Endian.{little_bytes}
use Rattle.byteorder.specs.Numbers.{length-bytes_low_first}
use Rattle.blocks.specs.declared.BlockRef.{BlockRef}
use Rattle.blocks.specs.Blocks.{overwritten}
use Rattle.rax_packed.specs.Nodes.{Link, Leaf, Inner, ref_bytes, edges_of, refs_bytes, spelled, HoldsNode, Rising, IsRef, IsInner}
use Rattle.rax_packed.proofs.Entries.{all-append, all_front, all_weaker}
use Rattle.rax_packed.proofs.Spellings.{length_ref_bytes, length_refs_bytes, refs_bytes_append}

-- all links behind one that all of them are above
above_link : (n : ℕ) (before after : List Link) (link : Link) → AllByRecursion (λ m. n < m.edge) before → n < link.edge → AllByRecursion (λ m. link.edge < m.edge) after
    → AllByRecursion (λ m. n < m.edge) (before ++ link ∷ after)
above_link n before after link low here high = all-append (λ m. n < m.edge) before (link ∷ after) low (here, all_weaker (λ m. link.edge < m.edge) (λ m. n < m.edge) after (λ m h. omega arith) high)

-- links rise with one between those below it and those above it
pub rising_join : (before after : List Link) (link : Link) → Rising (before ++ after) → AllByRecursion (λ l. l.edge < link.edge) before → AllByRecursion (λ l. link.edge < l.edge) after
    → Rising (before ++ link ∷ after)
rising_join [] after link rising less more = (more, rising)
rising_join (l ∷ before) after link rising less more =
    (above_link l.edge before after link (all_front (λ m. l.edge < m.edge) before after rising.0) less.0 more, rising_join before after link rising.1 less.1 more)

-- and without one
all_skip : {X : Type 0} (P : X → Type 0) (xs ys : List X) (x : X) → AllByRecursion P (xs ++ x ∷ ys) → AllByRecursion P (xs ++ ys)
all_skip P [] ys x h = h.1
all_skip P (y ∷ xs) ys x h = (h.0, all_skip P xs ys x h.1)

all_join : {X : Type 0} (P : X → Type 0) (xs ys : List X) (x : X) → AllByRecursion P (xs ++ ys) → P x → AllByRecursion P (xs ++ x ∷ ys)
all_join P [] ys x h p = (p, h)
all_join P (y ∷ xs) ys x h p = (h.0, all_join P xs ys x h.1 p)

pub rising_skip : (before after : List Link) (link : Link) → Rising (before ++ link ∷ after) → Rising (before ++ after)
rising_skip [] after link rising = rising.1
rising_skip (l ∷ before) after link rising = (all_skip (λ m. l.edge < m.edge) before after link rising.0, rising_skip before after link rising.1)

all_here : {X : Type 0} (P : X → Type 0) (xs ys : List X) (x : X) → AllByRecursion P (xs ++ x ∷ ys) → P x
all_here P [] ys x h = h.0
all_here P (y ∷ xs) ys x h = all_here P xs ys x h.1

-- an inner node with one more link
pub inner_join : (rest : ℕ) (prefix : List ℕ) (before after : List Link) (link : Link) → IsInner rest prefix (before ++ after) → link.edge < 256 → IsRef link.to
    → AllByRecursion (λ l. l.edge < link.edge) before → AllByRecursion (λ l. link.edge < l.edge) after → IsInner rest prefix (before ++ link ∷ after)
inner_join rest prefix before after link inner byte ref less more =
    record {
      short = inner.short;
      some = omega (arith, length-append before (link ∷ after));
      rising = rising_join before after link inner.rising less more;
      edges = all_join (λ l. l.edge < 256) before after link inner.edges byte;
      refs = all_join (λ l. IsRef l.to) before after link inner.refs ref;
    }

-- with one less
pub inner_skip : (rest : ℕ) (prefix : List ℕ) (before after : List Link) (link : Link) → 0 < length (before ++ after) → IsInner rest prefix (before ++ link ∷ after)
    → IsInner rest prefix (before ++ after)
inner_skip rest prefix before after link some inner =
    record {
      short = inner.short;
      some = some;
      rising = rising_skip before after link inner.rising;
      edges = all_skip (λ l. l.edge < 256) before after link inner.edges;
      refs = all_skip (λ l. IsRef l.to) before after link inner.refs;
    }

-- with a link that names another node
rising_same : (before after : List Link) (edge : ℕ) (to new : BlockRef) → Rising (before ++ (record { edge = edge; to = to }) ∷ after) → Rising (before ++ (record { edge = edge; to = new }) ∷ after)
rising_same [] after edge to new rising = rising
rising_same (l ∷ before) after edge to new rising = (
  all_join (λ m. l.edge < m.edge) before after (record { edge = edge; to = new }) (all_skip (λ m. l.edge < m.edge) before after (record { edge = edge; to = to }) rising.0)
      (all_here (λ m. l.edge < m.edge) before after (record { edge = edge; to = to }) rising.0),
  rising_same before after edge to new rising.1,
)

pub inner_relinked : (rest : ℕ) (prefix : List ℕ) (before after : List Link) (edge : ℕ) (to new : BlockRef) → IsRef new
    → IsInner rest prefix (before ++ (record { edge = edge; to = to }) ∷ after) → IsInner rest prefix (before ++ (record { edge = edge; to = new }) ∷ after)
inner_relinked rest prefix before after edge to new ref inner =
    let old : Link = record { edge = edge; to = to } in
    let now : Link = record { edge = edge; to = new } in
    record {
      short = inner.short;
      some = omega (arith, length-append before (now ∷ after));
      rising = rising_same before after edge to new inner.rising;
      edges = all_join (λ l. l.edge < 256) before after now (all_skip (λ l. l.edge < 256) before after old inner.edges) (all_here (λ l. l.edge < 256) before after old inner.edges);
      refs = all_join (λ l. IsRef l.to) before after now (all_skip (λ l. IsRef l.to) before after old inner.refs) ref;
    }

-- a piece put over bytes between others
pub overwritten_between : (front old new back : List ℕ) (at : ℕ) → length front ≡ at → length old ≡ length new → overwritten (front ++ (old ++ back)) at new ≡ front ++ (new ++ back)
overwritten_between front old new back at begins alike =
    let ends : length (front ++ old) ≡ at + length new = omega (arith, length-append front old) in
    ap (λ xs. (xs ++ new) ++ drop (at + length new) (front ++ (old ++ back))) (take_at front (old ++ back) at begins)
    ∙ ap (λ xs. (front ++ new) ++ drop (at + length new) xs) (sym (append_assoc front old back))
    ∙ ap (λ xs. (front ++ new) ++ xs) (drop_at (front ++ old) back (at + length new) ends)
    ∙ append_assoc front new back

-- what stands before the reference of a link
link_front : List ℕ → List Link → List Link → List ℕ
link_front prefix links before = 1 ∷ length prefix ∷ (prefix ++ (little_bytes 2 (length links) ++ (edges_of links ++ refs_bytes before)))

length_link_front : (prefix : List ℕ) (links before : List Link) → length (link_front prefix links before) ≡ 4 + length prefix + length links + 12 * length before
unfolding link_front
length_link_front prefix links before =
    omega (
      arith,
      length-append prefix (little_bytes 2 (length links) ++ (edges_of links ++ refs_bytes before)),
      length-append (little_bytes 2 (length links))
          (edges_of links ++ refs_bytes before),
      length-append (edges_of links) (refs_bytes before),
      length-map links (λ l. l.edge),
      length_refs_bytes before,
      length-bytes_low_first 0 2
          (length links),
    )

at_link : (prefix : List ℕ) (before after : List Link) (link : Link) (zeros : List ℕ) → spelled (Inner prefix (before ++ link ∷ after))
    ++ zeros ≡ link_front prefix (before ++ link ∷ after) before ++ (ref_bytes link.to ++ (refs_bytes after ++ zeros))
unfolding link_front
at_link prefix before after link zeros =
    ap (λ refs. (1 ∷ length prefix ∷ (prefix ++ (little_bytes 2 (length (before ++ link ∷ after)) ++ (edges_of (before ++ link ∷ after) ++ refs)))) ++ zeros) (refs_bytes_append before (link ∷ after))
    ∙ ap (λ xs. 1 ∷ length prefix ∷ xs) (simp append_assoc)

same_length : (before after : List Link) (x y : Link) → length (before ++ x ∷ after) ≡ length (before ++ y ∷ after)
same_length before after x y = omega (arith, length-append before (x ∷ after), length-append before (y ∷ after))

same_edges : (before after : List Link) (edge : ℕ) (to new : BlockRef)
    → edges_of (before ++ (record { edge = edge; to = to }) ∷ after) ≡ edges_of (before ++ (record { edge = edge; to = new }) ∷ after)
same_edges before after edge to new = map-append (λ l. l.edge) before ((record { edge = edge; to = to }) ∷ after) ∙ sym (map-append (λ l. l.edge) before ((record { edge = edge; to = new }) ∷ after))

-- a reference written over that of a link
pub relinked_bytes : (bytes prefix : List ℕ) (before after : List Link) (edge at : ℕ) (to new : BlockRef)
    → HoldsNode bytes (Inner prefix (before ++ (record { edge = edge; to = to }) ∷ after))
    → at ≡ 4 + length prefix + length (before ++ (record { edge = edge; to = to }) ∷ after) + 12 * length before
    → HoldsNode (overwritten bytes at (ref_bytes new)) (Inner prefix (before ++ (record { edge = edge; to = new }) ∷ after))
unfolding link_front
relinked_bytes bytes prefix before after edge at to new holds is =
    let old : Link = record { edge = edge; to = to } in
    let now : Link = record { edge = edge; to = new } in
    let zeros = replicate holds.0 0 in
    let front = link_front prefix (before ++ old ∷ after) before in
    let alike : link_front prefix (before ++ old ∷ after) before ≡ link_front prefix (before ++ now ∷ after) before =
    ap (λ n. 1 ∷ length prefix ∷ (prefix ++ (little_bytes 2 n ++ (edges_of (before ++ old ∷ after) ++ refs_bytes before)))) (same_length before after old now)
    ∙ ap (λ es. 1 ∷ length prefix ∷ (prefix ++ (little_bytes 2 (length (before ++ now ∷ after)) ++ (es ++ refs_bytes before)))) (same_edges before after edge to new) in (
      holds.0,
      ap (λ xs. overwritten xs at (ref_bytes new)) (holds.1 ∙ at_link prefix before after old zeros)
          ∙ overwritten_between front (ref_bytes to) (ref_bytes new) (refs_bytes after ++ zeros) at (length_link_front prefix (before ++ old ∷ after) before ∙ sym is)
          (length_ref_bytes to ∙ sym (length_ref_bytes new))
          ∙ ap (λ xs. xs ++ (ref_bytes new ++ (refs_bytes after ++ zeros))) alike
          ∙ sym (at_link prefix before after now zeros),
    )

-- a value written over that of a leaf
pub revalued_bytes : (bytes prefix : List ℕ) (old new : BlockRef) → HoldsNode bytes (Leaf prefix old) → HoldsNode (overwritten bytes (2 + length prefix) (ref_bytes new)) (Leaf prefix new)
revalued_bytes bytes prefix old new holds =
    let front = 0 ∷ length prefix ∷ prefix in
    ap (λ xs. overwritten xs (2 + length prefix) (ref_bytes new)) (holds ∙ ap (λ xs. front ++ xs) (sym (append-nil (ref_bytes old))))
    ∙ overwritten_between front (ref_bytes old) (ref_bytes new) [] (2 + length prefix) (omega arith) (length_ref_bytes old ∙ sym (length_ref_bytes new))
    ∙ ap (λ xs. front ++ xs) (append-nil (ref_bytes new))

-- The blocks of one key moved, and the marks of a tree.
use Rattle.std.proofs.Common.{◌≡◌, ◌∙◌, ◌⊎◌, ℕ, ◌+◌, ◌<◌, Bool, true, false, cond, is_some, List, [], ◌∷◌, ◌++◌, length, map, Option, Some, IsSome, refl, sym, ap, subst, inl, inr, arith}
use Rattle.std.specs.Prelude.{◌==◌, count_by}
use Rattle.std.specs.List.{AllByRecursion, filter, find}
use Rattle.std.specs.Option.{option_map}
use Rattle.std.specs.Ordering.{is_eq, nat_cmp, ordering_then}
use Rattle.std.specs.declared.cmp.Ordering.{Ordering}
use Rattle.std.specs.declared.cmp.Ordering.TheVariants.{Less, Equal, Greater}
use Rattle.std.proofs.lemmas.Bool.{cases_Bool, cases_lt, cases_eq, cond-true, cond-false, eq-eqb, ne_eqb}
use Rattle.std.proofs.lemmas.List.{append-nil, map-append, length-map}
use Rattle.blocks.specs.declared.BlockRef.{BlockRef}
use Rattle.blocks.specs.Blocks.{Blocks, times, Changes, Owned}
use Rattle.blocks.specs.Slabs.{Heap, wants, Calmer}
use Rattle.blocks.proofs.Times.{times-append}
use Rattle.blocks.proofs.Change.{changes_beside, changes_owned, changes_then}
use Rattle.stream_node.specs.declared.id.Id.{Id}
use Rattle.stream_node.specs.Ids.{IsId, id_number, id_key, key_id}
use Rattle.stream_node.proofs.Ids.{id_laws, cmp_less, cmp_equal, cmp_greater}
use Rattle.rax_packed.specs.declared.tree.PackedTree.{PackedTree}
use Rattle.rax_packed.specs.Trees.{Entry, Mark}
use Rattle.rax_packed.specs.Packed.{order, value_at, with_entry}
use Rattle.rax_packed.specs.Paths.{is_least, nodes_with, ArePassed as PathPassed}
use Rattle.rax_packed.specs.Maps as rax
use Rattle.rax_packed.specs.Laws.{Stays}
use Rattle.rax_packed.proofs.Depends.{packed_laws_hold}
use Rattle.rax_packed.proofs.Keys.{equal_cmp}
use Rattle.rax_packed.proofs.Entries.{all-append, all_front, all_back, all_weaker}
use Rattle.rax_packed.proofs.Relocations.{passed_calmer}
use Rattle.stream_object.specs.Copied.{AreSame}
use Rattle.stream_object.specs.Found.{Stands, Exchanges}
use Rattle.stream_object.specs.Block.{Holds}
use Rattle.stream_object.specs.Parts.{Part, part, IsPart, EndsBefore, Rising, entry_of, refs_of, parts_of, all_refs, HasParts}
use Rattle.stream_object.specs.Relocation.{PassesOne, PassesAll, Moves, node_mark, entry_mark, tree_marks}
use Rattle.stream_object.proofs.Clears.{exchanges_then}
use Rattle.stream_object.proofs.Exchanging.{outside, counts_itself, tree_stays, beside_tree}
use Rattle.stream_object.proofs.Parts.{times_refs, refs_are, parts_are, its_own, with_there, exchanged}
use Rattle.stream_object.proofs.Passed.{passes_append, passes_none, count_cons, count_append, count_zero}
use Rattle.stream_object.proofs.Walks.{keys_before, keys_after}

-- what holds of each holds of what is told of each
pub all_map : {X Y : Type 0} (Q : Y → Type 0) (f : X → Y) (xs : List X) → AllByRecursion (λ x. Q (f x)) xs → AllByRecursion Q (map f xs)
all_map Q f [] all = tt
all_map Q f (x ∷ xs) all = (all.0, all_map Q f xs all.1)

is_equal : (o : Ordering) → is_eq o ≡ true → o ≡ Equal
is_equal Less h = cc
is_equal Equal h = refl
is_equal Greater h = cc

by_first : (x y : ℕ) (o : Ordering) → ordering_then (nat_cmp x y) o ≡ Equal → (x ≡ y) × (o ≡ Equal)
by_first x y o h = step (nat_cmp x y) refl h
  where
    step : (r : Ordering) → nat_cmp x y ≡ r → ordering_then r o ≡ Equal → (x ≡ y) × (o ≡ Equal)
    step Less e h = cc
    step Equal e h = (equal_cmp x y e, h)
    step Greater e h = cc

-- keys that stand alike are the same
order_equal : (a b : List ℕ) → order a b ≡ Equal → a ≡ b
order_equal [] [] h = refl
order_equal [] (y ∷ b) h = cc
order_equal (x ∷ a) [] h = cc
order_equal (x ∷ a) (y ∷ b) h = let both = by_first x y (order a b) h in λ i. both.0 i ∷ order_equal a b both.1 i

-- a key of the tree is that of a node
pub found_part : (m : Blocks) (P : Part → Type 0) (ps : List Part) (key : List ℕ) → AllByRecursion (IsPart m) ps → AllByRecursion P ps → IsSome (value_at (map entry_of ps) key)
    → (q : Part) × IsId q.key × (key ≡ id_key q.key) × P q
unfolding value_at
found_part m P [] key each holds h = cc
found_part m P (p ∷ ps) key each holds h = by_test (cases_Bool (is_eq (order (id_key p.key) key))) (λ some. found_part m P ps key each.1 holds.1 some)
  where
    by_test : (is_eq (order (id_key p.key) key) ≡ true) ⊎ (is_eq (order (id_key p.key) key) ≡ false)
        → (IsSome (value_at (map entry_of ps) key) → (q : Part) × IsId q.key × (key ≡ id_key q.key) × P q) → (q : Part) × IsId q.key × (key ≡ id_key q.key) × P q
    by_test (inl same) rest = (p, each.0.id, sym (order_equal (id_key p.key) key (is_equal (order (id_key p.key) key) same)), holds.0)
    by_test (inr other) rest =
        rest
        (subst (λ (o : Option Entry). IsSome (option_map (λ (e : Entry). e.value) o))
        (cond-false (is_eq (order (id_key p.key) key)) (Some (entry_of p)) (find (λ (e : Entry). is_eq (order e.key key)) (map entry_of ps)) other) h)

-- the marks of nodes are their keys as numbers
pub part_marks : (m : Blocks) (ps : List Part) → AllByRecursion (IsPart m) ps → map entry_mark (map entry_of ps) ≡ map (λ (p : Part). id_number p.key) ps
part_marks m [] each = refl
part_marks m (p ∷ ps) each = λ i. id_number (id_laws.back p.key each.0.id i) ∷ part_marks m ps each.1 i

-- a node of the tree has a key of the nodes as its least one
pub least_parts : (m : Blocks) (tree : PackedTree) (ps : List Part) (P : Part → Type 0) → HasParts m tree ps → AllByRecursion P ps
    → AllByRecursion (λ (n : Mark). (q : Part) × IsId q.key × (n.least ≡ id_key q.key) × P q) (rax.marks_of m tree)
least_parts m tree ps P h holds =
    all_weaker (λ (n : Mark). IsSome (value_at (rax.entries_of m tree) n.least)) (λ (n : Mark). (q : Part) × IsId q.key × (n.least ≡ id_key q.key) × P q) (rax.marks_of m tree)
    (λ n some. found_part m P ps n.least h.each holds (subst (λ es. IsSome (value_at es n.least)) h.named some)) (packed_laws_hold.least m tree h.stands)

-- what holds of the number of each key holds of each mark
pub tree_all : (m : Blocks) (tree : PackedTree) (ps : List Part) (Q : ℕ → Type 0) → HasParts m tree ps → AllByRecursion (λ (p : Part). Q (id_number p.key)) ps → AllByRecursion Q (tree_marks m tree)
tree_all m tree ps Q h holds =
    all-append Q (map node_mark (rax.marks_of m tree)) (map entry_mark (rax.entries_of m tree))
    (all_map Q node_mark (rax.marks_of m tree) (all_weaker (λ (n : Mark). (q : Part) × IsId q.key × (n.least ≡ id_key q.key) × Q (id_number q.key)) (λ n. Q (node_mark n)) (rax.marks_of m tree)
    (λ n f. subst Q (sym (ap (λ k. id_number (key_id k)) f.2 ∙ ap id_number (id_laws.back f.0.key f.1))) f.3) (least_parts m tree ps (λ (p : Part). Q (id_number p.key)) h holds)))
    (subst (λ ks. AllByRecursion Q ks) (sym (ap (map entry_mark) h.named ∙ part_marks m ps h.each)) (all_map Q (λ (p : Part). id_number p.key) ps holds))

-- one test of equal numbers as the other
eq_cmp : (a b : ℕ) → is_eq (nat_cmp a b) ≡ (a == b)
eq_cmp a b = elim (cases_eq a b) [
  | inl same ↦ ap is_eq (cmp_equal a b same) ∙ sym (eq-eqb a b same)
  | inr other ↦ elim (cases_lt a b) [
    | inl less ↦ ap is_eq (cmp_less a b less) ∙ sym (ne_eqb a b other)
    | inr more ↦ (let greater : b < a = omega arith in ap is_eq (cmp_greater a b greater) ∙ sym (ne_eqb a b other))
  ]
]

least_is : (key : Id) (n : Mark) (q : Part) → IsId key → IsId q.key → n.least ≡ id_key q.key → is_least (id_key key) n ≡ (node_mark n == id_number key)
least_is key n q id mine is =
    ap (λ k. is_eq (order k (id_key key))) is ∙ ap is_eq (id_laws.bytes q.key key mine id) ∙ eq_cmp (id_number q.key) (id_number key)
    ∙ ap (λ a. a == id_number key) (sym (ap (λ k. id_number (key_id k)) is ∙ ap id_number (id_laws.back q.key mine)))

-- the nodes of the tree, of which those of a key were passed
nodes_passed : (h k : Heap) (key : List ℕ) (n : ℕ) (xs us : List Mark) → PathPassed h k key xs us → AllByRecursion (λ (x : Mark). is_least key x ≡ (node_mark x == n)) xs
    → PassesAll k (λ a. a == n) (map node_mark xs) (map (λ (x : Mark). x.at) xs) (map (λ (x : Mark). x.at) us)
nodes_passed h k key n [] [] p each = tt
nodes_passed h k key n [] (u ∷ us) p each = absurd p
nodes_passed h k key n (x ∷ xs) [] p each = absurd p
nodes_passed h k key n (x ∷ xs) (u ∷ us) p each = (record { calm = λ is. p.0.calm (each.0 ∙ is); stays = λ out. p.0.others (each.0 ∙ out) }, nodes_passed h k key n xs us p.1 each.1)

nodes_marks : (h k : Heap) (key : List ℕ) (xs us : List Mark) → PathPassed h k key xs us → map node_mark us ≡ map node_mark xs
nodes_marks h k key [] [] p = refl
nodes_marks h k key [] (u ∷ us) p = absurd p
nodes_marks h k key (x ∷ xs) [] p = absurd p
nodes_marks h k key (x ∷ xs) (u ∷ us) p = λ i. id_number (key_id (p.0.least i)) ∷ nodes_marks h k key xs us p.1 i

pub nodes_count : (key : List ℕ) (n : ℕ) (xs : List Mark) → AllByRecursion (λ (x : Mark). is_least key x ≡ (node_mark x == n)) xs
    → length (nodes_with xs key) ≡ count_by (λ a. a == n) (map node_mark xs)
unfolding nodes_with
nodes_count key n [] each = refl
nodes_count key n (x ∷ xs) each = by_test (is_least key x) (node_mark x == n) each.0 (nodes_count key n xs each.1) ∙ sym (count_cons (λ a. a == n) (node_mark x) (map node_mark xs))
  where
    by_test : (s t : Bool) → s ≡ t → length (map (λ (y : Mark). y.at) (filter (is_least key) xs)) ≡ count_by (λ a. a == n) (map node_mark xs)
        → length (map (λ (y : Mark). y.at) (cond s (x ∷ filter (is_least key) xs) (filter (is_least key) xs))) ≡ cond t 1 0 + count_by (λ a. a == n) (map node_mark xs)
    by_test true true e rest = omega (arith, rest)
    by_test true false e rest = cc
    by_test false true e rest = cc
    by_test false false e rest = omega (arith, rest)

-- the same nodes, one in another block
pub same_self : (ps : List Part) → AreSame ps ps
same_self [] = tt
same_self (p ∷ ps) = (refl, refl, same_self ps)

same_around : (before after : List Part) (p q : Part) → q.key ≡ p.key → q.bytes ≡ p.bytes → AreSame (before ++ p ∷ after) (before ++ q ∷ after)
same_around [] after p q key bytes = (key, bytes, same_self after)
same_around (x ∷ before) after p q key bytes = (refl, refl, same_around before after p q key bytes)

rising_around : (before after : List Part) (key : Id) (at new : BlockRef) (bytes : List ℕ) → Rising (before ++ part key at bytes ∷ after) → Rising (before ++ part key new bytes ∷ after)
rising_around [] after key at new bytes r = r
rising_around (x ∷ before) after key at new bytes r = (
  all-append (EndsBefore x) before (part key new bytes ∷ after) (all_front (EndsBefore x) before (part key at bytes ∷ after) r.0)
      ((all_back (EndsBefore x) before (part key at bytes ∷ after) r.0).0, (all_back (EndsBefore x) before (part key at bytes ∷ after) r.0).1),
  rising_around before after key at new bytes r.1,
)

-- the own nodes of a key's, of which its own was passed
parts_passed : (m : Blocks) (h : Heap) (before after : List Part) (key : Id) (at new : BlockRef) (bytes : List ℕ) → AllByRecursion (IsPart m) (before ++ part key at bytes ∷ after)
    → Rising (before ++ part key at bytes ∷ after) → wants h new ≡ false
    → PassesAll h (λ a. a == id_number key) (map (λ (p : Part). id_number p.key) (before ++ part key at bytes ∷ after)) (refs_of (before ++ part key at bytes ∷ after))
    (refs_of (before ++ part key new bytes ∷ after))
parts_passed m h before after key at new bytes each rising calm =
    let n = id_number key in
    let number : Part → ℕ = λ (p : Part). id_number p.key in
    let block : Part → BlockRef = λ (p : Part). p.at in
    let low = all_map (λ a. (a == n) ≡ false) number before
    (all_weaker (λ (q : Part). id_number q.key < n) (λ q. (id_number q.key == n) ≡ false) before (λ q less. ne_eqb (id_number q.key) n (λ e. omega (arith, e, less)))
    (keys_before m before after (part key at bytes) each rising)) in
    let high = all_map (λ a. (a == n) ≡ false) number after
    (all_weaker (λ (q : Part). n < id_number q.key) (λ q. (id_number q.key == n) ≡ false) after (λ q more. ne_eqb (id_number q.key) n (λ e. omega (arith, e, more)))
    (keys_after m before after (part key at bytes) each rising)) in
    let front = passes_none h (λ a. a == n) (map number before) (map block before) (length-map before number ∙ sym (length-map before block)) low in
    let back = passes_none h (λ a. a == n) (map number after) (map block after) (length-map after number ∙ sym (length-map after block)) high in
    let mine : PassesOne h (λ a. a == n) n at new = record { calm = λ is. calm; stays = λ out. absurd (let yes : (n == n) ≡ true = eq-eqb n n refl in let bad : true ≡ false = sym yes ∙ out in cc) } in
    subst (λ ks. PassesAll h (λ a. a == n) ks (refs_of (before ++ part key at bytes ∷ after)) (refs_of (before ++ part key new bytes ∷ after)))
    (sym (map-append number before (part key at bytes ∷ after)))
    (subst (λ rs. PassesAll h (λ a. a == n) (map number before ++ map number (part key at bytes ∷ after)) rs (refs_of (before ++ part key new bytes ∷ after)))
    (sym (map-append block before (part key at bytes ∷ after)))
    (subst (PassesAll h (λ a. a == n) (map number before ++ map number (part key at bytes ∷ after)) (map block before ++ map block (part key at bytes ∷ after)))
    (sym (map-append block before (part key new bytes ∷ after)))
    (passes_append h (λ a. a == n) (map number before) (n ∷ map number after) (map block before) (at ∷ map block after) (map block before) (new ∷ map block after) front (mine, back))))

parts_count : (m : Blocks) (before after : List Part) (p : Part) → AllByRecursion (IsPart m) (before ++ p ∷ after) → Rising (before ++ p ∷ after)
    → count_by (λ a. a == id_number p.key) (map (λ (q : Part). id_number q.key) (before ++ p ∷ after)) ≡ 1
parts_count m before after p each rising =
    let n = id_number p.key in
    let number : Part → ℕ = λ (q : Part). id_number q.key in
    let low = all_map (λ a. (a == n) ≡ false) number before
    (all_weaker (λ (q : Part). id_number q.key < n) (λ q. (id_number q.key == n) ≡ false) before (λ q less. ne_eqb (id_number q.key) n (λ e. omega (arith, e, less)))
    (keys_before m before after p each rising)) in
    let high = all_map (λ a. (a == n) ≡ false) number after
    (all_weaker (λ (q : Part). n < id_number q.key) (λ q. (id_number q.key == n) ≡ false) after (λ q more. ne_eqb (id_number q.key) n (λ e. omega (arith, e, more)))
    (keys_after m before after p each rising)) in
    let one : cond {A = ℕ} (n == n) 1 0 ≡ 1 = cond-true _ _ _ (eq-eqb n n refl) in
    omega (
      arith,
      one,
      ap (count_by (λ a. a == n)) (map-append number before (p ∷ after)),
      count_append (λ a. a == n) (map number before) (n ∷ map number after),
      count_cons (λ a. a == n) n
          (map number after),
      count_zero (λ a. a == n) (map number before) low,
      count_zero (λ a. a == n) (map number after) high,
    )

-- the nodes of a key, and its own node
pub key_count : (m : Blocks) (tree : PackedTree) (key : Id) (at : BlockRef) → HasParts m tree (parts_of m tree) → (s : Stands (parts_of m tree) key at)
    → length (nodes_with (rax.marks_of m tree) (id_key key)) + 1 ≡ count_by (λ a. a == id_number key) (tree_marks m tree)
key_count m tree key at h s =
    let each = subst (AllByRecursion (IsPart m)) s.place h.each in
    let rising = subst Rising s.place h.rising in
    let mine = (all_back (IsPart m) s.before (part key at s.bytes ∷ s.after) each).0 in
    let tests = all_weaker (λ (n : Mark). (q : Part) × IsId q.key × (n.least ≡ id_key q.key) × IsPart m q) (λ (n : Mark). is_least (id_key key) n ≡ (node_mark n == id_number key))
    (rax.marks_of m tree) (λ n f. least_is key n f.0 mine.id f.1 f.2)
    (least_parts m tree (parts_of m tree) (IsPart m) h h.each) in
    let own : map entry_mark (rax.entries_of m tree) ≡ map (λ (p : Part). id_number p.key) (s.before ++ part key at s.bytes ∷ s.after) = ap (map entry_mark) h.named
    ∙ part_marks m (parts_of m tree) h.each ∙ ap (map (λ (p : Part). id_number p.key)) s.place in
    let one : count_by (λ a. a == id_number key) (map entry_mark (rax.entries_of m tree)) ≡ 1 = ap (count_by (λ a. a == id_number key)) own
    ∙ parts_count m s.before s.after (part key at s.bytes) each rising in
    omega (
      arith,
      one,
      nodes_count (id_key key) (id_number key) (rax.marks_of m tree) tests,
      count_append (λ a. a == id_number key) (map node_mark (rax.marks_of m tree))
          (map entry_mark (rax.entries_of m tree)),
    )

-- the nodes of the tree have moved, then the key's own node, and then the tree names that
module _ (m m1 : Blocks) (t0 t1 : PackedTree) (key : Id) (at : BlockRef) (h : HasParts m t0 (parts_of m t0)) (s : Stands (parts_of m t0) key at)
    (sound1 : rax.IsSound m1 t1) (entries1 : rax.entries_of m1 t1 ≡ rax.entries_of m t0) (changes1 : Changes m m1 (rax.refs_of m t0) (rax.refs_of m1 t1)) where
  abbrev ps : List Part
  ps = parts_of m t0

  pub first : Exchanges m m1 t0 t1 (parts_of m t0)
  first =
      exchanged m m1 t0 t1 [] [] [] ps h
      (subst (λ xs. Changes m m1 xs (rax.refs_of m1 t1 ++ [])) (sym (append-nil (rax.refs_of m t0)))
      (subst (Changes m m1 (rax.refs_of m t0)) (sym (append-nil (rax.refs_of m1 t1))) changes1))
      sound1 (entries1 ∙ h.named) tt h.rising

  pub here : HasParts m1 t1 (s.before ++ part key at s.bytes ∷ s.after)
  here = subst (HasParts m1 t1) s.place first.parts

  front : AllByRecursion (IsPart m1) s.before
  front = all_front (IsPart m1) s.before (part key at s.bytes ∷ s.after) here.each

  back : IsPart m1 (part key at s.bytes) × AllByRecursion (IsPart m1) s.after
  back = all_back (IsPart m1) s.before (part key at s.bytes ∷ s.after) here.each

  pub at_live : IsSome (m1 at)
  at_live = ap is_some back.0.block

  own1 : Owned (rax.refs_of m1 t1 ++ (at ∷ [])) m1
  own1 r = omega (
    arith,
    here.owned r,
    times-append r (rax.refs_of m1 t1) (at ∷ []),
    times-append r (rax.refs_of m1 t1) (refs_of (s.before ++ part key at s.bytes ∷ s.after)),
    times_refs r s.before
        (part key at s.bytes ∷ s.after),
  )

  module _ (m2 : Blocks) (new : BlockRef) (bytes2 : m2 new ≡ m1 at) (changes2 : Changes m1 m2 (at ∷ []) (new ∷ [])) where
    abbrev qs : List Part
    qs = s.before ++ part key new s.bytes ∷ s.after

    stay2 : Stays m1 m2 t1
    stay2 = tree_stays m1 m2 t1 (at ∷ []) (new ∷ []) own1 changes2

    pub settled_sound : rax.IsSound m2 t1
    settled_sound = stay2.sound sound1

    pub settled_value : value_at (rax.entries_of m2 t1) (id_key key) ≡ value_at (rax.entries_of m t0) (id_key key)
    settled_value = ap (λ es. value_at es (id_key key)) (stay2.entries_are ∙ entries1)

    changes12 : Changes m1 m2 (rax.refs_of m1 t1 ++ (at ∷ [])) (rax.refs_of m2 t1 ++ (new ∷ []))
    changes12 =
        subst (λ rs. Changes m1 m2 (rax.refs_of m1 t1 ++ (at ∷ [])) (rs ++ (new ∷ []))) (sym stay2.refs_are)
        (changes_beside m1 m2 (at ∷ []) (new ∷ []) (rax.refs_of m1 t1 ++ (at ∷ [])) (rax.refs_of m1 t1 ++ (new ∷ [])) changes2 own1 (λ r. times r (rax.refs_of m1 t1))
        (λ r. omega (arith, times-append r (rax.refs_of m1 t1) (at ∷ []))) (λ r. omega (arith, times-append r (rax.refs_of m1 t1) (new ∷ []))))

    own2 : Owned (rax.refs_of m2 t1 ++ (new ∷ [])) m2
    own2 = changes_owned m1 m2 (rax.refs_of m1 t1 ++ (at ∷ [])) (rax.refs_of m2 t1 ++ (new ∷ [])) changes12

    module _ (m3 : Blocks) (t2 : PackedTree) (h0 h1 : Heap) (passed1 : PathPassed h0 h1 (id_key key) (rax.marks_of m t0) (rax.marks_of m1 t1)) (sound3 : rax.IsSound m3 t2)
        (set3 : rax.entries_of m3 t2 ≡ with_entry (rax.entries_of m2 t1) (id_key key) new) (changes3 : Changes m2 m3 (rax.refs_of m2 t1) (rax.refs_of m3 t2))
        (marks3 : rax.marks_of m3 t2 ≡ rax.marks_of m2 t1) where
      core : Changes m1 m3 (rax.refs_of m1 t1 ++ (at ∷ [])) (rax.refs_of m3 t2 ++ (new ∷ []))
      core = changes_then m1 m2 m3 (rax.refs_of m1 t1 ++ (at ∷ [])) (rax.refs_of m2 t1 ++ (new ∷ [])) (rax.refs_of m3 t2 ++ (new ∷ [])) changes12 (beside_tree m2 m3 t1 t2 (new ∷ []) own2 changes3)

      block3 : Holds m3 new s.bytes
      block3 = outside m2 m3 (rax.refs_of m2 t1) (rax.refs_of m3 t2) (new ∷ []) own2 changes3 new (omega (arith, counts_itself new)) ∙ bytes2 ∙ back.0.block

      named3 : rax.entries_of m3 t2 ≡ map entry_of (s.before ++ part key new s.bytes ∷ s.after)
      named3 = set3 ∙ ap (λ es. with_entry es (id_key key) new) (stay2.entries_are ∙ here.named) ∙ with_there m1 s.before s.after (part key at s.bytes) back.0 front back.1 here.rising new s.bytes

      second : Exchanges m1 m3 t1 t2 (s.before ++ part key new s.bytes ∷ s.after)
      second =
          exchanged m1 m3 t1 t2 s.before (part key at s.bytes ∷ []) (part key new s.bytes ∷ []) s.after here core sound3 named3
          (record { id = back.0.id; block = block3; is_node = back.0.is_node }, tt)
          (rising_around s.before s.after key at new s.bytes here.rising)

      whole : Exchanges m m3 t0 t2 (s.before ++ part key new s.bytes ∷ s.after)
      whole = exchanges_then m m1 m3 t0 t1 t2 ps qs first second

      now_parts : parts_of m3 t2 ≡ qs
      now_parts = parts_are m3 t2 qs whole.parts

      same : AreSame ps qs
      same = subst (λ xs. AreSame xs qs) (sym s.place) (same_around s.before s.after (part key at s.bytes) (part key new s.bytes) refl refl)

      tree_nodes : rax.marks_of m3 t2 ≡ rax.marks_of m1 t1
      tree_nodes = marks3 ∙ stay2.marks_are

      numbers : map (λ (p : Part). id_number p.key) qs ≡ map (λ (p : Part). id_number p.key) ps
      numbers = map-append (λ (p : Part). id_number p.key) s.before (part key new s.bytes ∷ s.after)
          ∙ sym (map-append (λ (p : Part). id_number p.key) s.before (part key at s.bytes ∷ s.after)) ∙ ap (map (λ (p : Part). id_number p.key)) (sym s.place)

      old_numbers : map entry_mark (rax.entries_of m t0) ≡ map (λ (p : Part). id_number p.key) ps
      old_numbers = ap (map entry_mark) h.named ∙ part_marks m ps h.each

      marks_same : tree_marks m3 t2 ≡ tree_marks m t0
      marks_same = λ i. (ap (map node_mark) tree_nodes ∙ nodes_marks h0 h1 (id_key key) (rax.marks_of m t0) (rax.marks_of m1 t1) passed1) i
          ++ (ap (map entry_mark) whole.parts.named ∙ part_marks m3 qs whole.parts.each ∙ numbers ∙ sym old_numbers) i

      pub moves : Moves m m3 t0 t2
      moves = record {
        parts = its_own m3 t2 qs whole.parts;
        same = subst (AreSame ps) (sym now_parts) same;
        changes = whole.changes;
        marks_are = marks_same;
      }

      pub passes : (h2 : Heap) → Calmer h1 h2 → wants h2 new ≡ false → PassesAll h2 (λ a. a == id_number key) (tree_marks m t0) (all_refs m t0) (all_refs m3 t2)
      passes h2 calmer calm =
          let n = id_number key in
          let each = subst (AllByRecursion (IsPart m)) s.place h.each in
          let rising = subst Rising s.place h.rising in
          let tests = all_weaker (λ (x : Mark). (q : Part) × IsId q.key × (x.least ≡ id_key q.key) × IsPart m q) (λ (x : Mark). is_least (id_key key) x ≡ (node_mark x == n))
          (rax.marks_of m t0) (λ x f. least_is key x f.0 back.0.id f.1 f.2)
          (least_parts m t0 ps (IsPart m) h h.each) in
          let tree = nodes_passed h0 h2 (id_key key) n (rax.marks_of m t0) (rax.marks_of m1 t1) (passed_calmer h0 h1 h2 (id_key key) (rax.marks_of m t0) (rax.marks_of m1 t1) calmer passed1) tests in
          let own = parts_passed m h2 s.before s.after key at new s.bytes each rising calm in
          let old_refs : all_refs m t0 ≡ map (λ (x : Mark). x.at) (rax.marks_of m t0) ++ refs_of (s.before ++ part key at s.bytes ∷ s.after) =
          refs_are m t0 ps h ∙ (λ i. sym (packed_laws_hold.named m t0) i ++ refs_of (s.place i)) in
          let new_refs : all_refs m3 t2 ≡ map (λ (x : Mark). x.at) (rax.marks_of m1 t1) ++ refs_of qs =
          refs_are m3 t2 qs whole.parts ∙ ap (λ rs. rs ++ refs_of qs) (sym (packed_laws_hold.named m3 t2) ∙ ap (map (λ (x : Mark). x.at)) tree_nodes) in
          let old_marks : tree_marks m t0 ≡ map node_mark (rax.marks_of m t0) ++ map (λ (p : Part). id_number p.key) (s.before ++ part key at s.bytes ∷ s.after) =
          ap (λ ks. map node_mark (rax.marks_of m t0) ++ ks) (old_numbers ∙ ap (map (λ (p : Part). id_number p.key)) s.place) in
          subst (λ ks. PassesAll h2 (λ a. a == n) ks (all_refs m t0) (all_refs m3 t2)) (sym old_marks)
          (subst
          (λ rs. PassesAll h2 (λ a. a == n) (map node_mark (rax.marks_of m t0) ++ map (λ (p : Part). id_number p.key) (s.before ++ part key at s.bytes ∷ s.after)) rs (all_refs m3 t2))
          (sym old_refs)
          (subst
          (PassesAll h2 (λ a. a == n) (map node_mark (rax.marks_of m t0) ++ map (λ (p : Part). id_number p.key) (s.before ++ part key at s.bytes ∷ s.after))
          (map (λ (x : Mark). x.at) (rax.marks_of m t0) ++ refs_of (s.before ++ part key at s.bytes ∷ s.after))) (sym new_refs)
          (passes_append h2 (λ a. a == n) (map node_mark (rax.marks_of m t0)) (map (λ (p : Part). id_number p.key) (s.before ++ part key at s.bytes ∷ s.after))
          (map (λ (x : Mark). x.at) (rax.marks_of m t0)) (refs_of (s.before ++ part key at s.bytes ∷ s.after)) (map (λ (x : Mark). x.at) (rax.marks_of m1 t1)) (refs_of qs) tree own)))

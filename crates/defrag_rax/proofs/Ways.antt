-- The nodes of a stream's tree, key by key.
use Rattle.std.specs.Prelude.{◌≡◌, ℕ, ◌+◌, ◌^◌, ◌<◌, ◌≤◌, ◌==◌, Bool, true, false, nat_lt, List, [], ◌∷◌, map, count_by, refl}
use Rattle.std.specs.List.{filter, AllByRecursion}
use Rattle.std.specs.Ordering.{is_eq, nat_cmp}
use Rattle.std.proofs.Common.{arith, cond, ap, ◌∙◌, sym, subst, inl, inr}
use Rattle.std.proofs.lemmas.Bool.{cases_eq, cases_lt, cond-true, cond-false, eq-eqb, ne_eqb, lt-ltb, le-ltb}
use Rattle.blocks.specs.declared.BlockRef.{BlockRef}
use Rattle.blocks.specs.Blocks.{Blocks}
use Rattle.blocks.proofs.Sums.{count_cons}
use Rattle.stream_node.specs.declared.id.Id.{Id}
use Rattle.stream_node.specs.Ids.{IsId, id_number, id_key, key_id}
use Rattle.stream_node.proofs.Ids.{id_laws, cmp_less, cmp_equal, cmp_greater}
use Rattle.rax_packed.specs.declared.tree.PackedTree.{PackedTree}
use Rattle.rax_packed.specs.Maps.{refs_of, entries_of, marks_of}
use Rattle.rax_packed.specs.Packed.{order}
use Rattle.rax_packed.specs.Paths.{is_least, nodes_with}
use Rattle.rax_packed.specs.Trees.{Mark}
use Rattle.rax_packed.proofs.Depends.{packed_laws_hold}
use Rattle.rax_packed.proofs.Entries.{all_front, all_back, all_weaker}
use Rattle.stream_object.specs.Found.{IsNear, Misses}
use Rattle.stream_object.specs.Parts.{Part, IsPart, parts_of, HasParts}
use Rattle.stream_object.specs.Relocation.{node_mark, entry_mark, tree_marks}
use Rattle.stream_object.proofs.Movings.{least_parts}
use Rattle.stream_object.proofs.Passed.{IsBeside}
use Rattle.stream_object.proofs.Walkings.{near_beside, all_below, all_small}
use Rattle.stream_object.proofs.Walks.{filter_all, filter_none}

-- the references of nodes whose least key is below a number
abbrev pub nodes_below : List Mark → ℕ → List BlockRef
nodes_below marks n = map (λ (m : Mark). m.at) (filter (λ m. nat_lt (node_mark m) n) marks)

all_told : {X : Type 0} (Q : ℕ → Type 0) (f : X → ℕ) (xs : List X) → AllByRecursion Q (map f xs) → AllByRecursion (λ x. Q (f x)) xs
all_told Q f [] all = tt
all_told Q f (x ∷ xs) all = (all.0, all_told Q f xs all.1)

-- what holds of each mark holds of each node's
of_nodes : (m : Blocks) (tree : PackedTree) (Q : ℕ → Type 0) → AllByRecursion Q (tree_marks m tree) → AllByRecursion (λ (x : Mark). Q (node_mark x)) (marks_of m tree)
of_nodes m tree Q all = all_told Q node_mark (marks_of m tree) (all_front Q (map node_mark (marks_of m tree)) (map entry_mark (entries_of m tree)) all)

-- one test of equal numbers as the other
eq_cmp : (a b : ℕ) → is_eq (nat_cmp a b) ≡ (a == b)
eq_cmp a b = elim (cases_eq a b) [
  | inl same ↦ ap is_eq (cmp_equal a b same) ∙ sym (eq-eqb a b same)
  | inr other ↦ elim (cases_lt a b) [
    | inl less ↦ ap is_eq (cmp_less a b less) ∙ sym (ne_eqb a b other)
    | inr more ↦ (let greater : b < a = omega arith in ap is_eq (cmp_greater a b greater) ∙ sym (ne_eqb a b other))
  ]
]

least_is : (key : Id) (n : Mark) (q : Part) → IsId key → IsId q.key → n.least ≡ id_key q.key → is_least (id_key key) n ≡ (node_mark n == id_number key)
least_is key n q id mine is =
    ap (λ k. is_eq (order k (id_key key))) is ∙ ap is_eq (id_laws.bytes q.key key mine id) ∙ eq_cmp (id_number q.key) (id_number key)
    ∙ ap (λ a. a == id_number key) (sym (ap (λ k. id_number (key_id k)) is ∙ ap id_number (id_laws.back q.key mine)))

-- whether a key is a node's least one is told by its number
pub least_all : (m : Blocks) (tree : PackedTree) (key : Id) → HasParts m tree (parts_of m tree) → IsId key
    → AllByRecursion (λ (x : Mark). is_least (id_key key) x ≡ (node_mark x == id_number key)) (marks_of m tree)
least_all m tree key h id =
    all_weaker (λ (n : Mark). (q : Part) × IsId q.key × (n.least ≡ id_key q.key) × IsPart m q) (λ (n : Mark). is_least (id_key key) n ≡ (node_mark n == id_number key)) (marks_of m tree)
    (λ n f. least_is key n f.0 id f.1 f.2) (least_parts m tree (parts_of m tree) (IsPart m) h h.each)

module _ (p : BlockRef → Bool) where
  abbrev at_of : Mark → BlockRef
  at_of m = m.at

  -- one node among others that a test lets through
  count_kept : (f : Mark → Bool) (x : Mark) (xs : List Mark)
      → count_by p (map at_of (filter f (x ∷ xs))) ≡ cond (f x) (cond (p x.at) 1 0) 0 + count_by p (map at_of (filter f xs))
  count_kept f x xs = by_test (f x)
    where
      by_test : (t : Bool) → count_by p (map at_of (cond t (x ∷ filter f xs) (filter f xs))) ≡ cond t (cond (p x.at) 1 0) 0 + count_by p (map at_of (filter f xs))
      by_test true = count_cons p x.at (map at_of (filter f xs))
      by_test false = omega arith

  -- of numbers none lies from one up to a key: below the next number are those below the one, and the key
  tests : (n from key many : ℕ) → from ≤ key → IsBeside from key n
      → cond (nat_lt n (key + 1)) many 0 ≡ cond (nat_lt n from) many 0 + cond (n == key) many 0
  tests n from key many low (inl less) =
      let a : cond (nat_lt n (key + 1)) many 0 ≡ many = cond-true _ _ _ (lt-ltb n (key + 1) (omega (arith, low, less))) in
      let b : cond (nat_lt n from) many 0 ≡ many = cond-true _ _ _ (lt-ltb n from less) in
      let c : cond (n == key) many 0 ≡ 0 = cond-false _ _ _ (ne_eqb n key (λ e. omega (arith, low, less, e))) in
      omega (arith, a, b, c)
  tests n from key many low (inr more) =
      let b : cond (nat_lt n from) many 0 ≡ 0 = cond-false _ _ _ (le-ltb n from (omega (arith, low, more))) in
      elim (cases_eq n key) [
        | inl same ↦
            (let a : cond (nat_lt n (key + 1)) many 0 ≡ many = cond-true _ _ _ (lt-ltb n (key + 1) (omega (arith, same))) in
            let c : cond (n == key) many 0 ≡ many = cond-true _ _ _ (eq-eqb n key same) in omega (arith, a, b, c))
        | inr other ↦
            (let a : cond (nat_lt n (key + 1)) many 0 ≡ 0 = cond-false _ _ _ (le-ltb n (key + 1) (omega (arith, more, other))) in
            let c : cond (n == key) many 0 ≡ 0 = cond-false _ _ _ (ne_eqb n key other) in omega (arith, a, b, c))
      ]

  -- the nodes of one key more
  pub count_key : (from key : ℕ) (name : List ℕ) (xs : List Mark) → from ≤ key → AllByRecursion (λ (x : Mark). IsBeside from key (node_mark x)) xs
      → AllByRecursion (λ (x : Mark). is_least name x ≡ (node_mark x == key)) xs
      → count_by p (nodes_below xs (key + 1)) ≡ count_by p (nodes_below xs from) + count_by p (nodes_with xs name)
  unfolding nodes_with
  count_key from key name [] low beside least = refl
  count_key from key name (x ∷ xs) low beside least =
      let many : ℕ = cond (p x.at) 1 0 in
      let named : cond (is_least name x) many 0 ≡ cond (node_mark x == key) many 0 = ap (λ t. cond t many 0) least.0 in
      omega (
        arith,
        count_kept (λ m. nat_lt (node_mark m) (key + 1)) x xs,
        count_kept (λ m. nat_lt (node_mark m) from) x xs,
        count_kept (is_least name) x xs,
        named,
        tests (node_mark x) from key many low beside.0,
        count_key from key name xs low beside.1 least.1,
      )

-- a key of the tree, from an id on, was the next
pub next_key : (p : BlockRef → Bool) (m : Blocks) (tree : PackedTree) (from : Id) (q : Part) → HasParts m tree (parts_of m tree) → IsNear true (parts_of m tree) from q
    → count_by p (nodes_below (marks_of m tree) (id_number q.key + 1)) ≡ count_by p (nodes_below (marks_of m tree) (id_number from)) + count_by p (nodes_with (marks_of m tree) (id_key q.key))
next_key p m tree from q h near =
    let mine = (all_back (IsPart m) near.before (q ∷ near.after) (subst (AllByRecursion (IsPart m)) near.place h.each)).0.id in
    count_key p (id_number from) (id_number q.key) (id_key q.key) (marks_of m tree) near.reaches
    (of_nodes m tree (IsBeside (id_number from) (id_number q.key)) (near_beside m tree from q h near)) (least_all m tree q.key h mine)

-- below 0 there is no node
pub none_below : (xs : List Mark) → nodes_below xs 0 ≡ []
none_below xs = ap (map (λ (m : Mark). m.at)) (filter_none (λ m. nat_lt (node_mark m) 0) xs (each xs))
  where
    each : (ys : List Mark) → AllByRecursion (λ m. nat_lt (node_mark m) 0 ≡ false) ys
    each [] = tt
    each (y ∷ ys) = (le-ltb (node_mark y) 0 (omega arith), each ys)

-- where no key is left, these are all nodes
below_all : (m : Blocks) (tree : PackedTree) (n : ℕ) → AllByRecursion (λ k. k < n) (tree_marks m tree) → nodes_below (marks_of m tree) n ≡ refs_of m tree
below_all m tree n less =
    ap (map (λ (x : Mark). x.at)) (filter_all (λ x. nat_lt (node_mark x) n) (marks_of m tree)
    (all_weaker (λ (x : Mark). node_mark x < n) (λ x. nat_lt (node_mark x) n ≡ true) (marks_of m tree) (λ x lt. lt-ltb (node_mark x) n lt) (of_nodes m tree (λ k. k < n) less)))
    ∙ packed_laws_hold.named m tree

pub end_missed : (m : Blocks) (tree : PackedTree) (from : Id) → HasParts m tree (parts_of m tree) → AllByRecursion (Misses true from) (parts_of m tree)
    → nodes_below (marks_of m tree) (id_number from) ≡ refs_of m tree
end_missed m tree from h none = below_all m tree (id_number from) (all_below m tree from h none)

pub end_last : (m : Blocks) (tree : PackedTree) (n : ℕ) → n + 1 ≡ 2 ^ 128 → HasParts m tree (parts_of m tree) → nodes_below (marks_of m tree) (n + 1) ≡ refs_of m tree
end_last m tree n last h = below_all m tree (n + 1) (all_small m tree n last h)

-- the same, where the next number and the nodes of the key are named
pub next_way : (p : BlockRef → Bool) (m : Blocks) (tree : PackedTree) (from key : Id) (q : Part) (next : ℕ) (way : List BlockRef) → HasParts m tree (parts_of m tree)
    → IsNear true (parts_of m tree) from q → key ≡ q.key → next ≡ id_number key + 1 → way ≡ nodes_with (marks_of m tree) (id_key key)
    → count_by p (nodes_below (marks_of m tree) next) ≡ count_by p (nodes_below (marks_of m tree) (id_number from)) + count_by p way
next_way p m tree from key q next way h near is after named =
    ap (λ n. count_by p (nodes_below (marks_of m tree) n)) (after ∙ ap (λ (k : Id). id_number k + 1) is)
    ∙ next_key p m tree from q h near
    ∙ ap (λ w. count_by p (nodes_below (marks_of m tree) (id_number from)) + count_by p w) (ap (λ (k : Id). nodes_with (marks_of m tree) (id_key k)) (sym is) ∙ sym named)

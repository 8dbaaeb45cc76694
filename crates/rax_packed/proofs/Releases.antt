-- What is left of a tree while its nodes are given back.
use Rattle.std.proofs.Common.{◌≡◌, ◌∙◌, ℕ, zero, suc, ◌+◌, ◌*◌, ◌-◌, ◌<◌, ◌≤◌, cond, is_some, List, [], ◌∷◌, ◌++◌, length, take, drop, get_or, None, IsSome, unwrap_or, refl, sym, ap}
use Rattle.std.proofs.Common.{subst, inl, inr, arith}
use Rattle.std.proofs.lemmas.List.{append-nil, take_more, take-append-drop, drop_more}
use Rattle.std.specs.List.{flat_map, AllByRecursion}
use Rattle.std.proofs.lemmas.List.Concat.{flat_map-append}
use Rattle.std.proofs.lemmas.Bool.{cond-true}
use Rattle.blocks.specs.declared.BlockRef.{BlockRef}
use Rattle.blocks.specs.Blocks.{Blocks, times, live, Changes, Owned, with_block}
use Rattle.blocks.proofs.Times.{times-append}
use Rattle.blocks.proofs.Refs.{ref_eq_refl}
use Rattle.blocks.proofs.Change.{one, live_once, live_is_in_change, cases_in, owned_others, changes_both, counts_ended, changes_counted, counts_then, counts_changed, counts_beside}
use Rattle.rax_packed.specs.Nodes.{Link, Node, Leaf, Inner, IsNode, IsRef, refs_bytes, ref_from, prefix_from, node_of}
use Rattle.rax_packed.proofs.Choices.{inner_told, ref_at}
use Rattle.rax_packed.proofs.Spellings.{node_cases}
use Rattle.rax_packed.specs.Trees.{node_at, refs_in, refs, IsTree, refs_at, IsTreeAt, Below}
use Rattle.rax_packed.specs.Ways.{IsInnerBytes, links_in, prefix_in}
use Rattle.rax_packed.proofs.Frames.{refs_below, SameTree, same_tree}
use Rattle.rax_packed.proofs.Looks.{Named, named}

-- a node's references by its links, of which a leaf has none
in_links : (n : ℕ) (b : Blocks) (node : Node) → refs_in (refs n b) node ≡ refs_below n b (links_in node)
in_links n b (Leaf prefix value) = refl
in_links n b (Inner prefix links) = refl

pub node_refs : (n : ℕ) (b : Blocks) (at : BlockRef) → refs_at n b at ≡ at ∷ refs_below n b (links_in (node_at b at))
unfolding refs
node_refs n b at = ap (λ xs. at ∷ xs) (in_links n b (node_at b at))

below_links_in : (n rest : ℕ) (b : Blocks) (node : Node) → Below (λ left to. IsTree n left b to) rest node
    → AllByRecursion (λ l. IsTree n (rest - suc (length (prefix_in node))) b l.to) (links_in node)
below_links_in n rest b (Leaf prefix value) h = tt
below_links_in n rest b (Inner prefix links) h = h

pub node_trees : (n : ℕ) (b : Blocks) (at : BlockRef) → IsTreeAt n b at → AllByRecursion (λ l. IsTree n (n - suc (length (prefix_in (node_at b at)))) b l.to) (links_in (node_at b at))
unfolding IsTree
node_trees n b at t = below_links_in n n b (node_at b at) (subst (Below (λ left to. IsTree n left b to) n) (sym (ap (λ o. node_of (unwrap_or o [])) t.1)) t.3)

pub all_at : (P : Link → Type 0) (links : List Link) (k : ℕ) (d : Link) → k < length links → AllByRecursion P links → P (get_or links k d)
all_at P [] k d h a = absurd (omega arith)
all_at P (l ∷ links) zero d h a = a.0
all_at P (l ∷ links) (suc k) d h a = all_at P links k d (omega arith) a.1

-- the links up to a place, the one there, and those behind it
pub refs_split : (n : ℕ) (b : Blocks) (links : List Link) (k : ℕ) (d : Link) (r : BlockRef) → k < length links
    → times r (refs_below n b links) ≡ times r (refs_below n b (take k links)) + (times r (refs n b (get_or links k d).to) + times r (refs_below n b (drop (k + 1) links)))
refs_split n b links k d r h =
    let f : Link → List BlockRef = λ l. refs n b l.to in
    ap (λ ls. times r (flat_map f ls)) (sym (take-append-drop k links) ∙ ap (λ ys. take k links ++ ys) (drop_more links k d h))
    ∙ ap (times r) (flat_map-append f (take k links) (get_or links k d ∷ drop (k + 1) links))
    ∙ times-append r (flat_map f (take k links)) (f (get_or links k d) ++ flat_map f (drop (k + 1) links))
    ∙ ap (λ m. times r (flat_map f (take k links)) + m) (times-append r (f (get_or links k d)) (flat_map f (drop (k + 1) links)))

pub refs_more : (n : ℕ) (b : Blocks) (links : List Link) (k : ℕ) (d : Link) → k < length links → refs_below n b (take (k + 1) links) ≡ refs_below n b (take k links) ++ refs n b (get_or links k d).to
refs_more n b links k d h =
    let f : Link → List BlockRef = λ l. refs n b l.to in
    ap (flat_map f) (take_more links k d h) ∙ flat_map-append f (take k links) (get_or links k d ∷ []) ∙ ap (λ xs. flat_map f (take k links) ++ xs) (append-nil (f (get_or links k d)))

-- what a node owns: its block, and the trees of its links
pub node_own : (n : ℕ) (b : Blocks) (at : BlockRef) → Owned (refs_at n b at) b → Owned (at ∷ refs_below n b (links_in (node_at b at))) b
node_own n b at own = subst (λ xs. Owned xs b) (node_refs n b at) own

-- a block, and the trees of links, are given back one after the other
module _ (n left : ℕ) (b : Blocks) (at : BlockRef) (links : List Link) (trees : AllByRecursion (λ l. IsTree n left b l.to) links) (own : Owned (at ∷ refs_below n b links) b) where
  here : one at at ≡ 1
  here = cond-true _ _ _ (ref_eq_refl at)

  -- after the trees of the first links
  module _ (mid : Blocks) (k : ℕ) (d : Link) (h : k < length links) (gone : Changes b mid (refs_below n b (take k links)) []) where
    to : BlockRef
    to = (get_or links k d).to

    all : (r : BlockRef) → times r (at ∷ refs_below n b links) ≡ one r at +
        (times r (refs_below n b (take k links)) + (times r (refs n b (get_or links k d).to) + times r (refs_below n b (drop (k + 1) links))))
    all r = ap (λ m. one r at + m) (refs_split n b links k d r h)

    pub mid_block : mid at ≡ b at
    mid_block = owned_others b mid (refs_below n b (take k links)) [] (at ∷ refs_below n b links) own gone at (omega (arith, here)) (omega (arith, own at, all at, live_once b at, here))

    same : SameTree n b mid (get_or links k d).to
    same = same_tree n b mid (get_or links k d).to
        (λ r is. owned_others b mid (refs_below n b (take k links)) [] (at ∷ refs_below n b links) own gone r (omega (arith, all r, is)) (omega (arith, own r, all r, live_once b r, is)))

    pub mid_child : Named mid (get_or links k d).to n left
    mid_child = named mid (get_or links k d).to n left (same.tree left (all_at (λ l. IsTree n left b l.to) links k d h trees))

    mid_refs : refs_at left mid (get_or links k d).to ≡ refs n b (get_or links k d).to
    mid_refs = mid_child.refs_are ∙ same.refs_are

    first : Owned (refs_below n b (take k links) ++ refs n b (get_or links k d).to) b
    first r = omega (arith, own r, all r, times-append r (refs_below n b (take k links)) (refs n b (get_or links k d).to))

    pub mid_own : Owned (refs_at left mid (get_or links k d).to) mid
    mid_own =
        subst (λ xs. Owned xs mid) (sym mid_refs) (λ r. (let part : times r (refs n b (get_or links k d).to) ≤ live b r = omega (arith, own r, all r) in
        elim (cases_in r (refs n b (get_or links k d).to)) [
          | inl out ↦ omega (arith, out)
          | inr is ↦
              (let kept : mid r ≡ b r = owned_others b mid (refs_below n b (take k links)) [] (at ∷ refs_below n b links) own gone r (omega (arith, all r, is))
              (omega (arith, own r, all r, live_once b r, is)) in
              let still : live mid r ≡ live b r = ap (λ o. cond (is_some o) 1 0) kept in omega (arith, part, still))
        ]))

    pub mid_next : (after : Blocks) → Changes mid after (refs_at left mid (get_or links k d).to) [] → Changes b after (refs_below n b (take (k + 1) links)) []
    mid_next after ended =
        subst (λ xs. Changes b after xs []) (sym (refs_more n b links k d h))
        (changes_both b mid after (refs_below n b (take k links)) [] (refs n b (get_or links k d).to) [] first gone (subst (λ xs. Changes mid after xs []) mid_refs ended))

  -- after all of them
  pub last_block : (mid : Blocks) → Changes b mid (refs_below n b links) [] → mid at ≡ b at
  last_block mid gone = owned_others b mid (refs_below n b links) [] (at ∷ refs_below n b links) own gone at (omega (arith, here)) (omega (arith, own at, live_once b at, here))

  -- and the block itself
  pub all_gone : (mid after : Blocks) → Changes b mid (refs_below n b links) [] → after ≡ with_block mid at None → Changes b after (at ∷ refs_below n b links) []
  all_gone mid after gone back =
      let part : Owned (refs_below n b links) b = λ r. omega (arith, own r) in
      let same = last_block mid gone in
      let stands : IsSome (b at) = live_is_in_change b at (omega (arith, own at, here)) in
      let first = counts_beside b mid (refs_below n b links) [] (at ∷ refs_below n b links) (at ∷ []) (counts_changed b mid (refs_below n b links) [] part gone) (λ r. one r at)
      (λ r. omega arith) (λ r. omega arith) in
      changes_counted b after (at ∷ refs_below n b links) [] own
      (counts_then b mid after (at ∷ refs_below n b links) (at ∷ []) [] first
      (counts_ended mid after at (at ∷ []) [] (subst (λ o. IsSome o) (sym same) stands) back (λ r. omega arith)))

-- the node that a link names
pub child_ref : (bytes refs : List ℕ) (place : ℕ) (d : Link) → IsInnerBytes bytes → place < length (links_in (node_of bytes)) → refs ≡ refs_bytes (links_in (node_of bytes))
    → ref_from (drop (12 * place) refs) ≡ (get_or (links_in (node_of bytes)) place d).to
child_ref bytes refs place d told within is =
    let inner = inner_told bytes told in
    let links = links_in (node_of bytes) in
    let same : links ≡ inner.links = ap links_in inner.node_is in
    let fit : AllByRecursion (λ l. IsRef l.to) links = subst (AllByRecursion (λ l. IsRef l.to)) (sym same) inner.inner.refs in
    ap (λ rs. ref_from (drop (12 * place) rs)) (is ∙ sym (append-nil (refs_bytes links))) ∙ ref_at links place d [] within fit

-- a node with a link is an inner one
pub with_link : (rest : ℕ) (bytes : List ℕ) (place : ℕ) → IsNode rest bytes → rest ≤ 16 → place < length (links_in (node_of bytes)) → IsInnerBytes bytes
    × (rest - suc (length (prefix_in (node_of bytes))) < rest)
with_link rest bytes place node few within = elim (node_cases rest bytes node) [
  | inl leaf ↦ absurd (omega (arith, ap (λ m. length (links_in m)) leaf.1.node_is))
  | inr inner ↦ (let short = inner.1.inner.short in (record { rest = rest; few = few; node = node; prefix = prefix_from bytes; links = inner.1.links; is = inner.1.node_is }, omega arith))
]

-- Passes over the costs of a tree's keys, node by node.
use Rattle.std.proofs.Common.{◌≡◌, ◌≢◌, ◌⊎◌, ◌∙◌, ℕ, zero, suc, ◌+◌, ◌-◌, ◌<◌, ◌≤◌, Bool, true, false, cond, not, List, [], ◌∷◌, ◌++◌, length, take, drop, map, Option, Some, None, IsSome}
use Rattle.std.proofs.Common.{refl, sym, ap, subst, inl, inr, arith, append_assoc, add-one, length-append}
use Rattle.std.specs.Prelude.{nat_lt, slice_get}
use Rattle.std.specs.List.{AllByRecursion}
use Rattle.std.specs.Ordering.{is_lt}
use Rattle.std.specs.declared.cmp.Ordering.{Ordering}
use Rattle.std.specs.declared.cmp.Ordering.TheVariants.{Less, Equal, Greater}
use Rattle.std.proofs.lemmas.Bool.{cases_eq}
use Rattle.std.proofs.lemmas.List.{map-append, map-id, drop_at, drop-drop}
use Rattle.std.proofs.lemmas.List.Elements.{filter-append}
use Rattle.blocks.specs.declared.BlockRef.{BlockRef}
use Rattle.blocks.specs.Blocks.{Blocks}
use Rattle.rax_packed.specs.declared.seek.Turn.{Turn}
use Rattle.rax_packed.specs.declared.tree.PackedTree.{PackedTree}
use Rattle.rax_packed.specs.Costs.{Cost, cost_under, costs_below, costs_in, costs, costs_at, root_costs, costs_of, costs_from, Going, counted, pass_over, begun}
use Rattle.rax_packed.specs.Nodes.{Link, Node, Leaf, Inner, node_of}
use Rattle.rax_packed.specs.Packed.{order}
use Rattle.rax_packed.specs.Trees.{node_at, entries, entries_at, IsTreeAt}
use Rattle.rax_packed.specs.Turns.{Turns}
use Rattle.rax_packed.specs.Ways.{aside, links_in, prefix_in, PartsAt, Lacks, LeadsTo}
use Rattle.rax_packed.proofs.Costs.{cost_key, links_alike, tree_alike, same_costs}
use Rattle.rax_packed.proofs.Ends.{drop_from}
use Rattle.rax_packed.proofs.Entries.{All, keeps_by, drops_by, filter_under_by, key_under, links_less, links_greater}
use Rattle.rax_packed.proofs.Frames.{inner_node, leaf_entries}
use Rattle.rax_packed.proofs.Keys.{order_same}
use Rattle.rax_packed.proofs.Looks.{Split, Named, node_read, parts_side, shorter}
use Rattle.rax_packed.proofs.Seeks.{begin_is, take_two}
use Rattle.rax_packed.proofs.Spellings.{count_most}
use Rattle.rax_packed.proofs.Steps.{split, below_is, child}
use Rattle.rax_packed.proofs.Turnings.{ReadAt, aside_all, turn_named, turn_deeper, turn_within}

-- a pass over keys, and then over others
pub pass_append : (pass : Going) (xs ys : List Cost) → pass_over pass (xs ++ ys) ≡ pass_over (pass_over pass xs) ys
pass_append pass [] ys = refl
pass_append pass (c ∷ xs) ys = pass_append (counted pass.left pass.next c) xs ys

-- a pass that has ended stays as it is
ended_at : (left : ℕ) (next : Option (List ℕ)) (xs : List Cost) → IsSome next → pass_over (record { left = left; next = next }) xs ≡ record { left = left; next = next }
ended_at left None xs some = cc
ended_at left (Some key) [] some = refl
ended_at left (Some key) (c ∷ xs) some = ended_at left (Some key) xs some

pub pass_ended : (pass : Going) (xs : List Cost) → IsSome pass.next → pass_over pass xs ≡ pass
pass_ended pass xs some = ended_at pass.left pass.next xs some

-- what may still be counted becomes no more
pub left_upto : (pass : Going) (xs : List Cost) → (pass_over pass xs).left ≤ pass.left
left_upto pass [] = omega arith
left_upto pass (c ∷ xs) = omega (arith, step pass.left pass.next c, left_upto (counted pass.left pass.next c) xs)
  where
    by_room : (left : ℕ) (c : Cost) (t : Bool) → (cond {A = Going} t (record { left = left; next = Some c.key }) (record { left = left - c.blocks; next = None })).left ≤ left
    by_room left c true = omega arith
    by_room left c false = omega arith

    step : (left : ℕ) (next : Option (List ℕ)) (c : Cost) → (counted left next c).left ≤ left
    step left (Some key) c = omega arith
    step left None c = by_room left c (nat_lt left 18)

-- more bytes before the keys, in two steps
under_both : (front begin : List ℕ) (xs : List Cost) → map (cost_under front) (map (cost_under begin) xs) ≡ map (cost_under (front ++ begin)) xs
under_both front begin [] = refl
under_both front begin (c ∷ xs) = λ i. (record { key = sym (append_assoc front begin c.key) i; blocks = c.blocks }) ∷ under_both front begin xs i

-- a pass over the keys below a link, and then over those behind it
pub pass_both : (pass : Going) (front begin whole : List ℕ) (xs ys : List Cost) → whole ≡ front ++ begin
    → pass_over (pass_over pass (map (cost_under whole) xs)) (map (cost_under front) ys) ≡ pass_over pass (map (cost_under front) (map (cost_under begin) xs ++ ys))
pass_both pass front begin whole xs ys is =
    sym (
    ap (pass_over pass) (map-append (cost_under front) (map (cost_under begin) xs) ys)
    ∙ ap (λ cs. pass_over pass (cs ++ map (cost_under front) ys)) (under_both front begin xs ∙ ap (λ f. map (cost_under f) xs) (sym is))
    ∙ pass_append pass (map (cost_under whole) xs) (map (cost_under front) ys)
    )

-- how many nodes have the least key of the link behind these
abbrev behind : List Link → ℕ → ℕ
behind [] nodes = nodes
behind (l ∷ links) nodes = 1

behind_one : (links : List Link) → behind links 1 ≡ 1
behind_one [] = refl
behind_one (l ∷ links) = refl

-- the costs below joined links
below_append : (below : ℕ → BlockRef → List Cost) (nodes : ℕ) (prefix : List ℕ) (xs ys : List Link) → costs_below below nodes prefix (xs ++ ys) ≡ costs_below below nodes prefix xs
    ++ costs_below below (behind xs nodes) prefix ys
below_append below nodes prefix [] ys = refl
below_append below nodes prefix (l ∷ xs) ys =
    let here = map (cost_under (prefix ++ l.edge ∷ [])) (below nodes l.to) in
    ap (λ cs. here ++ cs) (below_append below 1 prefix xs ys ∙ ap (λ n. costs_below below 1 prefix xs ++ costs_below below n prefix ys) (behind_one xs))
    ∙ sym (append_assoc here (costs_below below 1 prefix xs) (costs_below below 1 prefix ys))

-- how many nodes have a link's least key, by its place
behind_is : (links : List Link) (place nodes more : ℕ) → length links ≡ place → (place ≡ 0 → more ≡ nodes) → (place ≢ 0 → more ≡ 0) → behind links (nodes + 1) ≡ more + 1
behind_is [] place nodes more many first other = omega (arith, first (sym many))
behind_is (l ∷ links) place nodes more many first other = let none : more ≡ 0 = other (λ is. omega arith) in omega arith

-- no more nodes have it than so many, where those of the top node are no more
pub above_few : (place nodes more most : ℕ) → (place ≡ 0 → more ≡ nodes) → (place ≢ 0 → more ≡ 0) → nodes ≤ most → more ≤ most
above_few place nodes more most first other few = elim (cases_eq place 0) [ inl here ↦ omega (arith, first here) | inr there ↦ omega (arith, other there) ]

-- a test for the keys that aren't before one, by how they stand to it
abbrev stays : Ordering → Bool
stays o = not (is_lt o)

from-append : (key : List ℕ) (xs ys : List Cost) → costs_from (xs ++ ys) key ≡ costs_from xs key ++ costs_from ys key
from-append key xs ys = filter-append (λ (c : Cost). not (is_lt (order c.key key))) xs ys

from_kept : (o : Ordering) (key : List ℕ) (cs : List Cost) → stays o ≡ true → AllByRecursion (λ (c : Cost). order c.key key ≡ o) cs → costs_from cs key ≡ cs
from_kept o key cs kept a = keeps_by cost_key stays o key cs kept a

from_dropped : (key : List ℕ) (cs : List Cost) → AllByRecursion (λ (c : Cost). order c.key key ≡ Less) cs → costs_from cs key ≡ []
from_dropped key cs a = drops_by cost_key stays Less key cs refl a

-- all costs of a node, as those from its first link on
pub whole_node : (n : ℕ) (b : Blocks) (nodes : ℕ) (at : BlockRef) → costs_at n b nodes at ≡ costs_in (costs n b) nodes (aside true 0 (node_at b at))
unfolding costs
whole_node n b nodes at = ap (costs_in (costs n b) nodes) (sym (aside_all true 0 (node_at b at) refl))

-- the costs of an inner node are those below its links
inner_costs : (n : ℕ) (b : Blocks) (nodes : ℕ) (at : BlockRef) (prefix : List ℕ) (links : List Link) → node_at b at ≡ Inner prefix links
    → costs_at n b nodes at ≡ costs_below (costs n b) (nodes + 1) prefix links
unfolding costs
inner_costs n b nodes at prefix links is = ap (costs_in (costs n b) nodes) is

-- and those from a place on, those below the links from there on
inner_rest : (n : ℕ) (b : Blocks) (nodes place : ℕ) (node : Node) (prefix : List ℕ) (links : List Link) → node ≡ Inner prefix links
    → costs_in (costs n b) nodes (aside true place node) ≡ costs_below (costs n b) (nodes + 1) (prefix_in node) (drop place (links_in node))
inner_rest n b nodes place node prefix links is =
    ap (λ m. costs_in (costs n b) nodes (aside true place m)) is ∙ ap (λ m. costs_below (costs n b) (nodes + 1) (prefix_in m) (drop place (links_in m))) (sym is)

module _ (b : Blocks) (at : BlockRef) (bytes rest : List ℕ) (nodes : ℕ) (t : IsTreeAt (length rest) b at) (read : b at ≡ Some bytes) where
  -- the keys of a leaf of this key
  pub from_leaf : (value : BlockRef) → node_of bytes ≡ Leaf rest value → costs_from (costs_at (length rest) b nodes at) rest ≡ costs_in (costs (length rest) b) nodes (aside true 0 (node_at b at))
  from_leaf value is =
      from_kept Equal rest (costs_at (length rest) b nodes at) refl
      (tree_alike Equal rest (suc (length rest)) b nodes at (subst (All Equal rest) (sym (leaf_entries (length rest) b at rest value (node_read b at bytes read ∙ is))) (order_same rest, tt)))
      ∙ whole_node (length rest) b nodes at

  -- all entries stand on one side of a key that leaves the node's prefix
  side : (shared : ℕ) (parts : PartsAt (node_of bytes) rest shared) → ((parts.node_byte < parts.other) × All Less rest (entries_at (length rest) b at))
      ⊎ ((parts.other < parts.node_byte) × All Greater rest (entries_at (length rest) b at))
  side shared parts =
      parts_side (length rest) b at rest shared
      (record {
        begin = parts.begin;
        node_byte = parts.node_byte;
        node_rest = parts.node_rest;
        other = parts.other;
        other_rest = parts.other_rest;
        prefix_is = ap prefix_in (node_read b at bytes read)
            ∙ parts.prefix_is;
        key_is = parts.key_is;
        apart = parts.apart;
        many = parts.many;
      })

  -- where the key's byte comes before the node's, all keys are wanted
  pub from_all : (shared : ℕ) (parts : PartsAt (node_of bytes) rest shared) → parts.other < parts.node_byte
      → costs_from (costs_at (length rest) b nodes at) rest ≡ costs_in (costs (length rest) b) nodes (aside true 0 (node_at b at))
  from_all shared parts ahead = elim (side shared parts) [
    | inl low ↦ absurd (omega (arith, low.0))
    | inr high ↦ from_kept Greater rest (costs_at (length rest) b nodes at) refl (tree_alike Greater rest (suc (length rest)) b nodes at high.1) ∙ whole_node (length rest) b nodes at
  ]

  -- and else none
  pub from_none : (shared : ℕ) (parts : PartsAt (node_of bytes) rest shared) → parts.node_byte ≤ parts.other → costs_from (costs_at (length rest) b nodes at) rest ≡ []
  from_none shared parts behind = elim (side shared parts) [
    | inl low ↦ from_dropped rest (costs_at (length rest) b nodes at) (tree_alike Less rest (suc (length rest)) b nodes at low.1)
    | inr high ↦ absurd (omega (arith, high.0))
  ]

  -- where no link has the key's byte, those from its place on
  pub from_missing : (place from more : ℕ) (lacks : Lacks (node_of bytes) rest place from) → (place ≡ 0 → more ≡ nodes) → (place ≢ 0 → more ≡ 0)
      → costs_from (costs_at (length rest) b nodes at) rest ≡ costs_in (costs (length rest) b) more (aside true place (node_at b at))
  from_missing place from more lacks first other =
      let n = length rest in
      let key = lacks.prefix ++ lacks.edge ∷ lacks.below in
      let node : node_at b at ≡ Inner lacks.prefix (lacks.before ++ lacks.after) = node_read b at bytes read ∙ lacks.node_is in
      let front = costs_below (costs n b) (nodes + 1) lacks.prefix lacks.before in
      let back = costs_below (costs n b) (behind lacks.before (nodes + 1)) lacks.prefix lacks.after in
      ap (λ cs. costs_from cs rest) (inner_costs n b nodes at lacks.prefix (lacks.before ++ lacks.after) node ∙ below_append (costs n b) (nodes + 1) lacks.prefix lacks.before lacks.after)
      ∙ ap (costs_from (front ++ back)) lacks.key_is
      ∙ from-append key front back
      ∙ ap (λ cs. cs ++ costs_from back key)
      (from_dropped key front (links_alike Less key n b (nodes + 1) lacks.prefix lacks.before (links_less lacks.prefix lacks.below lacks.edge (entries n b) lacks.before lacks.less)))
      ∙ from_kept Greater key back refl
      (links_alike Greater key n b (behind lacks.before (nodes + 1)) lacks.prefix lacks.after (links_greater lacks.prefix lacks.below lacks.edge (entries n b) lacks.after lacks.more))
      ∙ ap (λ k. costs_below (costs n b) k lacks.prefix lacks.after) (behind_is lacks.before place nodes more lacks.many first other)
      ∙ sym (ap (λ m. costs_in (costs n b) more (aside true place m)) node ∙ ap (costs_below (costs n b) (more + 1) lacks.prefix) (drop_at lacks.before lacks.after place lacks.many))

  -- where the key goes on by a link, those below it and then those behind it
  module _ (place from : ℕ) (to : BlockRef) (leads : LeadsTo (node_of bytes) rest place from to) where
    abbrev s : Split b at rest place from to (length rest) (length rest)
    s = split b at to bytes rest place from t read leads

    abbrev link : Link
    link = record { edge = s.edge; to = to }

    named : Named b to (length rest) (length (drop from rest))
    named = child b at to bytes rest place from t read leads

    node : node_at b at ≡ Inner s.prefix (s.before ++ link ∷ s.after)
    node = inner_node (length rest) (length rest) b at s.prefix (s.before ++ link ∷ s.after) s.node

    -- those behind it
    tail : costs_in (costs (length rest) b) 0 (aside true (place + 1) (node_at b at)) ≡ costs_below (costs (length rest) b) 1 s.prefix s.after
    tail =
        ap (λ m. costs_in (costs (length rest) b) 0 (aside true (place + 1) m)) node
        ∙ ap (costs_below (costs (length rest) b) 1 s.prefix)
        (ap (drop (place + 1)) (sym (append_assoc s.before (link ∷ []) s.after))
        ∙ drop_at (s.before ++ link ∷ []) s.after (place + 1) (length-append s.before (link ∷ []) ∙ omega (arith, s.many)))

    -- those below it
    middle : (k : ℕ) → costs_from (map (cost_under (s.prefix ++ s.edge ∷ [])) (costs (length rest) b k to)) (s.prefix ++ s.edge ∷ s.below) ≡ map (cost_under (take from rest))
        (costs_from (costs_at (length (drop from rest)) b k to) (drop from rest))
    middle k =
        let begin = s.prefix ++ s.edge ∷ [] in
        ap (costs_from (map (cost_under begin) (costs (length rest) b k to))) (key_under s.prefix s.below s.edge)
        ∙ filter_under_by cost_key (cost_under begin) stays begin s.below (costs (length rest) b k to) (λ c. refl)
        ∙ ap (λ f. map (cost_under f) (costs_from (costs (length rest) b k to) s.below)) (sym (begin_is true b at bytes rest [] t read place from to leads))
        ∙ ap (λ cs. map (cost_under (take from rest)) (costs_from cs s.below))
        (same_costs (suc (length (drop from rest))) (length rest) (length (drop from rest)) b k to (shorter (node_of bytes) to rest place from (length rest) refl leads) named.tree)
        ∙ ap (λ r. map (cost_under (take from rest)) (costs_from (costs_at (length (drop from rest)) b k to) r)) (sym (below_is b at to bytes rest place from t read leads))

    pub from_link : (more : ℕ) → (place ≡ 0 → more ≡ nodes) → (place ≢ 0 → more ≡ 0)
        → costs_from (costs_at (length rest) b nodes at) rest ≡ map (cost_under (take from rest)) (costs_from (costs_at (length (drop from rest)) b (more + 1) to) (drop from rest))
        ++ costs_in (costs (length rest) b) 0 (aside true (place + 1) (node_at b at))
    from_link more first other =
        let n = length rest in
        let key = s.prefix ++ s.edge ∷ s.below in
        let begin = s.prefix ++ s.edge ∷ [] in
        let front = costs_below (costs n b) (nodes + 1) s.prefix s.before in
        let back = costs_below (costs n b) 1 s.prefix s.after in
        let k = behind s.before (nodes + 1) in
        let here = map (cost_under begin) (costs n b k to) in
        ap (λ cs. costs_from cs rest) (inner_costs n b nodes at s.prefix (s.before ++ link ∷ s.after) node ∙ below_append (costs n b) (nodes + 1) s.prefix s.before (link ∷ s.after))
        ∙ ap (costs_from (front ++ (here ++ back))) s.key_is
        ∙ from-append key front (here ++ back)
        ∙ ap (λ cs. cs ++ costs_from (here ++ back) key)
        (from_dropped key front (links_alike Less key n b (nodes + 1) s.prefix s.before (links_less s.prefix s.below s.edge (entries n b) s.before s.less)))
        ∙ from-append key here back
        ∙ ap (λ cs. costs_from here key ++ cs)
        (from_kept Greater key back refl (links_alike Greater key n b 1 s.prefix s.after (links_greater s.prefix s.below s.edge (entries n b) s.after s.more)) ∙ sym tail)
        ∙ ap (λ cs. cs ++ costs_in (costs n b) 0 (aside true (place + 1) (node_at b at)))
        (middle k ∙ ap (λ m. map (cost_under (take from rest)) (costs_from (costs_at (length (drop from rest)) b m to) (drop from rest)))
        (behind_is s.before place nodes more s.many first other))

-- what a pass over a part of a node makes, where the keys from the whole one on are those of that part
pub rest_form : (b : Blocks) (at : BlockRef) (key part front : List ℕ) (depth n nodes more place : ℕ) (pass end : Going) → part ≡ drop depth key → length part ≡ n
    → costs_from (costs_at (length part) b nodes at) part ≡ costs_in (costs (length part) b) more (aside true place (node_at b at))
    → end ≡ pass_over pass (map (cost_under front) (costs_in (costs n b) more (aside true place (node_at b at))))
    → end ≡ pass_over pass (map (cost_under front) (costs_from (costs_at n b nodes at) (drop depth key)))
rest_form b at key part front depth n nodes more place pass end is level same made =
    let here : costs_from (costs_at n b nodes at) part ≡ costs_in (costs n b) more (aside true place (node_at b at)) =
    subst (λ m. costs_from (costs_at m b nodes at) part ≡ costs_in (costs m b) more (aside true place (node_at b at))) level same in
    made ∙ ap (λ cs. pass_over pass (map (cost_under front) cs)) (sym here ∙ ap (costs_from (costs_at n b nodes at)) is)

-- the same where no key is wanted
pub none_form : (b : Blocks) (at : BlockRef) (key part front : List ℕ) (depth n nodes : ℕ) (pass : Going) → part ≡ drop depth key → length part ≡ n
    → costs_from (costs_at (length part) b nodes at) part ≡ []
    → pass ≡ pass_over pass (map (cost_under front) (costs_from (costs_at n b nodes at) (drop depth key)))
none_form b at key part front depth n nodes pass is level same =
    let here : costs_from (costs_at n b nodes at) part ≡ [] = subst (λ m. costs_from (costs_at m b nodes at) part ≡ []) level same in
    ap (λ cs. pass_over pass (map (cost_under front) cs)) (sym here ∙ ap (costs_from (costs_at n b nodes at)) is)

-- the same below a link, and then behind it
pub link_form : (b : Blocks) (at to : BlockRef) (key part : List ℕ) (depth from n left nodes more place : ℕ) (pass mid end : Going) → part ≡ drop depth key → length part ≡ n
    → left ≡ length (drop from part)
    → costs_from (costs_at (length part) b nodes at) part ≡ map (cost_under (take from part)) (costs_from (costs_at (length (drop from part)) b more to) (drop from part))
    ++ costs_in (costs (length part) b) 0 (aside true place (node_at b at))
    → mid ≡ pass_over pass (map (cost_under (take (depth + from) key)) (costs_from (costs_at left b more to) (drop (depth + from) key)))
    → end ≡ pass_over mid (map (cost_under (take depth key)) (costs_in (costs n b) 0 (aside true place (node_at b at))))
    → end ≡ pass_over pass (map (cost_under (take depth key)) (costs_from (costs_at n b nodes at) (drop depth key)))
link_form b at to key part depth from n left nodes more place pass mid end is level far same first second =
    let front = take depth key in
    let begin = take from part in
    let whole : take (depth + from) key ≡ front ++ begin = sym (ap (λ p. front ++ take from p) is ∙ take_two key depth from) in
    let rest : drop (depth + from) key ≡ drop from part = sym (ap (drop from) is ∙ drop-drop from depth key) in
    let ys = costs_in (costs n b) 0 (aside true place (node_at b at)) in
    let xs = costs_from (costs_at (length (drop from part)) b more to) (drop from part) in
    let below : costs_from (costs_at left b more to) (drop (depth + from) key) ≡ xs = (λ i. costs_from (costs_at (far i) b more to) (rest i)) in
    let here : costs_from (costs_at n b nodes at) part ≡ map (cost_under begin) xs
    ++ ys = subst (λ m. costs_from (costs_at m b nodes at) part ≡ map (cost_under begin) xs ++ costs_in (costs m b) 0 (aside true place (node_at b at))) level same in
    second
    ∙ ap (λ p. pass_over p (map (cost_under front) ys)) (first ∙ ap (λ cs. pass_over pass (map (cost_under (take (depth + from) key)) cs)) below)
    ∙ pass_both pass front begin (take (depth + from) key) xs ys whole
    ∙ ap (λ cs. pass_over pass (map (cost_under front) cs)) (sym here ∙ ap (costs_from (costs_at n b nodes at)) is)

-- the pass over a leaf
pub pass_leaf : (n : ℕ) (b : Blocks) (at : BlockRef) (prefix piece front : List ℕ) (value : BlockRef) (nodes place : ℕ) (pass end : Going) → node_at b at ≡ Leaf prefix value
    → piece ≡ prefix → end ≡ counted pass.left pass.next (record { key = front ++ piece; blocks = nodes + 1 })
    → end ≡ pass_over pass (map (cost_under front) (costs_in (costs n b) nodes (aside true place (node_at b at))))
pass_leaf n b at prefix piece front value nodes place pass end node is made =
    made ∙ ap (λ p. counted pass.left pass.next (record { key = front ++ p; blocks = nodes + 1 })) is
    ∙ ap (λ m. pass_over pass (map (cost_under front) (costs_in (costs n b) nodes (aside true place m)))) (sym node)

-- the pass over an inner node ends where the one over the links that are left does
pub rest_ended : (n : ℕ) (b : Blocks) (at : BlockRef) (front prefix : List ℕ) (links : List Link) (nodes place least next : ℕ) (pass now end : Going) → node_at b at ≡ Inner prefix links
    → pass_over now (map (cost_under front) (costs_below (costs n b) least (prefix_in (node_at b at)) (drop next (links_in (node_at b at))))) ≡ pass_over pass
    (map (cost_under front) (costs_below (costs n b) (nodes + 1) (prefix_in (node_at b at)) (drop place (links_in (node_at b at)))))
    → pass_over now (map (cost_under front) (costs_below (costs n b) least (prefix_in (node_at b at)) (drop next (links_in (node_at b at))))) ≡ end
    → end ≡ pass_over pass (map (cost_under front) (costs_in (costs n b) nodes (aside true place (node_at b at))))
rest_ended n b at front prefix links nodes place least next pass now end is same ended =
    sym ended ∙ same ∙ ap (λ cs. pass_over pass (map (cost_under front) cs)) (sym (inner_rest n b nodes place (node_at b at) prefix links is))

-- a pass goes on by the next link
module _ (n depth place : ℕ) (b : Blocks) (at : BlockRef) (bytes path : List ℕ) (turn : Turn) (r : ReadAt n b at bytes) (turns : Turns true (node_of bytes) place depth path turn)
    (level : n ≡ 16 - depth) where
  next : slice_get r.links place ≡ Some turns.link
  next = ap (λ m. slice_get (links_in m) place) (sym r.is) ∙ turns.is

  here : node_at b at ≡ Inner r.prefix r.links
  here = r.node_is ∙ r.is

  -- the costs below the link, whichever number of levels counts them
  below : (nodes : ℕ) → costs_in (costs (16 - turn.depth) b) nodes (aside true 0 (node_at b turn.to)) ≡ costs n b nodes turns.link.to
  below nodes =
      let tree = turn_named true n depth place b at bytes path turn r turns level in
      let deeper = turn_deeper true n depth place b at bytes path turn r turns level in
      let within = turn_within true n depth place b at bytes path turn r turns level in
      sym (whole_node (16 - turn.depth) b nodes turn.to) ∙ sym (same_costs (suc (16 - turn.depth)) n (16 - turn.depth) b nodes turn.to (omega (arith, level)) tree.tree)
      ∙ ap (costs n b nodes) turns.to_is

  -- the link is one of those of the node, which are 256 at most
  pub turn_inside : (place < length (links_in (node_at b at))) × (length (links_in (node_at b at)) ≤ 256)
  turn_inside =
      let most = count_most r.links r.node.inner.rising r.node.inner.edges in
      let same : length (links_in (node_at b at)) ≡ length r.links = ap (λ m. length (links_in m)) here in
      (omega (arith, same, get_within r.links place turns.link next), omega (arith, same, most))
    where
      get_within : (ls : List Link) (k : ℕ) (l : Link) → slice_get ls k ≡ Some l → k < length ls
      get_within [] zero l h = cc
      get_within [] (suc k) l h = cc
      get_within (x ∷ ls) zero l h = omega arith
      get_within (x ∷ ls) (suc k) l h = omega (arith, get_within ls k l h)

  pub pass_turn : (nodes : ℕ) (pass mid : Going) → mid ≡ pass_over pass (map (cost_under (take turn.depth turn.path)) (costs_in (costs (16 - turn.depth) b) nodes (aside true 0 (node_at b turn.to))))
      → pass_over mid (map (cost_under (take depth path)) (costs_below (costs n b) 1 (prefix_in (node_at b at)) (drop (place + 1) (links_in (node_at b at)))))
      ≡ pass_over pass (map (cost_under (take depth path)) (costs_below (costs n b) nodes (prefix_in (node_at b at)) (drop place (links_in (node_at b at)))))
  pass_turn nodes pass mid made =
      let front = take depth path in
      let begin = r.prefix ++ turns.link.edge ∷ [] in
      let more = drop (place + 1) r.links in
      let whole : take turn.depth turn.path ≡ front ++ begin = turns.path_is ∙ ap (λ m. front ++ (prefix_in m ++ turns.link.edge ∷ [])) r.is in
      let parted : drop place r.links ≡ turns.link ∷ more = drop_from r.links place turns.link next ∙ ap (λ k. turns.link ∷ drop k r.links) (sym (add-one place)) in
      ap (λ m. pass_over mid (map (cost_under front) (costs_below (costs n b) 1 (prefix_in m) (drop (place + 1) (links_in m))))) here
      ∙ ap (λ p. pass_over p (map (cost_under front) (costs_below (costs n b) 1 r.prefix more))) (made ∙ ap (λ cs. pass_over pass (map (cost_under (take turn.depth turn.path)) cs)) (below nodes))
      ∙ pass_both pass front begin (take turn.depth turn.path) (costs n b nodes turns.link.to) (costs_below (costs n b) 1 r.prefix more) whole
      ∙ ap (λ ls. pass_over pass (map (cost_under front) (costs_below (costs n b) nodes r.prefix ls))) (sym parted)
      ∙ ap (λ m. pass_over pass (map (cost_under front) (costs_below (costs n b) nodes (prefix_in m) (drop place (links_in m))))) (sym here)

-- no link is left
pub pass_past : (n : ℕ) (b : Blocks) (front prefix : List ℕ) (links : List Link) (nodes place : ℕ) (pass : Going) → slice_get links place ≡ None
    → pass_over pass (map (cost_under front) (costs_below (costs n b) nodes prefix (drop place links))) ≡ pass
pass_past n b front prefix links nodes place pass is = ap (λ ls. pass_over pass (map (cost_under front) (costs_below (costs n b) nodes prefix ls))) (none_from links place is)
  where
    none_from : (ls : List Link) (k : ℕ) → slice_get ls k ≡ None → drop k ls ≡ []
    none_from [] zero h = refl
    none_from [] (suc k) h = refl
    none_from (l ∷ ls) zero h = cc
    none_from (l ∷ ls) (suc k) h = none_from ls k h

-- the pass over the keys of a map, from the pass over its tree
pub reached_some : (b : Blocks) (tree : PackedTree) (at : BlockRef) (from : List ℕ) (room : ℕ) (end : Going) → tree.root ≡ Some at
    → end ≡ pass_over (begun room) (map (cost_under []) (costs_from (costs_at 16 b 1 at) from)) → end ≡ pass_over (begun room) (costs_from (costs_of b tree) from)
reached_some b tree at from room end is made =
    made ∙ ap (pass_over (begun room)) (map-id (costs_from (costs_at 16 b 1 at) from)) ∙ ap (λ r. pass_over (begun room) (costs_from (root_costs b r) from)) (sym is)

-- the map of no key
pub reached_none : (b : Blocks) (tree : PackedTree) (from : List ℕ) (room : ℕ) → tree.root ≡ None → begun room ≡ pass_over (begun room) (costs_from (costs_of b tree) from)
reached_none b tree from room is = ap (λ r. pass_over (begun room) (costs_from (root_costs b r) from)) (sym is)

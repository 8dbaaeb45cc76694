-- The costs of a tree: which keys they have, how many blocks, and that more levels leave them.
use Rattle.std.proofs.Common.{◌≡◌, ◌∙◌, ℕ, zero, suc, ◌+◌, ◌-◌, ◌<◌, ◌≤◌, Bool, true, false, cond, List, [], ◌∷◌, ◌++◌, length, map, Option, Some, None, refl, sym, ap, subst, arith}
use Rattle.std.specs.Prelude.{count_by}
use Rattle.std.specs.List.{AllByRecursion, sum_by}
use Rattle.std.specs.declared.cmp.Ordering.{Ordering}
use Rattle.std.proofs.lemmas.List.{map-append}
use Rattle.std.proofs.lemmas.List.Sums.{sum_by-cons, sum_by-append}
use Rattle.blocks.specs.declared.BlockRef.{BlockRef}
use Rattle.blocks.specs.Blocks.{Blocks}
use Rattle.rax_packed.specs.declared.tree.PackedTree.{PackedTree}
use Rattle.rax_packed.specs.Costs.{Cost, cost_under, costs_below, costs_in, costs, root_costs, costs_of}
use Rattle.rax_packed.specs.Maps.{root_entries, root_marks, entries_of, marks_of, IsRoot, IsSound}
use Rattle.rax_packed.specs.Nodes.{Link, Node, Leaf, Inner, Fits, node_of}
use Rattle.rax_packed.specs.Packed.{order}
use Rattle.rax_packed.specs.Trees.{Entry, Mark, node_at, under, mark_under, entries_in, entries, first_key, marks_in, marks, Below, IsTree}
use Rattle.rax_packed.proofs.Entries.{All, all-append, below_links}
use Rattle.rax_packed.proofs.Frames.{marks_below, block_node}
use Rattle.rax_packed.proofs.Paths.{tree_some}

-- the key of a cost, and that of an entry
abbrev pub cost_key : Cost → List ℕ
cost_key c = c.key

abbrev pub entry_key : Entry → List ℕ
entry_key e = e.key

-- more bytes before each key
keys_under : {X : Type 0} (name : X → List ℕ) (more : X → X) (begin : List ℕ) (xs : List X) → ((x : X) → name (more x) ≡ begin ++ name x) → map name (map more xs) ≡ map (λ k. begin ++ k) (map name xs)
keys_under name more begin [] same = refl
keys_under name more begin (x ∷ xs) same = λ i. same x i ∷ keys_under name more begin xs same i

module _ (levels : ℕ) (b : Blocks) (each : (nodes : ℕ) (to : BlockRef) → map cost_key (costs levels b nodes to) ≡ map entry_key (entries levels b to)) where
  -- the costs below links have the keys of the entries there
  links_keys : (nodes : ℕ) (prefix : List ℕ) (links : List Link) → map cost_key (costs_below (costs levels b) nodes prefix links) ≡ map entry_key (below_links prefix (entries levels b) links)
  links_keys nodes prefix [] = refl
  links_keys nodes prefix (l ∷ links) =
      let begin = prefix ++ l.edge ∷ [] in
      let here : map cost_key (map (cost_under begin) (costs levels b nodes l.to)) ≡ map entry_key (map (under begin) (entries levels b l.to)) =
      keys_under cost_key (cost_under begin) begin (costs levels b nodes l.to) (λ c. refl) ∙ ap (map (λ k. begin ++ k)) (each nodes l.to)
      ∙ sym (keys_under entry_key (under begin) begin (entries levels b l.to) (λ e. refl)) in
      map-append cost_key (map (cost_under begin) (costs levels b nodes l.to)) (costs_below (costs levels b) 1 prefix links)
      ∙ (λ i. here i ++ links_keys 1 prefix links i)
      ∙ sym (map-append entry_key (map (under begin) (entries levels b l.to)) (below_links prefix (entries levels b) links))

  -- and so have those of a node
  node_keys : (nodes : ℕ) (node : Node) → map cost_key (costs_in (costs levels b) nodes node) ≡ map entry_key (entries_in (entries levels b) node)
  node_keys nodes (Leaf prefix value) = refl
  node_keys nodes (Inner prefix links) = links_keys (nodes + 1) prefix links

-- the costs of a tree have the keys of its entries
pub keys_are : (levels : ℕ) (b : Blocks) (nodes : ℕ) (at : BlockRef) → map cost_key (costs levels b nodes at) ≡ map entry_key (entries levels b at)
unfolding costs entries
keys_are zero b nodes at = refl
keys_are (suc levels) b nodes at = node_keys levels b (keys_are levels b) nodes (node_at b at)

pub tree_keys : (b : Blocks) (tree : PackedTree) → map (λ (c : Cost). c.key) (costs_of b tree) ≡ map (λ (e : Entry). e.key) (entries_of b tree)
tree_keys b tree = by_root tree.root
  where
    by_root : (root : Option BlockRef) → map cost_key (root_costs b root) ≡ map entry_key (root_entries b root)
    by_root None = refl
    by_root (Some at) = keys_are 17 b 1 at

-- what holds of the names of one list's elements holds of those of another list that has the same names
pub by_names : {X Y : Type 0} (name : X → List ℕ) (other : Y → List ℕ) (P : List ℕ → Type 0) (xs : List X) (ys : List Y) → map name xs ≡ map other ys → AllByRecursion (λ x. P (name x)) xs
    → AllByRecursion (λ y. P (other y)) ys
by_names name other P [] [] same a = tt
by_names name other P [] (y ∷ ys) same a = absurd (cc)
by_names name other P (x ∷ xs) [] same a = absurd (cc)
by_names name other P (x ∷ xs) (y ∷ ys) same a =
    let first : name x ≡ other y = cc in
    let more : map name xs ≡ map other ys = cc in
    (subst P first a.0, by_names name other P xs ys more a.1)

-- where the entries below links stand alike to a key, so do the costs there
pub links_alike : (o : Ordering) (key : List ℕ) (levels : ℕ) (b : Blocks) (nodes : ℕ) (prefix : List ℕ) (links : List Link) → All o key (below_links prefix (entries levels b) links)
    → AllByRecursion (λ (c : Cost). order c.key key ≡ o) (costs_below (costs levels b) nodes prefix links)
links_alike o key levels b nodes prefix links a =
    by_names entry_key cost_key (λ k. order k key ≡ o) (below_links prefix (entries levels b) links) (costs_below (costs levels b) nodes prefix links)
    (sym (links_keys levels b (keys_are levels b) nodes prefix links)) a

-- where the entries of a tree stand alike to a key, so do its costs
pub tree_alike : (o : Ordering) (key : List ℕ) (levels : ℕ) (b : Blocks) (nodes : ℕ) (at : BlockRef) → All o key (entries levels b at)
    → AllByRecursion (λ (c : Cost). order c.key key ≡ o) (costs levels b nodes at)
tree_alike o key levels b nodes at a = by_names entry_key cost_key (λ k. order k key ≡ o) (entries levels b at) (costs levels b nodes at) (sym (keys_are levels b nodes at)) a

-- The costs of a tree are the same for each number of levels greater than the length of its keys.

same_links : (m k rest : ℕ) (b : Blocks) → ((nodes : ℕ) (to : BlockRef) → IsTree m rest b to → costs k b nodes to ≡ costs m b nodes to) → (nodes : ℕ) (prefix : List ℕ) (links : List Link)
    → AllByRecursion (λ l. IsTree m rest b l.to) links
    → costs_below (costs k b) nodes prefix links ≡ costs_below (costs m b) nodes prefix links
same_links m k rest b each nodes prefix [] h = refl
same_links m k rest b each nodes prefix (l ∷ links) h = λ i. map (cost_under (prefix ++ l.edge ∷ [])) (each nodes l.to h.0 i) ++ same_links m k rest b each 1 prefix links h.1 i

same_in : (m k rest : ℕ) (b : Blocks) (nodes : ℕ) (node : Node) → ((left nodes : ℕ) (to : BlockRef) → left < rest → IsTree m left b to → costs k b nodes to ≡ costs m b nodes to)
    → Fits rest node → Below (λ left to. IsTree m left b to) rest node
    → costs_in (costs k b) nodes node ≡ costs_in (costs m b) nodes node
same_in m k rest b nodes (Leaf prefix value) each fits h = refl
same_in m k rest b nodes (Inner prefix links) each fits h =
    let short = fits.short in
    let less : rest - suc (length prefix) < rest = omega arith in
    same_links m k (rest - suc (length prefix)) b (λ more to t. each (rest - suc (length prefix)) more to less t) (nodes + 1) prefix links h

pub same_costs : (m k rest : ℕ) (b : Blocks) (nodes : ℕ) (at : BlockRef) → rest < k → IsTree m rest b at → costs k b nodes at ≡ costs m b nodes at
unfolding costs IsTree
same_costs zero k rest b nodes at h t = absurd t
same_costs (suc m) zero rest b nodes at h t = absurd (omega arith)
same_costs (suc m) (suc k) rest b nodes at h t =
    let told : node_of t.0 ≡ node_at b at = sym (block_node m rest b at t.0 t.1) in
    let fits : Fits rest (node_at b at) = subst (Fits rest) told t.2.fits in
    let below : Below (λ left to. IsTree m left b to) rest (node_at b at) = subst (Below (λ left to. IsTree m left b to) rest) told t.3 in
    same_in m k rest b nodes (node_at b at) (λ left more to less u. same_costs m k left b more to (omega arith) u) fits below

-- A key has no more blocks than a way has nodes, and one more.

few_links : (most : ℕ) (levels left : ℕ) (b : Blocks) →
    ((nodes : ℕ) (to : BlockRef) → nodes + left ≤ most → IsTree levels left b to → AllByRecursion (λ (c : Cost). c.blocks ≤ most + 1) (costs levels b nodes to))
    → (nodes : ℕ) (prefix : List ℕ) (links : List Link) → nodes + left ≤ most → 1 + left ≤ most → AllByRecursion (λ l. IsTree levels left b l.to) links
    → AllByRecursion (λ (c : Cost). c.blocks ≤ most + 1) (costs_below (costs levels b) nodes prefix links)
few_links most levels left b each nodes prefix [] room other h = tt
few_links most levels left b each nodes prefix (l ∷ links) room other h =
    all-append (λ (c : Cost). c.blocks ≤ most + 1) (map (cost_under (prefix ++ l.edge ∷ [])) (costs levels b nodes l.to)) (costs_below (costs levels b) 1 prefix links)
    (behind (costs levels b nodes l.to) (each nodes l.to room h.0)) (few_links most levels left b each 1 prefix links other other h.1)
  where
    behind : (cs : List Cost) → AllByRecursion (λ (c : Cost). c.blocks ≤ most + 1) cs → AllByRecursion (λ (c : Cost). c.blocks ≤ most + 1) (map (cost_under (prefix ++ l.edge ∷ [])) cs)
    behind [] a = tt
    behind (c ∷ cs) a = (a.0, behind cs a.1)

few_in : (most levels rest : ℕ) (b : Blocks) (node : Node) →
    ((left nodes : ℕ) (to : BlockRef) → nodes + left ≤ most → IsTree levels left b to → AllByRecursion (λ (c : Cost). c.blocks ≤ most + 1) (costs levels b nodes to)) → Fits rest node
    → Below (λ left to. IsTree levels left b to) rest node → (nodes : ℕ) → nodes + rest ≤ most
    → AllByRecursion (λ (c : Cost). c.blocks ≤ most + 1) (costs_in (costs levels b) nodes node)
few_in most levels rest b (Leaf prefix value) each fits h nodes room = (omega arith, tt)
few_in most levels rest b (Inner prefix links) each fits h nodes room =
    let short = fits.short in
    let left = rest - suc (length prefix) in
    few_links most levels left b (λ more to upto t. each left more to upto t) (nodes + 1) prefix links (omega arith) (omega arith) h

few_tree : (most levels rest : ℕ) (b : Blocks) (at : BlockRef) → IsTree levels rest b at → (nodes : ℕ) → nodes + rest ≤ most
    → AllByRecursion (λ (c : Cost). c.blocks ≤ most + 1) (costs levels b nodes at)
unfolding costs IsTree
few_tree most zero rest b at t nodes room = absurd t
few_tree most (suc levels) rest b at t nodes room =
    let told : node_of t.0 ≡ node_at b at = sym (block_node levels rest b at t.0 t.1) in
    few_in most levels rest b (node_at b at) (λ left more to upto u. few_tree most levels left b to u more upto) (subst (Fits rest) told t.2.fits)
    (subst (Below (λ left to. IsTree levels left b to) rest) told t.3) nodes room

pub tree_few : (b : Blocks) (tree : PackedTree) → IsSound b tree → AllByRecursion (λ (c : Cost). c.blocks ≤ 18) (costs_of b tree)
tree_few b tree sound = by_root tree.root sound.stands
  where
    by_root : (root : Option BlockRef) → IsRoot b root → AllByRecursion (λ (c : Cost). c.blocks ≤ 18) (root_costs b root)
    by_root None t = tt
    by_root (Some at) t = few_tree 17 17 16 b at t 1 (omega arith)

-- The blocks of the keys that pass a test.

abbrev blocks_by : (List ℕ → Bool) → List Cost → ℕ
blocks_by test cs = sum_by (λ (c : Cost). cond (test c.key) c.blocks 0) cs

abbrev entries_by : (List ℕ → Bool) → List Entry → ℕ
entries_by test es = count_by (λ (e : Entry). test e.key) es

abbrev marks_by : (List ℕ → Bool) → List Mark → ℕ
marks_by test ms = count_by (λ (m : Mark). test m.least) ms

sum_by_map : {X Y : Type 0} (f : Y → ℕ) (g : X → Y) (xs : List X) → sum_by f (map g xs) ≡ sum_by (λ x. f (g x)) xs
sum_by_map f g [] = refl
sum_by_map f g (x ∷ xs) = omega (arith, sum_by-cons f (g x) (map g xs), sum_by-cons (λ x. f (g x)) x xs, sum_by_map f g xs)

-- the first key of some entries, behind more bytes
first_behind : (begin : List ℕ) (es more : List Entry) → 0 < length es → first_key (map (under begin) es ++ more) ≡ begin ++ first_key es
first_behind begin [] more some = absurd (omega arith)
first_behind begin (e ∷ es) more some = refl

-- what is counted where the test passes, in two parts
both : (t : Bool) (n : ℕ) → cond t (n + 1) 0 ≡ cond t 1 0 + cond t n 0
both true n = omega arith
both false n = refl

none : (t : Bool) → cond {A = ℕ} t 0 0 ≡ 0
none true = refl
none false = refl

-- The costs of a tree have as many blocks as it has entries and marks, and as there are nodes above that have its least key.
abbrev IsSum : ℕ → Blocks → (List ℕ → Bool) → ℕ → BlockRef → Type 0
IsSum levels b test above at =
    blocks_by test (costs levels b (above + 1) at) ≡ entries_by test (entries levels b at) + marks_by test (marks levels b at) + cond (test (first_key (entries levels b at))) above 0

module _ (levels left : ℕ) (b : Blocks) (each : (to : BlockRef) → IsTree levels left b to → (test : List ℕ → Bool) (above : ℕ) → IsSum levels b test above to) (test : List ℕ → Bool)
    (prefix : List ℕ) where
  -- below a link and those behind it
  sum_first : (above : ℕ) (l : Link) (links : List Link) → IsTree levels left b l.to
      → blocks_by test (costs_below (costs levels b) 1 prefix links) ≡ entries_by test (below_links prefix (entries levels b) links) + marks_by test (marks_below prefix (marks levels b) links)
      → blocks_by test (costs_below (costs levels b) (above + 1) prefix (l ∷ links))
      ≡ entries_by test (below_links prefix (entries levels b) (l ∷ links)) + marks_by test (marks_below prefix (marks levels b) (l ∷ links)) + cond
      (test (first_key (below_links prefix (entries levels b) (l ∷ links)))) above 0
  sum_first above l links t rest =
      let begin = prefix ++ l.edge ∷ [] in
      let cs = costs levels b (above + 1) l.to in
      let es = entries levels b l.to in
      let ms = marks levels b l.to in
      let more = below_links prefix (entries levels b) links in
      let first : cond (test (first_key (map (under begin) es ++ more))) above 0 ≡ cond (test (begin ++ first_key es)) above 0 =
      ap (λ k. cond (test k) above 0) (first_behind begin es more (tree_some levels left b l.to t)) in
      omega (
        arith,
        first,
        rest,
        each l.to t (λ k. test (begin ++ k)) above,
        sum_by-append (λ (c : Cost). cond (test c.key) c.blocks 0) (map (cost_under begin) cs) (costs_below (costs levels b) 1 prefix links),
        sum_by-append (λ (e : Entry). cond (test e.key) 1 0) (map (under begin) es) more,
        sum_by-append (λ (m : Mark). cond (test m.least) 1 0) (map (mark_under begin) ms) (marks_below prefix (marks levels b) links),
        sum_by_map (λ (c : Cost). cond (test c.key) c.blocks 0) (cost_under begin) cs,
        sum_by_map (λ (e : Entry). cond (test e.key) 1 0) (under begin) es,
        sum_by_map (λ (m : Mark). cond (test m.least) 1 0) (mark_under begin) ms,
      )

  -- below links that have no node above them
  sum_rest : (links : List Link) → AllByRecursion (λ l. IsTree levels left b l.to) links
      → blocks_by test (costs_below (costs levels b) 1 prefix links) ≡ entries_by test (below_links prefix (entries levels b) links) + marks_by test (marks_below prefix (marks levels b) links)
  sum_rest [] h = refl
  sum_rest (l ∷ links) h = omega (arith, sum_first 0 l links h.0 (sum_rest links h.1), none (test (first_key (below_links prefix (entries levels b) (l ∷ links)))))

-- the marks of a node at a reference, of which its own has the first key of its entries
abbrev marks_here : ℕ → Blocks → BlockRef → Node → List Mark
marks_here levels b at node = (record { least = first_key (entries_in (entries levels b) node); at = at }) ∷ marks_in (marks levels b) node

sum_in : (levels rest : ℕ) (b : Blocks) (at : BlockRef) (node : Node)
    → ((left : ℕ) (to : BlockRef) → IsTree levels left b to → (test : List ℕ → Bool) (above : ℕ) → IsSum levels b test above to) → Fits rest node
    → Below (λ left to. IsTree levels left b to) rest node → (test : List ℕ → Bool) (above : ℕ)
    → blocks_by test (costs_in (costs levels b) (above + 1) node) ≡ entries_by test (entries_in (entries levels b) node) + marks_by test (marks_here levels b at node) + cond
    (test (first_key (entries_in (entries levels b) node))) above 0
sum_in levels rest b at (Leaf prefix value) each fits h test above = by_test (test prefix)
  where
    by_test : (t : Bool) → 0 + cond t (above + 1 + 1) 0 ≡ 0 + cond t 1 0 + (0 + cond t 1 0) + cond t above 0
    by_test true = omega arith
    by_test false = refl
sum_in levels rest b at (Inner prefix []) each fits h test above = absurd (let some = fits.some in omega arith)
sum_in levels rest b at (Inner prefix (l ∷ links)) each fits h test above =
    let left = rest - suc (length prefix) in
    let es = below_links prefix (entries levels b) (l ∷ links) in
    let ms = marks_below prefix (marks levels b) (l ∷ links) in
    let own : Mark = record { least = first_key es; at = at } in
    omega (
      arith,
      sum_first levels left b (each left) test prefix (above + 1) l links h.0 (sum_rest levels left b (each left) test prefix links h.1),
      sum_by-cons (λ (m : Mark). cond (test m.least) 1 0) own ms,
      both (test (first_key es)) above,
    )

sum_tree : (levels rest : ℕ) (b : Blocks) (at : BlockRef) → IsTree levels rest b at → (test : List ℕ → Bool) (above : ℕ) → IsSum levels b test above at
unfolding costs entries marks IsTree
sum_tree zero rest b at t test above = absurd t
sum_tree (suc levels) rest b at t test above =
    let told : node_of t.0 ≡ node_at b at = sym (block_node levels rest b at t.0 t.1) in
    sum_in levels rest b at (node_at b at) (λ left to u. sum_tree levels left b to u) (subst (Fits rest) told t.2.fits) (subst (Below (λ left to. IsTree levels left b to) rest) told t.3) test above

pub tree_blocks : (b : Blocks) (tree : PackedTree) → IsSound b tree → (test : List ℕ → Bool)
    → sum_by (λ (c : Cost). cond (test c.key) c.blocks 0) (costs_of b tree) ≡ count_by (λ (e : Entry). test e.key) (entries_of b tree) + count_by (λ (m : Mark). test m.least) (marks_of b tree)
tree_blocks b tree sound test = by_root tree.root sound.stands
  where
    by_root : (root : Option BlockRef) → IsRoot b root → blocks_by test (root_costs b root) ≡ entries_by test (root_entries b root) + marks_by test (root_marks b root)
    by_root None t = refl
    by_root (Some at) t = omega (arith, sum_tree 17 16 b at t test 0, none (test (first_key (entries 17 b at))))

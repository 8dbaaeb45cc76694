-- Lists with a packed node more behind their others.
use Rattle.std.proofs.Common.{◌≡◌, ◌⊎◌, ℕ, ◌+◌, ◌==◌, ◌<◌, true, false, List, [], ◌∷◌, ◌++◌, length, map, take, drop, get_or, refl, ap, ◌∙◌, sym, subst, inl, inr, arith}
use Rattle.std.proofs.lemmas.Bool.Decides.{nat_tests}
use Rattle.std.proofs.lemmas.List.{append-nil, take_all, drop_all}
use Rattle.blocks.specs.Blocks.{Blocks}
use Rattle.listpack.specs.Pack.{texts}
use Rattle.object_codec.specs.declared.form.Form.{Form}
use Rattle.object_codec.specs.declared.form.Form.TheVariants.{Intset, Listpack, Hashtable, Skiplist, Quicklist, Stream}
use Rattle.quicklist.specs.declared.node.Container.{Container}
use Rattle.quicklist.specs.declared.node.Container.TheVariants.{Plain, Packed}
use Rattle.quicklist.specs.declared.node.Node.{Node}
use Rattle.quicklist.specs.Nodes.{IsPacked, IsHeld, pack_len, container_of, bytes_of, node_at, node_list, elements_of}
use Rattle.quicklist.specs.Chain.{Chain, IsFormed, IsQuick, elements, respelled}
use Rattle.quicklist.proofs.Elements.{elements_cut, held_at, packed_list}
use Rattle.quicklist.proofs.Rising.{respelled_alone}
use Rattle.quicklist.proofs.Written.{packed_len, pack_len_append}

-- the first node of a list of any form may be a packed one
pub formed_first : (f : Form) (cs : List Container) → cs ≡ [] → IsFormed f cs → IsFormed f (cs ++ Packed ∷ [])
formed_first Intset cs none t = t
formed_first Listpack cs none t = inr (ap (λ (xs : List Container). xs ++ Packed ∷ []) none)
formed_first Hashtable cs none t = t
formed_first Skiplist cs none t = t
formed_first Quicklist cs none t = tt
formed_first Stream cs none t = t

-- by how many they are, there is none, or one
pub none_by : (n : ℕ) (nodes : List Node) → (n == 0) ≡ true → n ≡ length nodes → nodes ≡ []
none_by n [] is all = refl
none_by n (node ∷ nodes) is all = let none : n ≡ 0 = grind (arith, nat_tests) in absurd (omega (arith, none, all))

pub some_by : (n : ℕ) (nodes : List Node) → (n == 0) ≡ false → n ≡ length nodes → 0 < length nodes
some_by n nodes is all = grind (arith, nat_tests)

-- the only node of a list of form listpack is packed
packed_first : (nodes : List Node) → 0 < length nodes → (map container_of nodes ≡ []) ⊎ (map container_of nodes ≡ Packed ∷ []) → (node_at nodes 0).container ≡ Packed
packed_first [] h t = absurd (omega (arith, h))
packed_first (node ∷ nodes) h (inl none) = absurd (omega (arith, ap length none))
packed_first (node ∷ nodes) h (inr one) = ap (λ (cs : List Container). get_or cs 0 Plain) one

-- where the bytes of its one node and others are too many for one node, so are the elements for one listpack
pub joined_long : (m : Blocks) (q : Chain) (node : Node) (first bytes : List ℕ) → IsQuick m q → q.form ≡ Listpack → 0 < length q.nodes → node ≡ node_at q.nodes 0 → bytes_of m node ≡ first
    → IsPacked bytes
    → 8199 < length first + length bytes → 8192 < pack_len (elements m q ++ texts bytes)
joined_long m q node first bytes s form h is there p long =
    let formed : IsFormed Listpack (map container_of q.nodes) = subst (λ (f : Form). IsFormed f (map container_of q.nodes)) form s.formed in
    let packed : node.container ≡ Packed = ap (λ (n : Node). n.container) is ∙ packed_first q.nodes h formed in
    let list : elements m q ≡ texts first =
    elements_cut m q.nodes 0 h ∙ respelled_alone m q.nodes 0 (node_list m (node_at q.nodes 0)) h formed ∙ ap (node_list m) (sym is) ∙ packed_list m node first packed there in
    let one : IsPacked first = subst (λ (c : Container). IsHeld c first) packed (held_at m q.nodes 0 node first s.chain.each h is there) in
    omega (arith, long, packed_len first one, packed_len bytes p, pack_len_append (texts first) (texts bytes), ap (λ (xs : List (List ℕ)). pack_len (xs ++ texts bytes)) list)

-- what stands in the place of no node behind all others stands behind them
pub behind_all : (m : Blocks) (q : Chain) (list : List (List ℕ)) (k : ℕ) → k ≡ length q.nodes → elements m q ++ list ≡ respelled m q k list (k + 0)
behind_all m q list k all =
    let front : take k q.nodes ≡ q.nodes = take_all k q.nodes (omega (arith, all)) in
    let back : drop (k + 0) q.nodes ≡ [] = drop_all (k + 0) q.nodes (omega (arith, all)) in
    ap (λ (xs : List (List ℕ)). elements m q ++ xs) (sym (append-nil list))
    ∙ ap (λ (xs : List Node). elements m q ++ (list ++ elements_of m xs)) (sym back)
    ∙ ap (λ (xs : List Node). elements_of m xs ++ (list ++ elements_of m (drop (k + 0) q.nodes))) (sym front)

-- so do its containers
pub containers_behind : (cs new : List Container) (k : ℕ) → k ≡ length cs → cs ++ new ≡ take k cs ++ (new ++ drop (k + 0) cs)
containers_behind cs new k all =
    let front : take k cs ≡ cs = take_all k cs (omega (arith, all)) in
    let back : drop (k + 0) cs ≡ [] = drop_all (k + 0) cs (omega (arith, all)) in
    ap (λ (xs : List Container). cs ++ xs) (sym (append-nil new) ∙ ap (λ (xs : List Container). new ++ xs) (sym back)) ∙ ap (λ (xs : List Container). xs ++ (new ++ drop (k + 0) cs)) (sym front)

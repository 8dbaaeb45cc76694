-- Where an index stands among the counts of the nodes.
use Rattle.std.proofs.Common.{◌≡◌, ℕ, ◌+◌, ◌-◌, ◌<◌, ◌≤◌, ◌^◌, List, [], ◌∷◌, length, take, get_or, ap, ◌∙◌, sym, inl, inr, arith, length-append}
use Rattle.std.specs.Prelude.{sum_by}
use Rattle.std.proofs.lemmas.Bool.{cases_lt}
use Rattle.std.proofs.lemmas.List.{drop_all}
use Rattle.std.proofs.lemmas.List.Sums.{sum_by-take-drop, sum_by_more}
use Rattle.listpack.specs.Entry.{back_length}
use Rattle.listpack.specs.Writing.{spelling, entry}
use Rattle.listpack.proofs.Writings.{element_short}
use Rattle.quicklist.specs.declared.node.Node.{Node}
use Rattle.quicklist.specs.Nodes.{IsPlace, count_of, pack_len}

pub sum_whole : (nodes : List Node) (n : ℕ) → length nodes ≤ n → sum_by count_of (take n nodes) ≡ sum_by count_of nodes
sum_whole nodes n h = omega (arith, sum_by-take-drop count_of nodes n, ap (sum_by count_of) (drop_all n nodes h))

-- one node more
pub sum_next : (nodes : List Node) (k : ℕ) (node : Node) → k < length nodes → node ≡ get_or nodes k node → sum_by count_of (take (k + 1) nodes) ≡ sum_by count_of (take k nodes) + node.count
sum_next nodes k node h is = sum_by_more count_of nodes k node h ∙ ap (λ (n : Node). sum_by count_of (take k nodes) + n.count) (sym is)

pub place_after : (nodes : List Node) (index k before : ℕ) (node : Node) → k < length nodes → node ≡ get_or nodes k node → before ≡ sum_by count_of (take k nodes) → before ≤ index
    → index - before < node.count → IsPlace nodes index k (index - before)
place_after nodes index k before node h is at low high = let next = sum_next nodes k node h is in record { inside = h; before = omega (arith, at, low); among = omega (arith, next, at, low, high) }

-- an element of which the bytes alone are too many
pub too_long : (text : List ℕ) → 2 ^ 32 ≤ length text → 8192 < pack_len (text ∷ [])
too_long text h = elim (cases_lt (length (spelling text)) (2 ^ 32)) [
  | inl short ↦ absurd (omega (arith, element_short text short, h))
  | inr long ↦ omega (arith, long, length-append (spelling text) (back_length (length (spelling text))), length-append (entry text) [])
]

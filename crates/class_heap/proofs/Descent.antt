-- The way down a tree to the least leaf with a label.
use Rattle.std.specs.Prelude.{◌≡◌, ◌≢◌, ℕ, zero, suc, ◌+◌, ◌-◌, ◌*◌, ◌^◌, ◌<◌, ◌≤◌, List}
use Rattle.std.proofs.Common.{arith, ap, ◌∙◌, sym, subst, inl, inr}
use Rattle.std.proofs.Math.Pow.{pow_mono}
use Rattle.std.proofs.lemmas.Bool.{cases_eq, cases_lt}
use Rattle.std.proofs.lemmas.Nat.Bits.{bit_at_or, bit_at-lt}
use Rattle.std.specs.Int.{bit_at}
use Rattle.std.specs.Int.Bits.{bit_or}
use Rattle.class_heap.specs.Tree.{word_of, IsMended, IsTree, IsLeastWith}

twice : (d : ℕ) → 2 ^ (suc d) ≡ 2 ^ d + 2 ^ d
twice d = grind arith

some : (d : ℕ) → 0 < 2 ^ d
some zero = omega arith
some (suc d) = omega (arith, twice d, some d)

left : (k p : ℕ) → (k + k) * p ≡ k * p + k * p
left k p = grind arith

right : (k p : ℕ) → (k + k + 1) * p ≡ k * p + k * p + p
right k p = grind arith

whole : (k d : ℕ) → k * 2 ^ (suc d) ≡ k * 2 ^ d + k * 2 ^ d
whole k d = let e = twice d in grind (arith, e)

least_one : (k d : ℕ) → 2 ^ d ≤ 2 ^ d * (k + 1)
least_one k d = grind arith

times_some : (k d : ℕ) → k ≤ k * 2 ^ d
times_some k d = let s = some d in grind (arith, s)

-- a node has a label where a child does
of_either : (a b label : ℕ) → (bit_at (bit_or a b) label ≡ 0 → (bit_at a label ≡ 0) × (bit_at b label ≡ 0))
of_either a b label h = (omega (arith, bit_at_or a b label, h), omega (arith, bit_at_or a b label, h))

module _ (bound : ℕ) (nodes : List ℕ) (mended : IsMended bound nodes) (label : ℕ) where
  -- below a node without the label no leaf has it
  under : (d k : ℕ) → 0 < k → bit_at (word_of nodes k) label ≡ 0 → k * 2 ^ d + 2 ^ d ≤ bound + bound → (i : ℕ) → k * 2 ^ d ≤ i → i < k * 2 ^ d + 2 ^ d → bit_at (word_of nodes i) label ≡ 0
  under zero k pos none high i ge lt = (let e : i ≡ k = omega arith in subst (λ j. bit_at (word_of nodes j) label ≡ 0) (sym e) none)
  under (suc d) k pos none high i ge lt =
      let w = whole k d in let t = twice d in let l = left k (2 ^ d) in let r = right k (2 ^ d) in let s = some d in let m = times_some k d in
      let inner : k < bound = omega (arith, w, t, s, m, high) in
      let both = of_either (word_of nodes (k + k)) (word_of nodes (k + k + 1)) label (ap (λ n. bit_at n label) (sym (mended k pos inner)) ∙ none) in
      elim (cases_lt i ((k + k) * 2 ^ d + 2 ^ d)) [
        | inl lt' ↦ under d (k + k) (omega arith) both.0 (omega (arith, w, t, l, high)) i (omega (arith, w, l, ge)) lt'
        | inr ge' ↦ under d (k + k + 1) (omega arith) both.1 (omega (arith, w, t, r, high)) i (omega (arith, w, l, r, ge')) (omega (arith, w, t, r, lt))
      ]

  -- the node's leaves come after those without the label, and some of them has it
  pub record IsAbove (level node : ℕ) : Type 0 where
    pub pos : 0 < node
    pub low : bound ≤ node * 2 ^ level
    pub high : node * 2 ^ level + 2 ^ level ≤ bound + bound
    pub has : bit_at (word_of nodes node) label ≡ 1
    pub lacks : (n : ℕ) → bound + n < node * 2 ^ level → bit_at (word_of nodes (bound + n)) label ≡ 0

  pub to_left : (d k : ℕ) → IsAbove (suc d) k → bit_at (word_of nodes (k + k)) label ≢ 0 → IsAbove d (k + k)
  to_left d k a one =
      let w = whole k d in let t = twice d in let l = left k (2 ^ d) in let low = a.low in let high = a.high in let pos = a.pos in
      record {
        pos = omega arith;
        low = omega (arith, w, l);
        high = omega (arith, w, t, l);
        has = omega (arith, one, bit_at-lt (word_of nodes (k + k)) label);
        lacks = λ n lt. a.lacks n (omega (arith, w, l, lt));
      }

  pub to_right : (d k : ℕ) → IsAbove (suc d) k → bit_at (word_of nodes (k + k)) label ≡ 0 → IsAbove d (k + k + 1)
  to_right d k a none =
      let w = whole k d in let t = twice d in let l = left k (2 ^ d) in let r = right k (2 ^ d) in let s = some d in let m = times_some k d in
      let low = a.low in let high = a.high in let pos = a.pos in let here = a.has in
      let inner : k < bound = omega (arith, w, t, s, m) in
      let one = ap (λ n. bit_at n label) (mended k pos inner) ∙ bit_at_or (word_of nodes (k + k)) (word_of nodes (k + k + 1)) label in
      record {
        pos = omega arith;
        low = omega (arith, w, r);
        high = omega (arith, w, t, r);
        has = omega (arith, one, none, here, bit_at-lt (word_of nodes (k + k + 1)) label);
        lacks = λ n lt. elim (cases_lt (bound + n) (k * 2 ^ suc d)) [
          | inl before ↦ a.lacks n before
          | inr ge ↦ under d (k + k) (omega arith) none (omega (arith, w, t, l)) (bound + n) (omega (arith, w, l, ge)) (omega (arith, l, r, lt))
        ];
      }

  pub inner_node : (d k : ℕ) → IsAbove (suc d) k → k < bound
  inner_node d k a = (let w = whole k d in let t = twice d in let s = some d in let m = times_some k d in let high = a.high in omega (arith, w, t, s, m))

  pub one_down : (level k : ℕ) → 0 < level → IsAbove level k → IsAbove (suc (level - 1)) k
  one_down level k pos a = subst (λ n. IsAbove n k) (let e : level ≡ suc (level - 1) = omega arith in e) a

  pub at_leaf : (k : ℕ) → IsAbove 0 k → IsLeastWith bound nodes label (k - bound)
  at_leaf k a =
      let low = a.low in let high = a.high in let e : bound + (k - bound) ≡ k = omega arith in
      record {
        within = omega arith;
        has = subst (λ i. bit_at (word_of nodes i) label ≡ 1) (sym e) a.has;
        least = λ m lt. a.lacks m (omega (arith, lt, e));
      }

-- the root is above all leaves
pub from_root : (bound levels : ℕ) (nodes : List ℕ) (t : IsTree bound levels nodes) (label : ℕ) → bound ≢ 0 → bit_at (word_of nodes 1) label ≢ 0 → IsAbove bound nodes t.mended label levels 1
from_root bound levels nodes t label some' one = (let p = t.power some' in record {
  pos = omega arith;
  low = omega (arith, p);
  high = omega (arith, p);
  has = omega (arith, one, bit_at-lt (word_of nodes 1) label);
  lacks = λ n lt. absurd (omega (arith, p, lt));
})

pub none_under : (bound levels : ℕ) (nodes : List ℕ) (t : IsTree bound levels nodes) (label : ℕ) → bit_at (word_of nodes 1) label ≡ 0 → (n : ℕ) → n < bound
    → bit_at (word_of nodes (bound + n)) label ≡ 0
none_under bound levels nodes t label none n lt = (let p = t.power (λ z. absurd (omega (arith, z, lt))) in
    under bound nodes t.mended label levels 1 (omega arith) none (omega (arith, p)) (bound + n) (omega (arith, p)) (omega (arith, p, lt)))

-- there are at most 2 ^ 40 numbers
pub few_numbers : (bound levels : ℕ) (nodes : List ℕ) → IsTree bound levels nodes → bound ≤ 2 ^ 40
few_numbers bound levels nodes t = elim (cases_eq bound 0) [
  | inl none ↦ omega (arith, none)
  | inr more ↦ (let p = t.power more in let m : 2 ^ levels ≤ 2 ^ 40 = pow_mono t.few in omega (arith, p, m))
]

-- The order of bytes and of keys.
use Rattle.std.proofs.Common.{◌≡◌, ◌⊎◌, ◌∙◌, ℕ, ◌<◌, ◌≤◌, List, [], ◌∷◌, ◌++◌, refl, sym, ap, subst, inl, inr, arith}
use Rattle.std.specs.Ordering.{nat_cmp, ordering_index, ordering_then, MatchOrdering}
use Rattle.std.specs.declared.cmp.Ordering.{Ordering}
use Rattle.std.specs.declared.cmp.Ordering.TheVariants.{Less, Equal, Greater}
use Rattle.std.proofs.lemmas.Bool.{cases_lt, cases_eq, lt-ltb, le-ltb, cond-true, cond-false, eq-eqb, ne_eqb}
use Rattle.std.proofs.lemmas.Cmp.{ranked}
use Rattle.rax_packed.specs.Packed.{order}

pub cmp_less : (x y : ℕ) → x < y → nat_cmp x y ≡ Less
cmp_less x y h = cond-true _ _ _ (lt-ltb x y h)

pub cmp_equal : (x y : ℕ) → x ≡ y → nat_cmp x y ≡ Equal
cmp_equal x y h = cond-false _ _ _ (le-ltb x y (omega arith)) ∙ cond-true _ _ _ (eq-eqb x y h)

pub cmp_greater : (x y : ℕ) → y < x → nat_cmp x y ≡ Greater
cmp_greater x y h = cond-false _ _ _ (le-ltb x y (omega arith)) ∙ cond-false _ _ _ (ne_eqb x y (λ e. omega arith))

pub less_cmp : (x y : ℕ) → nat_cmp x y ≡ Less → x < y
less_cmp x y h = subst (λ r. MatchOrdering r (x < y) (x ≡ y) (y < x)) h (ranked x y (nat_cmp x y) refl)

pub equal_cmp : (x y : ℕ) → nat_cmp x y ≡ Equal → x ≡ y
equal_cmp x y h = subst (λ r. MatchOrdering r (x < y) (x ≡ y) (y < x)) h (ranked x y (nat_cmp x y) refl)

pub greater_cmp : (x y : ℕ) → nat_cmp x y ≡ Greater → y < x
greater_cmp x y h = subst (λ r. MatchOrdering r (x < y) (x ≡ y) (y < x)) h (ranked x y (nat_cmp x y) refl)

-- a number is less than another, it, or greater
pub cases_order : (x y : ℕ) → (x < y) ⊎ ((x ≡ y) ⊎ (y < x))
cases_order x y = elim (cases_lt x y) [ inl less ↦ inl less | inr more ↦ elim (cases_eq x y) [ inl same ↦ inr (inl same) | inr other ↦ inr (inr (omega arith)) ] ]

-- where numbers rise, so do the answers of their comparison with another
pub index_rises : (x y e : ℕ) → x ≤ y → ordering_index (nat_cmp x e) ≤ ordering_index (nat_cmp y e)
index_rises x y e h = elim (cases_order x e) [
  | inl less ↦ (let a : ordering_index (nat_cmp x e) ≡ 0 = ap ordering_index (cmp_less x e less) in omega arith)
  | inr upto ↦ elim upto [
    | inl same ↦ (let a : ordering_index (nat_cmp x e) ≡ 1 = ap ordering_index (cmp_equal x e same) in
        elim (cases_order y e) [
          | inl less ↦ absurd (omega arith)
          | inr on ↦ elim on [
            | inl also ↦ (let b : ordering_index (nat_cmp y e) ≡ 1 = ap ordering_index (cmp_equal y e also) in omega arith)
            | inr more ↦ (let b : ordering_index (nat_cmp y e) ≡ 2 = ap ordering_index (cmp_greater y e more) in omega arith)
          ]
        ])
    | inr more ↦ (let a : ordering_index (nat_cmp x e) ≡ 2 = ap ordering_index (cmp_greater x e more) in
        let b : ordering_index (nat_cmp y e) ≡ 2 = ap ordering_index (cmp_greater y e (omega arith)) in omega arith)
  ]
]

-- keys that begin alike are in the order of their rests
pub order_append : (begin key other : List ℕ) → order (begin ++ key) (begin ++ other) ≡ order key other
order_append [] key other = refl
order_append (x ∷ begin) key other = ap (λ o. ordering_then o (order (begin ++ key) (begin ++ other))) (cmp_equal x x refl) ∙ order_append begin key other

pub order_less_in_keys : (begin key other : List ℕ) (x y : ℕ) → x < y → order (begin ++ x ∷ key) (begin ++ y ∷ other) ≡ Less
order_less_in_keys begin key other x y h = order_append begin (x ∷ key) (y ∷ other) ∙ ap (λ o. ordering_then o (order key other)) (cmp_less x y h)

pub order_greater_in_keys : (begin key other : List ℕ) (x y : ℕ) → y < x → order (begin ++ x ∷ key) (begin ++ y ∷ other) ≡ Greater
order_greater_in_keys begin key other x y h = order_append begin (x ∷ key) (y ∷ other) ∙ ap (λ o. ordering_then o (order key other)) (cmp_greater x y h)

pub order_same : (key : List ℕ) → order key key ≡ Equal
order_same [] = refl
order_same (x ∷ key) = ap (λ o. ordering_then o (order key key)) (cmp_equal x x refl) ∙ order_same key

by_first : (x y : ℕ) (o : Ordering) → ordering_then (nat_cmp x y) o ≡ Equal → (x ≡ y) × (o ≡ Equal)
by_first x y o h = elim (cases_order x y) [
  | inl less ↦ absurd (let a : ordering_then (nat_cmp x y) o ≡ Less = ap (λ p. ordering_then p o) (cmp_less x y less) in let bad : ◌≡◌ {A = Ordering} Less Equal = sym a ∙ h in cc)
  | inr upto ↦ elim upto [
    | inl same ↦ (same, sym (ap (λ p. ordering_then p o) (cmp_equal x y same)) ∙ h)
    | inr more ↦ absurd (let a : ordering_then (nat_cmp x y) o ≡ Greater = ap (λ p. ordering_then p o) (cmp_greater x y more) in let bad : ◌≡◌ {A = Ordering} Greater Equal = sym a ∙ h in cc)
  ]
]

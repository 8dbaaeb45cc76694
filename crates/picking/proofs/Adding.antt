-- Item numbers picked so far, with one more.
use Rattle.std.proofs.Common.{rules, ◌≡◌, ◌⊎◌, inl, inr, ℕ, ◌+◌, ◌<◌, ◌≤◌, true, false, List, [], ◌∷◌, ◌++◌, length, refl, sym, ap, subst, ◌∙◌, arith, length-append}
use Rattle.std.specs.List.{Contains}
use Rattle.std.specs.declared.cmp.Ordering.{Ordering}
use Rattle.std.specs.declared.cmp.Ordering.TheVariants.{Less, Equal, Greater}
use Rattle.std.specs.Ordering.{nat_cmp, is_eq}
use Rattle.std.specs.BTreeMap.{is_at}
use Rattle.std.specs.BTreeSet.{BTreeSet, contains}
use Rattle.std.specs.FinMap.{nat_cmp-IsAntisymmetric}
use Rattle.std.proofs.lemmas.Bool.{cond-true, cond-false, cases_Bool, cases_eq}
use Rattle.std.proofs.lemmas.List.Elements.{Contains-push, Contains-push_cases, Contains-append_left, Contains-append_right}
use Rattle.blocks.specs.Blocks.{Blocks}
use Rattle.picking.specs.Picks.{AreApart, IsThere}
use Rattle.picking.specs.Sofar.{Adds, AreSoFar}

-- a number behind numbers among which it isn't
apart_push : (xs : List ℕ) (y : ℕ) → AreApart xs → (Contains xs y → ⊥) → AreApart (xs ++ y ∷ [])
apart_push [] y apart new = (λ c. (let below : c.0 < 0 = c.1 in absurd (omega arith)), tt)
apart_push (x ∷ xs) y apart new = (
  (λ c. elim (Contains-push_cases xs y x c) [
    | inl there ↦ apart.0 there
    | inr same ↦ new (subst (λ (k : ℕ). Contains (x ∷ xs) k) (sym same) (0, omega arith, refl))
  ]),
  apart_push xs y apart.1 (λ c. new (Contains-append_right (x ∷ []) xs y c)),
)

-- the number that was asked for is the one that is found
at_same : (item q : ℕ) → is_at (nat_cmp item) q ≡ true → item ≡ q
at_same item q h = nat_cmp-IsAntisymmetric item q (equal (nat_cmp item q) h)
  where
    equal : (o : Ordering) → is_eq o ≡ true → o ≡ Equal
    equal Less h = cc
    equal Equal h = refl
    equal Greater h = cc

at_self : (item : ℕ) → is_at (nat_cmp item) item ≡ true
at_self item = search rules

module _ (sound : Blocks → Type 0) (has : Blocks → ℕ → Type 0) (n : ℕ) (old : List ℕ) (before : BTreeSet ℕ) (item : ℕ) (new : List ℕ) (after : BTreeSet ℕ)
    (p : Adds old before item new after) (s : AreSoFar sound has n old before) where
  -- what is in the tree afterwards
  in_tree : (q : ℕ) → contains nat_cmp after q ≡ true → (item ≡ q) ⊎ (contains nat_cmp before q ≡ true)
  in_tree q h = elim (cases_Bool (is_at (nat_cmp item) q)) [
    | inl at ↦ inl (at_same item q at)
    | inr off ↦ inr (sym (p.others q ∙ cond-false _ _ _ off) ∙ h)
  ]

  to_tree : (q : ℕ) → (item ≡ q) ⊎ (contains nat_cmp before q ≡ true) → contains nat_cmp after q ≡ true
  to_tree q (inl is) = p.others q ∙ cond-true _ _ _ (subst (λ (k : ℕ). is_at (nat_cmp item) k ≡ true) is (at_self item))
  to_tree q (inr h) = elim (cases_Bool (is_at (nat_cmp item) q)) [
    | inl at ↦ p.others q ∙ cond-true _ _ _ at
    | inr off ↦ p.others q ∙ cond-false _ _ _ off ∙ h
  ]

  -- and in the list
  pub in_list : (q : ℕ) → Contains new q → (item ≡ q) ⊎ Contains old q
  in_list q c = elim (cases_Bool (contains nat_cmp before item)) [
    | inl known ↦ inr (subst (λ (l : List ℕ). Contains l q) (p.known known) c)
    | inr fresh ↦ elim (Contains-push_cases old item q (subst (λ (l : List ℕ). Contains l q) (p.fresh fresh) c)) [ inl there ↦ inr there | inr same ↦ inl same ]
  ]

  pub old_stays : (q : ℕ) → Contains old q → Contains new q
  old_stays q c = elim (cases_Bool (contains nat_cmp before item)) [
    | inl known ↦ subst (λ (l : List ℕ). Contains l q) (sym (p.known known)) c
    | inr fresh ↦ subst (λ (l : List ℕ). Contains l q) (sym (p.fresh fresh)) (Contains-append_left old (item ∷ []) q c)
  ]

  pub item_there : Contains new item
  item_there = elim (cases_Bool (contains nat_cmp before item)) [
    | inl known ↦ subst (λ (l : List ℕ). Contains l item) (sym (p.known known)) ((s.same item).0 known)
    | inr fresh ↦ subst (λ (l : List ℕ). Contains l item) (sym (p.fresh fresh)) (Contains-push old item)
  ]

  to_list : (q : ℕ) → (item ≡ q) ⊎ Contains old q → Contains new q
  to_list q (inl is) = subst (λ (k : ℕ). Contains new k) is item_there
  to_list q (inr c) = old_stays q c

  side : (q : ℕ) → (item ≡ q) ⊎ (contains nat_cmp before q ≡ true) → (item ≡ q) ⊎ Contains old q
  side q (inl is) = inl is
  side q (inr h) = inr ((s.same q).0 h)

  back : (q : ℕ) → (item ≡ q) ⊎ Contains old q → (item ≡ q) ⊎ (contains nat_cmp before q ≡ true)
  back q (inl is) = inl is
  back q (inr c) = inr ((s.same q).1 c)

  differ : contains nat_cmp before item ≡ false → Contains old item → ⊥
  differ fresh c = let there : contains nat_cmp before item ≡ true = (s.same item).1 c in absurd cc

  apart_now : AreApart new
  apart_now = elim (cases_Bool (contains nat_cmp before item)) [
    | inl known ↦ subst AreApart (sym (p.known known)) s.apart
    | inr fresh ↦ subst AreApart (sym (p.fresh fresh)) (apart_push old item s.apart (differ fresh))
  ]

  few_now : length old < n → length new ≤ n
  few_now room = elim (cases_Bool (contains nat_cmp before item)) [
    | inl known ↦ (let e : length new ≡ length old = ap length (p.known known) in omega (arith, e, room))
    | inr fresh ↦ (let e : length new ≡ length old + 1 = ap length (p.fresh fresh) ∙ length-append old (item ∷ []) in omega (arith, e, room))
  ]

  real_now : IsThere sound has item → (q : ℕ) → Contains new q → IsThere sound has q
  real_now there q c = elim (in_list q c) [
    | inl is ↦ subst (λ (k : ℕ). IsThere sound has k) is there
    | inr before ↦ s.real q before
  ]

  pub one_more : length old < n → IsThere sound has item → AreSoFar sound has n new after
  one_more room there = record {
    apart = apart_now;
    real = real_now there;
    few = few_now room;
    same = λ q. ((λ h. to_list q (side q (in_tree q h))), (λ c. to_tree q (back q (in_list q c))));
  }

-- what was passed so far stands in the list, and so does the item number behind it
pub passed_more : (sound : Blocks → Type 0) (has : Blocks → ℕ → Type 0) (item : ℕ) (old new : List ℕ) → ((m : Blocks) → sound m → (at : ℕ) → at < item → has m at → Contains old at)
    → ((q : ℕ) → Contains old q → Contains new q)
    → ((m : Blocks) → sound m → has m item → Contains new item) → (m : Blocks) → sound m → (at : ℕ) → at < item + 1 → has m at → Contains new at
passed_more sound has item old new passed stays here m s at below h = elim (cases_eq at item) [
  | inl same ↦ subst (λ (k : ℕ). Contains new k) (sym same) (here m s (subst (λ (k : ℕ). has m k) same h))
  | inr differ ↦ stays at (passed m s at (omega (arith, below, differ)) h)
]

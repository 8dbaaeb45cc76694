-- The elements of item numbers that were picked.
use Rattle.std.proofs.Common.{◌≡◌, inl, inr, ℕ, suc, ℤ, pos, negsuc, ◌<◌, ◌≤◌, true, List, [], ◌∷◌, length, Option, Some, None, is_some, refl, sym, ap, subst, ◌∙◌, arith}
use Rattle.std.specs.Prelude.{IsSome, min, ◌==◌, if◌then◌else◌}
use Rattle.std.specs.List.{Contains}
use Rattle.std.specs.Ordering.{nat_cmp}
use Rattle.std.specs.Cmp.Lexicographic.{slice_cmp}
use Rattle.std.specs.FinMap.{FinMap, get, len}
use Rattle.std.proofs.lemmas.Bool.{cond-true, cond-false, eq-eqb, ne_eqb, cases_eq}
use Rattle.std.proofs.lemmas.List.{length-map}
use Rattle.blocks.specs.Blocks.{Blocks}
use Rattle.plain_world.specs.Picks as model
use Rattle.plain_world.proofs.Containing.{contains_first, contains_later, contains_cases}
use Rattle.picking.specs.Picks.{AreApart, ArePicks, IsPick}
use Rattle.picking.specs.Elements.{or_empty, elements_of, AreArranged}
use Rattle.picking.proofs.Counting.{AreOnce, nothing_in, counted_once, no_key, keys_at_least, keys_at_most}

-- an element that is there is the one
is_there : (o : Option (List ℕ)) → IsSome o → o ≡ Some (or_empty o)
is_there None h = absurd cc
is_there (Some x) h = refl

same_some : (a b : List ℕ) (o : Option (List ℕ)) → o ≡ Some a → o ≡ Some b → a ≡ b
same_some a b o h k = cc

module _ {V : Type 0} (keys : FinMap (slice_cmp nat_cmp) V) (element_at : ℕ → Option (List ℕ)) (arranged : AreArranged keys element_at) where
  -- each element is that of one of the item numbers
  back : (items : List ℕ) → ((at : ℕ) → Contains items at → IsSome (element_at at)) → (x : List ℕ) → Contains (elements_of element_at items) x → (at : ℕ) × Contains items at × (element_at at ≡ Some x)
  back [] real x c = absurd (nothing_in x c)
  back (at ∷ items) real x c = elim (contains_cases (or_empty (element_at at)) x (elements_of element_at items) c) [
    | inl same ↦ (at, contains_first at items, is_there (element_at at) (real at (contains_first at items)) ∙ ap Some same)
    | inr more ↦ (let rest = back items (λ other k. real other (contains_later at other items k)) x more in (rest.0, contains_later at rest.0 items rest.1, rest.2))
  ]

  -- and the element of each item number stands among them
  forth : (items : List ℕ) (at : ℕ) (x : List ℕ) → Contains items at → element_at at ≡ Some x → Contains (elements_of element_at items) x
  forth [] at x c is = absurd (nothing_in at c)
  forth (first ∷ items) at x c is = elim (contains_cases first at items c) [
    | inl same ↦ subst (λ (k : List ℕ). Contains (elements_of element_at (first ∷ items)) k) (ap (λ i. or_empty (element_at i)) same ∙ ap or_empty is)
        (contains_first (or_empty (element_at first)) (elements_of element_at items))
    | inr more ↦ contains_later (or_empty (element_at first)) x (elements_of element_at items) (forth items at x more is)
  ]

  once : (items : List ℕ) → AreApart items → ((at : ℕ) → Contains items at → IsSome (element_at at)) → AreOnce (elements_of element_at items)
  once [] apart real = tt
  once (at ∷ items) apart real =
      let here : element_at at ≡ Some (or_empty (element_at at)) = is_there (element_at at) (real at (contains_first at items)) in
      let later : (other : ℕ) → Contains items other → IsSome (element_at other) = λ other k. real other (contains_later at other items k) in (
        (λ c. (let other = back items later (or_empty (element_at at)) c in apart.0 (subst (λ (k : ℕ). Contains items k) (arranged.apart other.0 at (or_empty (element_at at)) other.2 here) other.1))),
        once items apart.1 later,
      )

  module _ (items : List ℕ) (real : (at : ℕ) → Contains items at → IsSome (element_at at)) where
    there : (x : List ℕ) → Contains (elements_of element_at items) x → is_some (get keys x) ≡ true
    there x c = let at = back items real x c in arranged.member at.0 x at.2

    as_many : length (elements_of element_at items) ≡ length items
    as_many = length-map items (λ at. or_empty (element_at at))

    -- different ones, at most so many
    several : (n : ℕ) → AreApart items → length items ≤ n → (length items < n → (at : ℕ) → IsSome (element_at at) → Contains items at) → length (elements_of element_at items) ≡ min n (len keys)
    several n apart few whole =
        let least = keys_at_least keys (elements_of element_at items) (once items apart real) there in
        elim (cases_eq (length items) n) [
          | inl full ↦ omega (arith, as_many, least, full)
          | inr short ↦
              (let most = keys_at_most keys (elements_of element_at items)
              (λ x h. (let at = arranged.found x h in forth items at.0 x (whole (omega (arith, few, short)) at.0 (subst (λ (o : Option (List ℕ)). IsSome o) (sym at.1) refl)) at.1)) in
              omega (arith, as_many, least, most, few))
        ]

    -- as many as were asked for, where there is one
    repeated : (n : ℕ) → length items ≤ suc n → (length items < suc n → (at : ℕ) → IsSome (element_at at) → ⊥) → length (elements_of element_at items) ≡ (if len keys == 0 then 0 else suc n)
    repeated n few whole = elim (cases_eq (len keys) 0) [
      | inl none ↦ empty_one (elements_of element_at items) (λ x c. keys_at_none x (there x c) none) ∙ sym (cond-true _ _ _ (eq-eqb (len keys) 0 none))
      | inr some ↦ (elim (cases_eq (length items) (suc n)) [
        | inl full ↦ as_many ∙ full
        | inr short ↦ absurd (some (no_key keys (λ x h. (let at = arranged.found x h in whole (omega (arith, few, short)) at.0 (subst (λ (o : Option (List ℕ)). IsSome o) (sym at.1) refl)))))
      ]) ∙ sym (cond-false _ _ _ (ne_eqb (len keys) 0 some))
    ]
      where
        empty_one : (list : List (List ℕ)) → ((x : List ℕ) → Contains list x → ⊥) → length list ≡ 0
        empty_one [] lacks = refl
        empty_one (x ∷ list) lacks = absurd (lacks x (contains_first x list))

        keys_at_none : (x : List ℕ) → is_some (get keys x) ≡ true → len keys ≡ 0 → ⊥
        keys_at_none x h none = let one = keys_at_least keys (x ∷ []) ((λ c. nothing_in x c), tt)
            (λ y c. elim (contains_cases x y [] c) [ inl same ↦ subst (λ (k : List ℕ). is_some (get keys k) ≡ true) same h | inr more ↦ absurd (nothing_in y more) ]) in
            omega (arith, one, none)

  module _ (sound : Blocks → Type 0) (has : Blocks → ℕ → Type 0) (m : Blocks) (holds : sound m) (to : (at : ℕ) → has m at → IsSome (element_at at))
      (from : (at : ℕ) → IsSome (element_at at) → has m at) where
    model_picks : (n : Option ℤ) (most : ℕ) (items : List ℕ) → model.picked n (len keys) ≡ min most (len keys) → ArePicks sound has most items
        → model.ArePicked (λ x. is_some (get keys x)) (len keys) n (elements_of element_at items)
    model_picks n most items many p =
        let real : (at : ℕ) → Contains items at → IsSome (element_at at) = λ at c. to at (p.real at c m holds) in
        record {
          many = several items real most p.apart p.few (λ short at is. p.whole short m holds at (from at is)) ∙ sym many;
          real = there items real;
          once = λ apart x. counted_once x (elements_of element_at items) (once items p.apart real);
        }

    -- what was picked is what the model lets pick
    pub are_picked : (n : Option ℤ) (items : List ℕ) → IsPick sound has n items → model.ArePicked (λ x. is_some (get keys x)) (len keys) n (elements_of element_at items)
    are_picked None items p = model_picks None 1 items refl p
    are_picked (Some (pos n)) items p = model_picks (Some (pos n)) n items refl p
    are_picked (Some (negsuc n)) items p =
        let real : (at : ℕ) → Contains items at → IsSome (element_at at) = λ at c. to at (p.real at c m holds) in
        record {
          many = repeated items real n p.few (λ short at is. p.whole short m holds at (from at is));
          real = there items real;
          once = λ apart x. absurd cc;
        }

-- each item number that was picked is one of an element
pub are_real : (sound : Blocks → Type 0) (has : Blocks → ℕ → Type 0) (n : Option ℤ) (items : List ℕ) → IsPick sound has n items → (m : Blocks) → sound m → (at : ℕ) → Contains items at → has m at
are_real sound has None items p m holds at c = p.real at c m holds
are_real sound has (Some (pos n)) items p m holds at c = p.real at c m holds
are_real sound has (Some (negsuc n)) items p m holds at c = p.real at c m holds

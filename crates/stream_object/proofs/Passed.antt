-- Lists of marks, of which some are passed after others.
use Rattle.std.proofs.Common.{◌≡◌, ◌∙◌, ◌⊎◌, ℕ, zero, suc, ◌+◌, ◌<◌, ◌≤◌, Bool, true, false, cond, List, [], ◌∷◌, ◌++◌, length, Some, None, slice_get, refl, sym, ap, subst, inl, inr, arith}
use Rattle.std.specs.Prelude.{◌==◌, count_by}
use Rattle.std.specs.List.{AllByRecursion}
use Rattle.std.proofs.lemmas.Bool.{cases_Bool, cases_lt, cond-true, cond-false}
use Rattle.std.proofs.lemmas.Bool.Decides.{nat_tests}
use Rattle.std.proofs.lemmas.List.Sums.{sum_by-cons, sum_by-append}
use Rattle.blocks.specs.declared.BlockRef.{BlockRef}
use Rattle.blocks.specs.Slabs.{Heap, wants, Calmer}
use Rattle.collection_walk.specs.Marks.{is_passed, is_within, ArePassed}
use Rattle.rax_packed.proofs.Entries.{all_weaker}
use Rattle.stream_object.specs.Relocation.{PassesOne, PassesAll}

pub passes_append : (h : Heap) (p : ℕ → Bool) (ks ls : List ℕ) (us ws vs zs : List BlockRef) → PassesAll h p ks us vs → PassesAll h p ls ws zs → PassesAll h p (ks ++ ls) (us ++ ws) (vs ++ zs)
passes_append h p [] ls [] ws [] zs x y = y
passes_append h p [] ls [] ws (b ∷ vs) zs x y = absurd x
passes_append h p [] ls (a ∷ us) ws vs zs x y = absurd x
passes_append h p (k ∷ ks) ls [] ws vs zs x y = absurd x
passes_append h p (k ∷ ks) ls (a ∷ us) ws [] zs x y = absurd x
passes_append h p (k ∷ ks) ls (a ∷ us) ws (b ∷ vs) zs x y = (x.0, passes_append h p ks ls us ws vs zs x.1 y)

-- a mark is passed by a call that follows another, by one of both
pub record IsSum (p q r : ℕ → Bool) (k : ℕ) : Type 0 where
  pub first : p k ≡ true → (q k ≡ false) × (r k ≡ true)
  pub second : q k ≡ true → (p k ≡ false) × (r k ≡ true)
  pub none : p k ≡ false → q k ≡ false → r k ≡ false

-- one call after another
pub passes_then : (h l : Heap) (p q r : ℕ → Bool) (ks : List ℕ) (us vs ws : List BlockRef) → Calmer h l → AllByRecursion (IsSum p q r) ks → PassesAll h p ks us vs → PassesAll l q ks vs ws
    → PassesAll l r ks us ws
passes_then h l p q r [] [] [] [] calmer sum x y = tt
passes_then h l p q r [] [] [] (c ∷ ws) calmer sum x y = absurd y
passes_then h l p q r [] [] (b ∷ vs) ws calmer sum x y = absurd x
passes_then h l p q r [] (a ∷ us) vs ws calmer sum x y = absurd x
passes_then h l p q r (k ∷ ks) [] vs ws calmer sum x y = absurd x
passes_then h l p q r (k ∷ ks) (a ∷ us) [] ws calmer sum x y = absurd x
passes_then h l p q r (k ∷ ks) (a ∷ us) (b ∷ vs) [] calmer sum x y = absurd y
passes_then h l p q r (k ∷ ks) (a ∷ us) (b ∷ vs) (c ∷ ws) calmer sum x y = (one (cases_Bool (p k)) (cases_Bool (q k)), passes_then h l p q r ks us vs ws calmer sum.1 x.1 y.1)
  where
    one : (p k ≡ true) ⊎ (p k ≡ false) → (q k ≡ true) ⊎ (q k ≡ false) → PassesOne l r k a c
    one (inl pt) (inl qt) = absurd (let bad : true ≡ false = sym qt ∙ (sum.0.first pt).0 in cc)
    one (inl pt) (inr qf) = record {
      calm = λ is. subst (λ z. wants l z ≡ false) (sym (y.0.stays qf)) (calmer.calm b (x.0.calm pt));
      stays = λ out. absurd (let bad : true ≡ false = sym (sum.0.first pt).1 ∙ out in cc);
    }
    one (inr pf) (inl qt) = record { calm = λ is. y.0.calm qt; stays = λ out. absurd (let bad : true ≡ false = sym (sum.0.second qt).1 ∙ out in cc) }
    one (inr pf) (inr qf) = record { calm = λ is. absurd (let bad : true ≡ false = sym is ∙ sum.0.none pf qf in cc); stays = λ out. y.0.stays qf ∙ x.0.stays pf }

-- how many pass a test, by the first and the others
pub count_cons : (p : ℕ → Bool) (k : ℕ) (ks : List ℕ) → count_by p (k ∷ ks) ≡ cond (p k) 1 0 + count_by p ks
count_cons p k ks = sum_by-cons (λ n. cond (p n) 1 0) k ks

pub count_append : (p : ℕ → Bool) (xs ys : List ℕ) → count_by p (xs ++ ys) ≡ count_by p xs + count_by p ys
count_append p xs ys = sum_by-append (λ n. cond (p n) 1 0) xs ys

-- as many as both passed
pub count_then : (p q r : ℕ → Bool) (ks : List ℕ) → AllByRecursion (IsSum p q r) ks → count_by r ks ≡ count_by p ks + count_by q ks
count_then p q r [] sum = refl
count_then p q r (k ∷ ks) sum = one (cases_Bool (p k)) (cases_Bool (q k)) (count_then p q r ks sum.1)
  where
    one : (p k ≡ true) ⊎ (p k ≡ false) → (q k ≡ true) ⊎ (q k ≡ false) → count_by r ks ≡ count_by p ks + count_by q ks → count_by r (k ∷ ks) ≡ count_by p (k ∷ ks) + count_by q (k ∷ ks)
    one (inl pt) (inl qt) rest = absurd (let bad : true ≡ false = sym qt ∙ (sum.0.first pt).0 in cc)
    one (inl pt) (inr qf) rest =
        (let a : cond {A = ℕ} (p k) 1 0 ≡ 1 = cond-true _ _ _ pt in let b : cond {A = ℕ} (q k) 1 0 ≡ 0 = cond-false _ _ _ qf in let d : cond {A = ℕ} (r k) 1 0 ≡ 1 =
        cond-true _ _ _ (sum.0.first pt).1 in omega (arith, a, b, d, rest, count_cons p k ks, count_cons q k ks, count_cons r k ks))
    one (inr pf) (inl qt) rest =
        (let a : cond {A = ℕ} (p k) 1 0 ≡ 0 = cond-false _ _ _ pf in let b : cond {A = ℕ} (q k) 1 0 ≡ 1 = cond-true _ _ _ qt in let d : cond {A = ℕ} (r k) 1 0 ≡ 1 =
        cond-true _ _ _ (sum.0.second qt).1 in omega (arith, a, b, d, rest, count_cons p k ks, count_cons q k ks, count_cons r k ks))
    one (inr pf) (inr qf) rest =
        (let a : cond {A = ℕ} (p k) 1 0 ≡ 0 = cond-false _ _ _ pf in let b : cond {A = ℕ} (q k) 1 0 ≡ 0 = cond-false _ _ _ qf in let d : cond {A = ℕ} (r k) 1 0 ≡ 0 =
        cond-false _ _ _ (sum.0.none pf qf) in omega (arith, a, b, d, rest, count_cons p k ks, count_cons q k ks, count_cons r k ks))

-- the same by another test that answers the same
pub passes_same : (h : Heap) (p q : ℕ → Bool) (ks : List ℕ) (us vs : List BlockRef) → AllByRecursion (λ k. q k ≡ p k) ks → PassesAll h p ks us vs → PassesAll h q ks us vs
passes_same h p q [] [] [] same x = tt
passes_same h p q [] [] (b ∷ vs) same x = absurd x
passes_same h p q [] (a ∷ us) vs same x = absurd x
passes_same h p q (k ∷ ks) [] vs same x = absurd x
passes_same h p q (k ∷ ks) (a ∷ us) [] same x = absurd x
passes_same h p q (k ∷ ks) (a ∷ us) (b ∷ vs) same x = (record { calm = λ is. x.0.calm (sym same.0 ∙ is); stays = λ out. x.0.stays (sym same.0 ∙ out) }, passes_same h p q ks us vs same.1 x.1)

pub count_same : (p q : ℕ → Bool) (ks : List ℕ) → AllByRecursion (λ k. q k ≡ p k) ks → count_by q ks ≡ count_by p ks
count_same p q [] same = refl
count_same p q (k ∷ ks) same = (let a : cond {A = ℕ} (q k) 1 0 ≡ cond (p k) 1 0 = ap (λ t. cond t 1 0) same.0 in omega (arith, a, count_same p q ks same.1, count_cons p k ks, count_cons q k ks))

-- the same told by indices
pub passes_indexed : (h : Heap) (p : ℕ → Bool) (ks : List ℕ) (us vs : List BlockRef) → PassesAll h p ks us vs → ArePassed h p ks us vs
passes_indexed h p ks us vs x = record { calm = calm_at ks us vs x; stays = stay_at ks us vs x }
  where
    calm_at : (ks : List ℕ) (us vs : List BlockRef) → PassesAll h p ks us vs → (index mark : ℕ) (r : BlockRef) → slice_get ks index ≡ Some mark → slice_get vs index ≡ Some r
        → p mark ≡ true → wants h r ≡ false
    calm_at [] [] [] x index mark r marked named is = cc
    calm_at [] [] (b ∷ vs) x index mark r marked named is = absurd x
    calm_at [] (a ∷ us) vs x index mark r marked named is = absurd x
    calm_at (k ∷ ks) [] vs x index mark r marked named is = absurd x
    calm_at (k ∷ ks) (a ∷ us) [] x index mark r marked named is = absurd x
    calm_at (k ∷ ks) (a ∷ us) (b ∷ vs) x zero mark r marked named is =
        (let one : k ≡ mark = cc in let two : b ≡ r = cc in subst (λ z. wants h z ≡ false) two (x.0.calm (ap p one ∙ is)))
    calm_at (k ∷ ks) (a ∷ us) (b ∷ vs) x (suc index) mark r marked named is = calm_at ks us vs x.1 index mark r marked named is

    stay_at : (ks : List ℕ) (us vs : List BlockRef) → PassesAll h p ks us vs → (index mark : ℕ) → slice_get ks index ≡ Some mark → p mark ≡ false → slice_get vs index ≡ slice_get us index
    stay_at [] [] [] x index mark marked out = refl
    stay_at [] [] (b ∷ vs) x index mark marked out = absurd x
    stay_at [] (a ∷ us) vs x index mark marked out = absurd x
    stay_at (k ∷ ks) [] vs x index mark marked out = absurd x
    stay_at (k ∷ ks) (a ∷ us) [] x index mark marked out = absurd x
    stay_at (k ∷ ks) (a ∷ us) (b ∷ vs) x zero mark marked out = (let one : k ≡ mark = cc in ap Some (x.0.stays (ap p one ∙ out)))
    stay_at (k ∷ ks) (a ∷ us) (b ∷ vs) x (suc index) mark marked out = stay_at ks us vs x.1 index mark marked out

-- nothing passed
pub passes_none : (h : Heap) (p : ℕ → Bool) (ks : List ℕ) (us : List BlockRef) → length ks ≡ length us → AllByRecursion (λ k. p k ≡ false) ks → PassesAll h p ks us us
passes_none h p [] [] many none = tt
passes_none h p [] (a ∷ us) many none = absurd (omega (arith, many))
passes_none h p (k ∷ ks) [] many none = absurd (omega (arith, many))
passes_none h p (k ∷ ks) (a ∷ us) many none = (record { calm = λ is. absurd (let bad : true ≡ false = sym is ∙ none.0 in cc); stays = λ out. refl }, passes_none h p ks us (omega (arith, many)) none.1)

-- nothing wants to move
pub passes_calm : (h : Heap) (p : ℕ → Bool) (ks : List ℕ) (us : List BlockRef) → length ks ≡ length us → ((r : BlockRef) → wants h r ≡ false) → PassesAll h p ks us us
passes_calm h p [] [] many calm = tt
passes_calm h p [] (a ∷ us) many calm = absurd (omega (arith, many))
passes_calm h p (k ∷ ks) [] many calm = absurd (omega (arith, many))
passes_calm h p (k ∷ ks) (a ∷ us) many calm = (record { calm = λ is. calm a; stays = λ out. refl }, passes_calm h p ks us (omega (arith, many)) calm)

-- no mark lies between
abbrev pub IsBeside : ℕ → ℕ → ℕ → Type 0
IsBeside at n k = (k < at) ⊎ (n ≤ k)

-- the marks to below one, and that one
pub sum_beside : (from at n : ℕ) → from ≤ n → at ≤ n → (k : ℕ) → IsBeside at n k → IsSum (is_within from at) (λ m. m == n) (is_within from (n + 1)) k
sum_beside from at n low order k (inl less) = record
    { first = λ h. (grind (arith, nat_tests), grind (arith, nat_tests)); second = λ h. (grind (arith, nat_tests), grind (arith, nat_tests)); none = λ a b. grind (arith, nat_tests) }
sum_beside from at n low order k (inr more) = record
    { first = λ h. (grind (arith, nat_tests), grind (arith, nat_tests)); second = λ h. (grind (arith, nat_tests), grind (arith, nat_tests)); none = λ a b. grind (arith, nat_tests) }

-- going on at the next mark is to have passed those below it
pub next_same : (from at n : ℕ) → at ≤ n → (k : ℕ) → IsBeside at n k → is_passed from (Some n) k ≡ is_within from at k
next_same from at n order k (inl less) = grind (arith, nat_tests)
next_same from at n order k (inr more) = grind (arith, nat_tests)

pub end_same : (from at k : ℕ) → k < at → is_passed from None k ≡ is_within from at k
end_same from at k less = grind (arith, nat_tests)

pub none_within : (from k : ℕ) → is_within from from k ≡ false
none_within from k = elim (cases_lt k from) [ inl less ↦ grind (arith, nat_tests) | inr more ↦ grind (arith, nat_tests) ]

pub count_zero : (p : ℕ → Bool) (ks : List ℕ) → AllByRecursion (λ k. p k ≡ false) ks → count_by p ks ≡ 0
count_zero p [] none = refl
count_zero p (k ∷ ks) none = (let a : cond {A = ℕ} (p k) 1 0 ≡ 0 = cond-false _ _ _ none.0 in omega (arith, a, count_zero p ks none.1, count_cons p k ks))

-- one key more
pub step_all : (h l : Heap) (from at n : ℕ) (ks : List ℕ) (us vs ws : List BlockRef) → from ≤ n → at ≤ n → AllByRecursion (IsBeside at n) ks → Calmer h l
    → PassesAll h (is_within from at) ks us vs → PassesAll l (λ m. m == n) ks vs ws → PassesAll l (is_within from (n + 1)) ks us ws
step_all h l from at n ks us vs ws low order beside calmer x y =
    passes_then h l (is_within from at) (λ m. m == n) (is_within from (n + 1)) ks us vs ws calmer
    (all_weaker (IsBeside at n) (IsSum (is_within from at) (λ m. m == n) (is_within from (n + 1))) ks (sum_beside from at n low order) beside) x y

pub step_count : (from at n : ℕ) (ks : List ℕ) → from ≤ n → at ≤ n → AllByRecursion (IsBeside at n) ks
    → count_by (is_within from (n + 1)) ks ≡ count_by (is_within from at) ks + count_by (λ m. m == n) ks
step_count from at n ks low order beside =
    count_then (is_within from at) (λ m. m == n) (is_within from (n + 1)) ks
    (all_weaker (IsBeside at n) (IsSum (is_within from at) (λ m. m == n) (is_within from (n + 1))) ks (sum_beside from at n low order) beside)

-- the next mark is this one
pub next_all : (from at n : ℕ) (ks : List ℕ) → at ≤ n → AllByRecursion (IsBeside at n) ks → AllByRecursion (λ k. is_passed from (Some n) k ≡ is_within from at k) ks
next_all from at n ks order beside = all_weaker (IsBeside at n) (λ k. is_passed from (Some n) k ≡ is_within from at k) ks (next_same from at n order) beside

-- no mark is left
pub end_all : (from at : ℕ) (ks : List ℕ) → AllByRecursion (λ k. k < at) ks → AllByRecursion (λ k. is_passed from None k ≡ is_within from at k) ks
end_all from at ks less = all_weaker (λ k. k < at) (λ k. is_passed from None k ≡ is_within from at k) ks (end_same from at) less

pub each_none : (from : ℕ) (ks : List ℕ) → AllByRecursion (λ k. is_within from from k ≡ false) ks
each_none from [] = tt
each_none from (k ∷ ks) = (none_within from k, each_none from ks)

-- Which elements a list of scores and members has, and which it has after an edit.
use Rattle.std.proofs.Common.{◌≡◌, ◌≢◌, ◌⊎◌, inl, inr, ℕ, zero, suc, ◌<◌, ◌≤◌, true, false, Bool, List, [], ◌∷◌, length, get_or, Option, Some, None, refl, sym, ap, ◌∙◌, arith, Less, Equal}
use Rattle.std.proofs.Common.{cond, count_by, is_lt}
use Rattle.std.specs.Prelude.{Contains}
use Rattle.std.proofs.lemmas.Cmp.{tied_itself}
use Rattle.blocks.specs.declared.BlockRef.{BlockRef}
use Rattle.blocks.specs.Blocks.{Blocks}
use Rattle.blocks.proofs.Sums.{count_cons}
use Rattle.blocks.proofs.Change.{one_if}
use Rattle.score_list.specs.Linked.{Element, no_element, with_at, without_at, renamed_at}
use Rattle.score_list.specs.Sorted.{Key, key_of, key_cmp, AllBehind, IsSorted, Misses, Removes, place_of, is_below}
use Rattle.score_list.proofs.Sortings.{keys_total}

-- the list has the element
abbrev pub Among : List Element → Element → Type 0
Among [] x = ⊥
Among (y ∷ ys) x = (y ≡ x) ⊎ Among ys x

-- an element that a list contains at an index is among the list
pub among_contained : (xs : List Element) (x : Element) → Contains xs x → Among xs x
among_contained xs x h = at xs h.0 h.1 h.2
  where
    at : (xs : List Element) (k : ℕ) → k < length xs → get_or xs k x ≡ x → Among xs x
    at [] k lt is = absurd (omega arith)
    at (y ∷ ys) zero lt is = inl is
    at (y ∷ ys) (suc k) lt is = inr (at ys k (omega (arith, lt)) is)

-- an element among a list is contained in it at an index
pub contained_among : (xs : List Element) (x : Element) → Among xs x → Contains xs x
contained_among [] x h = absurd h
contained_among (y ∷ ys) x (inl e) = (0, omega arith, e)
contained_among (y ∷ ys) x (inr h) = (let p = contained_among ys x h in (suc p.0, omega (arith, p.1), p.2))

-- the element at a rank below the length is among the list
pub among_at : (xs : List Element) (n : ℕ) → n < length xs → Among xs (get_or xs n no_element)
among_at [] n lt = absurd (omega arith)
among_at (y ∷ ys) zero lt = inl refl
among_at (y ∷ ys) (suc n) lt = inr (among_at ys n (omega (arith, lt)))

-- ---- by their keys

-- a key that is less than another differs from it
pub less_differs : (x y : Key) → key_cmp x y ≡ Less → x ≢ y
less_differs x y e same = (let q : key_cmp x y ≡ Equal = ap (key_cmp x) (sym same) ∙ tied_itself keys_total x in cc)

module _ (m : Blocks) where
  -- a key behind which all of a list stand is less than the key of each element among it
  pub behind_among : (k : Key) (xs : List Element) (x : Element) → AllBehind m k xs → Among xs x → key_cmp k (key_of m x) ≡ Less
  behind_among k [] x a h = absurd h
  behind_among k (y ∷ ys) x a (inl e) = ap (λ (z : Element). key_cmp k (key_of m z)) (sym e) ∙ a.0
  behind_among k (y ∷ ys) x a (inr h) = behind_among k ys x a.1 h

  -- no two elements of a sorted list have one key
  pub among_once : (xs : List Element) (x y : Element) → IsSorted m xs → Among xs x → Among xs y → key_of m x ≡ key_of m y → x ≡ y
  among_once [] x y s h g same = absurd h
  among_once (z ∷ zs) x y s (inl e) (inl f) same = sym e ∙ f
  among_once (z ∷ zs) x y s (inl e) (inr g) same = absurd (less_differs (key_of m z) (key_of m y) (behind_among (key_of m z) zs y s.1 g) (ap (key_of m) e ∙ same))
  among_once (z ∷ zs) x y s (inr h) (inl f) same = absurd (less_differs (key_of m z) (key_of m x) (behind_among (key_of m z) zs x s.1 h) (ap (key_of m) f ∙ sym same))
  among_once (z ∷ zs) x y s (inr h) (inr g) same = among_once zs x y s.2 h g same

  -- a list among which no element has a key misses the key
  pub misses_all : (key : Key) (xs : List Element) → ((x : Element) → Among xs x → key_of m x ≢ key) → Misses m key xs
  misses_all key [] h = tt
  misses_all key (x ∷ xs) h = (h x (inl refl), misses_all key xs (λ y g. h y (inr g)))

  -- no element among a list that misses a key has the key
  pub missed : (key : Key) (xs : List Element) (x : Element) → Misses m key xs → Among xs x → key_of m x ≢ key
  missed key [] x h g = absurd g
  missed key (y ∷ ys) x h (inl e) = λ same. h.0 (ap (key_of m) e ∙ same)
  missed key (y ∷ ys) x h (inr g) = missed key ys x h.1 g

-- ---- after an edit

-- what is among a list with y put in at a rank is y, or was among the list
pub among_with : (xs : List Element) (n : ℕ) (y x : Element) → Among (with_at xs n y) x → (y ≡ x) ⊎ Among xs x
among_with [] zero y x h = h
among_with [] (suc n) y x h = h
among_with (z ∷ zs) zero y x h = h
among_with (z ∷ zs) (suc n) y x (inl e) = inr (inl e)
among_with (z ∷ zs) (suc n) y x (inr h) = elim (among_with zs n y x h) [ inl e ↦ inl e | inr g ↦ inr (inr g) ]

-- y, and what was among a list, is among the list with y put in at a rank
pub with_among : (xs : List Element) (n : ℕ) (y x : Element) → (y ≡ x) ⊎ Among xs x → Among (with_at xs n y) x
with_among [] zero y x h = h
with_among [] (suc n) y x h = h
with_among (z ∷ zs) zero y x h = h
with_among (z ∷ zs) (suc n) y x (inl e) = inr (with_among zs n y x (inl e))
with_among (z ∷ zs) (suc n) y x (inr (inl e)) = inl e
with_among (z ∷ zs) (suc n) y x (inr (inr h)) = inr (with_among zs n y x (inr h))

-- what is among a list without the element at a rank was among the list
among_without : (xs : List Element) (n : ℕ) (x : Element) → Among (without_at xs n) x → Among xs x
among_without [] zero x h = absurd h
among_without [] (suc n) x h = absurd h
among_without (z ∷ zs) zero x h = inr h
among_without (z ∷ zs) (suc n) x (inl e) = inl e
among_without (z ∷ zs) (suc n) x (inr h) = inr (among_without zs n x h)

-- what is among a list and differs from the element at a rank stays where that one leaves
without_among : (xs : List Element) (n : ℕ) (x : Element) → x ≢ get_or xs n no_element → Among xs x → Among (without_at xs n) x
without_among [] n x ne h = absurd h
without_among (z ∷ zs) zero x ne (inl e) = absurd (ne (sym e))
without_among (z ∷ zs) zero x ne (inr h) = h
without_among (z ∷ zs) (suc n) x ne (inl e) = inl e
without_among (z ∷ zs) (suc n) x ne (inr h) = inr (without_among zs n x ne h)

-- what is among a list with another block at a rank is the score there with that block, or one of the others
among_renamed : (xs : List Element) (n : ℕ) (new : BlockRef) (x : Element) → n < length xs → Among (renamed_at xs n new) x → (((get_or xs n no_element).0, new) ≡ x) ⊎ Among (without_at xs n) x
among_renamed [] n new x lt h = absurd (omega (arith, lt))
among_renamed (z ∷ zs) zero new x lt h = h
among_renamed (z ∷ zs) (suc n) new x lt (inl e) = inr (inl e)
among_renamed (z ∷ zs) (suc n) new x lt (inr h) = elim (among_renamed zs n new x (omega (arith, lt)) h) [ inl e ↦ inl e | inr g ↦ inr (inr g) ]

-- the score at a rank with another block, and the others, are among the list with that block there
renamed_among : (xs : List Element) (n : ℕ) (new : BlockRef) (x : Element) → n < length xs → (((get_or xs n no_element).0, new) ≡ x) ⊎ Among (without_at xs n) x → Among (renamed_at xs n new) x
renamed_among [] n new x lt h = absurd (omega (arith, lt))
renamed_among (z ∷ zs) zero new x lt h = h
renamed_among (z ∷ zs) (suc n) new x lt (inl e) = inr (renamed_among zs n new x (omega (arith, lt)) (inl e))
renamed_among (z ∷ zs) (suc n) new x lt (inr (inl e)) = inl e
renamed_among (z ∷ zs) (suc n) new x lt (inr (inr h)) = inr (renamed_among zs n new x (omega (arith, lt)) (inr h))

module _ (m : Blocks) where
  -- the element at a rank of a sorted list is gone from the list without it
  gone : (xs : List Element) (n : ℕ) → IsSorted m xs → n < length xs → Among (without_at xs n) (get_or xs n no_element) → ⊥
  gone [] n s lt h = omega (arith, lt)
  gone (z ∷ zs) zero s lt h = less_differs (key_of m z) (key_of m z) (behind_among m (key_of m z) zs z s.1 h) refl
  gone (z ∷ zs) (suc n) s lt (inl e) = less_differs (key_of m z) (key_of m (get_or zs n no_element))
      (behind_among m (key_of m z) zs (get_or zs n no_element) s.1 (among_at zs n (omega (arith, lt)))) (ap (key_of m) e)
  gone (z ∷ zs) (suc n) s lt (inr h) = gone zs n s.2 (omega (arith, lt)) h

-- The second list has the first one's elements, but `is` in place of `was`.
pub record Follows (xs ys : List Element) (was is : Option Element) : Type 0 where
  pub onto : (x : Element) → Among ys x → (is ≡ Some x) ⊎ (Among xs x × (was ≢ Some x))
  pub with_new : (x : Element) → is ≡ Some x → Among ys x
  pub with_old : (x : Element) → Among xs x → was ≢ Some x → Among ys x

-- elements that are the same as options are the same
some_same : (x y : Element) → Some x ≡ Some y → x ≡ y
some_same x y h = cc

-- no element makes the option of none
none_some : (x : Element) → None ≢ Some x
none_some x h = cc

-- a list with y put in at a rank has the elements of the list, and y beside them
pub follows_with : (xs : List Element) (n : ℕ) (y : Element) → Follows xs (with_at xs n y) None (Some y)
follows_with xs n y = record {
  onto = λ x h. elim (among_with xs n y x h) [ inl e ↦ inl (ap Some e) | inr g ↦ inr (g, none_some x) ];
  with_new = λ x e. with_among xs n y x (inl (some_same y x e));
  with_old = λ x h ne. with_among xs n y x (inr h);
}

module _ (m : Blocks) (xs : List Element) (s : IsSorted m xs) (y : Element) (h : Among xs y) where
  module _ (n : ℕ) (lt : n < length xs) (key_is : key_of m (get_or xs n no_element) ≡ key_of m y) where
    -- the element of this key
    pub it_is : get_or xs n no_element ≡ y
    it_is = among_once m xs (get_or xs n no_element) y s (among_at xs n lt) h key_is

    -- no element of the list without the one of this key is that one
    not_it : (x : Element) → Among (without_at xs n) x → Some y ≢ Some x
    not_it x g same = gone m xs n s lt (let q : x ≡ get_or xs n no_element = sym (some_same y x same) ∙ sym it_is in rw (← q) g)

    -- every element of the list but the one of this key is among the list without that one
    still : (x : Element) → Among xs x → Some y ≢ Some x → Among (without_at xs n) x
    still x g ne = without_among xs n x (λ same. ne (ap Some (sym (same ∙ it_is)))) g

    -- the list without the element of this key has all others, and nothing in place of that one
    pub follows_without : Follows xs (without_at xs n) (Some y) None
    follows_without = record {
      onto = λ x g. inr (among_without xs n x g, not_it x g);
      with_new = λ x e. absurd (none_some x e);
      with_old = still;
    }

    -- the list with another block at this rank has the score with that block in place of the element of this key
    pub follows_renamed : (new : BlockRef) → Follows xs (renamed_at xs n new) (Some y) (Some (y.0, new))
    follows_renamed new = record {
      onto = λ x g. elim (among_renamed xs n new x lt g) [
        | inl e ↦ inl (ap Some (sym named ∙ e))
        | inr r ↦ inr (among_without xs n x r, not_it x r)
      ];
      with_new = λ x e. renamed_among xs n new x lt (inl (named ∙ some_same (y.0, new) x e));
      with_old = λ x g ne. renamed_among xs n new x lt (inr (still x g ne));
    }
      where
        named : ◌≡◌ {A = Element} ((get_or xs n no_element).0, new) (y.0, new)
        named = ap (λ (e : Element). let p : Element = (e.0, new) in p) it_is

  -- what a removal of its key leaves
  pub follows_removed : (removed : Bool) (ys : List Element) → Removes m (key_of m y) xs removed ys → Follows xs ys (Some y) None
  follows_removed true ys r = rw r.1 (follows_without (place_of m (key_of m y) xs) r.0.0 r.0.1)
  follows_removed false ys r = absurd (missed m (key_of m y) xs y r.0 h refl)

-- one element is gone, and another one joins
pub follows_moved : (xs zs ys : List Element) (p q : Element) → Follows xs zs (Some p) None → Follows zs ys None (Some q) → Follows xs ys (Some p) (Some q)
follows_moved xs zs ys p q f g = record {
  onto = λ x h. elim (g.onto x h) [
    | inl e ↦ inl e
    | inr r ↦ elim (f.onto x r.0) [ inl e ↦ absurd (none_some x e) | inr o ↦ inr o ]
  ];
  with_new = λ x e. g.with_new x e;
  with_old = λ x h ne. g.with_old x (f.with_old x h ne) (none_some x);
}

-- ---- an insert that is undone

-- a list with an element put in at a rank, and the one there taken out again, is as it was
undo : (xs : List Element) (n : ℕ) (y : Element) → n ≤ length xs → without_at (with_at xs n y) n ≡ xs
undo [] zero y le = refl
undo [] (suc n) y le = absurd (omega arith)
undo (x ∷ xs) zero y le = refl
undo (x ∷ xs) (suc n) y le = ap (λ ys. x ∷ ys) (undo xs n y (omega (arith, le)))

-- an element put in that fails a test leaves the count of those that pass it
count_with : (f : Element → Bool) (xs : List Element) (n : ℕ) (y : Element) → f y ≡ false → count_by f (with_at xs n y) ≡ count_by f xs
count_with f [] zero y out = omega (arith, count_cons f y [], ap one_if out)
count_with f [] (suc n) y out = omega (arith, count_cons f y [], ap one_if out)
count_with f (x ∷ xs) zero y out = omega (arith, count_cons f y (x ∷ xs), ap one_if out)
count_with f (x ∷ xs) (suc n) y out = omega (arith, count_cons f x (with_at xs n y), count_cons f x xs, count_with f xs n y out)

-- at most as many elements pass a test as the list is long
few : (f : Element → Bool) (xs : List Element) → count_by f xs ≤ length xs
few f [] = omega arith
few f (x ∷ xs) = omega (arith, count_cons f x xs, few f xs, at_most (f x))
  where
    at_most : (b : Bool) → cond b 1 0 ≤ 1
    at_most true = omega arith
    at_most false = omega arith

-- a list with y put in at its place, out of which the key of y is removed, is as it was
pub undone : (m : Blocks) (xs ys : List Element) (y : Element) (removed : Bool) → Removes m (key_of m y) (with_at xs (place_of m (key_of m y) xs) y) removed ys → ys ≡ xs
undone m xs ys y true r = r.1 ∙ ap (without_at (with_at xs place y)) same ∙ undo xs place y (few (is_below m (key_of m y)) xs)
  where
    place : ℕ
    place = place_of m (key_of m y) xs

    same : place_of m (key_of m y) (with_at xs place y) ≡ place
    same = count_with (is_below m (key_of m y)) xs place y (ap is_lt (tied_itself keys_total (key_of m y)))
undone m xs ys y false r = absurd (missed m (key_of m y) (with_at xs (place_of m (key_of m y) xs) y) y r.0 (with_among xs (place_of m (key_of m y) xs) y y (inl refl)) refl)

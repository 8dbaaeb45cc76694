-- Sorted lists, and what an edit at a key's place makes of them.
use Rattle.std.proofs.Common.{◌≡◌, ◌≢◌, ℕ, zero, suc, ◌+◌, ◌<◌, ℤ, Bool, true, false, int_lt, List, [], ◌∷◌, ◌++◌, length, take, drop, get_or, cond, Ordering, Less, Equal, Greater, Option}
use Rattle.std.proofs.Common.{Some, None, Result, Ok, Err, OnOk, OnErr, ◌^◌, int_cmp, nat_cmp, is_lt, is_gt, IsSome, refl, sym, ap, ◌∙◌, subst, arith, inl, inr}
use Rattle.std.specs.Ordering.{ordering_then, ordering_reverse}
use Rattle.std.specs.Cmp.{IsTotalOrder}
use Rattle.std.specs.Cmp.Lexicographic.{slice_cmp}
use Rattle.std.proofs.lemmas.Cmp.{then_total, on_total, int_cmp_total, nat_list_cmp_total, tied_itself, upto}
use Rattle.std.proofs.lemmas.Map.Lookups.{exact_pairs, exact_signed, exact_bytes}
use Rattle.blocks.specs.declared.BlockRef.{BlockRef}
use Rattle.blocks.specs.Blocks.{Blocks, bytes_at}
use Rattle.score_list.specs.declared.towers.Towers.{Towers}
use Rattle.std.proofs.lemmas.List.{get_or-map}
use Rattle.score_list.specs.Linked.{Element, no_element, with_at, without_at, items, order, element_at, IsAt}
use Rattle.score_list.specs.Sorted.{Key, key_of, key_cmp, AllBehind, IsSorted, Misses, is_below, place_of, HasAt, AllFrom, IsRising, AllAre, IsParted, EachIs, Located, rescored}
use Rattle.score_list.proofs.Moved.{decide, never}
use Rattle.score_list.proofs.Searching.{count_yes, count_out, length_of_map}

-- the order of keys, by score and then by member bytes, is total
pub keys_total : IsTotalOrder key_cmp
keys_total = then_total (on_total (λ (k : Key). k.0) int_cmp_total) (on_total (λ (k : Key). k.1) nat_list_cmp_total)

-- keys that compare as equal are the same
keys_exact : (x y : Key) → key_cmp x y ≡ Equal → x ≡ y
keys_exact = exact_pairs int_cmp (slice_cmp nat_cmp) exact_signed exact_bytes

-- what passes the test for less is less
is_less : (o : Ordering) → is_lt o ≡ true → o ≡ Less
is_less Less e = refl
is_less Equal e = cc
is_less Greater e = cc

-- neither less nor equal is greater
turned : (x y : Key) (o : Ordering) → key_cmp x y ≡ o → is_lt o ≡ false → (o ≡ Equal → x ≡ y) → x ≢ y → key_cmp y x ≡ Less
turned x y Less e f exact ne = cc
turned x y Equal e f exact ne = absurd (ne (exact refl))
turned x y Greater e f exact ne = keys_total.antisymm y x ∙ ap ordering_reverse e

-- of two keys that differ, the one that isn't less stands behind the other
pub behind_key : (x y : Key) → is_lt (key_cmp x y) ≡ false → x ≢ y → key_cmp y x ≡ Less
behind_key x y f ne = turned x y (key_cmp x y) refl f (keys_exact x y) ne

-- a key that is less than another differs from it
less_differs : (x y : Key) → key_cmp x y ≡ Less → x ≢ y
less_differs x y e same = (let q : key_cmp x y ≡ Equal = ap (key_cmp x) (sym same) ∙ tied_itself keys_total x in cc)

module _ (blocks : Blocks) (key : Key) where
  -- what stands behind a greater key stands behind this one
  still_behind : (k : Key) (xs : List Element) → key_cmp key k ≡ Less → AllBehind blocks k xs → AllBehind blocks key xs
  still_behind k [] e a = tt
  still_behind k (x ∷ xs) e a = (keys_total.trans key k (key_of blocks x) e a.0, still_behind k xs e a.1)

  -- no element behind a key that isn't below this one is below this one
  none_below : (k : Key) (xs : List Element) → is_lt (key_cmp k key) ≡ false → AllBehind blocks k xs → AllAre (is_below blocks key) false xs
  none_below k [] f a = tt
  none_below k (x ∷ xs) f a = (
    elim (decide (is_lt (key_cmp (key_of blocks x) key))) [
      | inl e ↦ never (is_lt (key_cmp k key)) (ap is_lt (keys_total.trans k (key_of blocks x) key a.0 (is_less (key_cmp (key_of blocks x) key) e))) f
      | inr e ↦ e
    ],
    none_below k xs f a.1,
  )

  -- in a sorted list the elements below a key stand before those that aren't
  pub sorted_parted : (xs : List Element) → IsSorted blocks xs → IsParted (is_below blocks key) xs
  sorted_parted [] s = tt
  sorted_parted (x ∷ xs) s =
      elim (decide (is_below blocks key x)) [
        | inl e ↦ inl (e, sorted_parted xs s.2)
        | inr e ↦ inr (e, none_below (key_of blocks x) xs e s.1)
      ]

  -- no element behind a greater key has this key
  none_equal : (k : Key) (xs : List Element) → key_cmp key k ≡ Less → AllBehind blocks k xs → Misses blocks key xs
  none_equal k [] e a = tt
  none_equal k (x ∷ xs) e a = ((λ same. less_differs key (key_of blocks x) (keys_total.trans key k (key_of blocks x) e a.0) (sym same)), none_equal k xs e a.1)

  -- the key is nowhere if it isn't at its place
  pub misses_at : (xs : List Element) → IsSorted blocks xs → (place_of blocks key xs < length xs → key_of blocks (get_or xs (place_of blocks key xs) no_element) ≢ key) → Misses blocks key xs
  misses_at [] s h = tt
  misses_at (x ∷ xs) s h =
      elim (decide (is_below blocks key x)) [
        | inl e ↦ (let is = count_yes (is_below blocks key) x xs e in (
          less_differs (key_of blocks x) key (is_less (key_cmp (key_of blocks x) key) e),
          misses_at xs s.2 (λ lt. subst (λ n. key_of blocks (get_or (x ∷ xs) n no_element) ≢ key) is (h (omega (arith, is)))),
        ))
        | inr e ↦ (let is = count_out (is_below blocks key) x xs e (none_below (key_of blocks x) xs e s.1) in
            let ne = subst (λ n. key_of blocks (get_or (x ∷ xs) n no_element) ≢ key) is (h (omega (arith, is))) in
            (ne, none_equal (key_of blocks x) xs (behind_key (key_of blocks x) key e ne) s.1))
      ]

  module _ (member : BlockRef) (score : ℤ) (live : IsSome (blocks member)) (is_key : key_of blocks (score, member) ≡ key) where
    -- where the new element and all of a list stand behind a key, so do all of the list with the element put in
    behind_with : (k : Key) (n : ℕ) (xs : List Element) → key_cmp k key ≡ Less → AllBehind blocks k xs → AllBehind blocks k (take n xs ++ (score, member) ∷ drop n xs)
    behind_with k zero xs e a = (ap (key_cmp k) is_key ∙ e, a)
    behind_with k (suc n) [] e a = (ap (key_cmp k) is_key ∙ e, a)
    behind_with k (suc n) (x ∷ xs) e a = (a.0, behind_with k n xs e a.1)

    -- a sorted list without a key stays sorted when a live member with this key is put in at the key's place
    sorted_with : (xs : List Element) → IsSorted blocks xs → Misses blocks key xs → IsSorted blocks (with_at xs (place_of blocks key xs) (score, member))
    sorted_with [] s m = (live, tt, tt)
    sorted_with (x ∷ xs) s m =
        elim (decide (is_below blocks key x)) [
          | inl e ↦ subst (λ n. IsSorted blocks (with_at (x ∷ xs) n (score, member))) (sym (count_yes (is_below blocks key) x xs e))
              (s.0, behind_with (key_of blocks x) (place_of blocks key xs) xs (is_less (key_cmp (key_of blocks x) key) e) s.1, sorted_with xs s.2 m.1)
          | inr e ↦ (let less = behind_key (key_of blocks x) key e m.0 in
              subst (λ n. IsSorted blocks (with_at (x ∷ xs) n (score, member))) (sym (count_out (is_below blocks key) x xs e (none_below (key_of blocks x) xs e s.1)))
              (live, subst (λ k. AllBehind blocks k (x ∷ xs)) (sym is_key) (less, still_behind (key_of blocks x) xs less s.1), s))
        ]

    -- a sorted list stays sorted when an element with a key that it misses and a live member joins at its place
    pub sorted_joined : (xs : List Element) → IsSorted blocks xs → Misses blocks key xs → IsSorted blocks (with_at xs (place_of blocks key xs) (score, member))
    sorted_joined xs s m = sorted_with xs s m

module _ (blocks : Blocks) where
  -- elements behind a key are still behind it without the one at a rank
  behind_without : (k : Key) (n : ℕ) (xs : List Element) → AllBehind blocks k xs → AllBehind blocks k (without_at xs n)
  behind_without k zero [] a = tt
  behind_without k zero (x ∷ xs) a = a.1
  behind_without k (suc n) [] a = tt
  behind_without k (suc n) (x ∷ xs) a = (a.0, behind_without k n xs a.1)

  -- a sorted list is still sorted without the element at a rank
  pub sorted_without : (n : ℕ) (xs : List Element) → IsSorted blocks xs → IsSorted blocks (without_at xs n)
  sorted_without zero [] s = tt
  sorted_without zero (x ∷ xs) s = s.2
  sorted_without (suc n) [] s = tt
  sorted_without (suc n) (x ∷ xs) s = (s.0, behind_without (key_of blocks x) n xs s.1, sorted_without n xs s.2)

  -- every member of a sorted list is a live block
  pub all_live : (xs : List Element) → IsSorted blocks xs → EachIs (λ e. IsSome (blocks e.1)) xs
  all_live [] s = tt
  all_live (x ∷ xs) s = (s.0, all_live xs s.2)

  -- where two comparisons in turn come to less, the first isn't greater
  first_decides : (o p : Ordering) → ordering_then o p ≡ Less → is_gt o ≡ false
  first_decides Less p e = refl
  first_decides Equal p e = refl
  first_decides Greater p e = cc

  -- no element behind the key of another has a lower score
  scores_from : (x : Element) (xs : List Element) → AllBehind blocks (key_of blocks x) xs → AllFrom x.0 xs
  scores_from x [] a = tt
  scores_from x (y ∷ ys) a = (first_decides (int_cmp x.0 y.0) (slice_cmp nat_cmp (bytes_at blocks x.1) (bytes_at blocks y.1)) a.0, scores_from x ys a.1)

  -- in a sorted list no score is below one before it
  pub sorted_rising : (xs : List Element) → IsSorted blocks xs → IsRising xs
  sorted_rising [] s = tt
  sorted_rising (x ∷ xs) s = (scores_from x xs s.1, sorted_rising xs s.2)

-- what is always true holds of each element
pub any_each : (xs : List Element) → EachIs (λ e. Unit {0}) xs
any_each [] = tt
any_each (x ∷ xs) = (tt, any_each xs)

-- ---- by the score alone

-- a comparison made of two tests for less is less where the first test holds, and only there
lt_turned : (x y : ℤ) (a b : Bool) → int_lt x y ≡ a → int_lt y x ≡ b → is_lt (cond a Less (cond b Greater Equal)) ≡ a
lt_turned x y true b e f = refl
lt_turned x y false true e f = refl
lt_turned x y false false e f = refl

-- the comparison of two integers is less where the test for less holds, and only there
is_int_lt : (x y : ℤ) → is_lt (int_cmp x y) ≡ int_lt x y
is_int_lt x y = lt_turned x y (int_lt x y) (int_lt y x) refl refl

-- an ordering is greater where its reverse is less, and only there
reversed : (o : Ordering) → is_lt (ordering_reverse o) ≡ is_gt o
reversed Less = refl
reversed Equal = refl
reversed Greater = refl

-- an integer is less than another where the other one is greater, and only there
lt_is_gt : (x y : ℤ) → is_lt (int_cmp x y) ≡ is_gt (int_cmp y x)
lt_is_gt x y = ap is_lt (int_cmp_total.antisymm x y) ∙ reversed (int_cmp y x)

module _ (least : ℤ) where
  -- where a score isn't below the least one, no score that is at least as high is below it
  none_lower : (s : ℤ) (xs : List Element) → int_lt s least ≡ false → AllFrom s xs → AllAre (λ e. int_lt e.0 least) false xs
  none_lower s [] f a = tt
  none_lower s (x ∷ xs) f a = (
    sym (is_int_lt x.0 least) ∙ lt_is_gt x.0 least ∙ upto int_cmp_total least s x.0 (sym (lt_is_gt s least) ∙ is_int_lt s least ∙ f) a.0,
    none_lower s xs f a.1,
  )

  -- where scores rise, those below the least one stand before those that aren't
  pub rising_parted : (xs : List Element) → IsRising xs → IsParted (λ e. int_lt e.0 least) xs
  rising_parted [] s = tt
  rising_parted (x ∷ xs) s =
      elim (decide (int_lt x.0 least)) [
        | inl e ↦ inl (e, rising_parted xs s.1)
        | inr e ↦ inr (e, none_lower x.0 xs e s.0)
      ]

-- ---- what was found in the towers

module _ (blocks : Blocks) (key : Key) (t : Towers) (sorted : IsSorted blocks (items t)) (rank : ℕ) (is_place : rank ≡ place_of blocks key (items t)) where
  -- there are as many elements as towers
  many : length (items t) ≡ length (order t)
  many = length_of_map (element_at t) (order t)

  -- where no tower stands at the key's rank, no element has the key
  pub nowhere : (found : Option ℕ) → IsAt t rank found → found ≡ None → Misses blocks key (items t)
  nowhere found is none = misses_at blocks key (items t) sorted (λ lt. absurd (let e : rank ≡ length (order t) = subst (IsAt t rank) none is in omega (arith, many)))

  -- the element at the rank is that of the tower there
  pub stands_there : (tower : ℕ) → IsAt t rank (Some tower) → get_or (items t) rank no_element ≡ element_at t tower
  stands_there tower is = get_or-map (element_at t) (order t) rank 0 no_element is.0 ∙ ap (element_at t) is.1

  -- where the tower at the key's rank has another key, no element has the key
  pub not_there : (tower : ℕ) → IsAt t rank (Some tower) → key_of blocks (element_at t tower) ≢ key → Misses blocks key (items t)
  not_there tower is ne = misses_at blocks key (items t) sorted
      (λ lt same. ne (ap (key_of blocks) (sym (stands_there tower is)) ∙ ap (λ n. key_of blocks (get_or (items t) n no_element)) is_place ∙ same))

  -- where the tower at the key's rank has the key, the key is located in this tower
  pub is_there : (tower : ℕ) → IsAt t rank (Some tower) → tower + 1 < 2 ^ 64 → key_of blocks (element_at t tower) ≡ key → Located blocks key t rank tower
  is_there tower is fits same = record {
    has = (omega (arith, many, is.0), ap (key_of blocks) (stands_there tower is) ∙ same);
    place = is_place;
    there = is;
    fits = fits;
  }

  -- the member at a rank of a sorted list is a live block
  live_at : (xs : List Element) (n : ℕ) → IsSorted blocks xs → n < length xs → IsSome (blocks (get_or xs n no_element).1)
  live_at [] n s lt = absurd (omega arith)
  live_at (x ∷ xs) zero s lt = s.0
  live_at (x ∷ xs) (suc n) s lt = live_at xs n s.2 (omega arith)

  -- the member of the tower at the rank is a live block
  pub live_there : (tower : ℕ) → IsAt t rank (Some tower) → IsSome (blocks (element_at t tower).1)
  live_there tower is = subst (λ (e : Element). IsSome (blocks e.1)) (stands_there tower is) (live_at (items t) rank sorted (omega (arith, many, is.0)))

-- the list after an insert, whether or not there was memory
pub after_insert : {A E : Type 0} (r : Result A E) (blocks : Blocks) (xs new : List Element) (score n : ℤ) (bytes : List ℕ) (member : BlockRef) (rank : ℕ) → n ≡ score
    → bytes ≡ bytes_at blocks member → rank ≡ place_of blocks (n, bytes) xs → IsSome (blocks member) → IsSorted blocks xs → Misses blocks (score, bytes_at blocks member) xs
    → OnOk r (new ≡ with_at xs rank (n, member)) → OnErr r (new ≡ xs) → IsSorted blocks new
after_insert (Ok x) blocks xs new score n bytes member rank is_score is_bytes is_rank live s m ok err =
    let key_is : place_of blocks (n, bytes) xs ≡ place_of blocks (score, bytes_at blocks member) xs = ap (λ k. place_of blocks (k, bytes) xs) is_score
    ∙ ap (λ b. place_of blocks (score, b) xs) is_bytes in
    subst (IsSorted blocks) (sym (ok ∙ ap (λ k. with_at xs rank (k, member)) is_score ∙ ap (λ k. with_at xs k (score, member)) (is_rank ∙ key_is)))
    (sorted_joined blocks (score, bytes_at blocks member) member score live refl xs s m)
after_insert (Err e) blocks xs new score n bytes member rank is_score is_bytes is_rank live s m ok err = subst (IsSorted blocks) (sym err) s

-- the old list has the located key at its place, and the new one is the old one without that place
pub removed_is : (blocks : Blocks) (key : Key) (t : Towers) (old new : List Element) (rank tower : ℕ) → Located blocks key t rank tower → items t ≡ old → new ≡ without_at (items t) rank
    → HasAt blocks key old (place_of blocks key old) × (new ≡ without_at old (place_of blocks key old))
removed_is blocks key t old new rank tower l is e = (
  subst (λ xs. HasAt blocks key xs (place_of blocks key xs)) is (subst (λ n. HasAt blocks key (items t) n) l.place l.has),
  e ∙ subst (λ xs. without_at (items t) rank ≡ without_at xs (place_of blocks key xs)) is (ap (λ n. without_at (items t) n) l.place),
)

-- ---- a pair gets another score

-- a key that a list misses it misses without one of its elements
misses_without : (blocks : Blocks) (key : Key) (n : ℕ) (xs : List Element) → Misses blocks key xs → Misses blocks key (without_at xs n)
misses_without blocks key zero [] m = tt
misses_without blocks key zero (x ∷ xs) m = m.1
misses_without blocks key (suc n) [] m = tt
misses_without blocks key (suc n) (x ∷ xs) m = (m.0, misses_without blocks key n xs m.1)

live_in : (blocks : Blocks) (xs : List Element) (n : ℕ) → IsSorted blocks xs → n < length xs → IsSome (blocks (get_or xs n no_element).1)
live_in blocks [] n s lt = absurd (omega arith)
live_in blocks (x ∷ xs) zero s lt = s.0
live_in blocks (x ∷ xs) (suc n) s lt = live_in blocks xs n s.2 (omega arith)

module _ (blocks : Blocks) (member : List ℕ) (was score : ℤ) (xs : List Element) (rank : ℕ) (sorted : IsSorted blocks xs) (has : HasAt blocks (was, member) xs rank)
    (misses : Misses blocks (score, member) xs) where
  -- the list with the element at a rank at the place of its new score is sorted
  pub sorted_moved : IsSorted blocks (with_at (without_at xs rank) (place_of blocks (score, member) (without_at xs rank)) (score, (get_or xs rank no_element).1))
  sorted_moved =
      let ref = (get_or xs rank no_element).1 in
      let is_key : key_of blocks (score, ref) ≡ (score, member) = ap (λ (k : Key). let p : Key = (score, k.1) in p) has.1 in
      sorted_joined blocks (score, member) ref score (live_in blocks xs rank sorted has.0) is_key (without_at xs rank) (sorted_without blocks rank xs sorted)
      (misses_without blocks (score, member) rank xs misses)

-- the old list has the located key at its place, and the new one has it with another score
pub rescored_is : (blocks : Blocks) (member : List ℕ) (was score : ℤ) (t : Towers) (old new : List Element) (rank tower : ℕ) → Located blocks (was, member) t rank tower → items t ≡ old
    → new ≡ with_at (without_at (items t) rank) (place_of blocks (score, member) (without_at (items t) rank)) (score, (get_or (items t) rank no_element).1)
    → HasAt blocks (was, member) old (place_of blocks (was, member) old) × (new ≡ rescored blocks (was, member) score old)
rescored_is blocks member was score t old new rank tower l is e = (
  subst (λ xs. HasAt blocks (was, member) xs (place_of blocks (was, member) xs)) is (subst (λ n. HasAt blocks (was, member) (items t) n) l.place l.has),
  e ∙ subst
      (λ xs. with_at (without_at (items t) rank) (place_of blocks (score, member) (without_at (items t) rank)) (score, (get_or (items t) rank no_element).1) ≡ rescored blocks (was, member)
      score xs) is
      (ap (λ n. with_at (without_at (items t) n) (place_of blocks (score, member) (without_at (items t) n)) (score, (get_or (items t) n no_element).1)) l.place),
)

-- Lists of pairs, and the lists of their elements.
use Rattle.std.proofs.Common.{◌≡◌, ◌≢◌, ℕ, zero, suc, ◌+◌, ◌*◌, ◌-◌, ◌<◌, ◌≤◌, Bool, true, false, cond, List, [], ◌∷◌, ◌++◌, map, length, take, drop, set, get_or, Option, Some, None, refl}
use Rattle.std.proofs.Common.{sym, ap, ◌∙◌, subst, arith, inl, inr}
use Rattle.std.specs.List.{insert as inserted, remove as removed, remove_range as range_removed}
use Rattle.pack_pairs.specs.Pairs.{Pair, flat, paired, seconded}

abbrev pub no_pair : Pair
no_pair = ([], [])

-- twice a number, by steps
abbrev double : ℕ → ℕ
double zero = zero
double (suc n) = suc (suc (double n))

double_is : (n : ℕ) → double n ≡ 2 * n
double_is zero = refl
double_is (suc n) = omega (arith, double_is n)

pub paired_flat : (list : List Pair) → paired (flat list) ≡ list
paired_flat [] = refl
paired_flat (p ∷ rest) = ap (λ ps. p ∷ ps) (paired_flat rest)

pub length_flat : (list : List Pair) → length (flat list) ≡ 2 * length list
length_flat [] = refl
length_flat (p ∷ rest) = omega (arith, length_flat rest)

-- an even number of texts are those of their pairs
pub even_whole : (n : ℕ) (xs : List (List ℕ)) → length xs ≡ 2 * n → xs ≡ flat (paired xs)
even_whole zero [] e = refl
even_whole zero (x ∷ xs) e = absurd (omega (arith, e))
even_whole (suc n) [] e = absurd (omega (arith, e))
even_whole (suc n) (x ∷ []) e = absurd (omega (arith, e))
even_whole (suc n) (x ∷ y ∷ xs) e = ap (λ (zs : List (List ℕ)). x ∷ y ∷ zs) (even_whole n xs (omega (arith, e)))

-- texts taken two by two behind a map, or before it
pub paired_map : (f : List ℕ → List ℕ) (xs : List (List ℕ)) → paired (map f xs) ≡ map (λ (p : Pair). (f p.0, f p.1)) (paired xs)
paired_map f [] = refl
paired_map f (x ∷ []) = refl
paired_map f (x ∷ y ∷ xs) = ap (λ (ps : List Pair). (f x, f y) ∷ ps) (paired_map f xs)

-- ---- what stands at an index

get_first : (list : List Pair) (i : ℕ) → get_or (flat list) (double i) [] ≡ (get_or list i no_pair).0
get_first [] zero = refl
get_first [] (suc i) = refl
get_first (p ∷ rest) zero = refl
get_first (p ∷ rest) (suc i) = get_first rest i

get_second : (list : List Pair) (i : ℕ) → get_or (flat list) (suc (double i)) [] ≡ (get_or list i no_pair).1
get_second [] zero = refl
get_second [] (suc i) = refl
get_second (p ∷ rest) zero = refl
get_second (p ∷ rest) (suc i) = get_second rest i

pub first_is : (list : List Pair) (i : ℕ) → get_or (flat list) (2 * i) [] ≡ (get_or list i no_pair).0
first_is list i = subst (λ n. get_or (flat list) n [] ≡ (get_or list i no_pair).0) (double_is i) (get_first list i)

pub second_is : (list : List Pair) (i : ℕ) → get_or (flat list) (2 * i + 1) [] ≡ (get_or list i no_pair).1
second_is list i = subst (λ n. get_or (flat list) n [] ≡ (get_or list i no_pair).1) (omega (arith, double_is i)) (get_second list i)

-- ---- edits

flat_append : (xs ys : List Pair) → flat (xs ++ ys) ≡ flat xs ++ flat ys
flat_append [] ys = refl
flat_append (p ∷ rest) ys = ap (λ zs. p.0 ∷ p.1 ∷ zs) (flat_append rest ys)

take_flat : (list : List Pair) (i : ℕ) → take (double i) (flat list) ≡ flat (take i list)
take_flat [] zero = refl
take_flat [] (suc i) = refl
take_flat (p ∷ rest) zero = refl
take_flat (p ∷ rest) (suc i) = ap (λ zs. p.0 ∷ p.1 ∷ zs) (take_flat rest i)

drop_flat : (list : List Pair) (i : ℕ) → drop (double i) (flat list) ≡ flat (drop i list)
drop_flat [] zero = refl
drop_flat [] (suc i) = refl
drop_flat (p ∷ rest) zero = refl
drop_flat (p ∷ rest) (suc i) = drop_flat rest i

twice_in : (xs : List (List ℕ)) (n : ℕ) (a b : List ℕ) → n ≤ length xs → inserted (inserted xs n b) n a ≡ take n xs ++ a ∷ b ∷ drop n xs
twice_in xs zero a b h = front xs
  where
    front : (xs : List (List ℕ)) → inserted (inserted xs 0 b) 0 a ≡ take 0 xs ++ a ∷ b ∷ drop 0 xs
    front [] = refl
    front (x ∷ xs) = refl
twice_in [] (suc n) a b h = absurd (omega (arith, h))
twice_in (x ∷ xs) (suc n) a b h = ap (λ zs. x ∷ zs) (twice_in xs n a b (omega (arith, h)))

pub flat_inserted : (list : List Pair) (i : ℕ) (p : Pair) → i ≤ length list → inserted (inserted (flat list) (2 * i) p.1) (2 * i) p.0 ≡ flat (inserted list i p)
flat_inserted list i p h =
    ap (λ n. inserted (inserted (flat list) n p.1) n p.0) (sym (double_is i))
    ∙ twice_in (flat list) (double i) p.0 p.1 (omega (arith, double_is i, length_flat list, h))
    ∙ ap (λ zs. zs ++ p.0 ∷ p.1 ∷ drop (double i) (flat list)) (take_flat list i)
    ∙ ap (λ zs. flat (take i list) ++ p.0 ∷ p.1 ∷ zs) (drop_flat list i)
    ∙ sym (flat_append (take i list) (p ∷ drop i list))

pub flat_removed : (list : List Pair) (i : ℕ) → range_removed (flat list) (2 * i) (2 * i + 2) ≡ flat (removed list i)
flat_removed list i =
    let next : 2 * i + 2 ≡ double (suc i) = omega (arith, double_is i) in
    ap (λ n. take (2 * i) (flat list) ++ drop n (flat list)) next
    ∙ ap (λ n. take n (flat list) ++ drop (double (suc i)) (flat list)) (sym (double_is i))
    ∙ ap (λ zs. zs ++ drop (double (suc i)) (flat list)) (take_flat list i)
    ∙ ap (λ zs. flat (take i list) ++ zs) (drop_flat list (suc i))
    ∙ sym (flat_append (take i list) (drop (suc i) list))

set_flat : (list : List Pair) (i : ℕ) (text : List ℕ) → set (flat list) (suc (double i)) text ≡ flat (seconded list i text)
set_flat [] zero text = refl
set_flat [] (suc i) text = refl
set_flat (p ∷ rest) zero text = refl
set_flat (p ∷ rest) (suc i) text = ap (λ zs. p.0 ∷ p.1 ∷ zs) (set_flat rest i text)

pub flat_seconded : (list : List Pair) (i : ℕ) (text : List ℕ) → set (flat list) (2 * i + 1) text ≡ flat (seconded list i text)
flat_seconded list i text = subst (λ n. set (flat list) n text ≡ flat (seconded list i text)) (omega (arith, double_is i)) (set_flat list i text)

pub length_removed : (list : List Pair) (i : ℕ) → i < length list → length (removed list i) + 1 ≡ length list
length_removed [] i h = absurd (omega (arith, h))
length_removed (p ∷ rest) zero h = omega arith
length_removed (p ∷ rest) (suc i) h = omega (arith, length_removed rest i (omega (arith, h)))

pub inserted_last : (list : List Pair) (n : ℕ) (p : Pair) → n ≡ length list → inserted list n p ≡ list ++ p ∷ []
inserted_last list n p is = subst (λ k. inserted list k p ≡ list ++ p ∷ []) (sym is) (at_end list)
  where
    at_end : (xs : List Pair) → inserted xs (length xs) p ≡ xs ++ p ∷ []
    at_end [] = refl
    at_end (x ∷ xs) = ap (λ zs. x ∷ zs) (at_end xs)

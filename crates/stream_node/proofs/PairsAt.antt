-- The pairs of an entry, by where they stand.
use Rattle.std.proofs.Common.{◌≡◌, Bool, true, false, ℕ, zero, suc, ◌+◌, ◌*◌, ◌-◌, ◌<◌, ◌≤◌, List, [], ◌∷◌, length, take, get_or, refl, ap, ◌∙◌, arith, inl, inr}
use Rattle.std.specs.List.{zip}
use Rattle.stream_node.specs.declared.body.Body.{Body}
use Rattle.stream_node.specs.Entry.{Pair}
use Rattle.stream_node.specs.Pairs.{alternating, pairs_at, pair_at, fields_long, values_long, IsSplit, IsUnsplit}
use Rattle.stream_node.specs.Rest.{rest_of}
use Rattle.stream_node.specs.Reading.{pairs_of}
use Rattle.stream_node.proofs.Lists.{Texts}
use Rattle.stream_node.proofs.Bodies.{length_alternating}

length-zip : (n : ℕ) (fields values : Texts) → n ≤ length fields → n ≤ length values → length (zip (take n fields) (take n values)) ≡ n
length-zip zero fields values h k = refl
length-zip (suc n) [] values h k = absurd (omega arith)
length-zip (suc n) (f ∷ fields) [] h k = absurd (omega arith)
length-zip (suc n) (f ∷ fields) (v ∷ values) h k = omega (arith, length-zip n fields values (omega (arith, h)) (omega (arith, k)))

length_at_in_pairs_at : (same : Bool) (n : ℕ) (fields values : Texts) → fields_long same n ≤ length fields → values_long same n ≤ length values → length (pairs_at same n fields values) ≡ n
length_at_in_pairs_at true n fields values h k = length-zip n fields values h k
length_at_in_pairs_at false n fields values h k = length_alternating n fields h

pub length-pairs : (b : Body) → length (pairs_of b) ≡ b.len
length-pairs b = length_at_in_pairs_at b.same b.len (rest_of b.fields) (rest_of b.values) b.all_fields b.all_values

pub zip_at : (i n : ℕ) (fields values : Texts) → i < n → n ≤ length fields → n ≤ length values → pair_at (zip (take n fields) (take n values)) i ≡ (get_or fields i [], get_or values i [])
zip_at i zero fields values h k l = absurd (omega arith)
zip_at i (suc n) [] values h k l = absurd (omega arith)
zip_at i (suc n) (f ∷ fields) [] h k l = absurd (omega arith)
zip_at zero (suc n) (f ∷ fields) (v ∷ values) h k l = refl
zip_at (suc i) (suc n) (f ∷ fields) (v ∷ values) h k l = zip_at i n fields values (omega (arith, h)) (omega (arith, k)) (omega (arith, l))

pub alternating_at : (i n : ℕ) (list : Texts) → i < n → 2 * n ≤ length list → pair_at (alternating n list) i ≡ (get_or list (2 * i) [], get_or list (2 * i + 1) [])
unfolding alternating
alternating_at i zero list h k = absurd (omega arith)
alternating_at i (suc n) [] h k = absurd (omega arith)
alternating_at i (suc n) (f ∷ []) h k = absurd (omega arith)
alternating_at zero (suc n) (f ∷ (v ∷ list)) h k = refl
alternating_at (suc i) (suc n) (f ∷ (v ∷ list)) h k =
    let twice : suc (suc (2 * i)) ≡ 2 * suc i = omega arith in
    let more : suc (suc (2 * i + 1)) ≡ 2 * suc i + 1 = omega arith in
    let one : get_or list (2 * i) [] ≡ get_or (f ∷ v ∷ list) (2 * suc i) [] = ap (λ (j : ℕ). get_or (f ∷ v ∷ list) j []) twice in
    let two : get_or list (2 * i + 1) [] ≡ get_or (f ∷ v ∷ list) (2 * suc i + 1) [] = ap (λ (j : ℕ). get_or (f ∷ v ∷ list) j []) more in
    alternating_at i n list (omega (arith, h)) (omega (arith, k)) ∙ λ j. (one j, two j)

-- the first pair, and those behind it
pub split_pairs : (same : Bool) (n : ℕ) (fields values more others : Texts) (pair : Pair) → 0 < n → IsSplit same fields values pair more others → pairs_at same n fields values ≡ pair
    ∷ pairs_at same (n - 1) more others
unfolding alternating
split_pairs true zero fields values more others pair some s = absurd (omega arith)
split_pairs false zero fields values more others pair some s = absurd (omega arith)
split_pairs true (suc n) fields values more others pair some s =
    let same : n ≡ suc n - 1 = omega arith in
    ap (λ (x : Texts). zip (take (suc n) x) (take (suc n) values)) s.0
    ∙ ap (λ (x : Texts). zip (take (suc n) (pair.0 ∷ more)) (take (suc n) x)) s.1
    ∙ ap (λ (k : ℕ). pair ∷ zip (take k more) (take k others)) same
split_pairs false (suc n) fields values more others pair some s =
    let same : n ≡ suc n - 1 = omega arith in
    ap (alternating (suc n)) s.0 ∙ ap (λ (k : ℕ). pair ∷ alternating k more) same

-- enough is left behind it
pub split_enough : (same : Bool) (n : ℕ) (fields values more others : Texts) (pair : Pair) → 0 < n → IsSplit same fields values pair more others
    → fields_long same n ≤ length fields → values_long same n ≤ length values → (fields_long same (n - 1) ≤ length more) × (values_long same (n - 1) ≤ length others)
split_enough true n fields values more others pair some s f v = (omega (arith, f, some, ap length s.0), omega (arith, v, some, ap length s.1))
split_enough false n fields values more others pair some s f v = (omega (arith, f, some, ap length s.0), omega arith)

-- where there is a pair it can be split off
pub not_unsplit : (same : Bool) (n : ℕ) (fields values : Texts) → 0 < n → fields_long same n ≤ length fields → values_long same n ≤ length values → IsUnsplit same fields values → ⊥
not_unsplit true n fields values some f v (inl none) = omega (arith, some, f, ap length none)
not_unsplit true n fields values some f v (inr none) = omega (arith, some, v, ap length none)
not_unsplit false n fields values some f v few = omega (arith, some, f, few)

-- where a pair of an entry with the node's fields stands
pub at_true : (same : Bool) (n : ℕ) (fields values : Texts) (i : ℕ) → same ≡ true → fields_long same n ≤ length fields → values_long same n ≤ length values → i < length (pairs_at same n fields values)
    → (pair_at (pairs_at same n fields values) i ≡ (get_or fields i [], get_or values i [])) × (i < length fields) × (i < length values)
at_true true n fields values i e f v inside =
    let few : i < n = omega (arith, inside, length-zip n fields values f v) in
    (zip_at i n fields values few f v, omega (arith, few, f), omega (arith, few, v))
at_true false n fields values i e f v inside = let never : ⊥ = cc in absurd never

-- and of one with its own
pub at_false : (same : Bool) (n : ℕ) (fields values : Texts) (i : ℕ) → same ≡ false → fields_long same n ≤ length fields → values_long same n ≤ length values
    → i < length (pairs_at same n fields values)
    → (pair_at (pairs_at same n fields values) i ≡ (get_or fields (2 * i) [], get_or fields (2 * i + 1) [])) × (2 * i + 1 < length fields)
at_false true n fields values i e f v inside = let never : ⊥ = cc in absurd never
at_false false n fields values i e f v inside =
    let few : i < n = omega (arith, inside, length_alternating n fields f) in
    (alternating_at i n fields few f, omega (arith, few, f))

pub unsplit_fields : (same : Bool) (fields values : Texts) → fields ≡ [] → IsUnsplit same fields values
unsplit_fields true fields values e = inl e
unsplit_fields false fields values e = omega (arith, ap length e)

pub unsplit_values : (same : Bool) (fields values : Texts) → same ≡ true → values ≡ [] → IsUnsplit same fields values
unsplit_values true fields values t e = inr e
unsplit_values false fields values t e = let never : ⊥ = cc in absurd never

pub unsplit_second : (same : Bool) (fields values behind : Texts) (x : List ℕ) → same ≡ false → fields ≡ x ∷ behind → behind ≡ [] → IsUnsplit same fields values
unsplit_second true fields values behind x t e f = let never : ⊥ = cc in absurd never
unsplit_second false fields values behind x t e f = omega (arith, ap length e, ap length f)

pub split_same : (same : Bool) (fields values more others : Texts) (pair : Pair) → same ≡ true → fields ≡ pair.0 ∷ more → values ≡ pair.1 ∷ others → IsSplit same fields values pair more others
split_same true fields values more others pair t e f = (e, f)
split_same false fields values more others pair t e f = let never : ⊥ = cc in absurd never

pub split_own : (same : Bool) (fields values behind more : Texts) (pair : Pair) → same ≡ false → fields ≡ pair.0 ∷ behind → behind ≡ pair.1 ∷ more → IsSplit same fields values pair more values
split_own true fields values behind more pair t e f = let never : ⊥ = cc in absurd never
split_own false fields values behind more pair t e f = (e ∙ ap (λ (x : Texts). pair.0 ∷ x) f, refl)

no_pairs : (list : List Pair) → length list ≡ 0 → list ≡ []
no_pairs [] e = refl
no_pairs (x ∷ list) e = absurd (omega arith)

pub pairs_none : (b : Body) → b.len ≡ 0 → pairs_of b ≡ []
pairs_none b e = no_pairs (pairs_of b) (length-pairs b ∙ e)

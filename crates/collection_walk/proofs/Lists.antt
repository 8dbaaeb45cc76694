-- Options, and the elements of a list by their indices.
use Rattle.std.proofs.Common.{◌≡◌, ℕ, zero, suc, ◌<◌, List, [], ◌∷◌, length, Option, Some, None, IsSome, slice_get, slice_index_or, refl, arith}

pub some_of : {X : Type 0} (o : Option X) → IsSome o → (x : X) × (o ≡ Some x)
some_of None h = cc
some_of (Some x) h = (x, refl)

pub same_some : {X : Type 0} (o : Option X) (a b : X) → o ≡ Some a → o ≡ Some b → a ≡ b
same_some o a b h k = cc

pub some_none : {X : Type 0} (o : Option X) (x : X) → o ≡ Some x → o ≡ None → ⊥
some_none o x h k = cc

pub get_below : {X : Type 0} (xs : List X) (i : ℕ) → IsSome (slice_get xs i) → i < length xs
get_below [] i h = cc
get_below (x ∷ xs) zero h = omega arith
get_below (x ∷ xs) (suc i) h = omega (arith, get_below xs i h)

pub get_is : {X : Type 0} (xs : List X) (i : ℕ) (d : X) → IsSome (slice_get xs i) → slice_get xs i ≡ Some (slice_index_or xs i d)
get_is [] i d h = cc
get_is (x ∷ xs) zero d h = refl
get_is (x ∷ xs) (suc i) d h = get_is xs i d h

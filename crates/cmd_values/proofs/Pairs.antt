-- The keys of pairs.
use Rattle.std.proofs.Common.{◌≡◌, ℕ, suc, ◌+◌, ◌<◌, List, ◌∷◌, length, get_or, drop, drop-cons, add-one, refl, sym, ap, subst, arith}
use Rattle.std.specs.List.{Contains}
use Rattle.blocks.specs.Blocks.{Blocks}
use Rattle.held.proofs.Within.{within_wider}
use Rattle.keyspace.specs.Databases.{Bases}
use Rattle.keyspace.specs.Values.{value_refs}
use Rattle.keyspace.specs.Scopes.{one_key, some_keys, first_words, Within}
use Rattle.keyspace.specs.Insides.{Insides}
use Rattle.keyspace.proofs.Insides.{insides_wider}

-- each key of some pairs is one of others
abbrev pub ArePart : List (List ℕ × List ℕ) → List (List ℕ × List ℕ) → Type 0
ArePart part pairs = (key : List ℕ) → Contains (first_words part) key → Contains (first_words pairs) key

module _ (pair : List ℕ × List ℕ) (others pairs : List (List ℕ × List ℕ)) (part : ArePart (pair ∷ others) pairs) where
  pub first_part : Contains (first_words pairs) pair.0
  first_part = part pair.0 (0, omega arith, refl)

  pub rest_part : ArePart others pairs
  rest_part key there = part key (suc there.0, omega (arith, there.1), there.2)

-- what is within one key is within those that it is one of
pub within_pairs : (db : ℕ) (key : List ℕ) (pairs : List (List ℕ × List ℕ)) → Contains (first_words pairs) key → (old new : Bases) (m after : Blocks)
    → Within (one_key db key) old new m after → Within (some_keys db (first_words pairs)) old new m after
within_pairs db key pairs there old new m after p =
    within_wider value_refs (one_key db key) (some_keys db (first_words pairs)) (λ number here. here)
    (λ number other named. (named.0, subst (Contains (first_words pairs)) (sym named.1) there)) (λ number no. no) old new m after p

-- and so are the tables inside values
pub insides_pairs : (db : ℕ) (key : List ℕ) (pairs : List (List ℕ × List ℕ)) → Contains (first_words pairs) key → (old new : Bases) (m after : Blocks)
    → Insides (one_key db key) old new m after → Insides (some_keys db (first_words pairs)) old new m after
insides_pairs db key pairs there old new m after p =
    insides_wider (one_key db key) (some_keys db (first_words pairs)) (λ number other named. (named.0, subst (Contains (first_words pairs)) (sym named.1) there)) old new m after p

-- the rest of a list from a place on is the element there and the rest behind it
pub rest_from : {A : Type 0} (xs : List A) (i : ℕ) (x : A) → i < length xs → x ≡ get_or xs i x → drop i xs ≡ x ∷ drop (i + 1) xs
rest_from {A = A} xs i x within is = rw (add-one, drop-cons xs i x) (ap (λ (z : A). z ∷ drop (suc i) xs) (sym is))

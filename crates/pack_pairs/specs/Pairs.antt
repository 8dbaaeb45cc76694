-- A listpack taken as pairs of texts.
use Rattle.std.specs.Prelude.{◌≡◌, ◌≢◌, ℕ, zero, suc, ◌+◌, ◌*◌, ◌<◌, ◌^◌, List, [], ◌∷◌, length, map, max, Option, None}
use Rattle.std.specs.Ordering.{nat_cmp}
use Rattle.std.specs.Cmp.Lexicographic.{slice_cmp}
use Rattle.std.specs.FinMap.{FinMap, find, from_entries}
use Rattle.listpack.specs.Pack.{IsAt, IsPack, texts, spellings_of}
use Rattle.listpack.specs.Writing.{entry, spelling}

-- a first text and its second
abbrev pub Pair : Type 0
Pair = List ℕ × List ℕ

-- the elements of the pairs in their order
abbrev pub flat : List Pair → List (List ℕ)
flat [] = []
flat (p ∷ rest) = p.0 ∷ p.1 ∷ flat rest

-- each element at an even place with the one behind it
abbrev pub paired : List (List ℕ) → List Pair
paired [] = []
paired (x ∷ []) = []
paired (x ∷ y ∷ rest) = (x, y) ∷ paired rest

-- the pairs of a listpack
abbrev pub pairs : List ℕ → List Pair
pairs bytes = paired (texts bytes)

-- the spellings of the first elements of a listpack's pairs
abbrev pub first_spellings : List ℕ → List (List ℕ)
first_spellings bytes = map (λ (p : Pair). p.0) (paired (spellings_of bytes))

-- The bytes are the listpack that the writer makes of the elements of pairs.
pub record IsPairPack (bytes : List ℕ) : Type 0 where
  pub pack : IsPack bytes
  pub written : spellings_of bytes ≡ map spelling (texts bytes)
  pub whole : texts bytes ≡ flat (pairs bytes)

-- the pair at the index begins at this offset
abbrev pub IsPairAt : List ℕ → ℕ → ℕ → Type 0
IsPairAt bytes index at = IsAt bytes (2 * index) at

-- the second element of the pair at the index stands at this offset
abbrev pub IsSecondAt : List ℕ → ℕ → ℕ → Type 0
IsSecondAt bytes index at = IsAt bytes (2 * index + 1) at

-- the pair at the index is the first one with this first text
abbrev pub IsFirst : List ℕ → List Pair → ℕ → Type 0
IsFirst text [] index = ⊥
IsFirst text (p ∷ rest) zero = p.0 ≡ text
IsFirst text (p ∷ rest) (suc index) = (p.0 ≢ text) × IsFirst text rest index

-- the second text of the first pair with this first text
abbrev pub second_of : List ℕ → List Pair → Option (List ℕ)
second_of text list = find (slice_cmp nat_cmp) text list

-- the pairs with another second text at an index
abbrev pub seconded : List Pair → ℕ → List ℕ → List Pair
seconded [] index text = []
seconded (p ∷ rest) zero text = (p.0, text) ∷ rest
seconded (p ∷ rest) (suc index) text = p ∷ seconded rest index text

-- no first text stands twice
abbrev pub IsOnce : List Pair → Type 0
IsOnce [] = Unit {0}
IsOnce (p ∷ rest) = (second_of p.0 rest ≡ None) × IsOnce rest

-- the map from the first texts to their seconds
abbrev pub map_of_pairs : List Pair → FinMap (slice_cmp nat_cmp) (List ℕ)
map_of_pairs list = from_entries list

-- the length of the longest text
abbrev pub longest : List Pair → ℕ
longest [] = 0
longest (p ∷ rest) = max (max (length p.0) (length p.1)) (longest rest)

-- with both texts put into it, a listpack stays below 2^32 bytes
abbrev pub FitsPair : List ℕ → List ℕ → List ℕ → Type 0
FitsPair pack first second = length pack + length (entry first) + length (entry second) < 2 ^ 32

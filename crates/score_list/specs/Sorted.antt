-- The order of the elements: by score, then by the member's bytes in the blocks of a store.
use Rattle.std.specs.Prelude.{◌≡◌, ◌≢◌, ℕ, ℤ, Bool, true, false, List, [], ◌∷◌, ◌⊎◌, ◌+◌, ◌^◌, ◌<◌, Some, IsSome, count_by, length, slice_index_or, MatchBool}
use Rattle.std.specs.declared.cmp.Ordering.{Ordering}
use Rattle.std.specs.declared.cmp.Ordering.TheVariants.{Less}
use Rattle.std.specs.Ordering.{nat_cmp, int_cmp, ordering_then, is_lt, is_gt}
use Rattle.std.specs.Cmp.Lexicographic.{slice_cmp}
use Rattle.blocks.specs.declared.BlockRef.{BlockRef}
use Rattle.blocks.specs.Blocks.{Blocks, bytes_at}
use Rattle.score_list.specs.declared.towers.Towers.{Towers}
use Rattle.score_list.specs.Linked.{Element, no_element, with_at, without_at, items, IsAt}

-- a score, and the bytes of a member
abbrev pub Key : Type 0
Key = ℤ × List ℕ

abbrev pub key_of : Blocks → Element → Key
key_of blocks e = (e.0, bytes_at blocks e.1)

abbrev pub key_cmp : Key → Key → Ordering
key_cmp x y = ordering_then (int_cmp x.0 y.0) (slice_cmp nat_cmp x.1 y.1)

-- each of these stands behind the key
abbrev pub AllBehind : Blocks → Key → List Element → Type 0
AllBehind blocks key [] = Unit {0}
AllBehind blocks key (x ∷ xs) = (key_cmp key (key_of blocks x) ≡ Less) × AllBehind blocks key xs

-- every member is a live block, and each element stands behind those before it
abbrev pub IsSorted : Blocks → List Element → Type 0
IsSorted blocks [] = Unit {0}
IsSorted blocks (x ∷ xs) = IsSome (blocks x.1) × AllBehind blocks (key_of blocks x) xs × IsSorted blocks xs

-- no element has the key
abbrev pub Misses : Blocks → Key → List Element → Type 0
Misses blocks key [] = Unit {0}
Misses blocks key (x ∷ xs) = (key_of blocks x ≢ key) × Misses blocks key xs

abbrev pub is_below : Blocks → Key → Element → Bool
is_below blocks key e = is_lt (key_cmp (key_of blocks e) key)

-- how many elements stand before the key
abbrev pub place_of : Blocks → Key → List Element → ℕ
place_of blocks key xs = count_by (is_below blocks key) xs

-- the element at a rank has the key
abbrev pub HasAt : Blocks → Key → List Element → ℕ → Type 0
HasAt blocks key xs rank = (rank < length xs) × (key_of blocks (slice_index_or xs rank no_element) ≡ key)

-- the element with the key has left, or there was none
abbrev pub Removes : Blocks → Key → List Element → Bool → List Element → Type 0
Removes blocks key old removed new =
    MatchBool removed
    (HasAt blocks key old (place_of blocks key old) × (new ≡ without_at old (place_of blocks key old)))
    (Misses blocks key old × (new ≡ old))

-- the list where the element with the key has another score, and its place among the others
abbrev pub rescored : Blocks → Key → ℤ → List Element → List Element
rescored blocks key score xs =
    let rank = place_of blocks key xs in
    let rest = without_at xs rank in
    with_at rest (place_of blocks (score, key.1) rest) (score, (slice_index_or xs rank no_element).1)

-- the element with the key has another score, or there was none
abbrev pub Rescores : Blocks → Key → ℤ → List Element → Bool → List Element → Type 0
Rescores blocks key score old there new =
    MatchBool there
    (HasAt blocks key old (place_of blocks key old) × (new ≡ rescored blocks key score old))
    (Misses blocks key old × (new ≡ old))

-- the second store holds the bytes of the member at the rank under the new reference, and those of the other members as
-- the first does
pub record Carries (before after : Blocks) (xs : List Element) (rank : ℕ) (new : BlockRef) : Type 0 where
  pub moved : after new ≡ before (slice_index_or xs rank no_element).1
  pub others : (n : ℕ) → n < length xs → n ≢ rank
      → after (slice_index_or xs n no_element).1 ≡ before (slice_index_or xs n no_element).1

-- each score is at least this one
abbrev pub AllFrom : ℤ → List Element → Type 0
AllFrom score [] = Unit {0}
AllFrom score (x ∷ xs) = (is_gt (int_cmp score x.0) ≡ false) × AllFrom score xs

-- no score is below one before it
abbrev pub IsRising : List Element → Type 0
IsRising [] = Unit {0}
IsRising (x ∷ xs) = AllFrom x.0 xs × IsRising xs

module _ (f : Element → Bool) where
  abbrev pub AllAre : Bool → List Element → Type 0
  AllAre b [] = Unit {0}
  AllAre b (x ∷ xs) = (f x ≡ b) × AllAre b xs

  -- those that pass the test stand before those that don't
  abbrev pub IsParted : List Element → Type 0
  IsParted [] = Unit {0}
  IsParted (x ∷ xs) = ((f x ≡ true) × IsParted xs) ⊎ ((f x ≡ false) × AllAre false xs)

-- the score alone tells what the test says of an element
abbrev pub Tells : (Element → Bool) → ℤ → Bool → Type 0
Tells f score told = (member : BlockRef) → f (score, member) ≡ told

-- it holds of each element
abbrev pub EachIs : (Element → Type 0) → List Element → Type 0
EachIs P [] = Unit {0}
EachIs P (x ∷ xs) = P x × EachIs P xs

-- a pair stands at a rank, in this tower
pub record Located (blocks : Blocks) (key : Key) (t : Towers) (rank tower : ℕ) : Type 0 where
  pub has : HasAt blocks key (items t) rank
  pub place : rank ≡ place_of blocks key (items t)
  pub there : IsAt t rank (Some tower)
  pub fits : tower + 1 < 2 ^ 64

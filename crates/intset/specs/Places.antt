-- What the private functions of the crate say to each other.
use Rattle.std.specs.Prelude.{◌≡◌, ℕ, suc, ◌*◌, ◌<◌, ◌≤◌, List, length, take, ℤ, ◌<ℤ◌, slice_index_or}
use Rattle.intset.specs.Intset.{IsWidth, HasWidth, HasLength, IsRising, packed_numbers, numbers_of, width_of}

-- the bytes are so many numbers of that width, which rise
pub record IsPacked (width count : ℕ) (packed : List ℕ) : Type 0 where
  pub sized : IsWidth width
  pub long : length packed ≡ width * count
  pub rising : IsRising (packed_numbers width count packed)

-- the numbers before the place are less than n, and those from it on are greater
pub record IsPlace (numbers : List ℤ) (n : ℤ) (place : ℕ) : Type 0 where
  pub within : place ≤ length numbers
  pub before : (k : ℕ) (d : ℤ) → k < place → slice_index_or numbers k d <ℤ n
  pub after : (k : ℕ) (d : ℤ) → place ≤ k → k < length numbers → n <ℤ slice_index_or numbers k d

-- the numbers before low are less than n, and those from high on are greater
pub record IsBetween (numbers : List ℤ) (n : ℤ) (low high : ℕ) : Type 0 where
  pub ordered : low ≤ high
  pub within : high ≤ length numbers
  pub before : (k : ℕ) (d : ℤ) → k < low → slice_index_or numbers k d <ℤ n
  pub after : (k : ℕ) (d : ℤ) → high ≤ k → k < length numbers → n <ℤ slice_index_or numbers k d

-- each of the first numbers is greater than the one before it
abbrev pub RisesBelow : List ℤ → ℕ → Type 0
RisesBelow numbers bound =
    (k : ℕ) (d : ℤ) → suc k < bound → slice_index_or numbers k d <ℤ slice_index_or numbers (suc k) d

-- the bytes have their width still, and hold these numbers now, whatever their order
pub record IsEdited (old new : List ℕ) (numbers : List ℤ) : Type 0 where
  pub kept : width_of new ≡ width_of old
  pub sized : HasWidth new
  pub long : HasLength new
  pub numbers_now : numbers_of new ≡ numbers

-- the first numbers have been copied, at that width
pub record IsCopied (copy : List ℕ) (width : ℕ) (numbers : List ℤ) (index : ℕ) : Type 0 where
  pub width_is : width_of copy ≡ width
  pub sized : HasWidth copy
  pub long : HasLength copy
  pub numbers_now : numbers_of copy ≡ take index numbers

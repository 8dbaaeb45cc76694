-- What edits make of the tables of a dictionary, from call to call. An element is named by its key bytes alone.
use Rattle.std.specs.Prelude.{◌≡◌, ℕ, List, [], ◌∷◌, Bool, false, ◌||◌}
use Rattle.blocks.specs.Blocks.{Served}
use Rattle.rehash_dict.specs.Tables.{Tables, bucket, inserted, removed, shrunk}
use Rattle.rehash_dict.specs.Keyed.{same_key}

-- the key stands in the bucket
abbrev pub has_key : List ℕ → List (List ℕ) → Bool
has_key key [] = false
has_key key (other ∷ rest) = same_key other key || has_key key rest

-- the key stands in no bucket
pub record Absent (key : List ℕ) (t : Tables (List ℕ)) : Type 0 where
  pub older : (k : ℕ) → has_key key (bucket t.older k) ≡ false
  pub newer : (k : ℕ) → has_key key (bucket t.newer k) ≡ false

-- one edit: a key joins that wasn't there, a key leaves, or `shrink` is called
pub data Edit (hash : List ℕ → ℕ) (before after : Tables (List ℕ)) : Type 0 where
  joins : (key : List ℕ) → Absent key before → after ≡ inserted hash before key → Edit hash before after
  leaves : (key : List ℕ) → after ≡ removed same_key before key → Edit hash before after
  shrinks : after ≡ shrunk before → Edit hash before after

-- The tables come from the first ones by a list of edits. Rehash steps of their own are none.
abbrev pub Grown : (List ℕ → ℕ) → Tables (List ℕ) → Tables (List ℕ) → Type 0
Grown hash = Served (Edit hash)

-- What holds of a dictionary's tables at every moment.
use Rattle.std.specs.Prelude.{◌≡◌, ℕ, ◌+◌, ◌%◌, ◌^◌, ◌<◌, ◌≤◌, List, [], Option, Some, is_some, IsSome, count_by, length}
use Rattle.rev_cursor.specs.Span.{times}
use Rattle.rehash_dict.specs.Tables.{bucket, count}
use Rattle.rehash_dict.specs.Table.{Element, Table, at_item, item}

-- no bucket, or a power of two of at least 4
pub data IsSize (n : ℕ) : Type 0 where
  no_table : n ≡ 0 → IsSize n
  power : (bits : ℕ) → n ≡ 2 ^ bits → 2 ≤ bits → bits < 64 → IsSize n

module _ {V : Type 0} where
  -- a table names only elements, each in the bucket of its hash
  abbrev pub Names : List (Option (Element V)) → List (List ℕ) → Type 0
  Names items rows = (k at : ℕ) → 0 < times at (bucket rows k)
      → (e : Element V) × (at_item items at ≡ Some e) × (e.hash % length rows ≡ k)

  -- each element stands once, in the bucket of its hash, in one of the tables
  pub record Stand (items : List (Option (Element V))) (older newer : List (List ℕ)) : Type 0 where
    pub of_older : Names items older
    pub of_newer : Names items newer
    pub once : (at : ℕ) (e : Element V) → at_item items at ≡ Some e
        → times at (bucket older (e.hash % length older)) + times at (bucket newer (e.hash % length newer)) ≡ 1
    pub counted : count older + count newer ≡ count_by is_some items
    pub older_size : IsSize (length older)
    pub newer_size : IsSize (length newer)

  -- what holds of the tables, where the rehash is at this position
  pub record IsKept (items : List (Option (Element V))) (older newer : List (List ℕ)) (position : ℕ) : Type 0 where
    pub stand : Stand items older newer
    -- the older of two tables has an element
    pub waits : 0 < length newer → 0 < count older
    -- the buckets that were moved are empty
    pub passed : (k : ℕ) → k < position → bucket older k ≡ []
    pub begins : length newer ≡ 0 → position ≡ 0

  pub record IsPlaced (t : Table V) : Type 0 where
    pub kept : IsKept t.items t.older t.newer t.position
    pub below : (at : ℕ) → IsSome (item t at) → at < t.top

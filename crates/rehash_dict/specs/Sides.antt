-- What the calls on the chains do, in terms of buckets.
use Rattle.std.specs.Prelude.{◌≡◌, ◌≢◌, ℕ, ◌+◌, ◌%◌, ◌≤◌, ◌==◌, List, [], ◌∷◌, ◌++◌, Option, Some, None, is_some, count_by, length, slice_set}
use Rattle.rehash_dict.specs.declared.chains.Side.{Side}
use Rattle.rehash_dict.specs.declared.chains.Side.TheVariants.{Older, Newer}
use Rattle.blocks.specs.declared.BlockRef.{BlockRef}
use Rattle.rehash_dict.specs.Tables.{Tables, bucket, put, put_all, without}
use Rattle.rehash_dict.specs.Table.{Element, Chaining, at_item, Agrees, Updates}
use Rattle.rehash_dict.specs.Placed.{Stand, IsKept}

-- the last of a list
abbrev pub last_of : List ℕ → Option ℕ
last_of [] = None
last_of (x ∷ []) = Some x
last_of (x ∷ y ∷ rest) = last_of (y ∷ rest)

-- the number stands behind this one, or first
pub record IsBehind (row : List ℕ) (before : Option ℕ) (at : ℕ) : Type 0 where
  pub front : List ℕ
  pub rest : List ℕ
  pub is : row ≡ front ++ at ∷ rest
  pub last : before ≡ last_of front

module _ {V : Type 0} where
  -- the buckets of a table
  abbrev pub side_rows : Side → Chaining V → List (List ℕ)
  side_rows Older h = h.older
  side_rows Newer h = h.newer

  -- the table has these buckets now, and the other one has what it had
  abbrev pub Changed : Side → Chaining V → Chaining V → List (List ℕ) → Type 0
  Changed Older old new rows = (new.older ≡ rows) × (new.newer ≡ old.newer)
  Changed Newer old new rows = (new.newer ≡ rows) × (new.older ≡ old.older)

  -- an element joins at the head of its bucket
  pub record AddsTo (side : Side) (old new : Chaining V) (at : ℕ) (element : Element V) : Type 0 where
    pub vacant : at_item old.items at ≡ None
    pub updates : Updates old.items new.items at (Some element)
    pub rows : let before = side_rows side old in
        let k = element.hash % length before in
        Changed side old new (slice_set before k (at ∷ bucket before k))
    pub stand : Stand new.items new.older new.newer

  -- the element at the head of a bucket of the older table moves
  pub record MovesOne (old new : Chaining V) (k : ℕ) : Type 0 where
    pub at : ℕ
    pub rest : List ℕ
    pub first : bucket old.older k ≡ at ∷ rest
    pub older : new.older ≡ slice_set old.older k rest
    pub newer : (hash : ℕ → ℕ) → Agrees hash old.items → new.newer ≡ put hash old.newer at
    pub many : length new.newer ≡ length old.newer
    pub items : new.items ≡ old.items
    pub capacity : new.capacity ≡ old.capacity
    pub stand : Stand new.items new.older new.newer

  -- the elements of a bucket of the older table move
  pub record MovesRow (old new : Chaining V) (k : ℕ) : Type 0 where
    pub older : new.older ≡ slice_set old.older k []
    pub newer : (hash : ℕ → ℕ) → Agrees hash old.items → new.newer ≡ put_all hash old.newer (bucket old.older k)
    pub items : new.items ≡ old.items
    pub capacity : new.capacity ≡ old.capacity
    pub stand : Stand new.items new.older new.newer

  -- an element leaves its bucket
  pub record LeavesFrom (side : Side) (old new : Chaining V) (k at : ℕ) (key : BlockRef) (value : V) : Type 0 where
    pub hash : ℕ
    pub found : at_item old.items at ≡ Some (record { key = key; hash = hash; value = value })
    pub updates : Updates old.items new.items at None
    pub rows : Changed side old new (slice_set (side_rows side old) k (without ◌==◌ at (bucket (side_rows side old) k)))
    pub stand : Stand new.items new.older new.newer

  -- an element's key or value changes, and all else stays
  pub record SwapsIn (old new : Chaining V) (at : ℕ) (swaps : Element V → Type 0) : Type 0 where
    pub element : Element V
    pub found : at_item old.items at ≡ Some element
    pub swapped : swaps element
    pub others : (other : ℕ) → other ≢ at → at_item new.items other ≡ at_item old.items other
    pub older : new.older ≡ old.older
    pub newer : new.newer ≡ old.newer
    pub stand : Stand new.items new.older new.newer

  -- one more element fits without memory
  abbrev pub HasRoom : Chaining V → Type 0
  HasRoom h = count_by is_some h.items + 1 ≤ h.capacity

  -- the tables, where the rehash is at this position
  abbrev pub held_tables : Chaining V → ℕ → Tables ℕ
  held_tables h position = record { older = h.older; newer = h.newer; position = position }

  -- the elements stay, and the tables are kept
  pub record Rebuilds (old new : Chaining V) (position : ℕ) : Type 0 where
    pub items : new.items ≡ old.items
    pub capacity : new.capacity ≡ old.capacity
    pub kept : IsKept new.items new.older new.newer position

-- What a contract sees of a dictionary: the element at each item number, and in which bucket of which table each item
-- number stands.
use Rattle.std.specs.Prelude.{◌≡◌, ◌≢◌, ℕ, List, Option, Some, None, is_some, count_by, slice_index_or}
use Rattle.blocks.specs.declared.BlockRef.{BlockRef}
use Rattle.rehash_dict.specs.Tables.{Tables}

-- an element: the block of its key, the hash of that block's bytes, and its value
pub record Element (V : Type 0) : Type 0 where
  pub key : BlockRef
  pub hash : ℕ
  pub value : V

-- The buckets hold item numbers. No item number reaches `top`.
pub record Table (V : Type 0) : Type 0 where
  pub items : List (Option (Element V))
  pub older : List (List ℕ)
  pub newer : List (List ℕ)
  pub position : ℕ
  pub seed : ℕ
  pub top : ℕ

-- the elements and buckets, and how many elements fit without memory
pub record Chaining (V : Type 0) : Type 0 where
  pub items : List (Option (Element V))
  pub older : List (List ℕ)
  pub newer : List (List ℕ)
  pub capacity : ℕ

module _ {V : Type 0} where
  -- the element of an item number
  abbrev pub at_item : List (Option (Element V)) → ℕ → Option (Element V)
  at_item items at = slice_index_or items at None

  abbrev pub item : Table V → ℕ → Option (Element V)
  item t at = at_item t.items at

  -- how many elements
  abbrev pub table_len : Table V → ℕ
  table_len t = count_by is_some t.items

  -- the tables of item numbers
  abbrev pub tables : Table V → Tables ℕ
  tables t = record { older = t.older; newer = t.newer; position = t.position }

  -- a hash for each item number: that of its element
  abbrev pub Agrees : (ℕ → ℕ) → List (Option (Element V)) → Type 0
  Agrees hash items = (at : ℕ) (e : Element V) → at_item items at ≡ Some e → hash at ≡ e.hash

  -- one item number changes
  pub record Updates (old new : List (Option (Element V))) (at : ℕ) (element : Option (Element V)) : Type 0 where
    pub changed : at_item new at ≡ element
    pub others : (other : ℕ) → other ≢ at → at_item new other ≡ at_item old other

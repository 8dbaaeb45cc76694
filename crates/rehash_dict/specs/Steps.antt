-- What the calls on a dictionary do.
use Rattle.std.specs.Prelude.{◌≡◌, ◌≢◌, ℕ, ◌+◌, ◌%◌, ◌<◌, ◌==◌, max, List, length, Option, Some, None, IsSome}
use Rattle.blocks.specs.declared.BlockRef.{BlockRef}
use Rattle.blocks.specs.Blocks.{Blocks, bytes_at}
use Rattle.rehash_dict.specs.Tables.{bucket, inserted, removed}
use Rattle.rehash_dict.specs.Table.{Element, Table, Chaining, item, tables, Updates}
use Rattle.rehash_dict.specs.Keyed.{hash_of, Stands, Lacks, Keyed, key_tables}
use Rattle.rehash_dict.specs.Placed.{IsPlaced}
use Rattle.rehash_dict.specs.Sides.{IsBehind}
use Rattle.rehash_dict.specs.declared.chains.Side.{Side}
use Rattle.rehash_dict.specs.declared.chains.Side.TheVariants.{Older, Newer}

module _ {V : Type 0} where
  -- the dictionary of these elements and buckets
  abbrev pub table_of : Chaining V → ℕ → ℕ → ℕ → Table V
  table_of h position seed top =
      record { items = h.items; older = h.older; newer = h.newer; position = position; seed = seed; top = top }

  -- the item number has an element of this key block and this value
  pub record Holds (t : Table V) (at : ℕ) (key : BlockRef) (value : V) : Type 0 where
    pub hash : ℕ
    pub found : item t at ≡ Some (record { key = key; hash = hash; value = value })

  -- an element joins
  pub record Adds (old new : Table V) (at : ℕ) (element : Element V) : Type 0 where
    pub vacant : item old at ≡ None
    pub updates : Updates old.items new.items at (Some element)
    pub seed : new.seed ≡ old.seed
    pub top : new.top ≡ max old.top (at + 1)
    pub placed : IsPlaced new
    -- over a store in which its key is a live block with bytes of this hash that no element has, it is an insert of
    -- this key
    pub keyed : (blocks : Blocks) → Keyed blocks old → IsSome (blocks element.key)
        → element.hash ≡ hash_of old.seed (bytes_at blocks element.key) → Lacks blocks old (bytes_at blocks element.key)
        → Keyed blocks new
        × (key_tables blocks new
        ≡ inserted (hash_of old.seed) (key_tables blocks old) (bytes_at blocks element.key))

  -- an element's value changes, from this one
  pub record Swaps (old new : Table V) (at : ℕ) (was value : V) : Type 0 where
    pub key : BlockRef
    pub hash : ℕ
    pub found : item old at ≡ Some (record { key = key; hash = hash; value = was })
    pub updates : Updates old.items new.items at (Some (record { key = key; hash = hash; value = value }))
    pub tables : tables new ≡ tables old
    pub seed : new.seed ≡ old.seed
    pub top : new.top ≡ old.top

  -- an element's key is named by another block
  pub record Renames (old new : Table V) (at : ℕ) (ref : BlockRef) : Type 0 where
    pub element : Element V
    pub found : item old at ≡ Some element
    pub updates : Updates old.items new.items at (Some (record element { key = ref }))
    pub tables : tables new ≡ tables old
    pub seed : new.seed ≡ old.seed
    pub top : new.top ≡ old.top
    -- over a store in which the new block has the key's bytes, and all other keys theirs, the dictionary means what it
    -- meant
    pub keyed : (before after : Blocks) → Keyed before old → after ref ≡ before element.key
        → ((other : ℕ) (e : Element V) → other ≢ at → item old other ≡ Some e → after e.key ≡ before e.key)
        → Keyed after new × (key_tables after new ≡ key_tables before old)

  -- the element of this key leaves, with this block and this value
  pub record Removes (blocks : Blocks) (old new : Table V) (key : List ℕ) (ref : BlockRef) (value : V) : Type 0 where
    pub at : ℕ
    pub hash : ℕ
    pub found : item old at ≡ Some (record { key = ref; hash = hash; value = value })
    pub bytes : blocks ref ≡ Some key
    pub updates : Updates old.items new.items at None
    pub seed : new.seed ≡ old.seed
    pub top : new.top ≡ old.top

  -- the buckets of a table
  abbrev pub table_rows : Side → Table V → List (List ℕ)
  table_rows Older t = t.older
  table_rows Newer t = t.newer

  -- the item number is not that of an element with this key, whose hash this is
  abbrev pub IsOther : Blocks → Table V → ℕ → List ℕ → ℕ → Type 0
  IsOther blocks t hash key at = (e : Element V) → item t at ≡ Some e → e.hash ≡ hash → blocks e.key ≢ Some key

  -- the key stands in the table, behind this element or first
  pub record IsSpot (blocks : Blocks) (t : Table V) (side : Side) (hash : ℕ) (key : List ℕ) (before : Option ℕ) (at : ℕ)
      : Type 0 where
    pub table : 0 < length (table_rows side t)
    pub behind : IsBehind (bucket (table_rows side t) (hash % length (table_rows side t))) before at
    pub stands : Stands blocks t at key

  -- an element leaves
  pub record Takes (old new : Table V) (at : ℕ) (ref : BlockRef) (value : V) : Type 0 where
    pub hash : ℕ
    pub found : item old at ≡ Some (record { key = ref; hash = hash; value = value })
    pub updates : Updates old.items new.items at None
    pub tables : tables new ≡ removed ◌==◌ (tables old) at
    pub seed : new.seed ≡ old.seed
    pub top : new.top ≡ old.top
    pub placed : IsPlaced new

-- What a dictionary means over the blocks of a store.
use Rattle.std.specs.Prelude.{◌≡◌, ℕ, ◌-◌, ◌^◌, List, [], ◌∷◌, Option, Some, None, IsSome, Bool, true, false, ◌==◌, ◌&&◌, ◌≢◌}
use Rattle.blocks.specs.Blocks.{Blocks, bytes_at}
use Rattle.digests.specs.Siphash.{sip}
use Rattle.rehash_dict.specs.Tables.{Tables, named}
use Rattle.rehash_dict.specs.Table.{Element, Table, item, tables}
use Rattle.rehash_dict.specs.Placed.{IsPlaced}

-- the hash of a key: SipHash with 1 and 2 rounds, under the seed and its complement
unfoldable pub hash_of : ℕ → List ℕ → ℕ
hash_of seed bytes = sip 1 2 seed (2 ^ 64 - 1 - seed) bytes

-- both keys have the same bytes
abbrev pub same_key : List ℕ → List ℕ → Bool
same_key [] [] = true
same_key [] (y ∷ ys) = false
same_key (x ∷ xs) [] = false
same_key (x ∷ xs) (y ∷ ys) = (x == y) && same_key xs ys

module _ {V : Type 0} where
  -- the key bytes of an item number
  abbrev pub key_of : Blocks → Option (Element V) → List ℕ
  key_of blocks None = []
  key_of blocks (Some e) = bytes_at blocks e.key

  -- the item number is that of an element with these key bytes
  pub record Stands (blocks : Blocks) (t : Table V) (at : ℕ) (key : List ℕ) : Type 0 where
    pub element : Element V
    pub found : item t at ≡ Some element
    pub bytes : blocks element.key ≡ Some key

  -- no element has these key bytes
  pub record Lacks (blocks : Blocks) (t : Table V) (key : List ℕ) : Type 0 where
    pub each : (at : ℕ) (e : Element V) → item t at ≡ Some e → blocks e.key ≢ Some key

  -- Each key is a live block with the bytes of its hash, and no two elements have one key.
  pub record Keyed (blocks : Blocks) (t : Table V) : Type 0 where
    pub placed : IsPlaced t
    pub live : (at : ℕ) (e : Element V) → item t at ≡ Some e → IsSome (blocks e.key)
    pub hashed : (at : ℕ) (e : Element V) → item t at ≡ Some e → e.hash ≡ hash_of t.seed (bytes_at blocks e.key)
    pub apart : (at other : ℕ) (e f : Element V) → item t at ≡ Some e → item t other ≡ Some f
        → blocks e.key ≡ blocks f.key → at ≡ other

  -- the tables, where each element is named by its key bytes
  abbrev pub key_tables : Blocks → Table V → Tables (List ℕ)
  key_tables blocks t = named (λ at. key_of blocks (item t at)) (tables t)

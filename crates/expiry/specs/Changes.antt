-- What the calls do to the deadlines, over the blocks of a store.
use Rattle.std.specs.Prelude.{◌≡◌, ℕ, List, Some}
use Rattle.blocks.specs.declared.BlockRef.{BlockRef}
use Rattle.blocks.specs.Blocks.{Blocks, bytes_at}
use Rattle.rehash_dict.specs.Tables.{inserted, removed}
use Rattle.rehash_dict.specs.Table.{Table, item}
use Rattle.rehash_dict.specs.Keyed.{hash_of, same_key, Stands, Lacks, key_tables}
use Rattle.rehash_dict.specs.Steps.{Adds, Swaps, Removes}

-- the key has this deadline
pub record HasDeadline (blocks : Blocks) (t : Table ℕ) (key : List ℕ) (deadline : ℕ) : Type 0 where
  pub at : ℕ
  pub ref : BlockRef
  pub hash : ℕ
  pub found : item t at ≡ Some (record { key = ref; hash = hash; value = deadline })
  pub bytes : blocks ref ≡ Some key

-- The key whose block is handed in gets a deadline. Where it has one, the moment alone changes, and the block that
-- names it stays; else an element joins, under the block handed in.
pub data Sets (blocks : Blocks) (old new : Table ℕ) (key : BlockRef) (deadline : ℕ) : Type 0 where
  changes : (at was : ℕ) → Stands blocks old at (bytes_at blocks key) → Swaps old new at was deadline
      → key_tables blocks new ≡ key_tables blocks old → Sets blocks old new key deadline
  joins : (at : ℕ) → Lacks blocks old (bytes_at blocks key)
      → Adds old new at (record { key = key; hash = hash_of old.seed (bytes_at blocks key); value = deadline })
      → key_tables blocks new ≡ inserted (hash_of old.seed) (key_tables blocks old) (bytes_at blocks key)
      → Sets blocks old new key deadline

-- The key has its deadline no more. Its block stays with whoever owns it.
pub record Clears (blocks : Blocks) (old new : Table ℕ) (key : List ℕ) : Type 0 where
  pub ref : BlockRef
  pub deadline : ℕ
  pub removes : Removes blocks old new key ref deadline
  pub tables : key_tables blocks new ≡ removed same_key (key_tables blocks old) key

-- Tables of a database that begin a rehash to fewer buckets.
use Rattle.std.specs.Prelude.{◌≡◌, ◌⊎◌, ℕ}
use Rattle.blocks.specs.Blocks.{Blocks}
use Rattle.rehash_dict.specs.Tables.{shrunk}
use Rattle.rehash_dict.specs.Keyed.{key_tables}
use Rattle.held.specs.Databases.{Bases, table_at, deadlines_at}

module _ {V : Type 0} (old new : Bases V) (db : ℕ) where
  -- the keys of the database were asked to shrink
  abbrev pub ShrinksKeys : Type 0
  ShrinksKeys = (blocks : Blocks) → key_tables blocks (table_at new db) ≡ shrunk (key_tables blocks (table_at old db))

  -- its keys were asked to shrink, and then its deadlines
  pub record Shrinks : Type 0 where
    pub keys : ShrinksKeys
    pub deadlines : (blocks : Blocks)
        → key_tables blocks (deadlines_at new db).table ≡ shrunk (key_tables blocks (deadlines_at old db).table)

  -- its keys were asked to shrink or stay, and its deadlines stay
  pub record BeginsToShrink : Type 0 where
    pub keys : ShrinksKeys ⊎ (table_at new db ≡ table_at old db)
    pub deadlines : deadlines_at new db ≡ deadlines_at old db

-- What contracts see of a key table: a dictionary from the bytes of key blocks to values.
use Rattle.std.specs.Prelude.{ℕ, [], Option, None, Some}
use Rattle.blocks.specs.declared.BlockRef.{BlockRef}
use Rattle.blocks.specs.Blocks.{Blocks}
pub use Rattle.rehash_dict.specs.Table.{Table, Element, item}
use Rattle.rehash_dict.specs.Grown.{Grown}
use Rattle.rehash_dict.specs.Keyed.{hash_of, key_tables}
pub use Rattle.rehash_dict.specs.Keyed.{Keyed, Stands, Lacks}
pub use Rattle.rehash_dict.specs.Steps.{Adds, Swaps, Removes}
pub use Rattle.rehash_dict.specs.MapOf.{value_of as value_at, own_of, refs_of as refs, map_of}

-- a table without a key, whose hashes have this seed
abbrev pub no_keys : {V : Type 0} → ℕ → Table V
no_keys seed = record { items = []; older = []; newer = []; position = 0; seed = seed; top = 0 }

-- the key block of an element
abbrev pub key_at : {V : Type 0} → Option (Element V) → Option BlockRef
key_at None = None
key_at (Some e) = Some e.key

-- the tables come from the old ones by inserts, removals and calls of `shrink`
abbrev pub TableGrows : {V : Type 0} → Blocks → Table V → Table V → Type 0
TableGrows blocks old new = Grown (hash_of old.seed) (key_tables blocks old) (key_tables blocks new)

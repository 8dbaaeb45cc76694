-- What contracts see of a dictionary of field blocks, each with the block of its value.
use Rattle.std.specs.Prelude.{◌≡◌, ℕ, List, [], ◌∷◌}
use Rattle.std.specs.List.{flat_map}
use Rattle.blocks.specs.declared.BlockRef.{BlockRef}
use Rattle.blocks.specs.Blocks.{Blocks, bytes_at, Changes}
use Rattle.pack_pairs.specs.Pairs.{Pair}
use Rattle.rehash_dict.specs.Table.{Table}
use Rattle.rehash_dict.specs.Keyed.{Keyed, hash_of, key_tables}
use Rattle.rehash_dict.specs.MapOf.{map_of, pair_of, refs_of}
use Rattle.rehash_dict.specs.Grown.{Grown}
use Rattle.hash_object.specs.Maps.{FieldMap}

-- a dictionary from fields to the blocks of values
abbrev pub FieldTable : Type 0
FieldTable = Table BlockRef

-- the bytes of each field beside those of its value, in the order of the item numbers
abbrev pub entries_in : Blocks → FieldTable → List Pair
entries_in blocks t = flat_map (pair_of blocks (λ (at : BlockRef). bytes_at blocks at)) t.items

-- from the bytes of each field to those of its value
abbrev pub fields_in : Blocks → FieldTable → FieldMap
fields_in blocks t = map_of blocks (λ (at : BlockRef). bytes_at blocks at) t

-- the block of each field and that of its value
abbrev pub blocks_of : FieldTable → List BlockRef
blocks_of t = refs_of (λ (at : BlockRef). at ∷ []) t

-- a dictionary without a field and without a table, whose hashes have this seed
abbrev pub no_fields : ℕ → FieldTable
no_fields seed = record { items = []; older = []; newer = []; position = 0; seed = seed; top = 0 }

-- The dictionary has these fields and values now, whose blocks it names.
pub record IsHashed (before after : Blocks) (old new : FieldTable) (map : FieldMap) : Type 0 where
  pub keyed : Keyed after new
  pub seed : new.seed ≡ old.seed
  pub fields_are : fields_in after new ≡ map
  pub changes : Changes before after (blocks_of old) (blocks_of new)
  pub grown : Grown (hash_of old.seed) (key_tables before old) (key_tables after new)

-- What contracts see of a dictionary of member blocks.
use Rattle.std.specs.Prelude.{◌≡◌, ℕ, []}
use Rattle.blocks.specs.Blocks.{Blocks, Changes}
use Rattle.rehash_dict.specs.Table.{Table}
use Rattle.rehash_dict.specs.Keyed.{Keyed, hash_of, key_tables}
use Rattle.rehash_dict.specs.MapOf.{content, key_refs}
use Rattle.rehash_dict.specs.Grown.{Grown}
use Rattle.set_object.specs.Strings.{Strings}

-- a dictionary without a member and without a table, whose hashes have this seed
abbrev pub no_members : ℕ → Table (Unit {0})
no_members seed = record { items = []; older = []; newer = []; position = 0; seed = seed; top = 0 }

-- The dictionary has these members now, whose blocks it names.
pub record IsHashed (before after : Blocks) (old new : Table (Unit {0})) (set : Strings) : Type 0 where
  pub keyed : Keyed after new
  pub seed : new.seed ≡ old.seed
  pub members_are : content after new ≡ set
  pub changes : Changes before after (key_refs old) (key_refs new)
  pub grown : Grown (hash_of old.seed) (key_tables before old) (key_tables after new)

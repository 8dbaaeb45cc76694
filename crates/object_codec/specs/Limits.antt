-- The ranges of the limits.
use Rattle.std.specs.Prelude.{◌≤◌}
use Rattle.object_codec.specs.declared.limits.Limits.{Limits}

-- the limits that a value may be made with
pub record AreInRange (limits : Limits) : Type 0 where
  pub hash_entries : limits.hash_entries ≤ 4096
  pub set_entries : limits.set_entries ≤ 4096
  pub zset_entries : limits.zset_entries ≤ 4096
  pub hash_value : limits.hash_value ≤ 4096
  pub set_value : limits.set_value ≤ 4096
  pub zset_value : limits.zset_value ≤ 4096
  pub set_intset : limits.set_intset ≤ 65536

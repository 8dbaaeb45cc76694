-- The limits where none are given: those of the Redis configuration.
use Rattle.std.specs.Prelude.{◌≡◌}
use Rattle.object_codec.specs.declared.limits.Limits.{Limits}

pub record AreDefaults (limits : Limits) : Type 0 where
  pub hash_entries : limits.hash_entries ≡ 512
  pub set_entries : limits.set_entries ≡ 128
  pub zset_entries : limits.zset_entries ≡ 128
  pub hash_value : limits.hash_value ≡ 64
  pub set_value : limits.set_value ≡ 64
  pub zset_value : limits.zset_value ≡ 64
  pub set_intset : limits.set_intset ≡ 512

use Rattle.held.proofs.Calls as held
use Rattle.held.specs.Databases.{SameSettings}
use Rattle.keyspace.specs.Databases.{Bases}
use Rattle.keyspace.specs.Values.{value_of, value_refs, value_own}

pub settings_then : (a b c : Bases) → SameSettings a b → SameSettings b c → SameSettings a c
settings_then = held.settings_then value_refs value_of value_own

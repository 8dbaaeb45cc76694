-- What a store was served over the calls of a command, and what they changed.
use Rattle.blocks.specs.Blocks.{Served, no_step}
use Rattle.blocks.proofs.Serve.{served_then}
use Rattle.blocks.specs.Blocks.{Blocks}
use Rattle.held.proofs.Within as held_within
use Rattle.keyspace.specs.Databases.{Bases}
use Rattle.keyspace.specs.Values.{value_refs}
use Rattle.keyspace.specs.Scopes.{Scope, anything, Within}

-- no call
pub nothing : {S : Type 0} (step : S → S → Type 0) (store : S) → Served step store store
nothing step store = no_step

-- the calls of two parts
pub both : {S : Type 0} (step : S → S → Type 0) (a b c : S) → Served step a b → Served step b c → Served step a c
both step a b c p q = served_then a b c p q

-- nothing changed
pub unmoved : (scope : Scope) (bases : Bases) (m : Blocks) → Within scope bases bases m m
unmoved scope bases m = held_within.within_none value_refs scope bases m

-- one change after another
pub further : (scope : Scope) (a b c : Bases) (m mid after : Blocks) → Within scope a b m mid → Within scope b c mid after → Within scope a c m after
further scope a b c m mid after p q = held_within.within_then value_refs scope a b c m mid after p q

-- whatever is within a scope is within all that there is
pub unbound : (scope : Scope) (old new : Bases) (m after : Blocks) → Within scope old new m after → Within anything old new m after
unbound scope old new m after p = held_within.within_wider value_refs scope anything (λ db touched. tt) (λ db key named. tt) (λ db emptied. tt) old new m after p

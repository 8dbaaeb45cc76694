-- What a store was served over the calls of a command.
use Rattle.blocks.specs.Blocks.{Served, no_step}
use Rattle.blocks.proofs.Serve.{served_then}

-- no call
pub nothing : {S : Type 0} (step : S → S → Type 0) (store : S) → Served step store store
nothing step store = no_step

-- the calls of two parts
pub both : {S : Type 0} (step : S → S → Type 0) (a b c : S) → Served step a b → Served step b c → Served step a c
both step a b c p q = served_then a b c p q

use Rattle.redis_core.proofs.laws.refusals_change_nothing.Goals as goal

pub returns : goal.returns
returns c = λ seed old moment words reply new s. s.1

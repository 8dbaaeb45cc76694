use Rattle.std.proofs.Common.{ap, ◌∙◌, ℕ}
use Rattle.std.specs.Prelude.{◌==◌}
use Rattle.rdb_streams.proofs.Claims.{claims_len}
use Rattle.rdb_streams.proofs.unclaimed.Unclaimed.is_empty.Goals as goal

pub returns : goal.returns
returns c = ap (λ (n : ℕ). n == 0) (c.len.ensures.len ∙ claims_len c.self.inside.entries.entries c.args.self.now c.self.invariant c.self.view_is)

use Rattle.std.proofs.Common.{◌∙◌, map}
use Rattle.std.specs.Prelude.{string_bytes}
use Rattle.program_top.proofs.Readings.{app_matches, app_refuses}
use Rattle.program_top.proofs.words.matched.Goals as goal

pub returns-in-Ok-clause-some : goal.returns-in-Ok-clause-some
returns-in-Ok-clause-some c = app_matches _ (map string_bytes c.args.words.now) c.requires c.in-Ok.matches c.in-Ok.ensures.matches c.in-Ok.ensures.kinds

pub returns-clause-none : goal.returns-clause-none
returns-clause-none c = app_refuses _ (map string_bytes c.args.words.now) c.requires c.in-Err.error c.in-Err.ensures.kinds (λ e. c.in_default.not-OutOfMemory (c.kind.ensures ∙ e))

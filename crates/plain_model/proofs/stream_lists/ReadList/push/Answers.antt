use Rattle.std.proofs.Common.{[], ◌∷◌, ◌++◌, ap, ◌∙◌}
use Rattle.plain_model.proofs.stream_lists.ReadList.push.Goals as goal

pub returns-clause-ok : goal.returns-clause-ok
returns-clause-ok c = c.in_ok-push.ensures.items ∙ ap (λ l. l ++ (c.args.key, c.args.id) ∷ []) c.self.view_is

use Rattle.std.proofs.Common.{sym, ap, ◌∙◌}
use Rattle.std.specs.FinMap.{get}
use Rattle.std.specs.Option.{option_map}
use Rattle.stream_groups.proofs.Uses.{named_get}
use Rattle.key_marks.specs.Marked.{numbers_of, or_none}
use Rattle.key_marks.proofs.marks.Marks.at.Goals as goal

pub returns-in-None : goal.returns-in-None
returns-in-None c =
    ap (λ o. or_none (option_map numbers_of o)) c.in-None.ensures.value
    ∙ ap or_none (sym (named_get numbers_of c.self.inside.marks.entries c.self.invariant c.args.key.now) ∙ ap (λ m. get m c.args.key.now) c.self.view_is)

pub returns-in-Some : goal.returns-in-Some
returns-in-Some c =
    c.as_slice.ensures.value ∙ ap (λ o. or_none (option_map numbers_of o)) c.in-Some.ensures.value
    ∙ ap or_none (sym (named_get numbers_of c.self.inside.marks.entries c.self.invariant c.args.key.now) ∙ ap (λ m. get m c.args.key.now) c.self.view_is)

use Rattle.std.proofs.Common.{◌≡◌, ◌++◌, ◌∷◌, [], sym, ap, ◌∙◌}
use Rattle.std.specs.FinMap.{get, insert, remove}
use Rattle.std.specs.Option.{option_map}
use Rattle.stream_groups.proofs.Uses.{named_get, named_insert, named_remove}
use Rattle.key_marks.specs.Marked.{numbers_of, or_none}
use Rattle.key_marks.proofs.Marking.{put_removed}
use Rattle.key_marks.proofs.marks.Marks.add.Goals as goal

pub returns : goal.returns
returns c =
    let m = c.args.self.now in
    let key = c.args.key.now in
    let olds = c.self.inside.marks.entries in
    let numbers = c.push.new.self in
    let found : option_map numbers_of c.remove-found.result ≡ get m key =
    ap (option_map numbers_of) c.remove-found.ensures.value ∙ sym (named_get numbers_of olds c.self.invariant key) ∙ ap (λ x. get x key) c.self.view_is in
    named_insert numbers_of c.remove-found.new.self.entries c.remove-found.ensures.ordered c.insert.new.self.entries c.insert.ensures.ordered c.in_ok-name.name numbers c.in_ok-insert.ensures.entries
    ∙ ap (λ x. insert x c.in_ok-name.name.items numbers.items)
    (named_remove numbers_of olds c.self.invariant c.remove-found.new.self.entries c.remove-found.ensures.ordered key c.remove-found.ensures.entries ∙ ap (λ x. remove x key) c.self.view_is)
    ∙ ap (λ name. insert (remove m key) name numbers.items) c.in_ok-name.ensures.items
    ∙ put_removed m key numbers.items
    ∙ ap (insert m key) (c.in_ok-push.ensures.items ∙ ap (λ l. l ++ c.args.number ∷ []) (c.some_or_none-numbers.ensures ∙ ap or_none found))

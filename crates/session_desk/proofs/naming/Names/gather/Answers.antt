use Rattle.std.proofs.Common.{◌++◌, map, sym, ap, ◌∙◌}
use Rattle.written_keys.specs.Written.{key_of}
use Rattle.session_desk.specs.Writing.{texts_of}
use Rattle.session_desk.proofs.Gathering.{gathers}
use Rattle.session_desk.proofs.naming.Names.gather.Goals as goal

pub returns-clause-gathers : goal.returns-clause-gathers
returns-clause-gathers c =
    let w = c.in_ok-written.written in
    let olds = texts_of c.args.self.now.keys.items in
    let keys = c.in_ok-push_keys.ensures ∙ ap (λ l. olds ++ map key_of l) (c.deref.ensures.value ∙ c.in_ok-written.ensures.places) in
    gathers c.args.self.now _ c.args.request.now keys c.empties-self.ensures.before (λ few. sym c.in_ok-written.ensures.emptied ∙ c.empties-self.ensures.none few)

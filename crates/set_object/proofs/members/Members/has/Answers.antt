use Rattle.std.proofs.Common.{◌≡◌, false, List, ℕ, Option, unwrap_or, [], sym, subst, ◌∙◌, ap}
use Rattle.listpack.specs.Pack.{texts}
use Rattle.set_object.specs.Strings.{has, set_of}
use Rattle.set_object.specs.Members.{members_of}
use Rattle.set_object.specs.declared.members.Body.{Body}
use Rattle.set_object.proofs.Sets.{has_empty, found_has}
use Rattle.set_object.proofs.members.Members.has.Goals as goal

pub returns-in-Empty : goal.returns-in-Empty
returns-in-Empty g c = subst (λ (b : Body). false ≡ has (members_of (g.B.BlockStore.blocks c.args.store.now) b) c.args.member.now) (sym c.in-Empty.is) (sym (has_empty c.args.member.now))

pub returns-in-Pack : goal.returns-in-Pack
returns-in-Pack g c =
    let m = g.B.BlockStore.blocks c.args.store.now in
    let q = c.args.member.now in
    c.is_some-in-Pack.ensures ∙ found_has c.find_text.result (texts c.bytes-in-Pack.result.now) q c.find_text.ensures.found c.find_text.ensures.none
    ∙ ap (λ (o : Option (List ℕ)). has (set_of (texts (unwrap_or o []))) q) (sym c.bytes-in-Pack.ensures)
    ∙ ap (λ (b : Body). has (members_of m b) q) (sym c.in-Pack.is)

use Rattle.std.proofs.Common.{◌≡◌, false, sym, subst}
use Rattle.set_object.specs.Strings.{has}
use Rattle.set_object.specs.Members.{members_of}
use Rattle.set_object.specs.declared.members.Body.{Body}
use Rattle.set_object.proofs.Sets.{has_empty}
use Rattle.set_object.proofs.members.Members.bytes_without.Goals as goal

pub returns-in-Empty-clause-there : goal.returns-in-Empty-clause-there
returns-in-Empty-clause-there g c = subst (λ (b : Body). false ≡ has (members_of (g.B.BlockStore.blocks c.args.store.now) b) c.args.member.now) (sym c.in-Empty.is) (sym (has_empty c.args.member.now))

use Rattle.std.proofs.Common.{◌∙◌, sym, arith}
use Rattle.std.specs.FinMap.{remove, len}
use Rattle.set_object.specs.Members.{members, form_of}
use Rattle.set_object.proofs.Sets.{len_taken}
use Rattle.set_object.proofs.Taking.{none_left, form_empty}
use Rattle.set_object.proofs.members.Members.last_without.Goals as goal

pub returns-then-has-clause-placed : goal.returns-then-has-clause-placed
returns-then-has-clause-placed g c =
    let m = g.B.BlockStore.blocks c.args.store.now in
    let old = members m c.args.self.now in
    none_left m c.args.self.now (remove old c.args.member.now) (omega (arith, c.requires.last, len_taken old c.args.member.now (sym c.has.ensures ∙ c.if-has.true)))

pub returns-then-has-clause-form : goal.returns-then-has-clause-form
returns-then-has-clause-form g c =
    let m = g.B.BlockStore.blocks c.args.store.now in
    let old = members m c.args.self.now in
    form_empty (form_of c.args.self.now) (len (remove old c.args.member.now)) c.requires.packed (omega (arith, c.requires.last, len_taken old c.args.member.now (sym c.has.ensures ∙ c.if-has.true)))

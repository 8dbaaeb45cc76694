use Rattle.std.proofs.Common.{◌≡◌, is_some, true, sym, ap, ◌∙◌, arith}
use Rattle.std.specs.FinMap.{remove, len}
use Rattle.blocks.specs.Blocks.{no_step}
use Rattle.set_object.specs.Strings.{has}
use Rattle.set_object.specs.Members.{members, form_of}
use Rattle.set_object.proofs.Sets.{len_taken}
use Rattle.set_object.proofs.Taking.{form_stays}
use Rattle.set_object.proofs.members.Members.place_without.Goals as goal

pub returns-then-len-eq1-clause-served : goal.returns-then-len-eq1-clause-served
returns-then-len-eq1-clause-served g c = no_step

pub returns-in_err-bytes-clause-served : goal.returns-in_err-bytes-clause-served
returns-in_err-bytes-clause-served g c = no_step

pub returns-clause-served : goal.returns-clause-served
returns-clause-served g c = no_step

pub returns-in-Ok-clause-form : goal.returns-in-Ok-clause-form
returns-in-Ok-clause-form g c =
    let m = g.B.BlockStore.blocks c.args.store.now in
    let old = members m c.args.self.now in
    let there : has old c.args.member.now ≡ true = sym c.in_ok-bytes.ensures.there ∙ ap is_some c.in-Some.is in
    c.in-Ok.ensures.form
    ∙ form_stays (form_of c.args.self.now) (len (remove old c.args.member.now))
    (let n = c.len.ensures m c.requires.sound in omega (arith, n, len_taken old c.args.member.now there, c.if-len-eq1.false))

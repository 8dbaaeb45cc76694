use Rattle.std.proofs.Common.{◌≡◌, ap, ◌∙◌, arith}
use Rattle.std.specs.FinMap.{len}
use Rattle.set_object.specs.Members.{members}
use Rattle.plain_model.specs.SetSteps.{drop_all}
use Rattle.cmd_sets.proofs.Growing.{len_less}
use Rattle.cmd_sets.proofs.removing.RemoveSetEdit.edit_set.Goals as goal

pub overflow_sub-self : goal.overflow_sub-self
overflow_sub-self g c =
    let old = members (g.B.BlockStore.blocks c.args.store.now) c.args.set.now in
    let before = c.len-before.ensures (g.B.BlockStore.blocks c.args.store.now) c.requires.sound in
    let after : c.len.result ≡ len (drop_all old c.args.self.now.words.now) = c.len.ensures (g.B.BlockStore.blocks c.drop_words.new.store) c.drop_words.ensures.sound
    ∙ ap len c.in_ok-drop_words.ensures.members in
    omega (arith, before, after, len_less old c.args.self.now.words.now)

pub returns-clause-makes : goal.returns-clause-makes
returns-clause-makes g c =
    let before = c.len-before.ensures (g.B.BlockStore.blocks c.args.store.now) c.requires.sound in
    let after = c.len.ensures (g.B.BlockStore.blocks c.drop_words.new.store) c.drop_words.ensures.sound in
    record {
      is = c.in_ok-drop_words.ensures.members;
      counted = omega (arith, before, after);
      form_is = c.in_ok-drop_words.ensures.form;
    }

pub returns-clause-settled : goal.returns-clause-settled
returns-clause-settled g c =
    c.in_ok-drop_words.ensures.settles (len (members (g.B.BlockStore.blocks c.args.store.now) c.args.set.now)) (λ less. absurd (omega (arith, less)))

use Rattle.std.proofs.Common.{◌≡◌, ap, ◌∙◌, arith}
use Rattle.std.specs.FinMap.{len}
use Rattle.set_object.specs.Members.{members}
use Rattle.plain_model.specs.SetSteps.{add_all}
use Rattle.cmd_sets.proofs.Growing.{len_more}
use Rattle.cmd_sets.proofs.adding.AddSetEdit.edit_set.Goals as goal

pub overflow_sub-self : goal.overflow_sub-self
overflow_sub-self g c =
    let old = members (g.B.BlockStore.blocks c.args.store.now) c.args.set.now in
    let before = c.len-before.ensures (g.B.BlockStore.blocks c.args.store.now) c.requires.sound in
    let after : c.len.result ≡ len (add_all old c.args.self.now.words.now) = c.len.ensures (g.B.BlockStore.blocks c.add_words.new.store) c.add_words.ensures.sound
    ∙ ap len c.in_ok-add_words.ensures.members in
    omega (arith, before, after, len_more old c.args.self.now.words.now)

pub returns-clause-makes : goal.returns-clause-makes
returns-clause-makes g c =
    let old = members (g.B.BlockStore.blocks c.args.store.now) c.args.set.now in
    let before = c.len-before.ensures (g.B.BlockStore.blocks c.args.store.now) c.requires.sound in
    let after = c.len.ensures (g.B.BlockStore.blocks c.add_words.new.store) c.add_words.ensures.sound in
    record {
      is = c.in_ok-add_words.ensures.members;
      counted = omega (arith, before, after);
      risen = c.in_ok-add_words.ensures.form;
    }

pub returns-clause-settled : goal.returns-clause-settled
returns-clause-settled g c fewer =
    let old = members (g.B.BlockStore.blocks c.args.store.now) c.args.set.now in
    absurd (omega (arith, fewer, ap len c.in_ok-add_words.ensures.members, len_more old c.args.self.now.words.now))

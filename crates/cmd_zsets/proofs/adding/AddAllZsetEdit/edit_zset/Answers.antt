use Rattle.std.proofs.Common.{◌≡◌, ap, rules, arith}
use Rattle.std.specs.FinMap.{len}
use Rattle.zset_object.specs.Scored.{scores}
use Rattle.plain_model.specs.ZsetSteps.{write_scores}
use Rattle.cmd_zsets.proofs.Counting.{added_is}
use Rattle.cmd_zsets.proofs.Rests.{write_more}
use Rattle.cmd_zsets.proofs.adding.AddAllZsetEdit.edit_zset.Goals as goal

pub returns-clause-makes : goal.returns-clause-makes
returns-clause-makes g c =
    let m = g.B.BlockStore.blocks c.args.store.now in
    let after = g.B.BlockStore.blocks c.write_each.new.store in
    let old = scores m c.args.zset.now in
    let new = scores after c.write_each.new.zset in
    let self = c.args.self.now in
    let is : new ≡ write_scores self.rules old self.pairs.now = search rules in
    let was : c.len-before.result ≡ len old = c.len-before.ensures m c.requires.sound in
    let are : c.len.result ≡ len new = c.len.ensures after c.write_each.ensures.sound in
    record {
      is = is;
      counted = added_is self.rules self.ch self.pairs.now old new _ c.in_ok-changed.changed c.saturating_sub.result c.counted-self.ensures c.in_ok-changed.ensures.changed (search rules) is;
      risen = search rules;
    }

pub returns-clause-settled : goal.returns-clause-settled
returns-clause-settled g c fewer =
    let m = g.B.BlockStore.blocks c.args.store.now in
    let after = g.B.BlockStore.blocks c.write_each.new.store in
    let old = scores m c.args.zset.now in
    let new = scores after c.write_each.new.zset in
    let self = c.args.self.now in
    let is : new ≡ write_scores self.rules old self.pairs.now = search rules in
    absurd (omega (arith, fewer, ap len is, write_more self.rules old self.pairs.now))

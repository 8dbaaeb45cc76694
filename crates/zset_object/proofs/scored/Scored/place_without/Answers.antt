use Rattle.std.proofs.Common.{refl, sym, ap, ◌∙◌, is_some}
use Rattle.blocks.specs.Blocks.{no_step}
use Rattle.zset_object.proofs.Placing.{none_there, member_there}
use Rattle.zset_object.proofs.scored.Scored.place_without.Goals as goal

pub returns-in_default : goal.returns-in_default
returns-in_default g c = record {
  there = sym (none_there (g.B.BlockStore.blocks c.args.store.now) c.args.self.now.body c.args.member.now c.requires.packed c.in_default.not-Pack);
  placed = tt;
  form = tt;
  served = no_step;
  none_blocks = refl;
  err_blocks = tt;
}

pub returns-in-Ok-clause-there : goal.returns-in-Ok-clause-there
returns-in-Ok-clause-there g c =
    sym
    (member_there (g.B.BlockStore.blocks c.args.store.now) c.args.self.now.limits c.args.self.now.body c.in-Pack.packed c.bytes.result.now c.in-Pack.is c.bytes.ensures
    c.args.member.now c.find_index.result c.find_index.ensures ∙ ap is_some c.in-Some.is)

pub returns-in-None-clause-there : goal.returns-in-None-clause-there
returns-in-None-clause-there g c =
    sym
    (member_there (g.B.BlockStore.blocks c.args.store.now) c.args.self.now.limits c.args.self.now.body c.in-Pack.packed c.bytes.result.now c.in-Pack.is c.bytes.ensures
    c.args.member.now c.find_index.result c.find_index.ensures ∙ ap is_some c.in-None.is)

pub returns-in-None-clause-served : goal.returns-in-None-clause-served
returns-in-None-clause-served g c = no_step

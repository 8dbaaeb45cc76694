use Rattle.keyspace.specs.Forms.{Log}
use Rattle.keyspace.specs.Scopes.{one_key}
use Rattle.keyspace.specs.Commands.{visible}
use Rattle.keyspace.proofs.Forming.{formed_none}
use Rattle.keyspace.proofs.Running.{same_held}
use Rattle.cmd_streams.specs.Handed.{reader}
use Rattle.cmd_streams.proofs.AtKeys.{formed_log}
use Rattle.cmd_streams.proofs.Handing.{none_handed, other_handed}
use Rattle.cmd_streams.proofs.delivering.hand_one.Goals as goal

pub returns-in-Missing : goal.returns-in-Missing
returns-in-Missing g c = record {
  gives = none_handed (visible g.B.BlockStore.blocks c.args.keyspace.now c.args.at.now) (reader c.args.at.now.moment c.args.who.now) c.args.key.now c.args.above c.in-Missing.ensures;
  held = same_held g.B.BlockStore.blocks g.B.BlockStore.step (one_key c.args.at.now.db c.args.key.now) c.args.keyspace.now c.requires.ready.sound;
  forms = formed_none g.B.BlockStore.blocks Log c.args.keyspace.now;
}

pub returns-in-Other : goal.returns-in-Other
returns-in-Other g c = record {
  gives = other_handed (visible g.B.BlockStore.blocks c.args.keyspace.now c.args.at.now) (reader c.args.at.now.moment c.args.who.now) c.args.key.now c.args.above c.in-Other.ensures;
  held = same_held g.B.BlockStore.blocks g.B.BlockStore.step (one_key c.args.at.now.db c.args.key.now) c.args.keyspace.now c.requires.ready.sound;
  forms = formed_none g.B.BlockStore.blocks Log c.args.keyspace.now;
}

pub returns-in_ok-hand-in-There-clause-forms : goal.returns-in_ok-hand-in-There-clause-forms
returns-in_ok-hand-in-There-clause-forms g c = formed_log _ g.B.BlockStore.blocks g.B.BlockStore.step c.args.keyspace.now c.change_stream.new.keyspace c.args.at.now c.args.key.now
    c.in_ok-hand-in-There.ensures.changed c.change_stream.ensures.held

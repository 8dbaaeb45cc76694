use Rattle.std.proofs.Common.{◌≡◌, ◌++◌, drop, map}
use Rattle.plain_model.specs.GroupSteps.{hand_out}
use Rattle.keyspace.specs.Scopes.{asked_keys, some_keys}
use Rattle.keyspace.specs.Forms.{Log, Formed}
use Rattle.keyspace.specs.Commands.{KeepsTo, visible}
use Rattle.cmd_streams.specs.Handed.{key_parts, reader}
use Rattle.cmd_streams.proofs.Handouts.{AreAsked}
use Rattle.cmd_streams.proofs.delivering.hand_each.Given as goal

abbrev pub invariant-loop-one : goal.invariant-loop-one
invariant-loop-one g l =
    let blocks = g.B.BlockStore.blocks in
    let who = reader l.at.moment l.who in
    record {
      told : map key_parts l.found.items ++ (hand_out (visible blocks l.keyspace l.at) who (drop l.one-index l.asked)).0 ≡ map key_parts l.fn.found.items
          ++ (hand_out (visible blocks l.fn.keyspace l.at) who l.asked).0;
      world : (hand_out (visible blocks l.keyspace l.at) who (drop l.one-index l.asked)).1 ≡ (hand_out (visible blocks l.fn.keyspace l.at) who l.asked).1;
      held : KeepsTo blocks g.B.BlockStore.step (some_keys l.at.db (asked_keys l.asked)) l.fn.keyspace l.keyspace;
      part : AreAsked (drop l.one-index l.asked) l.asked;
      forms : Formed blocks Log l.fn.keyspace l.keyspace;
    }

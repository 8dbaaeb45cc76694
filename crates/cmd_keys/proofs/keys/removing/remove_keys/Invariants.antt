use Rattle.std.proofs.Common.{◌≡◌, ◌≤◌, ◌+◌, length, drop}
use Rattle.blocks.specs.Blocks.{Served}
use Rattle.plain_model.specs.KeySteps.{removed, remove_all}
use Rattle.keyspace.specs.Databases.{SameSettings}
use Rattle.keyspace.specs.Sound.{Sound}
use Rattle.keyspace.specs.Commands.{seen}
use Rattle.keyspace.specs.Scopes.{no_key, Within}
use Rattle.cmd_keys.proofs.keys.removing.remove_keys.Given as goal

abbrev pub invariant-loop-key : goal.invariant-loop-key
invariant-loop-key g l =
    let blocks = g.B.BlockStore.blocks in
    let world = seen l.at l.keyspace.bases (blocks l.keyspace.store) in
    let first = seen l.at l.fn.keyspace.bases (blocks l.fn.keyspace.store) in
    record {
      count : l.count + removed world (drop l.key-index l.keys) ≡ removed first l.keys;
      few : l.count + length (drop l.key-index l.keys) ≤ length l.keys;
      world : remove_all world (drop l.key-index l.keys) ≡ remove_all first l.keys;
      sound : Sound l.keyspace.bases (blocks l.keyspace.store);
      served : Served g.B.BlockStore.step l.fn.keyspace.store l.keyspace.store;
      within : Within (no_key l.at.db) l.fn.keyspace.bases l.keyspace.bases (blocks l.fn.keyspace.store) (blocks l.keyspace.store);
      settings : SameSettings l.fn.keyspace.bases l.keyspace.bases;
    }

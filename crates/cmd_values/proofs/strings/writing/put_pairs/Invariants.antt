use Rattle.std.proofs.Common.{◌≡◌, drop, take}
use Rattle.blocks.specs.Blocks.{Served}
use Rattle.plain_model.specs.StringSteps.{replace_all}
use Rattle.keyspace.specs.Databases.{SameSettings}
use Rattle.keyspace.specs.Sound.{Sound}
use Rattle.keyspace.specs.Commands.{seen}
use Rattle.keyspace.specs.Scopes.{some_keys, first_words, Within}
use Rattle.keyspace.specs.Insides.{Insides}
use Rattle.keyspace.specs.Forms.{Whole, Formed, ArePlaced, places_whole}
use Rattle.cmd_values.proofs.Pairs.{ArePart}
use Rattle.cmd_values.proofs.strings.writing.put_pairs.Given as goal

abbrev pub invariant-loop-pair : goal.invariant-loop-pair
invariant-loop-pair g l =
    let blocks = g.B.BlockStore.blocks in
    record {
      world : replace_all (seen l.at l.keyspace.bases (blocks l.keyspace.store)) (drop l.pair-index l.pairs) ≡ replace_all (seen l.at l.fn.keyspace.bases (blocks l.fn.keyspace.store)) l.pairs;
      sound : Sound l.keyspace.bases (blocks l.keyspace.store);
      served : Served g.B.BlockStore.step l.fn.keyspace.store l.keyspace.store;
      part : ArePart (drop l.pair-index l.pairs) l.pairs;
      within : Within (some_keys l.at.db (first_words l.pairs)) l.fn.keyspace.bases l.keyspace.bases (blocks l.fn.keyspace.store) (blocks l.keyspace.store);
      insides : Insides (some_keys l.at.db (first_words l.pairs)) l.fn.keyspace.bases l.keyspace.bases (blocks l.fn.keyspace.store) (blocks l.keyspace.store);
      settings : SameSettings l.fn.keyspace.bases l.keyspace.bases;
      forms : Formed blocks Whole l.fn.keyspace l.keyspace;
      whole : ArePlaced (places_whole l.at.db (take l.pair-index l.pairs)) l.fn.keyspace.bases l.keyspace.bases (blocks l.fn.keyspace.store) (blocks l.keyspace.store);
    }

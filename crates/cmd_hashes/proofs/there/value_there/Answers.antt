use Rattle.std.proofs.Common.{Some, None}
use Rattle.std.specs.FinMap.{get}
use Rattle.hash_object.specs.Fields.{fields}
use Rattle.cmd_hashes.proofs.Looking.{no_value, match_text}
use Rattle.cmd_hashes.proofs.there.value_there.Goals as goal

pub returns-in-None : goal.returns-in-None
returns-in-None g c = record { before = None; stands = rw c.in-None.is at c.requires.there; is = no_value c.args.field.now }

pub returns-in-Some : goal.returns-in-Some
returns-in-Some g c =
    let map = fields (g.B.BlockStore.blocks c.args.keyspace.now.store) c.hash_there.result.now in
    record {
      before = Some map;
      stands = record { deadline = c.hash_there.ensures.deadline; stands = c.hash_there.ensures.stands };
      is = match_text (get map c.args.field.now) c.get.result c.get.ensures;
    }

use Rattle.std.proofs.Common.{Some, None, sym}
use Rattle.std.specs.FinMap.{get-empty}
use Rattle.std.specs.Ordering.{nat_cmp}
use Rattle.std.specs.Cmp.Lexicographic.{slice_cmp}
use Rattle.zset_object.specs.Scored.{scores}
use Rattle.cmd_zsets.proofs.there.score_there.Goals as goal

pub returns-in-None : goal.returns-in-None
returns-in-None g c = record { before = None; stands = rw c.in-None.is at c.requires.there; is = get-empty (slice_cmp nat_cmp) c.args.member.now }

pub returns-in-Some : goal.returns-in-Some
returns-in-Some g c =
    record {
      before = Some (scores (g.B.BlockStore.blocks c.args.keyspace.now.store) c.zset_there.result.now);
      stands = record { deadline = c.zset_there.ensures.deadline; stands = c.zset_there.ensures.stands };
      is = sym c.score.ensures;
    }

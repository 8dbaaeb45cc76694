use Rattle.std.proofs.Common.{ap, ◌∙◌}
use Rattle.std.specs.FinMap.{get, get-empty}
use Rattle.std.specs.Ordering.{nat_cmp}
use Rattle.std.specs.Cmp.Lexicographic.{slice_cmp}
use Rattle.zset_object.specs.declared.scored.Body.{Body}
use Rattle.zset_object.specs.Scored.{scores_of}
use Rattle.zset_object.proofs.Placing.{rank_read}
use Rattle.zset_object.proofs.scored.Scored.rank.Goals as goal

pub returns-in-Empty : goal.returns-in-Empty
returns-in-Empty g c = ap (λ (b : Body). get (scores_of (g.B.BlockStore.blocks c.args.store.now) b) c.args.member.now) c.in-Empty.is ∙ get-empty (slice_cmp nat_cmp) c.args.member.now

pub returns-in-Pack : goal.returns-in-Pack
returns-in-Pack g c =
    rank_read (g.B.BlockStore.blocks c.args.store.now) c.args.self.now.limits c.args.self.now.body c.in-Pack.packed c.bytes.result.now c.in-Pack.is c.bytes.ensures c.args.member.now
    c.find_index.result c.find_index.ensures

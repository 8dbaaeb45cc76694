use Rattle.std.proofs.Common.{sym, ap, ◌∙◌}
use Rattle.std.specs.FinMap.{get, get-empty}
use Rattle.std.specs.Ordering.{nat_cmp}
use Rattle.std.specs.Cmp.Lexicographic.{slice_cmp}
use Rattle.zset_object.specs.declared.scored.Body.{Body}
use Rattle.zset_object.specs.Scored.{scores_of}
use Rattle.zset_object.proofs.scored.Scored.score.Goals as goal

pub returns-in-Empty : goal.returns-in-Empty
returns-in-Empty g c = sym (ap (λ (b : Body). get (scores_of (g.B.BlockStore.blocks c.args.store.now) b) c.args.member.now) c.in-Empty.is ∙ get-empty (slice_cmp nat_cmp) c.args.member.now)

use Rattle.std.proofs.Common.{sym, ap, ◌∙◌}
use Rattle.blocks.specs.Blocks.{no_step}
use Rattle.zset_object.specs.declared.scored.Body.{Body}
use Rattle.zset_object.specs.Scored.{scores_of}
use Rattle.zset_object.proofs.Placing.{new_placed}
use Rattle.zset_object.proofs.scored.Scored.table_all.Goals as goal

pub returns-in_err-bytes-in-Pack-clause-served : goal.returns-in_err-bytes-in-Pack-clause-served
returns-in_err-bytes-in-Pack-clause-served g c = no_step

pub returns-in-Empty-clause-placed : goal.returns-in-Empty-clause-placed
returns-in-Empty-clause-placed g c =
    let m = g.B.BlockStore.blocks c.args.store.now in
    let self = c.args.self.now in
    let h = c.new.ensures in
    new_placed m self.seed c.new.result (scores_of m self.body) (h.sound m) (h.empty m ∙ sym (ap (λ (b : Body). scores_of m b) c.in-Empty.is)) h.refs (h.tables m) h.seed

pub returns-in-Empty-clause-served : goal.returns-in-Empty-clause-served
returns-in-Empty-clause-served g c = no_step

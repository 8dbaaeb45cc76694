use Rattle.std.proofs.Common.{ℤ, w64, [], subst}
use Rattle.std.proofs.lemmas.Int.{to_z-of_z}
use Rattle.std.specs.FinMap.{insert}
use Rattle.blocks.specs.Blocks.{Blocks, Changes}
use Rattle.blocks.proofs.Change.{changes_then}
use Rattle.blocks.proofs.Serve.{served_then}
use Rattle.score_table.specs.Scored as table
use Rattle.zset_object.specs.Scored.{scores}
use Rattle.zset_object.proofs.Placing.{table_body, placed_then, all_same}
use Rattle.zset_object.proofs.scored.Scored.place_table.Goals as goal

pub returns-in-Ok-clause-placed : goal.returns-in-Ok-clause-placed
returns-in-Ok-clause-placed g c =
    let m = g.B.BlockStore.blocks c.args.store.now in
    let mid = g.B.BlockStore.blocks c.table_all.new.store in
    let n = g.B.BlockStore.blocks c.set.new.store in
    let self = c.args.self.now in
    let k = c.args.member.now in
    let h = c.in_ok-table.ensures.placed in
    table_body m n self.limits self.seed c.set.new.self (insert (scores m self) k c.args.score)
    (placed_then m mid n self.seed c.in_ok-table.table c.set.new.self _ _ h
    (subst (λ map. table.IsChanged mid n c.in_ok-table.table c.set.new.self (insert map k c.args.score)) h.scores_are
    (subst (λ (v : ℤ). table.IsChanged mid n c.in_ok-table.table c.set.new.self (insert (table.scores mid c.in_ok-table.table) k v)) (to_z-of_z w64 c.args.score c.ranges.score)
    c.in-Ok.ensures.changed)))

pub returns-in-Ok-clause-served : goal.returns-in-Ok-clause-served
returns-in-Ok-clause-served g c = served_then _ _ _ c.table_all.ensures.served c.set.ensures.served

pub returns-in-Err-clause-served : goal.returns-in-Err-clause-served
returns-in-Err-clause-served g c = served_then _ _ _ (served_then _ _ _ c.table_all.ensures.served c.set.ensures.served) c.release.ensures.served

pub returns-in-Err-clause-err_blocks : goal.returns-in-Err-clause-err_blocks
returns-in-Err-clause-err_blocks g c =
    let m = g.B.BlockStore.blocks c.args.store.now in
    let mid = g.B.BlockStore.blocks c.table_all.new.store in
    let n = g.B.BlockStore.blocks c.release.new.store in
    let t = c.in_ok-table.table in
    let ended : Changes mid n (table.refs t) [] =
    subst (λ (b : Blocks). Changes b n (table.refs t) []) c.in-Err.ensures.err_blocks
    (subst (λ t. Changes (g.B.BlockStore.blocks c.set.new.store) n (table.refs t) []) c.in-Err.ensures.err_table c.release.ensures.changes) in
    all_same m n (changes_then m mid n [] (table.refs t) [] c.in_ok-table.ensures.placed.changes ended)

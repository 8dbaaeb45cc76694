use Rattle.std.proofs.Common.{[], subst}
use Rattle.std.specs.FinMap.{insert}
use Rattle.blocks.specs.Blocks.{Blocks, Changes}
use Rattle.blocks.proofs.Change.{changes_then}
use Rattle.blocks.proofs.Serve.{served_then}
use Rattle.hash_object.specs.Hashed.{IsHashed, no_fields, blocks_of}
use Rattle.hash_object.specs.Fields.{fields}
use Rattle.hash_object.proofs.Tables.{hashed_then, all_same}
use Rattle.hash_object.proofs.Placing.{table_placed}
use Rattle.hash_object.proofs.fields.Fields.place_table.Goals as goal

pub returns-in-Ok-clause-placed : goal.returns-in-Ok-clause-placed
returns-in-Ok-clause-placed g c =
    let m = g.B.BlockStore.blocks c.args.store.now in
    let mid = g.B.BlockStore.blocks c.hash_all.new.store in
    let n = g.B.BlockStore.blocks c.set_field.new.store in
    let self = c.args.self.now in
    let k = c.args.field.now in
    let v = c.args.value.now in
    let h = c.in_ok-table.ensures.hashed in
    table_placed m n self c.set_field.new.table (insert (fields m self) k v)
    (hashed_then m mid n (no_fields self.seed) c.in_ok-table.table c.set_field.new.table _ _ h
    (subst (λ map. IsHashed mid n c.in_ok-table.table c.set_field.new.table (insert map k v)) h.fields_are c.in-Ok.ensures.hashed))

pub returns-in-Ok-clause-served : goal.returns-in-Ok-clause-served
returns-in-Ok-clause-served g c = served_then _ _ _ c.hash_all.ensures.served c.set_field.ensures.served

pub returns-in-Err-clause-served : goal.returns-in-Err-clause-served
returns-in-Err-clause-served g c = served_then _ _ _ (served_then _ _ _ c.hash_all.ensures.served c.set_field.ensures.served) c.end_table.ensures.served

pub returns-in-Err-clause-err_blocks : goal.returns-in-Err-clause-err_blocks
returns-in-Err-clause-err_blocks g c =
    let m = g.B.BlockStore.blocks c.args.store.now in
    let mid = g.B.BlockStore.blocks c.hash_all.new.store in
    let n = g.B.BlockStore.blocks c.end_table.new.store in
    let table = c.in_ok-table.table in
    let ended : Changes mid n (blocks_of table) [] =
    subst (λ (b : Blocks). Changes b n (blocks_of table) []) c.in-Err.ensures.err_blocks
    (subst (λ t. Changes (g.B.BlockStore.blocks c.set_field.new.store) n (blocks_of t) []) c.in-Err.ensures.err_table c.end_table.ensures.changes) in
    all_same m n (changes_then m mid n [] (blocks_of table) [] c.in_ok-table.ensures.hashed.changes ended)

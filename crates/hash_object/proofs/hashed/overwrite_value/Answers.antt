use Rattle.std.proofs.Common.{Some, ap, ◌∙◌}
use Rattle.blocks.specs.Blocks.{with_block, bytes_at}
use Rattle.blocks.proofs.Serve.{served_once}
use Rattle.blocks.proofs.Written.{overwritten_all}
use Rattle.hash_object.proofs.Tables.{value_live}
use Rattle.hash_object.proofs.Overwritten.{overwritten_hashed}
use Rattle.hash_object.proofs.hashed.overwrite_value.Goals as goal

pub write-requires-clause-live : goal.write-requires-clause-live
write-requires-clause-live g c = value_live (g.B.BlockStore.blocks c.args.store.now) c.args.table.now c.args.at _ c.requires.owned c.requires.entry.1.found

pub returns-clause-hashed : goal.returns-clause-hashed
returns-clause-hashed g c =
    let m = g.B.BlockStore.blocks c.args.store.now in
    let e = c.requires.entry in
    overwritten_hashed m (g.B.BlockStore.blocks c.write.new.self) c.args.table.now c.args.at (record { key = e.0; hash = e.1.hash; value = c.args.old }) c.args.value.now c.requires.keyed
    c.requires.owned e.1.found
    (c.write.ensures.written ∙ ap (λ bytes. with_block m c.args.old (Some bytes)) (overwritten_all (bytes_at m c.args.old) c.args.value.now c.requires.same))

pub returns-clause-served : goal.returns-clause-served
returns-clause-served g c = served_once _ _ c.write.ensures.step

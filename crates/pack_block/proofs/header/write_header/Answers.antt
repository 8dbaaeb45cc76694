use Rattle.std.proofs.Common.{ℕ, ◌++◌, List, Some, length, drop, unwrap_or, [], ap, sym, ◌∙◌}
use Rattle.byteorder.specs.Endian.{little_bytes}
use Rattle.blocks.specs.Blocks.{with_block, overwritten, bytes_at}
use Rattle.blocks.proofs.Serve.{served_once}
use Rattle.pack_block.proofs.Edited.{headed_over}
use Rattle.pack_block.proofs.header.write_header.Goals as goal

pub returns-clause-written : goal.returns-clause-written
returns-clause-written g c =
    let m = g.B.BlockStore.blocks c.args.store.now in
    let bs = bytes_at m c.args.at in
    c.write.ensures.written
    ∙ ap (λ (xs : List ℕ). with_block m c.args.at (Some (overwritten bs 0 xs))) c.header_of-header.ensures
    ∙ ap (λ (xs : List ℕ). with_block m c.args.at (Some xs)) (headed_over bs _ c.args.count)
    ∙ ap (λ (k : ℕ). with_block m c.args.at (Some (little_bytes 4 k ++ (little_bytes 2 c.args.count ++ drop 6 bs)))) (sym (ap (λ o. length (unwrap_or o [])) c.bytes.ensures))

pub returns-clause-served : goal.returns-clause-served
returns-clause-served g c = served_once _ _ c.write.ensures.step

use Rattle.std.proofs.Common.{[], arith}
use Rattle.stream_object.proofs.Loads.{loaded_none, stopped}
use Rattle.stream_object.proofs.Wholes.{on_err}
use Rattle.stream_object.proofs.stream.Stream.load_node.Goals as goal

pub returns-in-Some-clause-err_some : goal.returns-in-Some-clause-err_some
returns-in-Some-clause-err_some g c =
    let m = g.B.BlockStore.blocks c.args.store.now in
    let after = g.B.BlockStore.blocks c.load_whole.new.store in
    let old = c.args.self.now in
    on_err c.load_whole.result (λ same still. (0, omega arith, stopped m m after old old c.load_whole.new.self [] (loaded_none m old c.requires.is_stream) same still))
    c.load_whole.ensures.err_stream c.load_whole.ensures.err_blocks

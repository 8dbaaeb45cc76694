use Rattle.std.proofs.Common.{◌≡◌, List, Option, Ok, IfOk, subst}
use Rattle.stream_object.specs.Streams.{pair_of}
use Rattle.plain_world.specs.Streams.{Stream}
use Rattle.plain_model.specs.Outcomes.{leaves}
use Rattle.plain_model.specs.StreamSteps.{Pair, or_no_stream, append_as}
use Rattle.keyspace.specs.Scopes.{one_key}
use Rattle.keyspace.specs.Commands.{visible}
use Rattle.keyspace.proofs.Running.{unchanged}
use Rattle.cmd_streams.specs.Changed.{IsBefore}
use Rattle.cmd_streams.proofs.Appending.{before_there, no_id_told, id_told}
use Rattle.cmd_streams.proofs.adding.append_where.Goals as goal

pub returns-in-Err-clause-gives : goal.returns-in-Err-clause-gives
returns-in-Err-clause-gives g c =
    let keyspace = c.args.keyspace.now in
    let at = c.args.at.now in
    let world = visible g.B.BlockStore.blocks keyspace at in
    let b = before_there world keyspace.bases (g.B.BlockStore.blocks keyspace.store) at.db c.args.key.now at.moment c.args.there c.requires.there in
    no_id_told world at.moment c.args.key.now c.args.options c.args.asked c.args.pairs.now b.0 (pair_of c.last_there-last.result) c.in-Err.refusal b.1 (λ e. c.requires.made (b.2 e))
    (c.last_there-last.ensures b.0 b.1) c.in-Err.ensures.err c.refused.result c.refused.ensures

pub returns-in-Err-clause-kept : goal.returns-in-Err-clause-kept
returns-in-Err-clause-kept g c = unchanged g.B.BlockStore.blocks g.B.BlockStore.step (one_key c.args.at.now.db c.args.key.now) c.args.keyspace.now c.refused.result c.requires.ready.sound

pub returns-in_err-pairs-clause-kept : goal.returns-in_err-pairs-clause-kept
returns-in_err-pairs-clause-kept g c = unchanged g.B.BlockStore.blocks g.B.BlockStore.step (one_key c.args.at.now.db c.args.key.now) c.args.keyspace.now _ c.requires.ready.sound

pub returns-clause-gives : goal.returns-clause-gives
returns-clause-gives g c =
    let keyspace = c.args.keyspace.now in
    let at = c.args.at.now in
    let world = visible g.B.BlockStore.blocks keyspace at in
    let after = visible g.B.BlockStore.blocks c.append_at.new.keyspace at in
    let id = pair_of c.in-Ok.id in
    let b = before_there world keyspace.bases (g.B.BlockStore.blocks keyspace.store) at.db c.args.key.now at.moment c.args.there c.requires.there in
    id_told world after at.moment c.args.key.now c.args.options c.args.asked c.args.pairs.now b.0 (pair_of c.last_there-last.result) id b.1 (λ e. c.requires.made (b.2 e))
    (c.last_there-last.ensures b.0 b.1) c.in-Ok.ensures.ok c.append_at.result
    (subst
    (λ (l : List Pair). IfOk c.append_at.result
    (λ reply. (o : Option Stream) → IsBefore world c.args.key.now o → append_as world c.args.key.now c.args.options.trim l (or_no_stream o) (Ok id) ≡ leaves reply after))
    c.in_ok-pairs.ensures c.append_at.ensures.gives)

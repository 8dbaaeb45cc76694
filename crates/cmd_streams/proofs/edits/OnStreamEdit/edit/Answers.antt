use Rattle.std.proofs.Common.{◌≡◌, rules, refl, ap, subst}
use Rattle.std.specs.Prelude.{OnOk}
use Rattle.stream_object.specs.Streams.{stream_of}
use Rattle.stream_object.specs.declared.stream.Stream.{Stream}
use Rattle.keyspace.specs.Values.{value_of, value_tables}
use Rattle.keyspace.specs.Edits.{shape}
use Rattle.keyspace.proofs.Insides.{bare_grown}
use Rattle.keyspace.proofs.Settles.{bare_settled}
use Rattle.cmd_streams.proofs.AtKeys.{made_stream}
use Rattle.cmd_streams.proofs.edits.OnStreamEdit.edit.Goals as goal

pub returns-clause-makes : goal.returns-clause-makes
returns-clause-makes g c =
    let m = g.B.BlockStore.blocks c.args.store.now in
    let after = g.B.BlockStore.blocks c.edit_stream.new.store in
    let was = c.in-Stream.stream.value in
    let new = c.edit_stream.new.stream in
    let own = g.E.StreamEdit.makes c.args.self.now.edit c.edit_stream.new.self in
    let same : c.deref_mut.result.now ≡ was = search rules in
    made_stream own (shape m c.args.value.now) _ (stream_of m was) (stream_of after new) (ap (value_of m) c.in-Stream.is) refl refl c.edit_stream.result
    (subst (λ (h : Stream). OnOk c.edit_stream.result (own (stream_of m h) (stream_of after new))) same c.edit_stream.ensures.makes)

pub returns-clause-grown : goal.returns-clause-grown
returns-clause-grown g c limits seed sound =
    let m = g.B.BlockStore.blocks c.args.store.now in
    bare_grown seed m c.args.value.now (ap (value_tables m) c.in-Stream.is)

pub returns-clause-settled : goal.returns-clause-settled
returns-clause-settled g c = bare_settled _ c.edit_stream.result

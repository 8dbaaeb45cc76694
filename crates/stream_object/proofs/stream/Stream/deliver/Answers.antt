use Rattle.std.proofs.Common.{◌∙◌, map, ap}
use Rattle.stream_object.specs.declared.owned.Owned.{Owned}
use Rattle.stream_object.specs.Streams.{pair_of, stream_of}
use Rattle.stream_object.proofs.Later.{handed_is}
use Rattle.stream_object.proofs.stream.Stream.deliver.Goals as goal

pub returns-clause-ok : goal.returns-clause-ok
returns-clause-ok g c =
    let s = stream_of (g.B.BlockStore.blocks c.args.store.now) c.args.self.now in
    let ids = c.deref-2.ensures.value ∙ c.in_ok-ids.ensures ∙ ap (map (λ (o : Owned). pair_of o.id)) c.deref.ensures.value in
    let now = c.in_ok-deliver.ensures.ok
    ∙ handed_is s c.args.consumer.now c.args.limit c.args.moment (pair_of c.in-Some.last) c.in_ok-given.given.items c.in_ok-given.ensures c.args.self.now.groups c.args.name.now
    c.deref-2.result.now ids c.in-Some.ensures in
    λ i. record c.args.self.now { groups = now i }

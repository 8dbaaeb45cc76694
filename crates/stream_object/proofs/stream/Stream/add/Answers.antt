use Rattle.std.proofs.Common.{ℕ, ◌+◌, ◌%◌, ◌^◌, refl, ap, arith}
use Rattle.blocks.proofs.Serve.{served_same}
use Rattle.stream_node.specs.Ids.{IsId}
use Rattle.stream_node.proofs.Ids.{id_laws}
use Rattle.stream_object.specs.Streams.{nodes}
use Rattle.stream_object.proofs.Grows.{all_below, addable_short, counted_added}
use Rattle.stream_object.proofs.stream.Stream.add.Goals as goal

pub returns-then-not-is_below-clause-served : goal.returns-then-not-is_below-clause-served
returns-then-not-is_below-clause-served g c = served_same _ _ refl

pub append-requires-clause-below : goal.append-requires-clause-below
append-requires-clause-below g c =
    let m = g.B.BlockStore.blocks c.args.store.now in
    let id : IsId c.args.id = record { ms = omega arith; seq = omega arith } in
    let below = c.is_below.ensures.0 c.if-not-is_below.false in
    all_below c.args.self.now.last c.args.id ((id_laws.below c.args.self.now.last c.args.id c.requires.is_stream.fits id).0 below) (nodes m c.args.self.now) c.requires.is_stream.upto

pub append-requires-clause-short : goal.append-requires-clause-short
append-requires-clause-short g c = addable_short c.args.id c.args.pairs.now c.requires.addable

pub returns-in-Ok-clause-added : goal.returns-in-Ok-clause-added
returns-in-Ok-clause-added g c =
    let m = g.B.BlockStore.blocks c.args.store.now in
    counted_added m _ c.args.self.now c.append.new.self _ c.args.id c.args.pairs.now c.in-Ok.ensures.appended (ap (λ s. s.added) c.in-Ok.ensures.appended.value_is) refl refl refl refl refl
    refl (ap (λ (n : ℕ). (n + 1) % 2 ^ 64) (ap (λ s. s.added) c.in-Ok.ensures.appended.value_is))

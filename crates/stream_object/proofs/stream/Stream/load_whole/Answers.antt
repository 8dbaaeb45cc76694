use Rattle.std.proofs.Common.{List, length, ap, refl, arith}
use Rattle.blocks.proofs.Serve.{served_same}
use Rattle.stream_node.specs.Entry.{Stored}
use Rattle.stream_node.specs.Ids.{IsId}
use Rattle.stream_node.proofs.Ids.{id_laws}
use Rattle.stream_object.specs.Streams.{AreBelow, nodes}
use Rattle.stream_object.proofs.Grows.{all_below}
use Rattle.stream_object.proofs.Wholes.{whole_loaded, whole_upto}
use Rattle.stream_object.proofs.stream.Stream.load_whole.Goals as goal

pub entries-requires : goal.entries-requires
entries-requires g c = c.requires.whole.is_node

pub returns-in_default-clause-served : goal.returns-in_default-clause-served
returns-in_default-clause-served g c = served_same _ _ refl

pub returns-clause-loaded : goal.returns-clause-loaded
returns-clause-loaded g c =
    let m = g.B.BlockStore.blocks c.args.store.now in
    let old = c.args.self.now in
    let key : IsId c.args.key = record { ms = omega arith; seq = omega arith } in
    let last : IsId c.args.last = record { ms = omega arith; seq = omega arith } in
    let below : AreBelow c.args.key (nodes m old) = all_below old.last c.args.key ((id_laws.below old.last c.args.key c.requires.is_stream.fits key).0 c.requires.below) (nodes m old)
    c.requires.is_stream.upto in
    whole_loaded m _ old _ c.args.key c.args.pack.now c.args.last c.requires.is_stream below c.requires.whole c.in_ok-at.at c.in_ok-at.ensures.placed last
    (omega (arith, c.in-Some.ensures.1, c.len-count.ensures, ap (λ (es : List Stored). length es) c.entries.ensures)) refl refl refl refl refl

pub returns-clause-upto : goal.returns-clause-upto
returns-clause-upto g c =
    let m = g.B.BlockStore.blocks c.args.store.now in
    let old = c.args.self.now in
    let key : IsId c.args.key = record { ms = omega arith; seq = omega arith } in
    let below : AreBelow c.args.key (nodes m old) = all_below old.last c.args.key ((id_laws.below old.last c.args.key c.requires.is_stream.fits key).0 c.requires.below) (nodes m old)
    c.requires.is_stream.upto in
    whole_upto m _ old (record old { tree = c.put_last.new.tree }) c.args.key c.args.pack.now c.args.last c.requires.is_stream below c.requires.whole c.in_ok-at.at c.in_ok-at.ensures.placed

use Rattle.std.proofs.Common.{◌∙◌, ◌<◌, length, refl, sym, ap, subst, arith}
use Rattle.blocks.proofs.Serve.{served_same}
use Rattle.stream_node.specs.Ids.{IsId, id_number}
use Rattle.stream_node.specs.Room.{alone_len}
use Rattle.stream_node.specs.View.{stored}
use Rattle.stream_object.specs.Streams.{AreBelow, nodes}
use Rattle.stream_object.proofs.Loads.{last_is, live_loaded, marked_loaded, on_ok, upto_later}
use Rattle.stream_object.proofs.stream.Stream.load_entry.Goals as goal

pub returns-then-deleted-clause-loaded : goal.returns-then-deleted-clause-loaded
returns-then-deleted-clause-loaded g c =
    let m = g.B.BlockStore.blocks c.args.store.now in
    let e = stored c.args.entry.now in
    let id : IsId c.id-self.result = record { ms = omega arith; seq = omega arith } in
    marked_loaded m c.args.self.now _ e c.requires.is_stream (subst IsId c.id-self.ensures id) c.requires.below (sym c.deleted.ensures ∙ c.if-deleted.true)
    (ap (λ i. record c.args.self.now { last = i }) c.id-self.ensures)

pub returns-then-deleted-clause-served : goal.returns-then-deleted-clause-served
returns-then-deleted-clause-served g c = served_same _ _ refl

pub returns-in_err-pairs-clause-served : goal.returns-in_err-pairs-clause-served
returns-in_err-pairs-clause-served g c = served_same _ _ refl

pub append-requires-clause-below : goal.append-requires-clause-below
append-requires-clause-below g c = subst (λ i. AreBelow i (nodes (g.B.BlockStore.blocks c.args.store.now) c.args.self.now)) (sym c.id.ensures) c.requires.below

pub append-requires-clause-some : goal.append-requires-clause-some
append-requires-clause-some g c = subst (λ ps. 0 < length ps) (sym c.in_ok-pairs.ensures) c.requires.some

pub append-requires-clause-short : goal.append-requires-clause-short
append-requires-clause-short g c =
    omega (arith, c.requires.short, ap (λ i. alone_len i c.in_ok-pairs.pairs) c.id.ensures, ap (λ ps. alone_len (stored c.args.entry.now).id ps) c.in_ok-pairs.ensures)

pub returns-clause-loaded : goal.returns-clause-loaded
returns-clause-loaded g c =
    let m = g.B.BlockStore.blocks c.args.store.now in
    let after = g.B.BlockStore.blocks c.append.new.store in
    let e = stored c.args.entry.now in
    on_ok c.append.result
    (live_loaded m after c.args.self.now c.append.new.self e c.id.result c.in_ok-pairs.pairs (sym c.deleted.ensures ∙ c.if-deleted.false) c.id.ensures c.in_ok-pairs.ensures)
    c.append.ensures.appended

pub returns-clause-last : goal.returns-clause-last
returns-clause-last g c =
    let m = g.B.BlockStore.blocks c.args.store.now in
    let after = g.B.BlockStore.blocks c.append.new.store in
    on_ok c.append.result (λ h. last_is m after c.args.self.now c.append.new.self c.id.result c.in_ok-pairs.pairs h ∙ c.id.ensures) c.append.ensures.appended

pub returns-then-deleted-clause-upto : goal.returns-then-deleted-clause-upto
returns-then-deleted-clause-upto g c = λ id old live. old

pub returns-clause-upto : goal.returns-clause-upto
returns-clause-upto g c =
    let m = g.B.BlockStore.blocks c.args.store.now in
    let after = g.B.BlockStore.blocks c.append.new.store in
    let e = stored c.args.entry.now in
    on_ok c.append.result
    (λ h. λ id old live. upto_later id c.append.new.self.last (nodes after c.append.new.self)
    (omega
    (arith, ap id_number (last_is m after c.args.self.now c.append.new.self c.id.result c.in_ok-pairs.pairs h ∙ c.id.ensures), live.0 (sym c.deleted.ensures ∙ c.if-deleted.false)))
    h.is_stream.upto) c.append.ensures.appended

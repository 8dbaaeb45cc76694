use Rattle.std.proofs.Common.{List, [], ℕ, length, refl, sym, ap, subst, arith, drop}
use Rattle.blocks.proofs.Serve.{served_same}
use Rattle.listpack.specs.Pack.{texts}
use Rattle.stream_node.specs.Entries.{entries_of}
use Rattle.stream_node.specs.Appended.{written_over}
use Rattle.stream_object.specs.Found.{Becomes}
use Rattle.stream_object.specs.Node.{IsGrown}
use Rattle.stream_object.specs.Parts.{part, parts_of}
use Rattle.stream_object.proofs.Holdings.{holds_bytes}
use Rattle.stream_object.proofs.Grows.{becomes_grows, near_part, near_below}
use Rattle.stream_object.proofs.growing.put_entry.Goals as goal

pub joined-requires-clause-is_node : goal.joined-requires-clause-is_node
joined-requires-clause-is_node g c =
    let m = g.B.BlockStore.blocks c.args.store.now in
    let n = c.in-Some.ensures in
    (near_part m c.args.tree.now (parts_of m c.args.tree.now) n.before [] (part c.in-Some.spot.key c.in-Some.spot.at c.in-Some.spot.bytes.now) c.requires.parts n.place).is_node

pub joined-requires-clause-below : goal.joined-requires-clause-below
joined-requires-clause-below g c =
    let m = g.B.BlockStore.blocks c.args.store.now in
    let n = c.in-Some.ensures in
    near_below c.args.id (parts_of m c.args.tree.now) n.before [] (part c.in-Some.spot.key c.in-Some.spot.at c.in-Some.spot.bytes.now) c.requires.below n.place

pub extend-requires-clause-stands : goal.extend-requires-clause-stands
extend-requires-clause-stands g c =
    let n = c.in-Some.ensures in
    record { before = n.before; after = []; bytes = c.in-Some.spot.bytes.now; place = n.place }

pub extend-requires-clause-some : goal.extend-requires-clause-some
extend-requires-clause-some g c =
    let m = g.B.BlockStore.blocks c.args.store.now in
    let n = c.in-Some.ensures in
    let p = near_part m c.args.tree.now (parts_of m c.args.tree.now) n.before [] (part c.in-Some.spot.key c.in-Some.spot.at c.in-Some.spot.bytes.now) c.requires.parts n.place in
    let w = rw c.in-Over.is at c.in_ok-behind.ensures in
    omega (arith, w.some, ap length (holds_bytes m c.in-Some.spot.at c.in-Some.spot.bytes.now p.block))

pub extend-requires-clause-seven : goal.extend-requires-clause-seven
extend-requires-clause-seven g c = let w = rw c.in-Over.is at c.in_ok-behind.ensures in w.seven

pub extend-requires-clause-header : goal.extend-requires-clause-header
extend-requires-clause-header g c = let w = rw c.in-Over.is at c.in_ok-behind.ensures in w.header

pub extend-requires-clause-within : goal.extend-requires-clause-within
extend-requires-clause-within g c =
    let m = g.B.BlockStore.blocks c.args.store.now in
    let n = c.in-Some.ensures in
    let p = near_part m c.args.tree.now (parts_of m c.args.tree.now) n.before [] (part c.in-Some.spot.key c.in-Some.spot.at c.in-Some.spot.bytes.now) c.requires.parts n.place in
    let w = rw c.in-Over.is at c.in_ok-behind.ensures in
    omega (arith, w.within, ap length (holds_bytes m c.in-Some.spot.at c.in-Some.spot.bytes.now p.block))

pub returns-in_ok-at-in-Over-clause-grows : goal.returns-in_ok-at-in-Over-clause-grows
returns-in_ok-at-in-Over-clause-grows g c =
    let m = g.B.BlockStore.blocks c.args.store.now in
    let after = g.B.BlockStore.blocks c.extend.new.store in
    let tree = c.args.tree.now in
    let ps = parts_of m tree in
    let n = c.in-Some.ensures in
    let spot = c.in-Some.spot in
    let p = near_part m tree ps n.before [] (part spot.key spot.at spot.bytes.now) c.requires.parts n.place in
    let w = rw c.in-Over.is at c.in_ok-behind.ensures in
    let behind = c.in-Over.behind in
    let over = λ (b : List ℕ). written_over b behind.head (drop 6 behind.entry.items) in
    becomes_grows m after tree c.extend.new.tree c.args.id c.args.pairs.now (over spot.bytes.now) spot.key spot.at c.in_ok-at-in-Over.at spot.bytes.now n.before c.requires.parts
    c.requires.below n.place w.grown
    (subst (λ b. Becomes m after tree c.extend.new.tree spot.key spot.at (over b) c.in_ok-at-in-Over.at) (holds_bytes m spot.at spot.bytes.now p.block) c.in_ok-at-in-Over.ensures.extended)

pub replace-requires-clause-stands : goal.replace-requires-clause-stands
replace-requires-clause-stands g c =
    let n = c.in-Some.ensures in
    record { before = n.before; after = []; bytes = c.in-Some.spot.bytes.now; place = n.place }

pub returns-in_ok-at-in-Whole-clause-grows : goal.returns-in_ok-at-in-Whole-clause-grows
returns-in_ok-at-in-Whole-clause-grows g c =
    let m = g.B.BlockStore.blocks c.args.store.now in
    let after = g.B.BlockStore.blocks c.replace.new.store in
    let n = c.in-Some.ensures in
    let spot = c.in-Some.spot in
    let grown = subst (λ (b : List ℕ). IsGrown spot.key (entries_of spot.key (texts spot.bytes.now)) b c.args.id c.args.pairs.now) (sym c.deref.ensures.value)
    (rw c.in-Whole.is at c.in_ok-behind.ensures) in
    becomes_grows m after c.args.tree.now c.replace.new.tree c.args.id c.args.pairs.now c.deref.result.now spot.key spot.at c.in_ok-at-in-Whole.at spot.bytes.now n.before c.requires.parts
    c.requires.below n.place grown c.in_ok-at-in-Whole.ensures.replaced

pub returns-in_err-behind-clause-served : goal.returns-in_err-behind-clause-served
returns-in_err-behind-clause-served g c = served_same _ _ refl

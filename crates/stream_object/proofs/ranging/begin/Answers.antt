use Rattle.std.proofs.Common.{◌≡◌, Some, Bool, sym, subst, arith}
use Rattle.stream_node.specs.Ids.{IsId}
use Rattle.stream_object.specs.Parts.{part, parts_of}
use Rattle.stream_object.specs.Ranges.{wanted_in, ahead}
use Rattle.stream_object.proofs.Walks.{begins_down, begins_first, begins_near, want}
use Rattle.stream_object.proofs.ranging.begin.Goals as goal

pub returns-then-wanted : goal.returns-then-wanted
returns-then-wanted g c =
    let m = g.B.BlockStore.blocks c.args.store.now in
    let w = c.args.wanted in
    let ff : IsId w.from = record { ms = omega arith; seq = omega arith } in
    let ft : IsId w.to = record { ms = omega arith; seq = omega arith } in
    let ps = parts_of m c.args.tree.now in
    subst (λ (b : Bool). wanted_in (want w.from w.to b w.limit) (ahead b (Some w.to) ps) ≡ wanted_in (want w.from w.to b w.limit) ps) (sym c.if-wanted.true)
    (begins_down m w.from w.to w.limit ff ft ps c.requires.each c.requires.rising)

pub returns-in-Some : goal.returns-in-Some
returns-in-Some g c =
    let m = g.B.BlockStore.blocks c.args.store.now in
    let w = c.args.wanted in
    let ff : IsId w.from = record { ms = omega arith; seq = omega arith } in
    let ft : IsId w.to = record { ms = omega arith; seq = omega arith } in
    let ps = parts_of m c.args.tree.now in
    let spot = c.in-Some.spot in
    subst (λ (b : Bool). wanted_in (want w.from w.to b w.limit) (ahead b (Some spot.key) ps) ≡ wanted_in (want w.from w.to b w.limit) ps) (sym c.if-wanted.false)
    (begins_near m w.from w.to w.limit ff ft ps c.requires.each c.requires.rising (part spot.key spot.at spot.bytes.now) c.in-Some.ensures.some)

pub returns-in-None : goal.returns-in-None
returns-in-None g c =
    let m = g.B.BlockStore.blocks c.args.store.now in
    let w = c.args.wanted in
    let ff : IsId w.from = record { ms = omega arith; seq = omega arith } in
    let ft : IsId w.to = record { ms = omega arith; seq = omega arith } in
    let ps = parts_of m c.args.tree.now in
    subst (λ (b : Bool). wanted_in (want w.from w.to b w.limit) (ahead b (Some w.from) ps) ≡ wanted_in (want w.from w.to b w.limit) ps) (sym c.if-wanted.false)
    (begins_first m w.from w.to w.limit ff ft ps c.requires.each c.requires.rising c.in-None.ensures.none)

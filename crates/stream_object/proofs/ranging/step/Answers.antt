use Rattle.std.proofs.Common.{arith}
use Rattle.stream_node.specs.Ids.{IsId}
use Rattle.stream_object.specs.Parts.{part, parts_of}
use Rattle.stream_object.proofs.Grows.{near_part}
use Rattle.stream_object.proofs.Walks.{goes_nowhere, goes_full, goes_next}
use Rattle.stream_object.proofs.ranging.step.Goals as goal

pub returns-in_default : goal.returns-in_default
returns-in_default g c =
    let m = g.B.BlockStore.blocks c.args.store.now in
    let w = c.args.wanted in
    let ff : IsId w.from = record { ms = omega arith; seq = omega arith } in
    let ft : IsId w.to = record { ms = omega arith; seq = omega arith } in
    goes_nowhere m w.from w.to w.limit ff ft (parts_of m c.args.tree.now) c.requires.parts.each c.requires.parts.rising c.args.at w.back c.args.found.now.items c.requires.within
    c.in_default.ensures.none

pub take_wanted-requires-clause-is_node : goal.take_wanted-requires-clause-is_node
take_wanted-requires-clause-is_node g c =
    let m = g.B.BlockStore.blocks c.args.store.now in
    let n = c.in-Some.ensures.some in
    let spot = c.in-Some.spot in
    (near_part m c.args.tree.now (parts_of m c.args.tree.now) n.before n.after (part spot.key spot.at spot.bytes.now) c.requires.parts n.place).is_node

pub returns-then-len-wanted : goal.returns-then-len-wanted
returns-then-len-wanted g c =
    let m = g.B.BlockStore.blocks c.args.store.now in
    let w = c.args.wanted in
    let ff : IsId w.from = record { ms = omega arith; seq = omega arith } in
    let ft : IsId w.to = record { ms = omega arith; seq = omega arith } in
    let spot = c.in-Some.spot in
    goes_full m w.from w.to w.limit ff ft (parts_of m c.args.tree.now) c.requires.parts.each c.requires.parts.rising c.args.at (part spot.key spot.at spot.bytes.now) w.back c.in-Some.ensures.some
    c.args.found.now.items c.take_wanted.new.found.items c.in_ok-take_wanted.ensures.found
    c.in_ok-take_wanted.ensures.within (omega (arith, c.if-len-wanted.true, c.len.ensures))

pub returns : goal.returns
returns g c =
    let m = g.B.BlockStore.blocks c.args.store.now in
    let w = c.args.wanted in
    let ff : IsId w.from = record { ms = omega arith; seq = omega arith } in
    let ft : IsId w.to = record { ms = omega arith; seq = omega arith } in
    let spot = c.in-Some.spot in
    goes_next m w.from w.to w.limit ff ft (parts_of m c.args.tree.now) c.requires.parts.each c.requires.parts.rising c.args.at (part spot.key spot.at spot.bytes.now) w.back c.in-Some.ensures.some
    c.args.found.now.items c.take_wanted.new.found.items c.in_ok-take_wanted.ensures.found
    c.in_ok-take_wanted.ensures.within c.beyond.result c.beyond.ensures.some c.beyond.ensures.none

use Rattle.std.proofs.Common.{◌+◌, length, arith}
use Rattle.quicklist.specs.Chain.{elements}
use Rattle.quicklist.proofs.Going.{match_as}
use Rattle.cmd_lists.proofs.Meeting.{index_head, index_tail}
use Rattle.cmd_lists.proofs.popping.place_behind.Goals as goal

pub returns-in-Head : goal.returns-in-Head
returns-in-Head g c =
    let len = length (elements (g.B.BlockStore.blocks c.args.store.now) c.args.list.now) in
    let here = index_head c.args.end c.in-Head.is len c.args.index in
    let behind = index_head c.args.end c.in-Head.is len (c.args.index + 1) in
    match_as c.next.result (λ h. omega (arith, h, c.requires.met, here)) (λ to h. (h.0, omega (arith, h.1, c.requires.met, here, behind))) c.next.ensures

pub returns-in-Tail : goal.returns-in-Tail
returns-in-Tail g c =
    let len = length (elements (g.B.BlockStore.blocks c.args.store.now) c.args.list.now) in
    let here = index_tail c.args.end c.in-Tail.is len c.args.index in
    let behind = index_tail c.args.end c.in-Tail.is len (c.args.index + 1) in
    match_as c.prev.result (λ h. omega (arith, h, c.requires.met, here, c.requires.inside)) (λ to h. (h.0, omega (arith, h.1, c.requires.met, here, behind, c.requires.inside))) c.prev.ensures

use Rattle.std.proofs.Common.{◌-◌, List, ℕ, [], Option, Some, unwrap_or, sym, ap, ◌∙◌, arith}
use Rattle.std.specs.List.{remove_range as range_removed}
use Rattle.blocks.specs.Blocks.{no_step, with_block}
use Rattle.pack_pairs.specs.Pairs.{pairs}
use Rattle.zset_object.proofs.Placing.{pack_read}
use Rattle.zset_object.proofs.Ranges.{range_placed, none_placed}
use Rattle.zset_object.proofs.scored.Scored.place_outside.Goals as goal

pub returns-then-gone-packed-clause-placed : goal.returns-then-gone-packed-clause-placed
returns-then-gone-packed-clause-placed g c =
    let self = c.args.self.now in
    none_placed (g.B.BlockStore.blocks c.args.store.now) self.limits self.seed self.body c.args.packed c.args.from c.args.to c.requires.sound.body c.requires.body c.requires.order
    c.requires.inside c.if-gone-packed.true

pub returns-then-gone-packed-clause-served : goal.returns-then-gone-packed-clause-served
returns-then-gone-packed-clause-served g c = no_step

pub without_range-requires-clause-inside : goal.without_range-requires-clause-inside
without_range-requires-clause-inside g c =
    let m = g.B.BlockStore.blocks c.args.store.now in
    let self = c.args.self.now in
    let old = pack_read m self.limits self.body c.args.packed c.bytes.result.now c.requires.body c.bytes.ensures self.seed c.requires.sound.body in
    omega (arith, c.requires.inside, old.counted)

pub returns-in_err-bytes-clause-served : goal.returns-in_err-bytes-clause-served
returns-in_err-bytes-clause-served g c = no_step

pub returns-clause-placed : goal.returns-clause-placed
returns-clause-placed g c =
    let m = g.B.BlockStore.blocks c.args.store.now in
    let n = g.B.BlockStore.blocks c.put_block.new.store in
    let self = c.args.self.now in
    range_placed m self.limits self.seed self.body c.args.packed c.args.from c.args.to c.requires.sound.body c.requires.body c.requires.order c.requires.inside
    n c.in_ok-at.at (c.args.packed.len - (c.args.to - c.args.from)) c.in_ok-bytes.bytes.items
    (c.in_ok-at.ensures.placed ∙ ap (λ bytes. with_block m c.in_ok-at.at (Some bytes)) c.deref.ensures.value) c.in_ok-at.ensures.changes
    (omega (arith, c.requires.order, c.requires.inside)) c.in_ok-bytes.ensures.pack
    (c.in_ok-bytes.ensures.list ∙ ap (λ (o : Option (List ℕ)). range_removed (pairs (unwrap_or o [])) c.args.from c.args.to) (sym c.bytes.ensures))

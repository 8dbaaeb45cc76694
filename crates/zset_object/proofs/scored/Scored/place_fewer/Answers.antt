use Rattle.std.proofs.Common.{◌-◌, List, ℕ, [], Option, Some, length, unwrap_or, sym, ap, ◌∙◌, arith}
use Rattle.std.specs.List.{remove as removed}
use Rattle.blocks.specs.Blocks.{no_step, with_block}
use Rattle.pack_pairs.specs.Pairs.{pairs}
use Rattle.zset_object.proofs.Placing.{first_in_pack, last_placed, fewer_placed, pack_read}
use Rattle.zset_object.proofs.scored.Scored.place_fewer.Goals as goal

pub returns-then-packed-eq1-clause-placed : goal.returns-then-packed-eq1-clause-placed
returns-then-packed-eq1-clause-placed g c =
    let self = c.args.self.now in
    last_placed (g.B.BlockStore.blocks c.args.store.now) self.limits self.seed self.body c.args.member.now c.args.packed c.args.index c.requires.sound.body c.requires.body c.requires.first
    c.if-packed-eq1.true

pub returns-then-packed-eq1-clause-served : goal.returns-then-packed-eq1-clause-served
returns-then-packed-eq1-clause-served g c = no_step

pub without-requires-clause-pack : goal.without-requires-clause-pack
without-requires-clause-pack g c =
    let self = c.args.self.now in
    (pack_read (g.B.BlockStore.blocks c.args.store.now) self.limits self.body c.args.packed c.bytes.result.now c.requires.body c.bytes.ensures self.seed c.requires.sound.body).pack.pack

pub without-requires-clause-index : goal.without-requires-clause-index
without-requires-clause-index g c =
    let m = g.B.BlockStore.blocks c.args.store.now in
    let inside = first_in_pack m c.args.self.now.body c.args.member.now c.args.packed c.args.index c.requires.body c.requires.first in
    omega (arith, inside, ap (λ (o : Option (List ℕ)). length (pairs (unwrap_or o []))) c.bytes.ensures)

pub returns-in_err-bytes-clause-served : goal.returns-in_err-bytes-clause-served
returns-in_err-bytes-clause-served g c = no_step

pub returns-clause-placed : goal.returns-clause-placed
returns-clause-placed g c =
    let m = g.B.BlockStore.blocks c.args.store.now in
    let n = g.B.BlockStore.blocks c.put_block.new.store in
    let self = c.args.self.now in
    let old = pack_read m self.limits self.body c.args.packed c.bytes.result.now c.requires.body c.bytes.ensures self.seed c.requires.sound.body in
    let inside = first_in_pack m self.body c.args.member.now c.args.packed c.args.index c.requires.body c.requires.first in
    let same = ap (λ (o : Option (List ℕ)). length (pairs (unwrap_or o []))) c.bytes.ensures in
    fewer_placed m n self.limits self.seed c.in_ok-at.at (c.args.packed.len - 1) c.in_ok-bytes.bytes.items
    (c.in_ok-at.ensures.placed ∙ ap (λ bytes. with_block m c.in_ok-at.at (Some bytes)) c.deref.ensures.value) c.in_ok-at.ensures.changes
    self.body c.args.member.now c.args.packed c.args.index c.requires.body c.requires.sound.body c.requires.first (omega (arith, old.counted, inside, same)) c.in_ok-bytes.ensures.pack
    (c.in_ok-bytes.ensures.list ∙ ap (λ (o : Option (List ℕ)). removed (pairs (unwrap_or o [])) c.args.index) (sym c.bytes.ensures))

pub overflow_sub-len : goal.overflow_sub-len
overflow_sub-len g c =
    let m = g.B.BlockStore.blocks c.args.store.now in
    let self = c.args.self.now in
    let old = pack_read m self.limits self.body c.args.packed c.bytes.result.now c.requires.body c.bytes.ensures self.seed c.requires.sound.body in
    let inside = first_in_pack m self.body c.args.member.now c.args.packed c.args.index c.requires.body c.requires.first in
    omega (arith, old.counted, inside, ap (λ (o : Option (List ℕ)). length (pairs (unwrap_or o []))) c.bytes.ensures)

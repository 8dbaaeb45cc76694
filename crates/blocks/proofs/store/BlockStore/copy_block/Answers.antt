use Rattle.std.proofs.Common.{◌∙◌, sym, refl, ap, arith, length, unwrap_or, []}
use Rattle.blocks.specs.Blocks.{no_step}
use Rattle.blocks.proofs.Copies.{with_block_kept, live_bytes, copy_step, next_piece, room_left}
use Rattle.blocks.proofs.Serve.{served_next}
use Rattle.blocks.proofs.store.BlockStore.copy_block.Goals as goal

pub loop-done-init : goal.loop-done-init
loop-done-init g c = record {
  in_range = omega arith;
  copied = sym (with_block_kept (g.Self.BlockStore.blocks c.args.self.now) c.args.to _ (live_bytes (g.Self.BlockStore.blocks c.args.self.now) c.args.to c.requires.to_live));
  slabs = refl;
  served = no_step;
}

pub write-requires-clause-room : goal.write-requires-clause-room
write-requires-clause-room g c =
    let m = g.Self.BlockStore.blocks c.args.self.now in let mid = g.Self.BlockStore.blocks c.loop-done.self in let range = c.loop-done.invariant.in_range in
    let next = next_piece m mid c.args.from c.args.to c.loop-done.done 512 c.piece_from-piece.result.now c.bytes-len.result.now c.bytes.result.now c.requires.apart
    c.loop-done.invariant.copied c.bytes-len.ensures c.bytes.ensures c.piece_from-piece.ensures range in
    room_left m mid c.args.from c.args.to c.loop-done.done (length c.piece_from-piece.result.now) c.loop-done.invariant.copied c.requires.room next.1

pub loop-done-preserved : goal.loop-done-preserved
loop-done-preserved g c =
    let m = g.Self.BlockStore.blocks c.args.self.now in let mid = g.Self.BlockStore.blocks c.loop-done.self in let range = c.loop-done.invariant.in_range in
    let next = next_piece m mid c.args.from c.args.to c.loop-done.done 512 c.piece_from-piece.result.now c.bytes-len.result.now c.bytes.result.now c.requires.apart
    c.loop-done.invariant.copied c.bytes-len.ensures c.bytes.ensures c.piece_from-piece.ensures range in
    record {
      in_range = (let fits = next.1 in omega (arith, fits, ap (λ o. length (unwrap_or o [])) c.bytes-len.ensures));
      copied = copy_step m mid (g.Self.BlockStore.blocks c.write.new.self) c.args.from c.args.to c.loop-done.done 512 c.piece_from-piece.result.now c.loop-done.invariant.copied next
          c.write.ensures.written;
      slabs = c.write.ensures.slabs ∙ c.loop-done.invariant.slabs;
      served = served_next _ _ _ c.loop-done.invariant.served c.write.ensures.step;
    }

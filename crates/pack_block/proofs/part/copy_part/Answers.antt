use Rattle.std.proofs.Common.{◌+◌, ◌≤◌, Some, [], unwrap_or, refl, sym, ap, ◌∙◌, arith}
use Rattle.blocks.specs.Blocks.{with_block, bytes_at, no_step}
use Rattle.blocks.proofs.Copies.{with_block_kept, live_bytes}
use Rattle.blocks.proofs.Serve.{served_next}
use Rattle.pack_block.proofs.Copying.{part_step, source_stays}
use Rattle.pack_block.proofs.Shapes.{overwritten_none}
use Rattle.pack_block.proofs.part.copy_part.Goals as goal

pub loop-done-init : goal.loop-done-init
loop-done-init g c =
    let m = g.B.BlockStore.blocks c.args.store.now in
    let over = bytes_at m c.args.target in
    record {
      in_range = omega arith;
      copied = sym (with_block_kept m c.args.target over (live_bytes m c.args.target c.requires.target_live))
          ∙ ap (λ xs. with_block m c.args.target (Some xs)) (sym (overwritten_none over c.args.to));
      slabs = refl;
      served = no_step;
    }

pub overflow_add-to : goal.overflow_add-to
overflow_add-to g c = record { fits = omega (arith, c.requires.small, c.loop-done.invariant.in_range) }

pub loop-done-preserved : goal.loop-done-preserved
loop-done-preserved g c =
    let m = g.B.BlockStore.blocks c.args.store.now in
    let mid = g.B.BlockStore.blocks c.loop-done.store in
    let inv = c.loop-done.invariant in
    let start = c.args.start in
    let done = c.loop-done.done in
    let step = c.min-step.result in
    let range = inv.in_range in
    let more : done + step ≤ c.args.count = omega (arith, c.min-step.ensures, range) in
    record {
      in_range = more;
      copied = part_step m mid (g.B.BlockStore.blocks c.write.new.self) c.args.source start c.args.target c.args.to done step c.bytes.result.now c.piece_of-piece.result.now inv.copied
          (omega (arith, c.requires.inside, range)) (omega (arith, c.requires.room))
          (ap (λ o. unwrap_or o []) (sym (source_stays m mid c.args.source start c.args.target c.args.to done c.requires.apart inv.copied) ∙ c.bytes.ensures))
          c.piece_of-piece.ensures c.write.ensures.written;
      slabs = c.write.ensures.slabs ∙ inv.slabs;
      served = served_next _ _ _ inv.served c.write.ensures.step;
    }

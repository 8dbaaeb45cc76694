use Rattle.std.proofs.Common.{◌≡◌, ◌+◌, ◌<◌, length, max, ap, ◌∙◌, arith}
use Rattle.std.proofs.lemmas.Grind.{common_steps}
use Rattle.blocks.specs.Blocks.{overwritten, widened, no_step}
use Rattle.blocks.proofs.Serve.{served_next}
use Rattle.string_object.specs.Text.{text_bytes}
use Rattle.string_object.proofs.Lists.{overwritten_range}
use Rattle.string_object.proofs.Texts.{text_written}
use Rattle.string_object.proofs.text.Text.set_range.Goals as goal

pub returns-then-is_empty-clause-served : goal.returns-then-is_empty-clause-served
returns-then-is_empty-clause-served g c = no_step

pub returns-clause-bytes : goal.returns-clause-bytes
returns-clause-bytes g c =
    let xs = text_bytes (g.B.BlockStore.blocks c.args.store.now) c.args.self.now in
    let piece = c.args.piece.now in
    let len : c.max-new_len.result ≡ max (length xs) (c.args.at + length piece) = c.max-new_len.ensures ∙ ap (λ n. max n (c.args.at + length piece)) c.len-old_len.ensures in
    let some : 0 < length piece = grind (arith, common_steps) in
    text_written (g.B.BlockStore.blocks c.widen.new.store) (g.B.BlockStore.blocks c.write.new.self) c.in_ok-block.block c.args.at piece (widened xs c.max-new_len.result) c.widen.new.self
    c.in_ok-block.ensures.raw c.in_ok-block.ensures.bytes c.write.ensures.written
    ∙ ap (λ n. overwritten (widened xs n) c.args.at piece) len
    ∙ overwritten_range xs piece c.args.at some

pub returns-clause-served : goal.returns-clause-served
returns-clause-served g c = served_next _ _ _ c.widen.ensures.served c.write.ensures.step

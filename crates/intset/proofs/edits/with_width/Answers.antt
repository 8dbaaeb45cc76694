use Rattle.std.proofs.Common.{◌∙◌, ap, ◌++◌}
use Rattle.intset.proofs.Edited.{fresh_width, fresh_intset}
use Rattle.intset.proofs.edits.with_width.Goals as goal

pub returns-clause-width : goal.returns-clause-width
returns-clause-width c =
    fresh_width c.extend_from_slice.new.self.items c.args.width c.requires.sized
    (c.in_ok-extend_from_slice.ensures.items ∙ ap (λ xs. xs ++ c.write_u32.new.buf) c.in_ok-set.ensures.items ∙ c.write_u32.ensures)

pub returns-clause-intset : goal.returns-clause-intset
returns-clause-intset c =
    fresh_intset c.extend_from_slice.new.self.items c.args.width c.requires.sized
    (c.in_ok-extend_from_slice.ensures.items ∙ ap (λ xs. xs ++ c.write_u32.new.buf) c.in_ok-set.ensures.items ∙ c.write_u32.ensures)

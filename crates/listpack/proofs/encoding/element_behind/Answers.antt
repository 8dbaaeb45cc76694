use Rattle.std.proofs.Common.{arith, sym, ◌∙◌}
use Rattle.std.proofs.lemmas.List.{take_rest}
use Rattle.listpack.proofs.Encodings.{text_long_text, text_medium_text}
use Rattle.listpack.proofs.encoding.element_behind.Goals as goal

pub returns-in-240-clause-text : goal.returns-in-240-clause-text
returns-in-240-clause-text c = take_rest c.args.more.now 4 ∙ sym (text_long_text _ _ c.in-240.is)

pub returns-in-224-to-239-clause-text : goal.returns-in-224-to-239-clause-text
returns-in-224-to-239-clause-text c =
    take_rest c.args.more.now 1 ∙ sym (text_medium_text c.args.first c.args.more.now (omega arith) (omega arith))

use Rattle.std.proofs.Common.{arith, length, length-append}
use Rattle.listpack.specs.Entry.{back_length}
use Rattle.listpack.specs.Writing.{spelling}
use Rattle.listpack.proofs.Writings.{element_short}
use Rattle.listpack.proofs.edits.put.Goals as goal

pub spell-head-requires : goal.spell-head-requires
spell-head-requires c =
    let s = spelling c.args.element.now in
    element_short c.args.element.now (omega (arith, c.requires.small, length-append s (back_length (length s))))

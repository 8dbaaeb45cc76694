use Rattle.std.proofs.Common.{◌≡◌, [], take}
use Rattle.quicklist.specs.Chain.{elements}
use Rattle.plain_model.specs.ListSteps.{places}
use Rattle.plain_model.specs.declared.list_command.ListEnd.TheVariants.{Head}
use Rattle.cmd_lists.specs.Met.{IsMet}
use Rattle.cmd_lists.proofs.inserting.first_equal.Given as goal

abbrev pub invariant-loop-index : goal.invariant-loop-index
invariant-loop-index g l =
    let m = g.B.BlockStore.blocks l.store in
    record {
      next : IsMet Head m l.list l.index l.place;
      none : places 0 l.text (take l.index (elements m l.list)) ≡ [];
    }

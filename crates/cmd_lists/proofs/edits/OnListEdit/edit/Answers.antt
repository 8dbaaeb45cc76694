use Rattle.std.proofs.Common.{refl, ap}
use Rattle.keyspace.specs.Values.{value_tables}
use Rattle.keyspace.proofs.Insides.{bare_grown}
use Rattle.cmd_lists.proofs.edits.OnListEdit.edit.Goals as goal

pub returns-in_err-edit_list-in-List-clause-grown : goal.returns-in_err-edit_list-in-List-clause-grown
returns-in_err-edit_list-in-List-clause-grown g c limits seed sound =
    let m = g.B.BlockStore.blocks c.args.store.now in
    bare_grown seed m c.args.value.now (ap (value_tables m) c.in-List.is)

pub returns-clause-grown : goal.returns-clause-grown
returns-clause-grown g c limits seed sound =
    let m = g.B.BlockStore.blocks c.args.store.now in
    bare_grown seed m c.args.value.now (ap (value_tables m) c.in-List.is)

pub returns-clause-settled : goal.returns-clause-settled
returns-clause-settled g c fewer = refl

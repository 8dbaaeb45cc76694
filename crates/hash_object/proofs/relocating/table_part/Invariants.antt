use Rattle.std.proofs.Common.{◌≡◌, ◌≤◌}
use Rattle.hash_object.specs.declared.fields.Body.TheVariants.{Table}
use Rattle.hash_object.specs.Relocation.{units_in}
use Rattle.hash_object.proofs.relocating.table_part.Given as goal

abbrev pub invariant-loop-mark : goal.invariant-loop-mark
invariant-loop-mark l = record {
  used : l.used ≡ units_in (Table l.fn.table) l.fn.start l.mark;
  within : l.used ≤ l.fn.room;
}

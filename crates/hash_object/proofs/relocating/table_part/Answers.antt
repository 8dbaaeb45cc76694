use Rattle.std.proofs.Common.{add-one, ap, sym, arith}
use Rattle.hash_object.specs.declared.fields.Body.TheVariants.{Table}
use Rattle.hash_object.specs.Relocation.{units_in}
use Rattle.hash_object.proofs.Marks.{unit_most, units_more, units_none}
use Rattle.hash_object.proofs.relocating.table_part.Goals as goal

pub loop-mark-init : goal.loop-mark-init
loop-mark-init c = record { used = sym (units_none c.args.table.now c.args.start); within = omega arith }

pub loop-mark-preserved : goal.loop-mark-preserved
loop-mark-preserved c =
    let t = c.args.table.now in
    let more = units_more t c.args.start c.loop-mark.mark c.loop-mark.auto.mark in
    record {
      used = omega (
        arith,
        c.loop-mark.invariant.used,
        c.unit_at-unit.ensures,
        more,
        ap (units_in (Table t) c.args.start) (add-one c.loop-mark.mark),
        ap (units_in (Table t) c.loop-mark.mark)
            (add-one c.loop-mark.mark),
      );
      within = omega (arith, c.loop-mark.invariant.within, c.if-unit-room.false);
    }

pub returns-then-unit-room-clause-full : goal.returns-then-unit-room-clause-full
returns-then-unit-room-clause-full c = λ low.
    let t = c.args.table.now in
    omega (arith, c.loop-mark.invariant.within, c.if-unit-room.true, c.unit_at-unit.ensures, unit_most t c.loop-mark.mark low, ap (units_in (Table t) c.loop-mark.mark) (add-one c.loop-mark.mark))

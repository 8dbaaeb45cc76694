use Rattle.std.proofs.Common.{rules, ℕ, List, sym, ◌∙◌, arith}
use Rattle.std.specs.FinMap.{entries, len-entries}
use Rattle.std.proofs.lemmas.Option.{slice_get_within}
use Rattle.stream_groups.specs.Groups.{Group}
use Rattle.rdb_parts.proofs.Penned.{lost_then}
use Rattle.rdb_stream_writer.specs.Groups.{group_word, IsStoredGroup}
use Rattle.rdb_stream_writer.proofs.Places.{adds_none, adds_next, adds_all, each_next, each_all}
use Rattle.rdb_stream_writer.proofs.groups.write_groups.Goals as goal

pub each-init : goal.each-init
each-init g c = record {
  adds = adds_none (group_word c.args.moment) (entries c.args.stream.now.groups) _ _ c.args.pen.now c.write_length.new.pen c.groups.result c.in_ok-write_length.ensures (c.groups.ensures ∙ len-entries c.args.stream.now.groups);
  stored = tt;
}

pub returns-in_err-write_group-clause-writes : goal.returns-in_err-write_group-clause-writes
returns-in_err-write_group-clause-writes g c =
    let lost = lost_then _ _ _ c.args.pen.now c.each.pen _ c.each.invariant.adds c.in_err-write_group.ensures.writes in
    search (rules, lost)

pub each-preserved : goal.each-preserved
each-preserved g c =
    let all = entries c.args.stream.now.groups in
    let one : List ℕ × Group = (c.in-Some.name.now, c.in-Some.group.now) in
    record {
      adds = adds_next (group_word c.args.moment) all _ _ _ c.args.pen.now c.each.pen c.write_group.new.pen c.each.index one c.each.invariant.adds c.in-Some.ensures c.in_ok-write_group.ensures.writes;
      stored = each_next (group_word c.args.moment) all IsStoredGroup c.each.index one c.each.invariant.stored c.in-Some.ensures c.in_ok-write_group.ensures.fits;
    }

pub each-smaller : goal.each-smaller
each-smaller g c = omega (arith, slice_get_within (entries c.args.stream.now.groups) c.each.index (c.in-Some.name.now, c.in-Some.group.now) (sym c.in-Some.ensures))

pub overflow_add-index : goal.overflow_add-index
overflow_add-index g c =
    let few = c.groups.type_inv in
    grind (
      arith,
      slice_get_within (entries c.args.stream.now.groups) c.each.index (c.in-Some.name.now, c.in-Some.group.now) (sym c.in-Some.ensures),
      len-entries c.args.stream.now.groups,
      c.groups.ensures,
    )

pub returns-clause-writes : goal.returns-clause-writes
returns-clause-writes g c = adds_all (group_word c.args.moment) (entries c.args.stream.now.groups) _ _ c.args.pen.now c.each.pen c.each.index c.each.invariant.adds c.in_default.ensures

pub returns-clause-fits : goal.returns-clause-fits
returns-clause-fits g c = each_all (group_word c.args.moment) (entries c.args.stream.now.groups) IsStoredGroup c.each.index c.each.invariant.stored c.in_default.ensures

use Rattle.std.proofs.Common.{rules, sym, ◌∙◌, arith}
use Rattle.std.specs.FinMap.{keys}
use Rattle.std.proofs.lemmas.Option.{slice_get_within}
use Rattle.rdb_parts.proofs.Penned.{lost_then}
use Rattle.rdb_stream_writer.specs.Consumers.{consumer_word}
use Rattle.rdb_stream_writer.proofs.Places.{keys_len, adds_none, adds_next, adds_all}
use Rattle.rdb_stream_writer.proofs.consumers.write_consumers.Goals as goal

pub names-init : goal.names-init
names-init g c =
    adds_none (consumer_word c.args.moment c.args.group.now.pending) (keys c.args.group.now.consumers) _ _ c.args.pen.now c.write_length.new.pen c.consumers.result c.in_ok-write_length.ensures
    (c.consumers.ensures ∙ sym (keys_len c.args.group.now.consumers))

pub returns-in_err-write_consumer-clause-writes : goal.returns-in_err-write_consumer-clause-writes
returns-in_err-write_consumer-clause-writes g c =
    let lost = lost_then _ _ _ c.args.pen.now c.names.pen _ c.names.invariant c.in_err-write_consumer.ensures in
    search (rules, lost)

pub names-preserved : goal.names-preserved
names-preserved g c =
    adds_next (consumer_word c.args.moment c.args.group.now.pending) (keys c.args.group.now.consumers) _ _ _ c.args.pen.now c.names.pen c.write_consumer.new.pen c.names.index c.in-Some.name.now c.names.invariant
    c.in-Some.ensures c.in_ok-write_consumer.ensures

pub names-smaller : goal.names-smaller
names-smaller g c = omega (arith, slice_get_within (keys c.args.group.now.consumers) c.names.index c.in-Some.name.now (sym c.in-Some.ensures))

pub overflow_add-index : goal.overflow_add-index
overflow_add-index g c =
    let few = c.consumers.type_inv in
    grind (
      arith,
      slice_get_within (keys c.args.group.now.consumers) c.names.index c.in-Some.name.now (sym c.in-Some.ensures),
      keys_len c.args.group.now.consumers,
      c.consumers.ensures,
    )

pub returns-clause-writes : goal.returns-clause-writes
returns-clause-writes g c =
    adds_all (consumer_word c.args.moment c.args.group.now.pending) (keys c.args.group.now.consumers) _ _ c.args.pen.now c.names.pen c.names.index c.names.invariant c.in_default.ensures

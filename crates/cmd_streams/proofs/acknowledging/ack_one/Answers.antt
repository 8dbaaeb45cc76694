use Rattle.std.proofs.Common.{true, false}
use Rattle.stream_object.specs.Streams.{pair_of}
use Rattle.cmd_streams.proofs.Acking.{counted_hit}
use Rattle.cmd_streams.proofs.acknowledging.ack_one.Goals as goal

pub returns-then-ack-clause-counted : goal.returns-then-ack-clause-counted
returns-then-ack-clause-counted c = counted_hit c.args.stream.now c.ack.new.self c.args.name.now (pair_of c.id_of.result) c.ack.result true c.ack.ensures.value c.if-ack.true c.ack.ensures.new

pub returns-clause-counted : goal.returns-clause-counted
returns-clause-counted c = counted_hit c.args.stream.now c.ack.new.self c.args.name.now (pair_of c.id_of.result) c.ack.result false c.ack.ensures.value c.if-ack.false c.ack.ensures.new

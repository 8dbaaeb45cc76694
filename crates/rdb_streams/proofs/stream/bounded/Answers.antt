use Rattle.std.proofs.Common.{arith}
use Rattle.rdb_streams.proofs.stream.bounded.Goals as goal

pub returns-in-Some-clause-fits : goal.returns-in-Some-clause-fits
returns-in-Some-clause-fits c = record { ms = omega arith; seq = omega arith }

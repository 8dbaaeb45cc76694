use Rattle.std.proofs.Common.{arith}
use Rattle.rdb_grammar.specs.Files.{header}
use Rattle.rdb_grammar.proofs.HeaderExact.{header_exact}
use Rattle.rdb_grammar.proofs.Standing.{found, broken}
use Rattle.rdb_grammar.proofs.file.check_header.Goals as goal

pub overflow_sub-result : goal.overflow_sub-result
overflow_sub-result c = (found header header_exact c.args.bytes.now 0 _ c.in-Ok.rest.now (omega arith) c.in-Ok.ensures).fits

pub overflow_sub-result-in-Err : goal.overflow_sub-result-in-Err
overflow_sub-result-in-Err c = (broken header header_exact c.args.bytes.now 0 c.in-Err.e.kind c.in-Err.e.left (omega arith) c.in-Err.ensures).fits

pub returns-in-Ok-clause-begun : goal.returns-in-Ok-clause-begun
returns-in-Ok-clause-begun c = (_, (found header header_exact c.args.bytes.now 0 _ c.in-Ok.rest.now (omega arith) c.in-Ok.ensures).stands)

pub returns-in-Err-clause-fault : goal.returns-in-Err-clause-fault
returns-in-Err-clause-fault c = (broken header header_exact c.args.bytes.now 0 c.in-Err.e.kind c.in-Err.e.left (omega arith) c.in-Err.ensures).fails

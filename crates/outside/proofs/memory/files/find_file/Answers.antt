use Rattle.std.proofs.Common.{arith, sym}
use Rattle.outside.proofs.Named.{behind}
use Rattle.outside.proofs.memory.files.find_file.Goals as goal

pub returns-else-place-files-clause-none : goal.returns-else-place-files-clause-none
returns-else-place-files-clause-none c = behind c.args.name.now c.args.names.now c.args.files.now c.in-Some.place (sym c.in-Some.ensures) (omega arith)

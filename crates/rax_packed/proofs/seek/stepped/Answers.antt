use Rattle.std.proofs.Common.{arith}
use Rattle.rax_packed.proofs.Turnings.{stepped_path}
use Rattle.rax_packed.proofs.seek.stepped.Goals as goal

pub returns : goal.returns
returns c = stepped_path c.args.path.now c.args.prefix.now c.copy_from_slice.new.self c.args.depth c.args.edge c.copy_from_slice.ensures.after (omega (arith, c.told-path, c.requires))

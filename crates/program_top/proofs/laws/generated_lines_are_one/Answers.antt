use Rattle.program_top.proofs.Generations.{lines_one}
use Rattle.program_top.proofs.laws.generated_lines_are_one.Goals as goal

pub returns : goal.returns
returns c = lines_one

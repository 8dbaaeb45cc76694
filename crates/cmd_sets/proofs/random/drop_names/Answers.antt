use Rattle.blocks.specs.Blocks.{Served}
use Rattle.cmd_sets.proofs.random.drop_names.Goals as goal

pub returns-in_err-words-clause-served : goal.returns-in_err-words-clause-served
returns-in_err-words-clause-served g c = Served.no_step

pub returns-in_err-words-clause-grown : goal.returns-in_err-words-clause-grown
returns-in_err-words-clause-grown g c = Served.no_step

use Rattle.fit_files.proofs.Items.{file_fit}
use Rattle.fit_files.proofs.laws.files_are_fit.Goals as goal

pub returns : goal.returns
returns c = file_fit

use Rattle.written_keys.proofs.Staying.{stays}
use Rattle.written_keys.proofs.laws.others_stay.Goals as goal

pub returns : goal.returns
returns c = λ seed old moment command reply new m db key off. stays db key old moment seed command reply new m off

use Rattle.blocks.specs.Blocks.{no_step}
use Rattle.hash_object.proofs.fields.Fields.place_whole.Goals as goal

pub returns-then-elements-eq1-clause-served : goal.returns-then-elements-eq1-clause-served
returns-then-elements-eq1-clause-served g c = no_step

pub returns-then-count-self-clause-served : goal.returns-then-count-self-clause-served
returns-then-count-self-clause-served g c = no_step

pub returns-in_err-stands-clause-served : goal.returns-in_err-stands-clause-served
returns-in_err-stands-clause-served g c = no_step

pub place_standing-requires-clause-pack : goal.place_standing-requires-clause-pack
place_standing-requires-clause-pack g c = c.in_ok-stands.ensures.0 c.if-stands.true

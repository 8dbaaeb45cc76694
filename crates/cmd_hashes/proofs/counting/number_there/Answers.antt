use Rattle.std.proofs.Common.{ap, ◌∙◌}
use Rattle.listpack.specs.Element.{element_text}
use Rattle.plain_model.specs.HashSteps.{number_in}
use Rattle.cmd_hashes.specs.Found.{text_of}
use Rattle.cmd_hashes.proofs.Counted.{reads_all}
use Rattle.cmd_hashes.proofs.counting.number_there.Goals as goal

pub returns-in-None : goal.returns-in-None
returns-in-None g c = (text_of c.value_there.result, c.value_there.ensures, ap (λ o. number_in (text_of o)) c.in-None.is)

pub returns-in-Some : goal.returns-in-Some
returns-in-Some g c = (
  text_of c.value_there.result,
  c.value_there.ensures,
  ap (λ o. number_in (text_of o)) c.in-Some.is ∙ reads_all (element_text c.in-Some.element) c.number_from.result c.number_from.ensures.number c.number_from.ensures.fits c.number_from.ensures.none,
)

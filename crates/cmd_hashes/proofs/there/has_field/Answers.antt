use Rattle.std.proofs.Common.{ap, sym}
use Rattle.std.specs.Prelude.{is_some}
use Rattle.cmd_hashes.specs.Found.{text_of}
use Rattle.cmd_hashes.proofs.there.has_field.Goals as goal

pub returns-in-None : goal.returns-in-None
returns-in-None g c = (text_of c.value_there.result, c.value_there.ensures, sym (ap (λ o. is_some (text_of o)) c.in-None.is))

pub returns-in-Some : goal.returns-in-Some
returns-in-Some g c = (text_of c.value_there.result, c.value_there.ensures, sym (ap (λ o. is_some (text_of o)) c.in-Some.is))

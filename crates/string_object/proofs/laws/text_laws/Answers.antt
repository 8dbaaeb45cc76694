use Rattle.string_object.proofs.Texts.{text_laws_hold}
use Rattle.string_object.proofs.laws.text_laws.Goals as goal

pub returns : goal.returns
returns c = text_laws_hold

use Rattle.std.proofs.lemmas.Bool.Decides.{Decides-at}
use Rattle.told_values.proofs.Alike.{texts_tell}
use Rattle.told_values.proofs.lists.same_texts.Goals as goal

pub returns : goal.returns
returns c = Decides-at c.eq.result _ c.eq.ensures (texts_tell c.args.texts.now.items c.args.other.now.items)

use Rattle.stream_groups.proofs.Uses.{named_none}
use Rattle.key_marks.specs.Marked.{numbers_of}
use Rattle.key_marks.proofs.marks.Marks.clear.Goals as goal

pub returns : goal.returns
returns c = named_none numbers_of _ c.clear.ensures.empty

use Rattle.stream_groups.proofs.Uses.{named_none}
use Rattle.key_marks.specs.Marked.{numbers_of}
use Rattle.key_marks.proofs.marks.Marks.new.Goals as goal

pub returns : goal.returns
returns c = named_none numbers_of _ c.new.ensures.empty

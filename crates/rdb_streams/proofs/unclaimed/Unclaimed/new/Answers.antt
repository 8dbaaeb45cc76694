use Rattle.rdb_grammar.specs.Views.{handed_of}
use Rattle.stream_groups.proofs.Uses.{numbered_none}
use Rattle.rdb_streams.proofs.unclaimed.Unclaimed.new.Goals as goal

pub returns : goal.returns
returns c = numbered_none handed_of _ c.new.ensures.empty

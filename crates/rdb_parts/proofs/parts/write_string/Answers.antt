use Rattle.std.proofs.Common.{length}
use Rattle.rdb_parts.specs.Words.{length_word}
use Rattle.rdb_parts.proofs.Penned.{writes_then}
use Rattle.rdb_parts.proofs.parts.write_string.Goals as goal

pub returns-in-Ok : goal.returns-in-Ok
returns-in-Ok g c = writes_then _ _ _ _ _ _ (length_word (length c.args.text.now)) c.args.text.now c.write.result c.in-Ok.ensures c.write.ensures

use Rattle.rdb_parts.specs.Words.{length_word}
use Rattle.rdb_parts.proofs.Penned.{writes_then}
use Rattle.rdb_stream_writer.proofs.ids.write_lengths.Goals as goal

pub returns-clause-writes : goal.returns-clause-writes
returns-clause-writes g c = writes_then _ _ _ _ _ _ (length_word (c.args.id.0)) (length_word (c.args.id.1)) c.write_length-2.result c.in_ok-write_length.ensures c.write_length-2.ensures

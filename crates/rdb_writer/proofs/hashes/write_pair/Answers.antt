use Rattle.rdb_parts.proofs.Penned.{writes_then}
use Rattle.rdb_writer.proofs.hashes.write_pair.Goals as goal

pub returns : goal.returns
returns g c = writes_then _ _ _ _ _ _ _ _ c.write_element-2.result c.in_ok-write_element.ensures c.write_element-2.ensures

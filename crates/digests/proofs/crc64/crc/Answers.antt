use Rattle.std.proofs.Common.{refl}
use Rattle.digests.specs.Crc.{bit_steps, bit_step}
use Rattle.digests.specs.Entries.{eights, are_entries, are_tables}
use Rattle.digests.proofs.crc64.crc.Goals as goal

pub crc_by-requires-clause-tables : goal.crc_by-requires-clause-tables
unfolding are_tables are_entries eights bit_steps bit_step
crc_by-requires-clause-tables c = refl

use Rattle.digests.proofs.Linear.{crc_append}
use Rattle.digests.proofs.crc64.crc_goes_on.Goals as goal

pub returns : goal.returns
returns c = crc_append

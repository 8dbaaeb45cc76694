use Rattle.blocks.specs.Blocks.{no_step}
use Rattle.set_object.proofs.copying.copy_member.Goals as goal

pub bytes-requires : goal.bytes-requires
bytes-requires g c = c.requires.source.live c.args.at _ c.entry.ensures.found

pub returns-in_err-bytes-clause-served : goal.returns-in_err-bytes-clause-served
returns-in_err-bytes-clause-served g c = no_step

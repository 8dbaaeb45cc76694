use Rattle.blocks.proofs.Serve.{served_then}
use Rattle.cmd_streams.proofs.Rests.{left_changes}
use Rattle.cmd_streams.proofs.adding.AppendStreamEdit.edit_stream.Goals as goal

pub returns-in-Some-clause-served : goal.returns-in-Some-clause-served
returns-in-Some-clause-served g c = served_then _ _ _ c.add.ensures.served c.trim_front.ensures.served

pub returns-in-Err-Memory-clause-changes : goal.returns-in-Err-Memory-clause-changes
returns-in-Err-Memory-clause-changes g c = left_changes _ _ c.args.stream.now c.add.new.self c.requires.sound c.in-Err-Memory.ensures.err_stream c.in-Err-Memory.ensures.err_blocks

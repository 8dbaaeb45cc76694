use Rattle.cmd_streams.proofs.Rests.{left_changes}
use Rattle.cmd_streams.proofs.removing.delete_one.Goals as goal

pub returns-in_err-delete-clause-changes : goal.returns-in_err-delete-clause-changes
returns-in_err-delete-clause-changes g c = left_changes _ _ c.args.stream.now c.delete.new.self c.requires c.in_err-delete.ensures.err_stream c.in_err-delete.ensures.err_blocks

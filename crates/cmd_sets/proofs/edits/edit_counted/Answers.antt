use Rattle.cmd_sets.proofs.edits.edit_counted.Goals as goal

pub returns-clause-counted : goal.returns-clause-counted
returns-clause-counted g c = c.len-on.ensures _ c.edit_set.ensures.sound

use Rattle.std.proofs.Common.{refl}
use Rattle.blocks.specs.Blocks.{Served}
use Rattle.cmd_streams.proofs.Rests.{left_changes}
use Rattle.cmd_streams.proofs.Regrouped.{regrouped_changes}
use Rattle.cmd_streams.proofs.delivering.HandOutStreamEdit.edit_stream.Goals as goal

pub returns-in_err-handed-in-None-clause-changes : goal.returns-in_err-handed-in-None-clause-changes
returns-in_err-handed-in-None-clause-changes g c = left_changes _ _ c.args.stream.now c.hand_fresh.new.stream c.requires.sound c.in_err-handed-in-None.ensures.err refl

pub returns-in_err-handed-in-None-clause-served : goal.returns-in_err-handed-in-None-clause-served
returns-in_err-handed-in-None-clause-served g c = Served.no_step

pub returns-in_ok-handed-in-None-clause-changes : goal.returns-in_ok-handed-in-None-clause-changes
returns-in_ok-handed-in-None-clause-changes g c = regrouped_changes _ c.args.stream.now c.hand_fresh.new.stream _ c.requires.sound c.in_ok-handed-in-None.ensures.ok

pub returns-in_ok-handed-in-None-clause-served : goal.returns-in_ok-handed-in-None-clause-served
returns-in_ok-handed-in-None-clause-served g c = Served.no_step

pub returns-in_err-handed-in-Some-clause-changes : goal.returns-in_err-handed-in-Some-clause-changes
returns-in_err-handed-in-Some-clause-changes g c = left_changes _ _ c.args.stream.now c.hand_again.new.stream c.requires.sound c.in_err-handed-in-Some.ensures.err refl

pub returns-in_err-handed-in-Some-clause-served : goal.returns-in_err-handed-in-Some-clause-served
returns-in_err-handed-in-Some-clause-served g c = Served.no_step

pub returns-in_ok-handed-in-Some-clause-changes : goal.returns-in_ok-handed-in-Some-clause-changes
returns-in_ok-handed-in-Some-clause-changes g c = regrouped_changes _ c.args.stream.now c.hand_again.new.stream _ c.requires.sound c.in_ok-handed-in-Some.ensures.ok

pub returns-in_ok-handed-in-Some-clause-served : goal.returns-in_ok-handed-in-Some-clause-served
returns-in_ok-handed-in-Some-clause-served g c = Served.no_step

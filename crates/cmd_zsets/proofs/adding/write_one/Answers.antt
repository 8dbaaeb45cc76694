use Rattle.std.proofs.Common.{refl}
use Rattle.blocks.specs.Blocks.{no_step}
use Rattle.blocks.proofs.Change.{changes_same}
use Rattle.cmd_zsets.proofs.Rests.{left_sound, left_changes, left_settings, left_grown}
use Rattle.cmd_zsets.proofs.adding.write_one.Goals as goal

pub returns-clause-sound : goal.returns-clause-sound
returns-clause-sound g c = c.requires

pub returns-clause-settings : goal.returns-clause-settings
returns-clause-settings g c = record { limits = refl; seed = refl }

pub returns-clause-changes : goal.returns-clause-changes
returns-clause-changes g c = changes_same _ _ c.requires.owned

pub returns-clause-served : goal.returns-clause-served
returns-clause-served g c = no_step

pub returns-clause-grown : goal.returns-clause-grown
returns-clause-grown g c = no_step

pub returns-in_err-set-clause-sound : goal.returns-in_err-set-clause-sound
returns-in_err-set-clause-sound g c = left_sound _ _ _ _ c.requires c.in_err-set.ensures.err_scored c.in_err-set.ensures.err_blocks

pub returns-in_err-set-clause-settings : goal.returns-in_err-set-clause-settings
returns-in_err-set-clause-settings g c = left_settings _ _ c.in_err-set.ensures.err_scored

pub returns-in_err-set-clause-changes : goal.returns-in_err-set-clause-changes
returns-in_err-set-clause-changes g c = left_changes _ _ _ _ c.requires c.in_err-set.ensures.err_scored c.in_err-set.ensures.err_blocks

pub returns-in_err-set-clause-grown : goal.returns-in_err-set-clause-grown
returns-in_err-set-clause-grown g c = left_grown _ _ _ _ c.in_err-set.ensures.err_scored c.in_err-set.ensures.err_blocks

pub returns-then-is_permitted-clause-sound : goal.returns-then-is_permitted-clause-sound
returns-then-is_permitted-clause-sound g c = c.in_ok-set.ensures.set.sound

pub returns-then-is_permitted-clause-settings : goal.returns-then-is_permitted-clause-settings
returns-then-is_permitted-clause-settings g c = c.in_ok-set.ensures.set.settings

pub returns-then-is_permitted-clause-changes : goal.returns-then-is_permitted-clause-changes
returns-then-is_permitted-clause-changes g c = c.in_ok-set.ensures.set.changes

pub returns-then-is_permitted-clause-grown : goal.returns-then-is_permitted-clause-grown
returns-then-is_permitted-clause-grown g c = c.in_ok-set.ensures.set.grown

use Rattle.keyspace.proofs.Running.{unchanged}
use Rattle.keyspace.specs.Scopes.{one_key}
use Rattle.keyspace.specs.Forms.{Whole}
use Rattle.keyspace.proofs.Forming.{unformed, formed_ok}
use Rattle.cmd_values.proofs.strings.writing.setnx.Goals as goal
use Rattle.std.proofs.Common.{sym, ◌∙◌}
use Rattle.std.specs.Prelude.{is_some}
use Rattle.plain_world.specs.Worlds.{look}
use Rattle.keyspace.specs.Commands.{visible}
use Rattle.cmd_values.proofs.Placing.{not_written, written_new}

pub returns-then-is_seen-clause-kept : goal.returns-then-is_seen-clause-kept
returns-then-is_seen-clause-kept g c =
    unchanged g.B.BlockStore.blocks g.B.BlockStore.step (one_key c.args.at.now.db c.args.key.now) c.args.keyspace.now _ c.requires.ready.sound

pub returns-then-is_seen-clause-forms : goal.returns-then-is_seen-clause-forms
returns-then-is_seen-clause-forms g c =
    not_written c.args.at.now.db c.args.key.now g.B.BlockStore.blocks c.args.keyspace.now (is_some (look (visible g.B.BlockStore.blocks c.args.keyspace.now c.args.at.now) c.args.key.now))
    c.number.result
    (sym c.is_seen.ensures ∙ c.if-is_seen.true)

pub returns-clause-forms : goal.returns-clause-forms
returns-clause-forms g c =
    written_new c.args.at.now.db c.args.key.now g.B.BlockStore.blocks c.args.keyspace.now c.put_string.new.keyspace
    (is_some (look (visible g.B.BlockStore.blocks c.args.keyspace.now c.args.at.now) c.args.key.now)) c.number-2.result (sym c.is_seen.ensures ∙ c.if-is_seen.false)
    c.in_ok-put_string.ensures.forms c.in_ok-put_string.ensures.whole

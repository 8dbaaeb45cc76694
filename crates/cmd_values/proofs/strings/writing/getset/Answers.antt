use Rattle.keyspace.specs.Commands.{visible}
use Rattle.cmd_values.proofs.StringLemmas.{old_value_then}
use Rattle.keyspace.proofs.Running.{unchanged}
use Rattle.keyspace.specs.Scopes.{one_key}
use Rattle.cmd_values.proofs.strings.writing.getset.Goals as goal
use Rattle.plain_world.specs.declared.refusal.Refusal.TheVariants.{WrongType}
use Rattle.keyspace.specs.Forms.{Whole, placed_at}
use Rattle.keyspace.proofs.Forming.{formed_refused}

pub returns-in_ok-put_string-in-Some-clause-gives : goal.returns-in_ok-put_string-in-Some-clause-gives
returns-in_ok-put_string-in-Some-clause-gives g c =
    old_value_then (visible g.B.BlockStore.blocks c.args.keyspace.now c.args.at.now) (visible g.B.BlockStore.blocks c.put_string.new.keyspace c.args.at.now) c.args.key.now c.in-Some.reply _
    (rw c.in-Some.is at c.in_ok-seen_value.ensures) c.in_ok-put_string-in-Some.ensures.world

pub returns-in_err-seen_value-clause-kept : goal.returns-in_err-seen_value-clause-kept
returns-in_err-seen_value-clause-kept g c =
    unchanged g.B.BlockStore.blocks g.B.BlockStore.step (one_key c.args.at.now.db c.args.key.now) c.args.keyspace.now _ c.requires.ready.sound

pub returns-in-None-clause-kept : goal.returns-in-None-clause-kept
returns-in-None-clause-kept g c =
    unchanged g.B.BlockStore.blocks g.B.BlockStore.step (one_key c.args.at.now.db c.args.key.now) c.args.keyspace.now _ c.requires.ready.sound

pub returns-in-None-clause-forms : goal.returns-in-None-clause-forms
returns-in-None-clause-forms g c =
    formed_refused g.B.BlockStore.blocks Whole (placed_at c.args.at.now.db c.args.key.now Whole) c.args.keyspace.now WrongType _ c.refused.ensures

pub returns-in_ok-put_string-in-Some-clause-forms : goal.returns-in_ok-put_string-in-Some-clause-forms
returns-in_ok-put_string-in-Some-clause-forms g c = (c.in_ok-put_string-in-Some.ensures.forms, λ calm. (c.in_ok-put_string-in-Some.ensures.whole, tt))

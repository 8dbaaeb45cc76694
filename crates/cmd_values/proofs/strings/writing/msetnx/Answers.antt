use Rattle.keyspace.proofs.Running.{unchanged}
use Rattle.keyspace.specs.Scopes.{some_keys, first_words}
use Rattle.keyspace.specs.Forms.{Whole}
use Rattle.keyspace.proofs.Forming.{unformed, formed_ok}
use Rattle.cmd_values.proofs.strings.writing.msetnx.Goals as goal
use Rattle.std.proofs.Common.{sym, ◌∙◌}
use Rattle.plain_model.specs.StringSteps.{any_there}
use Rattle.keyspace.specs.Commands.{visible}
use Rattle.cmd_values.proofs.Placing.{not_any, written_each}

pub returns-then-is_any_there-clause-kept : goal.returns-then-is_any_there-clause-kept
returns-then-is_any_there-clause-kept g c =
    unchanged g.B.BlockStore.blocks g.B.BlockStore.step (some_keys c.args.at.now.db (first_words c.args.pairs.now)) c.args.keyspace.now _ c.requires.ready.sound

pub returns-then-is_any_there-clause-forms : goal.returns-then-is_any_there-clause-forms
returns-then-is_any_there-clause-forms g c =
    not_any c.args.at.now.db c.args.pairs.now g.B.BlockStore.blocks c.args.keyspace.now (any_there (visible g.B.BlockStore.blocks c.args.keyspace.now c.args.at.now) c.args.pairs.now) c.number.result
    (sym c.is_any_there.ensures ∙ c.if-is_any_there.true)

pub returns-clause-forms : goal.returns-clause-forms
returns-clause-forms g c =
    written_each c.args.at.now.db c.args.pairs.now g.B.BlockStore.blocks c.args.keyspace.now c.put_pairs.new.keyspace
    (any_there (visible g.B.BlockStore.blocks c.args.keyspace.now c.args.at.now) c.args.pairs.now) c.number-2.result (sym c.is_any_there.ensures ∙ c.if-is_any_there.false)
    c.in_ok-put_pairs.ensures.forms c.in_ok-put_pairs.ensures.whole

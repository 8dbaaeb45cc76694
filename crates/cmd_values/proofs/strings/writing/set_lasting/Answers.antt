use Rattle.std.proofs.Common.{sym, ap, ◌∙◌, rules, subst}
use Rattle.std.specs.Prelude.{if◌then◌else◌}
use Rattle.plain_world.specs.Worlds.{Entry, Str, look, stand}
use Rattle.keyspace.specs.Commands.{visible}
use Rattle.cmd_values.proofs.StringLemmas.{set_given, set_other, given}
use Rattle.keyspace.proofs.Running.{unchanged, same_held, calm}
use Rattle.keyspace.specs.Scopes.{one_key}
use Rattle.keyspace.specs.Commands.{KeepsTo}
use Rattle.keyspace.specs.Forms.{Whole, Formed}
use Rattle.keyspace.proofs.Forming.{formed_none}
use Rattle.plain_model.specs.Outcomes.{leaves}
use Rattle.cmd_values.proofs.strings.writing.set_lasting.Goals as goal
use Rattle.plain_model.specs.StringSteps.{allows}
use Rattle.plain_world.specs.declared.refusal.Refusal.TheVariants.{WrongType}
use Rattle.keyspace.specs.Forms.{Formed, ArePlaced, placed_at, whole_where}
use Rattle.keyspace.proofs.Forming.{formed_refused}
use Rattle.cmd_values.proofs.Placing.{placed_where}
use Rattle.std.proofs.Common.{is_some}

pub returns-in_ok-put_if-in-Some-clause-gives : goal.returns-in_ok-put_if-in-Some-clause-gives
returns-in_ok-put_if-in-Some-clause-gives g c =
    let old = (visible g.B.BlockStore.blocks c.args.keyspace.now c.args.at.now) in
    let entry : Entry = record { value = Str c.args.value.now; deadline = c.args.deadline } in
    set_given old (visible g.B.BlockStore.blocks c.put_if.new.keyspace c.args.at.now) c.args.at.now.moment c.args.key.now entry c.args.options.condition c.args.options.get
    c.writes-written.result c.in-Some.reply c.writes-written.ensures (rw c.in-Some.is at c.in_ok-set_reply.ensures)
    c.in_ok-put_if-in-Some.ensures.world

pub returns-in-None-clause-gives : goal.returns-in-None-clause-gives
returns-in-None-clause-gives g c =
    let old = (visible g.B.BlockStore.blocks c.args.keyspace.now c.args.at.now) in
    let entry : Entry = record { value = Str c.args.value.now; deadline = c.args.deadline } in
    given c.refused.result
    (λ reply is. set_other old c.args.at.now.moment c.args.key.now entry c.args.options.condition c.args.options.get c.writes-written.result
    (rw c.in-None.is at c.in_ok-set_reply.ensures) ∙ ap (λ r. leaves r old) (sym is)) c.refused.ensures

pub returns-in_err-set_reply-clause-kept : goal.returns-in_err-set_reply-clause-kept
returns-in_err-set_reply-clause-kept g c =
    unchanged g.B.BlockStore.blocks g.B.BlockStore.step (one_key c.args.at.now.db c.args.key.now) c.args.keyspace.now _ c.requires.ready.sound

pub returns-in-None-clause-kept : goal.returns-in-None-clause-kept
returns-in-None-clause-kept g c =
    unchanged g.B.BlockStore.blocks g.B.BlockStore.step (one_key c.args.at.now.db c.args.key.now) c.args.keyspace.now _ c.requires.ready.sound

pub returns-in_ok-put_if-in-Some-clause-kept : goal.returns-in_ok-put_if-in-Some-clause-kept
returns-in_ok-put_if-in-Some-clause-kept g c =
    calm g.B.BlockStore.blocks g.B.BlockStore.step (one_key c.args.at.now.db c.args.key.now) c.args.keyspace.now c.put_if.new.keyspace _ (search rules) c.put_if.ensures.held

pub returns-in-None-clause-forms : goal.returns-in-None-clause-forms
returns-in-None-clause-forms g c =
    let world = visible g.B.BlockStore.blocks c.args.keyspace.now c.args.at.now in
    let writes = allows c.args.options.condition (is_some (look world c.args.key.now)) in
    formed_refused g.B.BlockStore.blocks (whole_where writes) (placed_at c.args.at.now.db c.args.key.now (whole_where writes)) c.args.keyspace.now WrongType c.refused.result c.refused.ensures

pub returns-in_ok-put_if-in-Some-clause-forms : goal.returns-in_ok-put_if-in-Some-clause-forms
returns-in_ok-put_if-in-Some-clause-forms g c =
    let world = visible g.B.BlockStore.blocks c.args.keyspace.now c.args.at.now in
    let is = c.writes-written.ensures in (
      subst (λ b. Formed g.B.BlockStore.blocks (whole_where b) c.args.keyspace.now c.put_if.new.keyspace) is c.in_ok-put_if-in-Some.ensures.forms,
      λ calm. subst (λ b. ArePlaced (placed_at c.args.at.now.db c.args.key.now (whole_where b)) c.args.keyspace.now.bases c.put_if.new.keyspace.bases
          (g.B.BlockStore.blocks c.args.keyspace.now.store) (g.B.BlockStore.blocks c.put_if.new.keyspace.store)) is
          (placed_where c.args.at.now.db c.args.key.now c.args.keyspace.now.bases c.put_if.new.keyspace.bases (g.B.BlockStore.blocks c.args.keyspace.now.store)
          (g.B.BlockStore.blocks c.put_if.new.keyspace.store) c.writes-written.result c.in_ok-put_if-in-Some.ensures.whole),
    )

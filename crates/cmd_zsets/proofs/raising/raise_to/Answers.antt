use Rattle.std.proofs.Common.{sym, ◌∙◌, subst, [], ◌∷◌, false}
use Rattle.std.specs.Int.{w64}
use Rattle.std.proofs.lemmas.Int.{to_z-of_z}
use Rattle.plain_model.specs.declared.zset_command.ZsetCommand.TheVariants as zsets
use Rattle.keyspace.specs.Commands.{visible}
use Rattle.keyspace.specs.Forms.{Formed, zset_to, zset_form}
use Rattle.keyspace.specs.Scopes.{one_key}
use Rattle.keyspace.proofs.Running.{unchanged}
use Rattle.keyspace.proofs.Forming.{unformed}
use Rattle.cmd_zsets.specs.Written.{IsAdded}
use Rattle.cmd_zsets.proofs.Raised.{stopped_told, raised_told, raised_formed, text_calm}
use Rattle.cmd_zsets.proofs.raising.raise_to.Goals as goal

pub returns-then-not-is_passed-clause-gives : goal.returns-then-not-is_passed-clause-gives
returns-then-not-is_passed-clause-gives g c =
    stopped_told (visible g.B.BlockStore.blocks c.args.keyspace.now c.args.at.now) c.args.key.now c.args.member.now c.args.rules c.args.by c.args.old c.requires.score c.requires.admitted
    c.args.sum c.requires.sum c.requires.range (sym (rw (to_z-of_z w64 c.args.sum c.ranges.sum) at c.is_passed.ensures) ∙ c.if-not-is_passed.true) c.null.result c.null.ensures

pub returns-then-not-is_passed-clause-kept : goal.returns-then-not-is_passed-clause-kept
returns-then-not-is_passed-clause-kept g c = unchanged g.B.BlockStore.blocks g.B.BlockStore.step (one_key c.args.at.now.db c.args.key.now) c.args.keyspace.now c.null.result c.requires.ready.sound

pub returns-then-not-is_passed-clause-forms : goal.returns-then-not-is_passed-clause-forms
returns-then-not-is_passed-clause-forms g c =
    unformed g.B.BlockStore.blocks
    (zset_form c.args.at.now.db (visible g.B.BlockStore.blocks c.args.keyspace.now c.args.at.now) (zsets.ZIncr c.args.key.now c.args.rules c.args.by c.args.member.now))
    c.args.keyspace.now c.null.result

pub returns-clause-gives : goal.returns-clause-gives
returns-clause-gives g c =
    let blocks = g.B.BlockStore.blocks in
    let old = visible blocks c.args.keyspace.now c.args.at.now in
    let new = visible blocks c.add_at.new.keyspace c.args.at.now in
    let added = subst (λ m. IsAdded old c.args.key.now c.args.rules false ((c.args.sum, m) ∷ []) c.in_ok-add_at.field-0 new) c.new.ensures
    (rw (to_z-of_z w64 c.args.sum c.ranges.sum) at c.in_ok-add_at.ensures.added) in
    raised_told old c.args.key.now c.args.member.now c.args.rules c.args.by c.args.old c.requires.score c.requires.admitted c.args.sum c.requires.sum c.requires.range
    (sym (rw (to_z-of_z w64 c.args.sum c.ranges.sum) at c.is_passed.ensures) ∙ c.if-not-is_passed.false) false c.in_ok-add_at.field-0 new added c.score_reply.result
    (rw (to_z-of_z w64 c.args.sum c.ranges.sum) at c.score_reply.ensures)

pub returns-clause-kept : goal.returns-clause-kept
returns-clause-kept g c = text_calm g.B.BlockStore.blocks g.B.BlockStore.step (one_key c.args.at.now.db c.args.key.now) c.args.keyspace.now c.add_at.new.keyspace c.args.sum
    c.score_reply.result (rw (to_z-of_z w64 c.args.sum c.ranges.sum) at c.score_reply.ensures) c.add_at.ensures.held

pub returns-clause-forms : goal.returns-clause-forms
returns-clause-forms g c =
    let blocks = g.B.BlockStore.blocks in
    let old = visible blocks c.args.keyspace.now c.args.at.now in
    let formed = subst (λ m. Formed blocks (zset_to c.args.at.now.db old c.args.key.now c.args.rules ((c.args.sum, m) ∷ [])) c.args.keyspace.now c.add_at.new.keyspace) c.new.ensures
    (rw (to_z-of_z w64 c.args.sum c.ranges.sum) at c.in_ok-add_at.ensures.forms) in
    raised_formed old c.args.key.now c.args.member.now c.args.rules c.args.by c.args.old c.requires.score blocks c.args.keyspace.now c.add_at.new.keyspace c.args.at.now.db c.args.sum
    c.requires.sum c.score_reply.result formed

use Rattle.std.proofs.Common.{◌≡◌, ◌∷◌, [], List, ℕ, IfOk, subst}
use Rattle.plain_world.specs.declared.reply.Part.TheVariants.{Simple}
use Rattle.keyspace.specs.Commands.{visible}
use Rattle.keyspace.specs.Scopes.{one_key}
use Rattle.cmd_streams.proofs.AtKeys.{formed_log}
use Rattle.cmd_streams.proofs.Rests.{always}
use Rattle.cmd_streams.proofs.Regrouped.{made_told, ok_calm}
use Rattle.cmd_streams.proofs.grouping.create_at.Goals as goal

pub returns-clause-gives : goal.returns-clause-gives
returns-clause-gives g c =
    let blocks = g.B.BlockStore.blocks in
    let p = c.in_ok-change_stream.ensures.changed in
    made_told (visible blocks c.args.keyspace.now c.args.at.now) (visible blocks c.change_stream.new.keyspace c.args.at.now) c.args.key.now c.args.name.now c.args.id p.before p.now p.stands
    (c.requires.free p.before p.stands) p.made p.world c.simple.result
    (subst (λ (line : List ℕ). IfOk c.simple.result (λ reply. reply ≡ Simple line ∷ [])) c.ok.ensures c.simple.ensures)

pub returns-clause-kept : goal.returns-clause-kept
returns-clause-kept g c = ok_calm g.B.BlockStore.blocks g.B.BlockStore.step (one_key c.args.at.now.db c.args.key.now) c.args.keyspace.now c.change_stream.new.keyspace c.simple.result
    (subst (λ (line : List ℕ). IfOk c.simple.result (λ reply. reply ≡ Simple line ∷ [])) c.ok.ensures c.simple.ensures) c.change_stream.ensures.held

pub returns-clause-forms : goal.returns-clause-forms
returns-clause-forms g c =
    always _ c.simple.result
    (formed_log _ g.B.BlockStore.blocks g.B.BlockStore.step c.args.keyspace.now c.change_stream.new.keyspace c.args.at.now c.args.key.now c.in_ok-change_stream.ensures.changed
    c.change_stream.ensures.held)

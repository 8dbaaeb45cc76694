use Rattle.plain_world.specs.declared.reply.Part.TheVariants.{Simple}
use Rattle.std.proofs.Common.{ap, rules}
use Rattle.keyspace.proofs.Running.{unchanged, calm}
use Rattle.keyspace.specs.Scopes.{one_key}
use Rattle.std.specs.Prelude.{FitsSigned}
use Rattle.std.specs.Int.{w64}
use Rattle.std.proofs.lemmas.Int.{to_z-of_z}
use Rattle.keyspace.specs.Commands.{visible}
use Rattle.cmd_values.proofs.StringLemmas.{set_lasting}
use Rattle.keyspace.specs.Forms.{Whole}
use Rattle.keyspace.proofs.Forming.{unformed, formed_ok}
use Rattle.cmd_values.proofs.strings.lasting.set_for_units.Goals as goal
use Rattle.plain_world.specs.declared.refusal.Refusal.TheVariants.{InvalidExpireTime}
use Rattle.keyspace.specs.Forms.{placed_at}
use Rattle.keyspace.proofs.Forming.{formed_refused}
use Rattle.cmd_values.proofs.Placing.{wrote_whole}

pub returns-in-None-clause-kept : goal.returns-in-None-clause-kept
returns-in-None-clause-kept g c =
    unchanged g.B.BlockStore.blocks g.B.BlockStore.step (one_key c.args.at.now.db c.args.key.now) c.args.keyspace.now _ c.requires.ready.sound

pub returns-in_ok-put_lasting-in-Some-clause-kept : goal.returns-in_ok-put_lasting-in-Some-clause-kept
returns-in_ok-put_lasting-in-Some-clause-kept g c =
    calm g.B.BlockStore.blocks g.B.BlockStore.step (one_key c.args.at.now.db c.args.key.now) c.args.keyspace.now c.put_lasting.new.keyspace _ (search rules) c.put_lasting.ensures.held

pub returns-in_ok-put_lasting-in-Some-clause-gives : goal.returns-in_ok-put_lasting-in-Some-clause-gives
returns-in_ok-put_lasting-in-Some-clause-gives g c =
    let typed = rw c.in-Some.is at c.due.type_inv in
    let fits : FitsSigned w64 c.in-Some.due = record { sfits = typed.1.1.1.1.0.1 } in
    set_lasting (visible g.B.BlockStore.blocks c.args.keyspace.now c.args.at.now) (visible g.B.BlockStore.blocks c.put_lasting.new.keyspace c.args.at.now) c.args.at.now.moment c.args.key.now
    c.args.value.now c.args.unit c.args.n c.in-Some.due _ _ c.simple.result (rw (to_z-of_z w64 c.args.n c.ranges.n) at c.in-Some.ensures.some) fits
    (rw (to_z-of_z w64 c.in-Some.due fits) at c.from_zero.ensures.value) c.in_ok-put_lasting-in-Some.ensures.world (ap Simple c.ok.ensures) c.simple.ensures

pub returns-in-None-clause-forms : goal.returns-in-None-clause-forms
returns-in-None-clause-forms g c = formed_refused g.B.BlockStore.blocks Whole (placed_at c.args.at.now.db c.args.key.now Whole) c.args.keyspace.now InvalidExpireTime _ c.refused.ensures

pub returns-in_ok-put_lasting-in-Some-clause-forms : goal.returns-in_ok-put_lasting-in-Some-clause-forms
returns-in_ok-put_lasting-in-Some-clause-forms g c =
    wrote_whole c.args.at.now.db c.args.key.now g.B.BlockStore.blocks c.args.keyspace.now c.put_lasting.new.keyspace c.simple.result c.in_ok-put_lasting-in-Some.ensures.forms
    c.in_ok-put_lasting-in-Some.ensures.whole

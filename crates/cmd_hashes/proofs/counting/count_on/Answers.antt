use Rattle.std.proofs.Common.{rules}
use Rattle.std.specs.Prelude.{FitsSigned}
use Rattle.std.specs.Int.{w64}
use Rattle.std.proofs.lemmas.Int.{to_z-of_z}
use Rattle.plain_model.specs.declared.hash_command.HashCommand.TheVariants as hashes
use Rattle.keyspace.specs.Commands.{visible}
use Rattle.keyspace.specs.Forms.{hash_form}
use Rattle.keyspace.specs.Scopes.{one_key}
use Rattle.keyspace.proofs.Running.{unchanged, calm}
use Rattle.keyspace.proofs.Forming.{unformed}
use Rattle.cmd_hashes.proofs.Counted.{large_told, counted_told, counted_formed}
use Rattle.cmd_hashes.proofs.counting.count_on.Goals as goal

pub returns-in-None-clause-gives : goal.returns-in-None-clause-gives
returns-in-None-clause-gives g c =
    let v = c.requires.value in
    let large = rw (to_z-of_z w64 c.args.n c.ranges.n, to_z-of_z w64 c.args.by c.ranges.by) at c.in-None.ensures in
    large_told (visible g.B.BlockStore.blocks c.args.keyspace.now c.args.at.now) c.args.key.now c.args.field.now c.args.by v.0 v.1 c.args.n v.2 large c.refused.result c.refused.ensures

pub returns-in-None-clause-kept : goal.returns-in-None-clause-kept
returns-in-None-clause-kept g c = unchanged g.B.BlockStore.blocks g.B.BlockStore.step (one_key c.args.at.now.db c.args.key.now) c.args.keyspace.now _ c.requires.ready.sound

pub returns-in-None-clause-forms : goal.returns-in-None-clause-forms
returns-in-None-clause-forms g c =
    unformed g.B.BlockStore.blocks (hash_form c.args.at.now.db (visible g.B.BlockStore.blocks c.args.keyspace.now c.args.at.now) (hashes.HIncrBy c.args.key.now c.args.field.now c.args.by))
    c.args.keyspace.now _

pub returns-in-Some-clause-gives : goal.returns-in-Some-clause-gives
returns-in-Some-clause-gives g c =
    let blocks = g.B.BlockStore.blocks in
    let v = c.requires.value in
    let typed = rw c.in-Some.is at c.checked_add.type_inv in
    let fits : FitsSigned w64 c.in-Some.sum = record { sfits = typed.1.1.1.1.0.1 } in
    let next = rw (to_z-of_z w64 c.args.n c.ranges.n, to_z-of_z w64 c.args.by c.ranges.by) at c.in-Some.ensures in
    counted_told (visible blocks c.args.keyspace.now c.args.at.now) c.args.key.now c.args.field.now c.args.by v.0 v.1 c.args.n v.2 (visible blocks c.write_number.new.keyspace c.args.at.now)
    c.in-Some.sum fits next.1 c.write_number.result
    (rw (to_z-of_z w64 c.in-Some.sum fits) at c.write_number.ensures.set) (rw (to_z-of_z w64 c.in-Some.sum fits) at c.write_number.ensures.reply)

pub returns-in-Some-clause-kept : goal.returns-in-Some-clause-kept
returns-in-Some-clause-kept g c = calm g.B.BlockStore.blocks g.B.BlockStore.step (one_key c.args.at.now.db c.args.key.now) c.args.keyspace.now c.write_number.new.keyspace _ (search rules)
    c.write_number.ensures.held

pub returns-in-Some-clause-forms : goal.returns-in-Some-clause-forms
returns-in-Some-clause-forms g c =
    let blocks = g.B.BlockStore.blocks in
    let v = c.requires.value in
    let typed = rw c.in-Some.is at c.checked_add.type_inv in
    let fits : FitsSigned w64 c.in-Some.sum = record { sfits = typed.1.1.1.1.0.1 } in
    let next = rw (to_z-of_z w64 c.args.n c.ranges.n, to_z-of_z w64 c.args.by c.ranges.by) at c.in-Some.ensures in
    counted_formed (visible blocks c.args.keyspace.now c.args.at.now) c.args.key.now c.args.field.now c.args.by v.0 v.1 c.args.n v.2 blocks c.args.keyspace.now c.write_number.new.keyspace
    c.args.at.now.db c.in-Some.sum next.1 c.write_number.result (rw (to_z-of_z w64 c.in-Some.sum fits) at c.write_number.ensures.forms)

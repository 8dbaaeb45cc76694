use Rattle.std.specs.Prelude.{FitsSigned, ◌+ℤ◌}
use Rattle.std.specs.Int.{w64}
use Rattle.std.proofs.lemmas.Int.{to_z-of_z}
use Rattle.keyspace.specs.Commands.{seen}
use Rattle.cmd_values.proofs.StringLemmas.{item_there, not_number, overflowed, counted}
use Rattle.std.proofs.Common.{rules}
use Rattle.keyspace.proofs.Running.{unchanged, calm}
use Rattle.keyspace.specs.Scopes.{one_key}
use Rattle.keyspace.specs.Forms.{Whole}
use Rattle.keyspace.proofs.Forming.{unformed}
use Rattle.cmd_values.proofs.strings.counting.incrby.Goals as goal
use Rattle.plain_world.specs.declared.refusal.Refusal.TheVariants.{NotAnInteger, Overflow, WrongType}
use Rattle.keyspace.specs.Forms.{placed_at}
use Rattle.keyspace.proofs.Forming.{formed_refused}

pub returns-in-NoNumber-clause-gives : goal.returns-in-NoNumber-clause-gives
returns-in-NoNumber-clause-gives g c =
    not_number (seen c.args.at.now c.args.keyspace.now.bases (g.B.BlockStore.blocks c.args.keyspace.now.store)) c.args.key.now (λ n. n +ℤ c.args.by) c.refused-in-NoNumber.result
    c.in-NoNumber.ensures c.refused-in-NoNumber.ensures

pub returns-in-None-clause-gives : goal.returns-in-None-clause-gives
returns-in-None-clause-gives g c =
    let typed = rw c.in-Number.is at c.number_at.type_inv in
    let large = rw (to_z-of_z w64 c.in-Number.n (record { sfits = typed.1.1.1.1.0.1 }), to_z-of_z w64 c.args.by c.ranges.by) at c.in-None.ensures in
    overflowed (seen c.args.at.now c.args.keyspace.now.bases (g.B.BlockStore.blocks c.args.keyspace.now.store)) c.args.key.now c.in-Number.n (λ n. n +ℤ c.args.by) c.refused-in-None.result
    c.in-Number.ensures large c.refused-in-None.ensures

pub returns-in-Some-clause-gives : goal.returns-in-Some-clause-gives
returns-in-Some-clause-gives g c =
    let typed = rw c.in-Number.is at c.number_at.type_inv in
    let next_typed = rw c.in-Some.is at c.checked_add.type_inv in
    let fits : FitsSigned w64 c.in-Some.next = record { sfits = next_typed.1.1.1.1.0.1 } in
    let next = rw (to_z-of_z w64 c.in-Number.n (record { sfits = typed.1.1.1.1.0.1 }), to_z-of_z w64 c.args.by c.ranges.by) at c.in-Some.ensures in
    counted (seen c.args.at.now c.args.keyspace.now.bases (g.B.BlockStore.blocks c.args.keyspace.now.store))
    (seen c.args.at.now c.write_number.new.keyspace.bases (g.B.BlockStore.blocks c.write_number.new.keyspace.store)) c.args.key.now c.in-Number.n c.in-Some.next (λ n. n +ℤ c.args.by)
    c.write_number.result c.in-Number.ensures fits next.1 (rw (to_z-of_z w64 c.in-Some.next fits) at c.write_number.ensures.reply)
    (rw (to_z-of_z w64 c.in-Some.next fits) at c.write_number.ensures.world)

pub returns-in-NoNumber-clause-kept : goal.returns-in-NoNumber-clause-kept
returns-in-NoNumber-clause-kept g c =
    unchanged g.B.BlockStore.blocks g.B.BlockStore.step (one_key c.args.at.now.db c.args.key.now) c.args.keyspace.now _ c.requires.ready.sound

pub returns-in-None-clause-kept : goal.returns-in-None-clause-kept
returns-in-None-clause-kept g c =
    unchanged g.B.BlockStore.blocks g.B.BlockStore.step (one_key c.args.at.now.db c.args.key.now) c.args.keyspace.now _ c.requires.ready.sound

pub returns-in-Some-clause-kept : goal.returns-in-Some-clause-kept
returns-in-Some-clause-kept g c =
    calm g.B.BlockStore.blocks g.B.BlockStore.step (one_key c.args.at.now.db c.args.key.now) c.args.keyspace.now c.write_number.new.keyspace _ (search rules) c.write_number.ensures.held

pub returns-in-Other-clause-kept : goal.returns-in-Other-clause-kept
returns-in-Other-clause-kept g c =
    unchanged g.B.BlockStore.blocks g.B.BlockStore.step (one_key c.args.at.now.db c.args.key.now) c.args.keyspace.now _ c.requires.ready.sound

pub returns-in-NoNumber-clause-forms : goal.returns-in-NoNumber-clause-forms
returns-in-NoNumber-clause-forms g c = formed_refused g.B.BlockStore.blocks Whole (placed_at c.args.at.now.db c.args.key.now Whole) c.args.keyspace.now NotAnInteger
    c.refused-in-NoNumber.result c.refused-in-NoNumber.ensures

pub returns-in-None-clause-forms : goal.returns-in-None-clause-forms
returns-in-None-clause-forms g c = formed_refused g.B.BlockStore.blocks Whole (placed_at c.args.at.now.db c.args.key.now Whole) c.args.keyspace.now Overflow c.refused-in-None.result
    c.refused-in-None.ensures

pub returns-in-Other-clause-forms : goal.returns-in-Other-clause-forms
returns-in-Other-clause-forms g c = formed_refused g.B.BlockStore.blocks Whole (placed_at c.args.at.now.db c.args.key.now Whole) c.args.keyspace.now WrongType c.refused.result c.refused.ensures

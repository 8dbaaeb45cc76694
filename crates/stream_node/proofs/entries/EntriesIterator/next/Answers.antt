use Rattle.std.proofs.Common.{◌-◌, arith}
use Rattle.std.proofs.Math.Logic.{∥∥₁_elim, ∥∥₁_map}
use Rattle.stream_node.specs.Rest.{rest_of}
use Rattle.stream_node.specs.Reading.{master_of}
use Rattle.stream_node.specs.View.{stored}
use Rattle.stream_node.proofs.Walks.{length-entries_from, none_left, one_read, no_fault, walk_on}
use Rattle.stream_node.proofs.entries.EntriesIterator.next.Goals as goal

pub returns-then-self-eq0-clause-steps : goal.returns-then-self-eq0-clause-steps
returns-then-self-eq0-clause-steps c =
    let it = c.args.self.now in
    let none = none_left it.key (master_of it.head) it.left (rest_of it.rest) c.if-self-eq0.true in
    (none, none)

pub invariant_of-self-in-Ok : goal.invariant_of-self-in-Ok
invariant_of-self-in-Ok c =
    let it = c.args.self.now in
    record { whole = ∥∥₁_map it.whole (walk_on it.key it.head it.left it.rest c.in-Ok.rest (stored c.in-Ok.entry) (omega arith) c.in-Ok.ensures.ok) }

pub unreachable-requires : goal.unreachable-requires
unreachable-requires c =
    let it = c.args.self.now in
    ∥∥₁_elim it.whole (λ a b. absurd a) (no_fault it.key it.head it.left it.rest (omega arith) c.in-Err.field-0 c.in-Err.ensures.err)

pub returns-clause-steps : goal.returns-clause-steps
returns-clause-steps c =
    let it = c.args.self.now in
    one_read it.key (master_of it.head) (rest_of it.rest) it.left (stored c.in-Ok.entry) (rest_of c.in-Ok.rest) (omega arith) c.in-Ok.ensures.ok

pub returns-clause-goes : goal.returns-clause-goes
returns-clause-goes c =
    let it = c.args.self.now in
    record {
      on = λ _. (tt, tt, omega (arith, length-entries_from it.key (master_of it.head) it.left (rest_of it.rest), length-entries_from it.key (master_of it.head) (it.left - 1) (rest_of c.in-Ok.rest)));
      keeps = tt;
      rests = λ _. tt;
    }

use Rattle.std.proofs.Common.{◌≡◌, sym, ◌∙◌, true, false, rules}
use Rattle.std.specs.Prelude.{bytes_eq}
use Rattle.plain_model.specs.SetSteps.{has}
use Rattle.keyspace.specs.Forms.{set_at}
use Rattle.keyspace.specs.Commands.{visible}
use Rattle.cmd_sets.proofs.Joined.{missing_lacks, found_has}
use Rattle.cmd_sets.proofs.Going.{none_moves, lacks_moves, same_moves, lacks_stays, same_stays}
use Rattle.cmd_sets.proofs.moving.plan_of.Goals as goal

pub returns-in-Missing : goal.returns-in-Missing
returns-in-Missing g c =
    let world = visible g.B.BlockStore.blocks c.args.keyspace.now c.args.at.now in
    let none = rw c.in-Missing.is at c.set_at.ensures in (
      none_moves world c.args.from.now c.args.to.now c.args.member.now none,
      lacks_stays world c.args.from.now c.args.to.now c.args.member.now (missing_lacks world c.args.from.now c.args.member.now none),
    )

pub returns-then-not-has : goal.returns-then-not-has
returns-then-not-has g c =
    let blocks = g.B.BlockStore.blocks in
    let world = visible blocks c.args.keyspace.now c.args.at.now in
    let found = c.in-There.ensures in
    let taken = c.if-not-may_take.ensures in
    let lacks : has (set_at world c.args.from.now) c.args.member.now ≡ false =
    found_has world (blocks c.args.keyspace.now.store) c.args.from.now c.args.member.now _ found ∙ sym c.if-not-has.ensures in (
      lacks_moves world c.args.from.now c.args.to.now c.args.member.now _ taken.0 (record { deadline = found.deadline; stands = found.stands }) taken.1 (sym c.if-not-has.ensures),
      lacks_stays world c.args.from.now c.args.to.now c.args.member.now lacks,
    )

pub returns-then-eq : goal.returns-then-eq
returns-then-eq g c =
    let world = visible g.B.BlockStore.blocks c.args.keyspace.now c.args.at.now in
    let found = c.in-There.ensures in
    let taken = c.if-not-may_take.ensures in
    let same : bytes_eq c.args.from.now c.args.to.now ≡ true = search rules in (
      same_moves world c.args.from.now c.args.to.now c.args.member.now _ taken.0 (record { deadline = found.deadline; stands = found.stands }) taken.1 (sym c.if-not-has.ensures) same,
      same_stays world c.args.from.now c.args.to.now c.args.member.now same,
    )

pub returns-else-eq : goal.returns-else-eq
returns-else-eq g c =
    let found = c.in-There.ensures in
    let taken = c.if-not-may_take.ensures in
    record {
      members = _;
      stands = record { deadline = found.deadline; stands = found.stands };
      there = search rules;
      before = taken.0;
      target = taken.1;
      apart = search rules;
    }

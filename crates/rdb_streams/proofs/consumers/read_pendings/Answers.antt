use Rattle.std.proofs.Common.{◌≡◌, ℕ, suc, ◌-◌, ◌+◌, sym, subst, arith}
use Rattle.stream_groups.specs.Groups.{Group, new_group}
use Rattle.rdb_grammar.specs.StreamParts.{Begun, with_unclaimed}
use Rattle.rdb_grammar.proofs.StreamsExact.{with_unclaimed_exact}
use Rattle.rdb_streams.specs.Claims.{Claims}
use Rattle.rdb_streams.proofs.Counted.{CountsOn, count_starts, count_on, count_stands, part_fails}
use Rattle.rdb_streams.proofs.consumers.read_pendings.Goals as goal

abbrev with : Group → Claims → Begun
with group unclaimed = record { group = group; unclaimed = unclaimed }

pub pendings-init : goal.pendings-init
pendings-init c =
    let count = c.in-Ok.read.0 in
    let none : count - 0 ≡ count = omega arith in
    record {
      turns = λ group.
          let first = with group c.args.unclaimed.now in
          subst (λ (n : ℕ). CountsOn with_unclaimed c.args.bytes.now c.args.at first c.in-Ok.read.1 n first) (sym none)
          (count_starts with_unclaimed with_unclaimed_exact c.args.bytes.now c.args.at first count c.in-Ok.read.1 c.in-Ok.ensures.number);
      inside = c.in-Ok.ensures.number.inside;
    }

pub pendings-preserved : goal.pendings-preserved
pendings-preserved c =
    let count = c.in-Ok.read.0 in
    let rest = count - (c.pendings.counter + 1) in
    let left : count - c.pendings.counter ≡ suc rest = omega (arith, c.pendings-test.true) in
    record {
      turns = λ group.
          let first = with group c.args.unclaimed.now in
          let made = with group c.pendings.unclaimed in
          let turns = subst (λ (n : ℕ). CountsOn with_unclaimed c.args.bytes.now c.args.at first c.pendings.next n made) left (c.pendings.invariant.turns group) in
          count_on with_unclaimed with_unclaimed_exact c.args.bytes.now c.args.at first c.pendings.next rest made c.in-Ok-read_pending.behind (with group c.read_pending.new.unclaimed)
          turns (c.in-Ok-read_pending.ensures group);
      inside = (c.in-Ok-read_pending.ensures (new_group (0, 0))).inside;
    }

pub returns-in-Err-read_pending : goal.returns-in-Err-read_pending
returns-in-Err-read_pending c group =
    let count = c.in-Ok.read.0 in
    let rest = count - (c.pendings.counter + 1) in
    let left : count - c.pendings.counter ≡ suc rest = omega (arith, c.pendings-test.true) in
    let first = with group c.args.unclaimed.now in
    let made = with group c.pendings.unclaimed in
    let turns = subst (λ (n : ℕ). CountsOn with_unclaimed c.args.bytes.now c.args.at first c.pendings.next n made) left (c.pendings.invariant.turns group) in
    part_fails with_unclaimed with_unclaimed_exact c.args.bytes.now c.args.at first c.requires c.pendings.next rest made (with group c.read_pending.new.unclaimed) turns
    c.in-Err-read_pending.fault (c.in-Err-read_pending.ensures group)

pub returns : goal.returns
returns c group =
    let count = c.in-Ok.read.0 in
    let none : count - c.pendings.counter ≡ 0 = omega (arith, c.pendings-test.false) in
    let first = with group c.args.unclaimed.now in
    let made = with group c.pendings.unclaimed in
    count_stands with_unclaimed with_unclaimed_exact c.args.bytes.now c.args.at first c.requires c.pendings.next made c.pendings.invariant.inside
    (subst (λ (n : ℕ). CountsOn with_unclaimed c.args.bytes.now c.args.at first c.pendings.next n made) none (c.pendings.invariant.turns group))

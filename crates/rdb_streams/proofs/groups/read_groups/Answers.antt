use Rattle.std.proofs.Common.{◌≡◌, ℕ, suc, ◌-◌, ◌+◌, refl, sym, subst, arith}
use Rattle.rdb_grammar.specs.StreamParts.{with_group}
use Rattle.rdb_grammar.proofs.StreamsExact.{with_group_exact}
use Rattle.rdb_streams.proofs.Counted.{CountsOn, count_fails, count_starts, count_on, count_stands, part_fails}
use Rattle.rdb_streams.proofs.Grouped.{groups_then}
use Rattle.rdb_streams.proofs.groups.read_groups.Goals as goal

pub returns-in-Err-clause-reads : goal.returns-in-Err-clause-reads
returns-in-Err-clause-reads c m =
    let type = c.args.stream_type in
    rw c.refused.ensures (count_fails (with_group type) (with_group_exact type) c.args.bytes.now c.args.at c.args.stream.now.groups c.in-Err.fault.kind c.in-Err.fault.at c.in-Err.ensures.fault)

pub groups-init : goal.groups-init
groups-init c =
    let type = c.args.stream_type in
    let count = c.in-Ok.read.0 in
    let none : count - 0 ≡ count = omega arith in
    let first = c.args.stream.now.groups in
    record {
      turns =
          subst (λ (n : ℕ). CountsOn (with_group type) c.args.bytes.now c.args.at first c.in-Ok.read.1 n first) (sym none)
          (count_starts (with_group type) (with_group_exact type) c.args.bytes.now c.args.at first count c.in-Ok.read.1 c.in-Ok.ensures.number);
      inside = c.in-Ok.ensures.number.inside;
      others = refl;
    }

pub groups-preserved : goal.groups-preserved
groups-preserved c =
    let type = c.args.stream_type in
    let count = c.in-Ok.read.0 in
    let rest = count - (c.groups.counter + 1) in
    let left : count - c.groups.counter ≡ suc rest = omega (arith, c.groups-test.true) in
    let first = c.args.stream.now.groups in
    let made = c.groups.stream.groups in
    let more = c.read_group.new.stream.groups in
    let turns = subst (λ (n : ℕ). CountsOn (with_group type) c.args.bytes.now c.args.at first c.groups.next n made) left c.groups.invariant.turns in
    record {
      turns = count_on (with_group type) (with_group_exact type) c.args.bytes.now c.args.at first c.groups.next rest made c.in-Ok-read_group.behind more turns c.in-Ok-read_group.ensures.reads;
      inside = c.in-Ok-read_group.ensures.reads.inside;
      others = groups_then c.args.stream.now c.groups.stream c.read_group.new.stream c.groups.invariant.others c.read_group.ensures.others;
    }

pub returns-in-Err-read_group-clause-reads : goal.returns-in-Err-read_group-clause-reads
returns-in-Err-read_group-clause-reads c m =
    let type = c.args.stream_type in
    let count = c.in-Ok.read.0 in
    let rest = count - (c.groups.counter + 1) in
    let left : count - c.groups.counter ≡ suc rest = omega (arith, c.groups-test.true) in
    let first = c.args.stream.now.groups in
    let made = c.groups.stream.groups in
    let turns = subst (λ (n : ℕ). CountsOn (with_group type) c.args.bytes.now c.args.at first c.groups.next n made) left c.groups.invariant.turns in
    part_fails (with_group type) (with_group_exact type) c.args.bytes.now c.args.at first c.requires.at c.groups.next rest made c.read_group.new.stream.groups turns
    c.in-Err-read_group.fault c.in-Err-read_group.ensures.reads

pub returns-in-Err-read_group-clause-others : goal.returns-in-Err-read_group-clause-others
returns-in-Err-read_group-clause-others c m = groups_then c.args.stream.now c.groups.stream c.read_group.new.stream c.groups.invariant.others c.read_group.ensures.others

pub returns-clause-reads : goal.returns-clause-reads
returns-clause-reads c m =
    let type = c.args.stream_type in
    let count = c.in-Ok.read.0 in
    let none : count - c.groups.counter ≡ 0 = omega (arith, c.groups-test.false) in
    let first = c.args.stream.now.groups in
    let made = c.groups.stream.groups in
    count_stands (with_group type) (with_group_exact type) c.args.bytes.now c.args.at first c.requires.at c.groups.next made c.groups.invariant.inside
    (subst (λ (n : ℕ). CountsOn (with_group type) c.args.bytes.now c.args.at first c.groups.next n made) none c.groups.invariant.turns)

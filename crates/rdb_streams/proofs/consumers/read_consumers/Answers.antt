use Rattle.std.proofs.Common.{◌≡◌, ℕ, suc, ◌-◌, ◌+◌, sym, subst, arith}
use Rattle.rdb_grammar.specs.StreamParts.{with_consumer}
use Rattle.rdb_grammar.proofs.StreamsExact.{with_consumer_exact}
use Rattle.rdb_streams.specs.Grouped.{begun_in}
use Rattle.rdb_streams.proofs.Counted.{CountsOn, count_fails, count_starts, count_on, count_stands, part_fails}
use Rattle.rdb_streams.proofs.Grouped.{changes_none, changes_then_in_grouped, changes_there}
use Rattle.rdb_streams.proofs.consumers.read_consumers.Goals as goal

pub returns-in-Err-clause-reads : goal.returns-in-Err-clause-reads
returns-in-Err-clause-reads c =
    let name = c.args.name.now in
    let first = begun_in c.args.stream.now.groups name c.args.unclaimed.now in
    rw c.refused.ensures
    (count_fails (with_consumer c.args.stream_type) (with_consumer_exact c.args.stream_type) c.args.bytes.now c.args.at first c.in-Err.fault.kind c.in-Err.fault.at
    c.in-Err.ensures.fault)

pub returns-in-Err-clause-others : goal.returns-in-Err-clause-others
returns-in-Err-clause-others c = changes_none c.args.name.now c.args.stream.now c.requires.there

pub consumers-init : goal.consumers-init
consumers-init c =
    let one = with_consumer c.args.stream_type in
    let name = c.args.name.now in
    let count = c.in-Ok.read.0 in
    let none : count - 0 ≡ count = omega arith in
    let first = begun_in c.args.stream.now.groups name c.args.unclaimed.now in
    record {
      turns =
          subst (λ (n : ℕ). CountsOn one c.args.bytes.now c.args.at first c.in-Ok.read.1 n first) (sym none)
          (count_starts one (with_consumer_exact c.args.stream_type) c.args.bytes.now c.args.at first count c.in-Ok.read.1 c.in-Ok.ensures.number);
      inside = c.in-Ok.ensures.number.inside;
      there = c.requires.there;
      others = changes_none name c.args.stream.now c.requires.there;
    }

pub consumers-preserved : goal.consumers-preserved
consumers-preserved c =
    let one = with_consumer c.args.stream_type in
    let name = c.args.name.now in
    let count = c.in-Ok.read.0 in
    let rest = count - (c.consumers.counter + 1) in
    let left : count - c.consumers.counter ≡ suc rest = omega (arith, c.consumers-test.true) in
    let first = begun_in c.args.stream.now.groups name c.args.unclaimed.now in
    let made = begun_in c.consumers.stream.groups name c.consumers.unclaimed in
    let more = begun_in c.read_consumer.new.stream.groups name c.read_consumer.new.unclaimed in
    let turns = subst (λ (n : ℕ). CountsOn one c.args.bytes.now c.args.at first c.consumers.next n made) left c.consumers.invariant.turns in
    record {
      turns = count_on one (with_consumer_exact c.args.stream_type) c.args.bytes.now c.args.at first c.consumers.next rest made c.in-Ok-read_consumer.behind more turns
          c.in-Ok-read_consumer.ensures.reads;
      inside = c.in-Ok-read_consumer.ensures.reads.inside;
      there = changes_there name c.consumers.stream c.read_consumer.new.stream c.read_consumer.ensures.others;
      others = changes_then_in_grouped name c.args.stream.now c.consumers.stream c.consumers.invariant.others c.read_consumer.new.stream c.read_consumer.ensures.others;
    }

pub returns-in-Err-read_consumer-clause-reads : goal.returns-in-Err-read_consumer-clause-reads
returns-in-Err-read_consumer-clause-reads c =
    let one = with_consumer c.args.stream_type in
    let name = c.args.name.now in
    let count = c.in-Ok.read.0 in
    let rest = count - (c.consumers.counter + 1) in
    let left : count - c.consumers.counter ≡ suc rest = omega (arith, c.consumers-test.true) in
    let first = begun_in c.args.stream.now.groups name c.args.unclaimed.now in
    let made = begun_in c.consumers.stream.groups name c.consumers.unclaimed in
    let more = begun_in c.read_consumer.new.stream.groups name c.read_consumer.new.unclaimed in
    let turns = subst (λ (n : ℕ). CountsOn one c.args.bytes.now c.args.at first c.consumers.next n made) left c.consumers.invariant.turns in
    part_fails one (with_consumer_exact c.args.stream_type) c.args.bytes.now c.args.at first c.requires.at c.consumers.next rest made more turns c.in-Err-read_consumer.fault
    c.in-Err-read_consumer.ensures.reads

pub returns-in-Err-read_consumer-clause-others : goal.returns-in-Err-read_consumer-clause-others
returns-in-Err-read_consumer-clause-others c = changes_then_in_grouped c.args.name.now c.args.stream.now c.consumers.stream c.consumers.invariant.others c.read_consumer.new.stream
    c.read_consumer.ensures.others

pub returns-clause-reads : goal.returns-clause-reads
returns-clause-reads c =
    let one = with_consumer c.args.stream_type in
    let name = c.args.name.now in
    let count = c.in-Ok.read.0 in
    let none : count - c.consumers.counter ≡ 0 = omega (arith, c.consumers-test.false) in
    let first = begun_in c.args.stream.now.groups name c.args.unclaimed.now in
    let made = begun_in c.consumers.stream.groups name c.consumers.unclaimed in
    count_stands one (with_consumer_exact c.args.stream_type) c.args.bytes.now c.args.at first c.requires.at c.consumers.next made c.consumers.invariant.inside
    (subst (λ (n : ℕ). CountsOn one c.args.bytes.now c.args.at first c.consumers.next n made) none c.consumers.invariant.turns)

use Rattle.std.proofs.Common.{◌≡◌, ℕ, suc, ◌-◌, ◌+◌, sym, subst, arith}
use Rattle.rdb_grammar.specs.StreamParts.{with_claim}
use Rattle.rdb_grammar.proofs.StreamsExact.{with_claim_exact}
use Rattle.rdb_streams.specs.Grouped.{begun_in}
use Rattle.rdb_streams.proofs.Counted.{CountsOn, count_fails, count_starts, count_on, count_stands, part_fails}
use Rattle.rdb_streams.proofs.Grouped.{changes_none, changes_then_in_grouped, changes_there}
use Rattle.rdb_streams.proofs.consumers.read_claims.Goals as goal

pub returns-in-Err-clause-reads : goal.returns-in-Err-clause-reads
returns-in-Err-clause-reads c =
    let name = c.args.name.now in
    let first = begun_in c.args.stream.now.groups name c.args.unclaimed.now in
    rw c.refused.ensures
    (count_fails (with_claim c.args.consumer.now) (with_claim_exact c.args.consumer.now) c.args.bytes.now c.args.at first c.in-Err.fault.kind c.in-Err.fault.at c.in-Err.ensures.fault)

pub returns-in-Err-clause-others : goal.returns-in-Err-clause-others
returns-in-Err-clause-others c = changes_none c.args.name.now c.args.stream.now c.requires.there

pub claims-init : goal.claims-init
claims-init c =
    let one = with_claim c.args.consumer.now in
    let name = c.args.name.now in
    let count = c.in-Ok.read.0 in
    let none : count - 0 ≡ count = omega arith in
    let first = begun_in c.args.stream.now.groups name c.args.unclaimed.now in
    record {
      turns =
          subst (λ (n : ℕ). CountsOn one c.args.bytes.now c.args.at first c.in-Ok.read.1 n first) (sym none)
          (count_starts one (with_claim_exact c.args.consumer.now) c.args.bytes.now c.args.at first count c.in-Ok.read.1 c.in-Ok.ensures.number);
      inside = c.in-Ok.ensures.number.inside;
      there = c.requires.there;
      consumer = c.requires.consumer;
      others = changes_none name c.args.stream.now c.requires.there;
    }

pub claims-preserved : goal.claims-preserved
claims-preserved c =
    let one = with_claim c.args.consumer.now in
    let name = c.args.name.now in
    let count = c.in-Ok.read.0 in
    let rest = count - (c.claims.counter + 1) in
    let left : count - c.claims.counter ≡ suc rest = omega (arith, c.claims-test.true) in
    let first = begun_in c.args.stream.now.groups name c.args.unclaimed.now in
    let made = begun_in c.claims.stream.groups name c.claims.unclaimed in
    let more = begun_in c.read_claim.new.stream.groups name c.read_claim.new.unclaimed in
    let turns = subst (λ (n : ℕ). CountsOn one c.args.bytes.now c.args.at first c.claims.next n made) left c.claims.invariant.turns in
    record {
      turns = count_on one (with_claim_exact c.args.consumer.now) c.args.bytes.now c.args.at first c.claims.next rest made c.in-Ok-read_claim.behind more turns c.in-Ok-read_claim.ensures.reads;
      inside = c.in-Ok-read_claim.ensures.reads.inside;
      there = changes_there name c.claims.stream c.read_claim.new.stream c.read_claim.ensures.others;
      consumer = c.read_claim.ensures.consumer;
      others = changes_then_in_grouped name c.args.stream.now c.claims.stream c.claims.invariant.others c.read_claim.new.stream c.read_claim.ensures.others;
    }

pub returns-in-Err-read_claim-clause-reads : goal.returns-in-Err-read_claim-clause-reads
returns-in-Err-read_claim-clause-reads c =
    let one = with_claim c.args.consumer.now in
    let name = c.args.name.now in
    let count = c.in-Ok.read.0 in
    let rest = count - (c.claims.counter + 1) in
    let left : count - c.claims.counter ≡ suc rest = omega (arith, c.claims-test.true) in
    let first = begun_in c.args.stream.now.groups name c.args.unclaimed.now in
    let made = begun_in c.claims.stream.groups name c.claims.unclaimed in
    let more = begun_in c.read_claim.new.stream.groups name c.read_claim.new.unclaimed in
    let turns = subst (λ (n : ℕ). CountsOn one c.args.bytes.now c.args.at first c.claims.next n made) left c.claims.invariant.turns in
    part_fails one (with_claim_exact c.args.consumer.now) c.args.bytes.now c.args.at first c.requires.at c.claims.next rest made more turns c.in-Err-read_claim.fault c.in-Err-read_claim.ensures.reads

pub returns-in-Err-read_claim-clause-others : goal.returns-in-Err-read_claim-clause-others
returns-in-Err-read_claim-clause-others c = changes_then_in_grouped c.args.name.now c.args.stream.now c.claims.stream c.claims.invariant.others c.read_claim.new.stream c.read_claim.ensures.others

pub returns-clause-reads : goal.returns-clause-reads
returns-clause-reads c =
    let one = with_claim c.args.consumer.now in
    let name = c.args.name.now in
    let count = c.in-Ok.read.0 in
    let none : count - c.claims.counter ≡ 0 = omega (arith, c.claims-test.false) in
    let first = begun_in c.args.stream.now.groups name c.args.unclaimed.now in
    let made = begun_in c.claims.stream.groups name c.claims.unclaimed in
    count_stands one (with_claim_exact c.args.consumer.now) c.args.bytes.now c.args.at first c.requires.at c.claims.next made c.claims.invariant.inside
    (subst (λ (n : ℕ). CountsOn one c.args.bytes.now c.args.at first c.claims.next n made) none c.claims.invariant.turns)

use Rattle.std.proofs.Common.{◌≡◌, ℕ, List, true, false, not, sym, ap, subst, ◌∙◌}
use Rattle.std.specs.FinMap.{get}
use Rattle.stream_groups.specs.Groups.{Group, has_consumer, with_consumer as with_name}
use Rattle.stream_groups.proofs.Changing.{consumer_added}
use Rattle.stream_object.specs.declared.stream.Stream.{Stream as Log}
use Rattle.rdb_grammar.specs.Places.{Stands}
use Rattle.rdb_grammar.specs.StreamParts.{counted, with_claim}
use Rattle.rdb_grammar.specs.Strings.{string}
use Rattle.rdb_streams.specs.Grouped.{ChangesGroup, group_in, begun_in}
use Rattle.rdb_streams.specs.Reading.{Reads}
use Rattle.rdb_streams.proofs.Claimed.{consumer_fails, consumer_twice, times_fails, claims_read}
use Rattle.rdb_streams.proofs.Grouped.{changes_none, changes_by, changes_then_in_grouped, changes_there, group_there_in_grouped, group_changed, told_of_in_grouped}
use Rattle.rdb_streams.proofs.consumers.read_consumer.Goals as goal

pub returns-in-Err-clause-reads : goal.returns-in-Err-clause-reads
returns-in-Err-clause-reads c =
    let made = begun_in c.args.stream.now.groups c.args.name.now c.args.unclaimed.now in
    rw c.refused.ensures (consumer_fails c.args.stream_type c.args.bytes.now c.args.at made c.in-Err.fault.kind c.in-Err.fault.at c.in-Err.ensures.fault)

pub returns-in-Err-clause-others : goal.returns-in-Err-clause-others
returns-in-Err-clause-others c = changes_none c.args.name.now c.args.stream.now c.requires.there

pub read_claims-requires-clause-there : goal.read_claims-requires-clause-there
read_claims-requires-clause-there c =
    let change = with_name c.text-consumer.result.now in
    changes_there c.args.name.now c.args.stream.now c.add_consumer.new.self
    (changes_by c.args.name.now c.args.stream.now c.add_consumer.new.self change c.requires.there c.in-Ok-Some-true.ensures.ok)

pub read_claims-requires-clause-consumer : goal.read_claims-requires-clause-consumer
read_claims-requires-clause-consumer c =
    let name = c.args.name.now in
    let consumer = c.text-consumer.result.now in
    rw c.in-Ok-Some-true.ensures.ok (consumer_added c.args.stream.now.groups name consumer)

pub returns-in-Ok-next_times-clause-reads : goal.returns-in-Ok-next_times-clause-reads
returns-in-Ok-next_times-clause-reads c =
    let bytes = c.args.bytes.now in
    let groups = c.args.stream.now.groups in
    let name = c.args.name.now in
    let consumer = c.text-consumer.result.now in
    let made = begun_in groups name c.args.unclaimed.now in
    let new = begun_in c.read_claims.new.stream.groups name c.read_claims.new.unclaimed in
    let s = subst (λ (text : List ℕ). Stands string text bytes c.args.at c.in-Ok.read.1) (sym c.text-consumer.ensures) c.in-Ok.ensures.string in
    let fresh : not (has_consumer consumer made.group) ≡ true =
    told_of_in_grouped (λ g. not (has_consumer consumer g)) (get groups name) (group_in groups name) _ (group_there_in_grouped groups name c.requires.there)
    (sym c.in-Ok-Some-true.field-0-is ∙ c.in-Ok-Some-true.ensures.made) ∙ c.in-Ok-Some-true.field-0-0-test in
    let group : group_in c.add_consumer.new.self.groups name ≡ with_name consumer (group_in groups name) =
    ap (λ (s : Log). group_in s.groups name) c.in-Ok-Some-true.ensures.ok ∙ group_changed groups name c.requires.there (with_name consumer) in
    let next = c.in-Ok-next_times.next in
    claims_read c.args.stream_type bytes c.args.at made c.in-Ok.read.1 consumer s fresh next c.in-Ok-next_times.ensures.times new c.read_claims.result
    (subst (λ (g : Group). Reads (counted (with_claim consumer) (record { group = g; unclaimed = c.args.unclaimed.now })) bytes next new c.read_claims.result) group c.read_claims.ensures.reads)

pub returns-in-Ok-next_times-clause-others : goal.returns-in-Ok-next_times-clause-others
returns-in-Ok-next_times-clause-others c =
    let name = c.args.name.now in
    let old = c.args.stream.now in
    let middle = c.add_consumer.new.self in
    changes_then_in_grouped name old middle (changes_by name old middle (with_name c.text-consumer.result.now) c.requires.there c.in-Ok-Some-true.ensures.ok) c.read_claims.new.stream
    c.read_claims.ensures.others

pub returns-in-Err-next_times-clause-reads : goal.returns-in-Err-next_times-clause-reads
returns-in-Err-next_times-clause-reads c =
    let bytes = c.args.bytes.now in
    let groups = c.args.stream.now.groups in
    let name = c.args.name.now in
    let consumer = c.text-consumer.result.now in
    let made = begun_in groups name c.args.unclaimed.now in
    let s = subst (λ (text : List ℕ). Stands string text bytes c.args.at c.in-Ok.read.1) (sym c.text-consumer.ensures) c.in-Ok.ensures.string in
    let fresh : not (has_consumer consumer made.group) ≡ true =
    told_of_in_grouped (λ g. not (has_consumer consumer g)) (get groups name) (group_in groups name) _ (group_there_in_grouped groups name c.requires.there)
    (sym c.in-Ok-Some-true.field-0-is ∙ c.in-Ok-Some-true.ensures.made) ∙ c.in-Ok-Some-true.field-0-0-test in
    let fault = c.in-Err-next_times.fault in
    rw c.refused-in-Err-next_times.ensures (times_fails c.args.stream_type bytes c.args.at made c.in-Ok.read.1 consumer s fresh fault.kind fault.at c.in-Err-next_times.ensures.fault)

pub returns-in-Err-next_times-clause-others : goal.returns-in-Err-next_times-clause-others
returns-in-Err-next_times-clause-others c =
    changes_by c.args.name.now c.args.stream.now c.add_consumer.new.self (with_name c.text-consumer.result.now) c.requires.there c.in-Ok-Some-true.ensures.ok

pub returns-in-Ok-Some-false-clause-reads : goal.returns-in-Ok-Some-false-clause-reads
returns-in-Ok-Some-false-clause-reads c =
    let bytes = c.args.bytes.now in
    let groups = c.args.stream.now.groups in
    let name = c.args.name.now in
    let consumer = c.text-consumer.result.now in
    let made = begun_in groups name c.args.unclaimed.now in
    let s = subst (λ (text : List ℕ). Stands string text bytes c.args.at c.in-Ok.read.1) (sym c.text-consumer.ensures) c.in-Ok.ensures.string in
    let old : not (has_consumer consumer made.group) ≡ false =
    told_of_in_grouped (λ g. not (has_consumer consumer g)) (get groups name) (group_in groups name) _ (group_there_in_grouped groups name c.requires.there)
    (sym c.in-Ok-Some-false.field-0-is ∙ c.in-Ok-Some-false.ensures.made) ∙ c.in-Ok-Some-false.field-0-0-test in
    rw c.no_group.ensures (consumer_twice c.args.stream_type bytes c.args.at made c.in-Ok.read.1 consumer s old)

pub returns-in-Ok-Some-false-clause-others : goal.returns-in-Ok-Some-false-clause-others
returns-in-Ok-Some-false-clause-others c =
    changes_by c.args.name.now c.args.stream.now c.add_consumer.new.self (with_name c.text-consumer.result.now) c.requires.there c.in-Ok-Some-false.ensures.ok

pub returns-in-Err-add_consumer-clause-others : goal.returns-in-Err-add_consumer-clause-others
returns-in-Err-add_consumer-clause-others c =
    subst (λ (s : Log). ChangesGroup c.args.stream.now s c.args.name.now) (sym c.in-Err-add_consumer.ensures.err) (changes_none c.args.name.now c.args.stream.now c.requires.there)

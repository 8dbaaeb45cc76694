use Rattle.std.proofs.Common.{◌≡◌, IfSome, IsTrue, sym, ap, subst, ◌∙◌}
use Rattle.std.specs.FinMap as map
use Rattle.stream_groups.specs.Groups.{Pending, has_consumer, with_pending}
use Rattle.stream_object.specs.declared.stream.Stream.{Stream as Log}
use Rattle.rdb_grammar.specs.Places.{Stands}
use Rattle.rdb_grammar.specs.StreamParts.{Begun, with_claim}
use Rattle.rdb_grammar.specs.Views.{pair_of, handed_of}
use Rattle.rdb_streams.specs.Grouped.{ChangesGroup, group_in, begun_in}
use Rattle.rdb_streams.proofs.Claimed.{claim_missing, claim_made}
use Rattle.rdb_streams.proofs.Grouped.{changes_none, changes_by, group_changed, consumer_stays}
use Rattle.rdb_streams.proofs.consumers.read_claim.Goals as goal

pub returns-in-Err-clause-others : goal.returns-in-Err-clause-others
returns-in-Err-clause-others c = changes_none c.args.name.now c.args.stream.now c.requires.there

pub returns-in-None-clause-reads : goal.returns-in-None-clause-reads
returns-in-None-clause-reads c =
    let made = begun_in c.args.stream.now.groups c.args.name.now c.args.unclaimed.now in
    rw c.no_group.ensures (claim_missing c.args.consumer.now c.args.bytes.now c.args.at made c.in-Ok.read.1 (pair_of c.in-Ok.read.0) c.in-Ok.ensures.id (sym c.in-None.ensures.value))

pub returns-in-None-clause-others : goal.returns-in-None-clause-others
returns-in-None-clause-others c = changes_none c.args.name.now c.args.stream.now c.requires.there

pub returns-in-Ok-set_pending-clause-reads : goal.returns-in-Ok-set_pending-clause-reads
returns-in-Ok-set_pending-clause-reads c =
    let groups = c.args.stream.now.groups in
    let name = c.args.name.now in
    let consumer = c.args.consumer.now in
    let id = pair_of c.in-Ok.read.0 in
    let how = handed_of c.in-Some.handed in
    let made = begun_in groups name c.args.unclaimed.now in
    let entry : Pending = record { consumer = consumer; moment = how.0; count = how.1 } in
    let group : group_in c.set_pending.new.self.groups name ≡ with_pending id entry (group_in groups name) =
    ap (λ (s : Log). group_in s.groups name) c.in-Ok-set_pending.ensures.ok ∙ group_changed groups name c.requires.there (with_pending id entry) in
    let left : c.take.new.self ≡ map.remove c.args.unclaimed.now id = c.take.ensures.new in
    let now : ◌≡◌ {A = Begun} (record { group = with_pending id entry (group_in groups name); unclaimed = map.remove c.args.unclaimed.now id })
    (begun_in c.set_pending.new.self.groups name c.take.new.self) =
    λ i. record { group = sym group i; unclaimed = sym left i } in
    subst (λ (b : Begun). Stands (with_claim consumer made) b c.args.bytes.now c.args.at c.in-Ok.read.1) now
    (claim_made consumer c.args.bytes.now c.args.at made c.in-Ok.read.1 id c.in-Ok.ensures.id how (sym c.in-Some.ensures.value))

pub returns-in-Ok-set_pending-clause-consumer : goal.returns-in-Ok-set_pending-clause-consumer
returns-in-Ok-set_pending-clause-consumer c =
    let groups = c.args.stream.now.groups in
    let name = c.args.name.now in
    let how = handed_of c.in-Some.handed in
    let entry : Pending = record { consumer = c.args.consumer.now; moment = how.0; count = how.1 } in
    subst (λ (s : Log). IfSome (map.get s.groups name) (λ group. IsTrue (has_consumer c.args.consumer.now group))) (sym c.in-Ok-set_pending.ensures.ok)
    (consumer_stays groups name c.args.consumer.now (pair_of c.in-Ok.read.0) entry c.requires.there c.requires.consumer)

pub returns-in-Ok-set_pending-clause-others : goal.returns-in-Ok-set_pending-clause-others
returns-in-Ok-set_pending-clause-others c =
    let how = handed_of c.in-Some.handed in
    let entry : Pending = record { consumer = c.args.consumer.now; moment = how.0; count = how.1 } in
    changes_by c.args.name.now c.args.stream.now c.set_pending.new.self (with_pending (pair_of c.in-Ok.read.0) entry) c.requires.there c.in-Ok-set_pending.ensures.ok

pub returns-in-Err-set_pending-clause-others : goal.returns-in-Err-set_pending-clause-others
returns-in-Err-set_pending-clause-others c =
    subst (λ (s : Log). ChangesGroup c.args.stream.now s c.args.name.now) (sym c.in-Err-set_pending.ensures.err) (changes_none c.args.name.now c.args.stream.now c.requires.there)

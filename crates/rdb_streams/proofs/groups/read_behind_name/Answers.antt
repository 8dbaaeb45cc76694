use Rattle.std.proofs.Common.{◌≡◌, Err, ap, subst, ◌∙◌}
use Rattle.stream_groups.specs.Groups.{Group, new_group}
use Rattle.stream_object.specs.declared.stream.Stream.{Stream as Log}
use Rattle.rdb_grammar.specs.Places.{Stands}
use Rattle.rdb_grammar.specs.StreamParts.{Begun, counted, with_consumer, with_unclaimed}
use Rattle.rdb_grammar.specs.Views.{pair_of}
use Rattle.rdb_streams.specs.Claims.{Claims}
use Rattle.rdb_streams.specs.Grouped.{group_in, begun_in}
use Rattle.rdb_streams.specs.Reading.{Reads}
use Rattle.rdb_streams.proofs.Claimed.{last_fails, pendings_fail, consumers_read}
use Rattle.rdb_streams.proofs.Grouped.{changes_created, changes_then_in_grouped, changes_there, group_created, ok_held}
use Rattle.rdb_streams.proofs.groups.read_behind_name.Goals as goal

pub returns-in-Err-clause-reads : goal.returns-in-Err-clause-reads
returns-in-Err-clause-reads c =
    rw c.refused.ensures (last_fails c.args.stream_type c.args.name.now c.args.bytes.now c.args.at c.in-Err.fault.kind c.in-Err.fault.at c.in-Err.ensures.fault)

pub returns-in-Err-read_pendings-clause-reads : goal.returns-in-Err-read_pendings-clause-reads
returns-in-Err-read_pendings-clause-reads c =
    let bytes = c.args.bytes.now in
    let last = pair_of c.in-Ok.read.0 in
    let next = c.in-Ok.read.1 in
    let fault = c.in-Err-read_pendings.fault in
    let pending : Begun = record { group = new_group last; unclaimed = c.read_pendings.new.unclaimed } in
    let r = subst (λ (u : Claims). Reads (counted with_unclaimed (record { group = new_group last; unclaimed = u })) bytes next pending (Err fault)) c.requires.none
    (c.in-Err-read_pendings.ensures (new_group last)) in
    pendings_fail c.args.stream_type c.args.name.now bytes c.args.at next last c.in-Ok.ensures.last pending (c.args.name.now, pending) fault r

pub read_consumers-requires-clause-at : goal.read_consumers-requires-clause-at
read_consumers-requires-clause-at c = (c.in-Ok-read_pendings.ensures (new_group (0, 0))).inside

pub read_consumers-requires-clause-there : goal.read_consumers-requires-clause-there
read_consumers-requires-clause-there c =
    changes_there c.args.name.now c.args.stream.now c.group_create.new.self
    (changes_created c.args.name.now c.args.stream.now c.group_create.new.self (pair_of c.in-Ok.read.0) c.requires.free c.in-Ok-group_create.ensures.ok)

pub returns-in-Ok-group_create-clause-reads : goal.returns-in-Ok-group_create-clause-reads
returns-in-Ok-group_create-clause-reads c =
    let bytes = c.args.bytes.now in
    let type = c.args.stream_type in
    let name = c.args.name.now in
    let last = pair_of c.in-Ok.read.0 in
    let next = c.in-Ok.read.1 in
    let middle = c.in-Ok-read_pendings.next in
    let pending : Begun = record { group = new_group last; unclaimed = c.read_pendings.new.unclaimed } in
    let new = begun_in c.read_consumers.new.stream.groups name c.read_consumers.new.unclaimed in
    let t = subst (λ (u : Claims). Stands (counted with_unclaimed (record { group = new_group last; unclaimed = u })) pending bytes next middle) c.requires.none
    (c.in-Ok-read_pendings.ensures (new_group last)) in
    let group : group_in c.group_create.new.self.groups name ≡ new_group last =
    ap (λ (s : Log). group_in s.groups name) c.in-Ok-group_create.ensures.ok ∙ group_created c.args.stream.now.groups name last c.requires.free in
    let r = subst (λ (g : Group). Reads (counted (with_consumer type) (record { group = g; unclaimed = c.read_pendings.new.unclaimed })) bytes middle new c.read_consumers.result) group
    c.read_consumers.ensures.reads in
    consumers_read type name bytes c.args.at next last c.in-Ok.ensures.last middle pending t new c.read_consumers.result r

pub returns-in-Ok-group_create-clause-added : goal.returns-in-Ok-group_create-clause-added
returns-in-Ok-group_create-clause-added c =
    let name = c.args.name.now in
    let old = c.args.stream.now in
    let middle = c.group_create.new.self in
    ok_held c.read_consumers.result
    (changes_then_in_grouped name old middle (changes_created name old middle (pair_of c.in-Ok.read.0) c.requires.free c.in-Ok-group_create.ensures.ok) c.read_consumers.new.stream
    c.read_consumers.ensures.others)

use Rattle.std.proofs.Common.{arith}
use Rattle.stream_node.specs.Rest.{rest_of}
use Rattle.stream_node.proofs.Rests.{no_some, when_none}
use Rattle.stream_node.proofs.Heads.{counts, lacks_live, lacks_deleted, lacks_count, lacks_fields, lacks_some_field, lacks_zero, is_head}
use Rattle.stream_node.proofs.head.Head.read.Goals as goal

pub returns-in_err-live-clause-some : goal.returns-in_err-live-clause-some
returns-in_err-live-clause-some c = no_some _ _ c.from_residual.ensures

pub returns-in_err-live-clause-none : goal.returns-in_err-live-clause-none
returns-in_err-live-clause-none c = when_none _ (lacks_live (rest_of c.args.list.now) c.in_err-live.ensures.none)

pub returns-in_err-deleted-clause-some : goal.returns-in_err-deleted-clause-some
returns-in_err-deleted-clause-some c = no_some _ _ c.from_residual-in_err-deleted.ensures

pub returns-in_err-count-clause-some : goal.returns-in_err-count-clause-some
returns-in_err-count-clause-some c = no_some _ _ c.from_residual-in_err-count.ensures

pub returns-in_err-after_fields-clause-some : goal.returns-in_err-after_fields-clause-some
returns-in_err-after_fields-clause-some c = no_some _ _ c.from_residual-in_err-after_fields.ensures

pub returns-in_err-first-clause-some : goal.returns-in_err-first-clause-some
returns-in_err-first-clause-some c = no_some _ _ c.from_residual-in_err-first.ensures

pub returns-in_err-deleted-clause-none : goal.returns-in_err-deleted-clause-none
returns-in_err-deleted-clause-none c = when_none _ (lacks_deleted (rest_of c.args.list.now) (rest_of c.in_ok-live.after_live) _ c.in_ok-live.ensures.some c.in_err-deleted.ensures.none)

pub returns-in_err-count-clause-none : goal.returns-in_err-count-clause-none
returns-in_err-count-clause-none c =
    when_none _
    (lacks_count (rest_of c.args.list.now) (rest_of c.in_ok-live.after_live) (rest_of c.in_ok-deleted.after_deleted) _ _ c.in_ok-live.ensures.some c.in_ok-deleted.ensures.some
    c.in_err-count.ensures.none)

pub returns-then-count-eq0-clause-none : goal.returns-then-count-eq0-clause-none
returns-then-count-eq0-clause-none c =
    let list = rest_of c.args.list.now in
    let fields = rest_of c.in_ok-count.fields in
    let is = counts list (rest_of c.in_ok-live.after_live) (rest_of c.in_ok-deleted.after_deleted) fields c.in_ok-live.live c.in_ok-deleted.deleted c.in_ok-count.count
    c.in_ok-live.ensures.small c.in_ok-deleted.ensures.small c.in_ok-count.ensures.small c.in_ok-live.ensures.some c.in_ok-deleted.ensures.some c.in_ok-count.ensures.some in
    lacks_fields list fields c.in_ok-live.live c.in_ok-deleted.deleted c.in_ok-count.count is c.if-count-eq0.true

pub returns-in_err-after_fields-clause-none : goal.returns-in_err-after_fields-clause-none
returns-in_err-after_fields-clause-none c =
    let list = rest_of c.args.list.now in
    let fields = rest_of c.in_ok-count.fields in
    let is = counts list (rest_of c.in_ok-live.after_live) (rest_of c.in_ok-deleted.after_deleted) fields c.in_ok-live.live c.in_ok-deleted.deleted c.in_ok-count.count
    c.in_ok-live.ensures.small c.in_ok-deleted.ensures.small c.in_ok-count.ensures.small c.in_ok-live.ensures.some c.in_ok-deleted.ensures.some c.in_ok-count.ensures.some in
    when_none _ (lacks_some_field list fields c.in_ok-live.live c.in_ok-deleted.deleted c.in_ok-count.count is c.in_err-after_fields.ensures.none)

pub returns-in_err-first-clause-none : goal.returns-in_err-first-clause-none
returns-in_err-first-clause-none c =
    let list = rest_of c.args.list.now in
    let fields = rest_of c.in_ok-count.fields in
    let is = counts list (rest_of c.in_ok-live.after_live) (rest_of c.in_ok-deleted.after_deleted) fields c.in_ok-live.live c.in_ok-deleted.deleted c.in_ok-count.count
    c.in_ok-live.ensures.small c.in_ok-deleted.ensures.small c.in_ok-count.ensures.small c.in_ok-live.ensures.some c.in_ok-deleted.ensures.some c.in_ok-count.ensures.some in
    when_none _
    (lacks_zero list fields (rest_of c.in_ok-after_fields.after_fields) c.in_ok-live.live c.in_ok-deleted.deleted c.in_ok-count.count is c.in_ok-after_fields.ensures.some
    c.in_err-first.ensures.none)

pub skip_number-requires : goal.skip_number-requires
skip_number-requires c = omega arith

pub invariant_of-head : goal.invariant_of-head
invariant_of-head c = record {
  live_small = c.in_ok-live.ensures.small;
  deleted_small = c.in_ok-deleted.ensures.small;
  enough = c.in_ok-after_fields.ensures.enough;
}

pub returns-clause-some : goal.returns-clause-some
returns-clause-some c =
    let list = rest_of c.args.list.now in
    let fields = rest_of c.in_ok-count.fields in
    let is = counts list (rest_of c.in_ok-live.after_live) (rest_of c.in_ok-deleted.after_deleted) fields c.in_ok-live.live c.in_ok-deleted.deleted c.in_ok-count.count
    c.in_ok-live.ensures.small c.in_ok-deleted.ensures.small c.in_ok-count.ensures.small c.in_ok-live.ensures.some c.in_ok-deleted.ensures.some c.in_ok-count.ensures.some in
    is_head list fields (rest_of c.in_ok-after_fields.after_fields) (rest_of c.in_ok-first.first) c.in_ok-live.live c.in_ok-deleted.deleted c.in_ok-count.count is (omega (arith, c.if-count-eq0.false))
    c.in_ok-after_fields.ensures.enough c.in_ok-after_fields.ensures.some c.in_ok-first.ensures.some

pub returns-clause-none : goal.returns-clause-none
returns-clause-none c = tt

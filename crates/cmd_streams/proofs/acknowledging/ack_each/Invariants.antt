use Rattle.std.proofs.Common.{◌≡◌, ◌+◌, ◌≤◌, take}
use Rattle.std.specs.FinMap.{get}
use Rattle.stream_groups.specs.Groups.{changed}
use Rattle.plain_model.specs.GroupSteps.{without_ids}
use Rattle.cmd_streams.specs.Acknowledged.{waits}
use Rattle.cmd_streams.proofs.acknowledging.ack_each.Given as goal

abbrev pub invariant-loop-id : goal.invariant-loop-id
invariant-loop-id l = record {
  is : l.stream ≡ record l.fn.stream { groups = changed l.fn.stream.groups l.name (without_ids (take l.id-index l.ids)) };
  counted : l.gone + waits (get l.stream.groups l.name) ≡ waits (get l.fn.stream.groups l.name);
  few : l.gone ≤ l.id-index;
}

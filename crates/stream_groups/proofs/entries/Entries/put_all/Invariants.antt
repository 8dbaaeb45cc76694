use Rattle.std.proofs.Common.{◌≡◌, ◌≤◌, ◌++◌, length, take, drop}
use Rattle.std.specs.Vec.{vec_capacity}
use Rattle.stream_groups.specs.Groups.{Pending, placed}
use Rattle.stream_groups.specs.Index.{were}
use Rattle.stream_groups.specs.Kept.{undone, logged}
use Rattle.stream_groups.proofs.entries.Entries.put_all.Given as goal

abbrev pub invariant-loop-id : goal.invariant-loop-id
invariant-loop-id l = let entry : Pending = record { consumer = l.consumer.value.items; moment = l.moment; count = 1 } in record {
  kept : length l.log.items ≡ l.id-index;
  room : length l.ids ≤ vec_capacity l.log;
  undo : undone l.self (take l.id-index l.ids) (logged l.log.items) ≡ l.fn.self;
  log_so_far : logged l.log.items ++ were l.self (drop l.id-index l.ids) entry ≡ were l.fn.self l.ids entry;
  placed_so_far : placed l.self (drop l.id-index l.ids) entry ≡ placed l.fn.self l.ids entry;
}

-- What is told of a stream's groups, as the groups tell it.
use Rattle.std.specs.Option.{option_map}
use Rattle.stream_groups.specs.declared.waiting.Waiting.{Waiting}
use Rattle.stream_groups.specs.declared.waiting.WaitingEntry.{WaitingEntry}
use Rattle.stream_object.specs.declared.groups.Pending.{Pending}
use Rattle.stream_object.specs.declared.groups.PendingEntry.{PendingEntry}
use Rattle.stream_object.specs.Streams.{pair_of}

abbrev pub waiting_of : Pending → Waiting
waiting_of p =
    record { count = p.count; least = option_map pair_of p.least; greatest = option_map pair_of p.greatest; owners = p.owners }

abbrev pub entry_of : PendingEntry → WaitingEntry
entry_of e = record { id = pair_of e.id; consumer = e.consumer; moment = e.moment; count = e.count }

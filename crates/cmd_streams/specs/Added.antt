-- An entry that is added to a stream.
use Rattle.std.specs.Prelude.{◌≡◌, List, Option, true}
use Rattle.std.specs.Ordering.{is_lt}
use Rattle.stream_groups.specs.Groups.{id_cmp}
use Rattle.stream_node.specs.declared.id.Id.{Id}
use Rattle.stream_object.specs.Streams.{IsAddable, pair_of}
use Rattle.plain_world.specs.Streams.{Stream}
use Rattle.plain_model.specs.StreamSteps.{Pair, with_entry, trimmed_by}
use Rattle.plain_model.specs.declared.stream_command.Trim.{Trim}

-- An entry can be added: its id is above the last one, it has a pair, and it isn't too long.
pub record IsNext (id : Id) (pairs : List Pair) (stream : Stream) : Type 0 where
  pub above : is_lt (id_cmp stream.last (pair_of id)) ≡ true
  pub addable : IsAddable pairs

-- the entry was added, and then what goes from the front was taken out
abbrev pub Adds : Id → List Pair → Option Trim → Stream → Stream → Type 0
Adds id pairs trim old new = new ≡ trimmed_by trim (with_entry old (pair_of id) pairs)

-- The entries below an id. (Redis command reference, "XTRIM", MINID.)
use Rattle.std.specs.Prelude.{ℕ, Bool, not, List, length}
use Rattle.std.specs.List.{filter}
use Rattle.std.specs.Ordering.{is_lt}
use Rattle.stream_groups.specs.Groups.{id_cmp}
use Rattle.stream_node.specs.declared.id.Id.{Id}
use Rattle.plain_world.specs.Streams.{Stream, StreamEntry}
use Rattle.stream_object.specs.Streams.{pair_of}

-- whether an entry's id is below another id
abbrev pub is_low : Id → StreamEntry → Bool
is_low least e = is_lt (id_cmp e.id (pair_of least))

-- how many entries are below an id
abbrev pub count_low : Id → List StreamEntry → ℕ
count_low least es = length (filter (is_low least) es)

-- the value without the entries below an id
abbrev pub from_id : Stream → Id → Stream
from_id s least = record s { entries = filter (λ e. not (is_low least e)) s.entries }

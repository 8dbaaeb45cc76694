-- The entries between two ids. (Redis command reference, "XRANGE" and "XREVRANGE".)
use Rattle.std.specs.Prelude.{ℕ, Bool, true, false, not, ◌&&◌, ◌+◌, ◌≡◌, ◌≤◌, ◌<◌, List, [], ◌++◌, length, map, reverse, take, Option, Some, None}
use Rattle.std.specs.List.{filter}
use Rattle.std.specs.Ordering.{is_lt, nat_cmp}
use Rattle.stream_groups.specs.Groups.{id_cmp}
use Rattle.stream_node.specs.declared.id.Id.{Id}
use Rattle.stream_node.specs.declared.entry.Entry.{Entry}
use Rattle.stream_node.specs.Ids.{id_number}
use Rattle.stream_node.specs.View.{stored}
use Rattle.plain_world.specs.Streams.{Stream, StreamEntry}
use Rattle.stream_object.specs.declared.owned.Owned.{Owned}
use Rattle.stream_object.specs.declared.wanted.Wanted.{Wanted}
use Rattle.stream_object.specs.Parts.{Part, plain, entries_in}
use Rattle.stream_object.specs.Streams.{pair_of}

-- an entry that was taken out, as it stood in the stream
abbrev pub taken : Owned → StreamEntry
taken o = record { id = pair_of o.id; pairs = o.pairs }

-- an entry of a node, as it is seen from outside
abbrev pub seen : Entry → StreamEntry
seen entry = plain (stored entry)

-- whether an entry's id is between two ids, both counted in
abbrev pub is_between : Id → Id → StreamEntry → Bool
is_between from to e = not (is_lt (id_cmp e.id (pair_of from))) && not (is_lt (id_cmp (pair_of to) e.id))

-- entries in their order, or from the last to the first
abbrev pub turned : Bool → List StreamEntry → List StreamEntry
turned false es = es
turned true es = reverse es

-- the first entries between two ids, or from the last one back, as many as are wanted
abbrev pub range_of : Stream → Id → Id → Bool → ℕ → List StreamEntry
range_of s from to back limit = take limit (turned back (filter (is_between from to) s.entries))

-- what is wanted of some entries, and of some nodes
abbrev pub wanted_of : Wanted → List StreamEntry → List StreamEntry
wanted_of w es = turned w.back (filter (is_between w.from w.to) es)

abbrev pub wanted_in : Wanted → List Part → List StreamEntry
wanted_in w ps = wanted_of w (entries_in ps)

-- whether a walk that stands at an id has a node before it
abbrev pub is_ahead : Bool → Id → Part → Bool
is_ahead false at p = not (is_lt (nat_cmp (id_number p.key) (id_number at)))
is_ahead true at p = not (is_lt (nat_cmp (id_number at) (id_number p.key)))

-- the nodes that a walk has before it, if it goes on
abbrev pub ahead : Bool → Option Id → List Part → List Part
ahead back None ps = []
ahead back (Some at) ps = filter (is_ahead back at) ps

-- how many steps a walk has before it
abbrev pub steps_left : Bool → Option Id → List Part → ℕ
steps_left back None ps = 0
steps_left back (Some at) ps = 1 + length (filter (is_ahead back at) ps)

-- A walk that stood at an id has found more, and goes on elsewhere or ends.
pub record Goes (w : Wanted) (ps : List Part) (at : Id) (old new : List Owned) (next : Option Id) : Type 0 where
  pub same : take w.limit (map taken new ++ wanted_in w (ahead w.back next ps))
      ≡ take w.limit (map taken old ++ wanted_in w (ahead w.back (Some at) ps))
  pub within : length new ≤ w.limit
  pub fewer : steps_left w.back next ps < steps_left w.back (Some at) ps

-- the id next to a node's key, from which a walk goes on
abbrev pub Follows : Bool → Id → Id → Type 0
Follows false key next = id_number next ≡ id_number key + 1
Follows true key next = id_number next + 1 ≡ id_number key

-- no node behind one of this key has an entry that is wanted
abbrev pub Ends : Wanted → Bool → Id → Type 0
Ends w false key = id_number w.to ≤ id_number key
Ends w true key = id_number key ≤ id_number w.from

-- What callers see of entries.
use Rattle.std.specs.Prelude.{List}
use Rattle.listpack.specs.declared.encoding.Element.{Element}
use Rattle.listpack.specs.Element.{element_text}
use Rattle.stream_node.specs.declared.entry.Entry.{Entry}
use Rattle.stream_node.specs.declared.entry_pairs.EntryPairs.{EntryPairs}
use Rattle.stream_node.specs.Entry.{Pair, Stored}
use Rattle.stream_node.specs.Reading.{pairs_of}

-- what an entry is
abbrev pub stored : Entry → Stored
stored entry = record { id = entry.id; deleted = entry.deleted; pairs = pairs_of entry.body }

-- the texts of a field and a value
abbrev pub pair_of : Element × Element → Pair
pair_of pair = (element_text pair.0, element_text pair.1)

-- the fields and values that are left
abbrev pub pairs_left : EntryPairs → List Pair
pairs_left it = pairs_of it.body

-- What callers see of a node and of a walk over its entries: the entries.
use Rattle.std.specs.Prelude.{List}
use Rattle.stream_node.specs.declared.entries.Entries.{Entries}
use Rattle.stream_node.specs.declared.node.Node.{Node}
use Rattle.stream_node.specs.Entry.{Stored}
use Rattle.stream_node.specs.Rest.{rest_of}
use Rattle.stream_node.specs.Reading.{master_of}
use Rattle.stream_node.specs.Entries.{entries_from}

-- those that are left
abbrev pub left_of : Entries → List Stored
left_of it = entries_from it.key (master_of it.head) it.left (rest_of it.rest)

-- those of the node
abbrev pub entries : Node → List Stored
entries node = left_of node.walk

-- Values of the code as values of the format.
use Rattle.std.specs.Prelude.{ℕ, List}
use Rattle.std.specs.Int.{w8, w16, w32}
use Rattle.std.specs.Fmt.{signed_decimal}
use Rattle.plain_world.specs.Worlds.{Str}
use Rattle.rdb_grammar.specs.declared.strings.Chunk.{Chunk}
use Rattle.rdb_grammar.specs.declared.strings.Chunk.TheVariants as chunks
use Rattle.rdb_grammar.specs.declared.strings.Head.{Head as CodeHead}
use Rattle.rdb_grammar.specs.declared.strings.Head.TheVariants as heads
use Rattle.rdb_grammar.specs.declared.values.FileValue.{FileValue}
use Rattle.rdb_grammar.specs.declared.values.FileValue.TheVariants as values
use Rattle.rdb_grammar.specs.declared.values.Container.{Container}
use Rattle.rdb_grammar.specs.declared.values.Container.TheVariants as containers
use Rattle.rdb_grammar.specs.declared.items.Meaning.{Meaning}
use Rattle.rdb_grammar.specs.declared.items.Meaning.TheVariants as meanings
use Rattle.rdb_grammar.specs.declared.streams.Handed.{Handed}
use Rattle.rdb_grammar.specs.declared.streams.Marks.{Marks as CodeMarks}
use Rattle.stream_node.specs.declared.id.Id.{Id}
use Rattle.rdb_grammar.specs.Strings.{Head, Len, Num}
use Rattle.rdb_grammar.specs.StreamParts.{Marks}
use Rattle.rdb_grammar.specs.Items.{Passed, Deadline, Database, End, Key, Part, Whole, Opens}

-- what a string says
abbrev pub text_of : Chunk → List ℕ
text_of (chunks.Part bytes) = bytes.now
text_of (chunks.Number n) = signed_decimal n

abbrev pub head_of : CodeHead → Head
head_of (heads.Len n) = Len n
head_of heads.Int8 = Num w8
head_of heads.Int16 = Num w16
head_of heads.Int32 = Num w32

-- the number of a container
abbrev pub container_of : Container → ℕ
container_of containers.Plain = 1
container_of containers.Packed = 2

-- an id as a pair of numbers
abbrev pub pair_of : Id → ℕ × ℕ
pair_of id = (id.ms, id.seq)

-- the moment and the count of a pending entry
abbrev pub handed_of : Handed → ℕ × ℕ
handed_of handed = (handed.moment, handed.count)

-- the marks of a stream
abbrev pub marks_of : CodeMarks → Marks
marks_of marks = record { last = pair_of marks.last; deleted = pair_of marks.deleted; added = marks.added }

-- a key with its value, or with how its collection follows
abbrev pub key_of : List ℕ → FileValue → Part
key_of name (values.Text chunk) = Whole (Key name (Str (text_of chunk)))
key_of name (values.Laid layout) = Opens name layout

abbrev pub part_said : Meaning → Part
part_said meanings.Passed = Whole Passed
part_said (meanings.Deadline n) = Whole (Deadline n)
part_said (meanings.Database n) = Whole (Database n)
part_said meanings.End = Whole End
part_said (meanings.Key name value) = key_of (text_of name) value

-- The first byte of an item: an opcode, or the type of a value; and that of a string in a form of its own (RDB file
-- format, "Op codes", "Value type", "String encoding").
use Rattle.std.specs.Prelude.{ℕ}

-- a function of a library, and the same as a version before the release wrote it
abbrev pub function : ℕ
function = 245

abbrev pub old_function : ℕ
old_function = 246

-- a module's own data
abbrev pub module_data : ℕ
module_data = 247

-- how long the next key was idle, and how often it is used
abbrev pub idle : ℕ
idle = 248

abbrev pub frequency : ℕ
frequency = 249

-- a name and what it says of the file
abbrev pub auxiliary : ℕ
auxiliary = 250

-- how many keys and deadlines follow
abbrev pub sizes : ℕ
sizes = 251

-- the next key's deadline, in milliseconds and in seconds
abbrev pub deadline_ms : ℕ
deadline_ms = 252

abbrev pub deadline : ℕ
deadline = 253

-- the database of the keys that follow
abbrev pub select_db : ℕ
select_db = 254

-- the end of the items
abbrev pub eof : ℕ
eof = 255

-- ---- types of values

abbrev pub string : ℕ
string = 0

-- a list, a set, a hash, a sorted set: their elements one behind the other
abbrev pub list : ℕ
list = 1

abbrev pub set : ℕ
set = 2

abbrev pub hash : ℕ
hash = 4

abbrev pub sorted_set : ℕ
sorted_set = 5

-- a sorted set with scores as texts
abbrev pub old_sorted_set : ℕ
old_sorted_set = 3

-- a module's value, of either version
abbrev pub old_module : ℕ
old_module = 6

abbrev pub module_value : ℕ
module_value = 7

-- a hash as a zipmap
abbrev pub hash_zipmap : ℕ
hash_zipmap = 9

-- a list, a sorted set or a hash as a ziplist, and a list of such
abbrev pub list_ziplist : ℕ
list_ziplist = 10

abbrev pub sorted_set_ziplist : ℕ
sorted_set_ziplist = 12

abbrev pub hash_ziplist : ℕ
hash_ziplist = 13

abbrev pub list_of_ziplists : ℕ
list_of_ziplists = 14

-- a set as an intset, and collections as listpacks
abbrev pub intset : ℕ
intset = 11

abbrev pub packed_hash : ℕ
packed_hash = 16

abbrev pub packed_sorted_set : ℕ
packed_sorted_set = 17

abbrev pub packed_set : ℕ
packed_set = 20

-- a stream, in one of three versions
abbrev pub stream : ℕ
stream = 15

abbrev pub second_stream : ℕ
second_stream = 19

abbrev pub third_stream : ℕ
third_stream = 21

-- a list in nodes
abbrev pub list_of_nodes : ℕ
list_of_nodes = 18

-- ---- forms of strings

-- a number of 8, of 16 and of 32 bits
abbrev pub int8 : ℕ
int8 = 192

abbrev pub int16 : ℕ
int16 = 193

abbrev pub int32 : ℕ
int32 = 194

-- compressed
abbrev pub lzf : ℕ
lzf = 195

-- The numbers of the kinds of faults.
use Rattle.std.specs.Prelude.{ℕ}
use Rattle.rdb_grammar.specs.declared.fault.LoadKind.{LoadKind}
use Rattle.rdb_grammar.specs.declared.fault.LoadKind.TheVariants as kinds

-- L1 to L24, of which L20 is not used
abbrev pub number_of : LoadKind → ℕ
number_of kinds.NotRdb = 1
number_of kinds.Version = 2
number_of kinds.Ended = 3
number_of kinds.Length = 4
number_of kinds.Compressed = 5
number_of kinds.SpecialString = 6
number_of kinds.Kind = 7
number_of kinds.OldKind = 8
number_of kinds.Module = 9
number_of kinds.Functions = 10
number_of kinds.Database = 11
number_of kinds.DuplicateKey = 12
number_of kinds.DuplicateElement = 13
number_of kinds.Listpack = 14
number_of kinds.Intset = 15
number_of kinds.ListNode = 16
number_of kinds.ScoreForm = 17
number_of kinds.ScoreRange = 18
number_of kinds.StreamShape = 19
number_of kinds.Deadline = 21
number_of kinds.Checksum = 22
number_of kinds.TooLong = 23
number_of kinds.Group = 24

-- Pending entries that no consumer has claimed yet, as data and as they are kept.
use Rattle.std.specs.Prelude.{ℕ, List}
use Rattle.std.specs.Coded.{Coded, coded×, coded_ℕ}
use Rattle.std.specs.FinMap as map
use Rattle.std.specs.FinMap.{FinMap}
use Rattle.stream_groups.specs.Groups.{Id, id_cmp}
use Rattle.stream_groups.specs.Kept.{numbered}
use Rattle.rdb_grammar.specs.declared.streams.Handed.{Handed}
use Rattle.rdb_grammar.specs.Views.{handed_of}

-- each id with its moment and its count
abbrev pub Claims : Type 0
Claims = FinMap id_cmp (ℕ × ℕ)

abbrev pub claims_code : Coded Claims
claims_code = map.code (coded× coded_ℕ coded_ℕ) (coded× coded_ℕ coded_ℕ)

-- by the entries of a map of std
abbrev pub claims_of : List (Id × Handed) → Claims
claims_of es = numbered handed_of es

-- Finite maps as data.
use Rattle.std.specs.Prelude.{ℕ, ℤ, List}
use Rattle.std.specs.Coded.{Coded, coded_ℕ, coded_ℤ, coded_list}
use base.Stored.{coded_unit}
use Rattle.std.specs.FinMap as map
use Rattle.std.specs.FinMap.{FinMap}
use Rattle.std.specs.Ordering.{nat_cmp}
use Rattle.std.specs.Cmp.Lexicographic.{slice_cmp}

abbrev pub members_code : Coded (FinMap (slice_cmp nat_cmp) (Unit {0}))
members_code = map.code (coded_list coded_ℕ) coded_unit

abbrev pub fields_code : Coded (FinMap (slice_cmp nat_cmp) (List ℕ))
fields_code = map.code (coded_list coded_ℕ) (coded_list coded_ℕ)

abbrev pub scores_code : Coded (FinMap (slice_cmp nat_cmp) ℤ)
scores_code = map.code (coded_list coded_ℕ) coded_ℤ

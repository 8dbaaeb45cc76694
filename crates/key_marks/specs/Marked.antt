-- Numbers at keys.
use Rattle.std.specs.Prelude.{ℕ, List, [], Option, None, Some}
use Rattle.std.specs.FinMap.{FinMap, get}
use Rattle.std.specs.declared.vec.Vec.{Vec}
use Rattle.std.specs.declared.alloc.Global.{Global}
use Rattle.stream_groups.specs.Groups.{name_cmp}

-- numbers as std keeps them
abbrev pub numbers_of : Vec ℕ Global → List ℕ
numbers_of numbers = numbers.items

abbrev pub or_none : Option (List ℕ) → List ℕ
or_none None = []
or_none (Some numbers) = numbers

-- the numbers at a key
abbrev pub marks_at : FinMap name_cmp (List ℕ) → List ℕ → List ℕ
marks_at marks key = or_none (get marks key)

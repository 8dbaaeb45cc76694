-- What a listing of keys goes through.
use Rattle.std.specs.Prelude.{ℕ, zero, suc, List, [], ◌∷◌, Option, Some, None, Bool, true, bytes_eq}
use Rattle.plain_world.specs.Words.{in_lower_case}
use Rattle.plain_world.specs.Worlds.{Value}
use Rattle.plain_model.specs.KeySteps.{type_name}

-- TYPE lets the value pass
abbrev pub is_type : Option (List ℕ) → Value → Bool
is_type None value = true
is_type (Some name) value = bytes_eq (type_name value) (in_lower_case name)

-- so many numbers, from one on
unfoldable pub numbers : ℕ → ℕ → List ℕ
numbers zero from = []
numbers (suc count) from = from ∷ numbers count (suc from)

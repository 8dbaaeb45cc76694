-- Elements picked at random (Redis command reference, "SPOP", "SRANDMEMBER", "HRANDFIELD", "ZRANDMEMBER").
use Rattle.std.specs.Prelude.{◌≡◌, ◌≤◌, ◌==◌, ℕ, suc, min, List, [], ◌∷◌, length, ℤ, pos, negsuc, Option, None, Some, Bool, true, false, bytes_eq, if◌then◌else◌}
use Rattle.std.specs.List.{Contains, count_by}
use Rattle.plain_world.specs.declared.reply.Part.{Part}
use Rattle.plain_world.specs.declared.reply.Part.TheVariants.{Bulk, Null}

-- How many are picked of so many: one without a number; at most a number from 0 on; and so many as a number below 0 says,
-- where there is one to pick.
abbrev pub picked : Option ℤ → ℕ → ℕ
picked None size = min 1 size
picked (Some (pos n)) size = min n size
picked (Some (negsuc n)) size = if size == 0 then 0 else suc n

-- a number below 0 lets elements repeat
abbrev pub may_repeat : Option ℤ → Bool
may_repeat None = false
may_repeat (Some (pos n)) = false
may_repeat (Some (negsuc n)) = true

-- so many of a number of elements, all different unless they may repeat
pub record ArePicked (has : List ℕ → Bool) (size : ℕ) (n : Option ℤ) (elements : List (List ℕ)) : Type 0 where
  pub many : length elements ≡ picked n size
  pub real : (element : List ℕ) → Contains elements element → has element ≡ true
  pub once : may_repeat n ≡ false → (element : List ℕ) → count_by (bytes_eq element) elements ≤ 1

-- without a number the one that was picked or null, else all of them
abbrev pub picks_told : (List (List ℕ) → List Part) → Option ℤ → List (List ℕ) → List Part
picks_told told None [] = Null ∷ []
picks_told told None (element ∷ others) = Bulk element ∷ []
picks_told told (Some n) elements = told elements

-- what is picked is told
abbrev pub TellsPicks : (List ℕ → Bool) → ℕ → Option ℤ → (List (List ℕ) → List Part) → List Part → Type 0
TellsPicks has size n told reply =
    (elements : List (List ℕ)) × ArePicked has size n elements × (reply ≡ picks_told told n elements)

-- how many are asked for, as a number
abbrev pub as_number : Option ℕ → Option ℤ
as_number None = None
as_number (Some n) = Some (pos n)

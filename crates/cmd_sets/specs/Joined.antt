-- Joins of the sets at keys.
use Rattle.std.specs.Prelude.{◌≡◌, ℕ, List, map, Bool, true, false, not}
use Rattle.std.specs.FinMap.{len}
use Rattle.std.specs.List.{filter}
use Rattle.plain_world.specs.Worlds.{World}
use Rattle.plain_model.specs.SetSteps.{Members, IsJoin, at_most, has}
use Rattle.plain_model.specs.declared.set_command.SetJoin.TheVariants.{Inter}
use Rattle.keyspace.specs.Forms.{set_at}

-- the sets at these keys, without a member where none stands
abbrev pub sets_here : World → List (List ℕ) → List Members
sets_here world keys = map (set_at world) keys

-- a set has the member, or where that is what is asked for, lacks it
abbrev pub has_or_lacks : Bool → Members → List ℕ → Bool
has_or_lacks true set member = has set member
has_or_lacks false set member = not (has set member)

-- of the names just those are kept that the set has, or where that is what is asked for, lacks
abbrev pub Sifts : Bool → Members → List (List ℕ) → List (List ℕ) → Type 0
Sifts there set names kept = kept ≡ filter (has_or_lacks there set) names

-- so many members are in all of the sets, or as many as the limit says
abbrev pub IsCounted : ℕ → List Members → ℕ → Type 0
IsCounted limit own count = (members : Members) × IsJoin Inter own members × (count ≡ at_most limit (len members))

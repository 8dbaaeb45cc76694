-- Parts of the members of a sorted set, as they are met from an end.
use Rattle.std.specs.Prelude.{◌≡◌, ℕ, suc, ◌*◌, ◌-◌, List, [], ◌∷◌, take, drop, ℤ, int_lt, map, Bool, true, false}
use Rattle.std.specs.List.{flat_map}
use Rattle.std.specs.FinMap.{get}
use Rattle.int_text.specs.Decimal.{canonical}
use Rattle.plain_world.specs.declared.reply.Part.{Part}
use Rattle.plain_world.specs.declared.reply.Part.TheVariants.{Bulk}
use Rattle.plain_model.specs.ZsetSteps.{Scores, Scored, met, score_or_null}
use Rattle.plain_model.specs.declared.zset_command.Direction.{Direction}
use Rattle.plain_model.specs.declared.zset_command.Direction.TheVariants.{Rising, Falling}
use Rattle.cmd_zsets.specs.declared.spans.Span.{Span}

-- the members of a span of a ranked list
abbrev pub in_span : Span → List Scored → List Scored
in_span span list = take span.count (drop span.start (met span.from list))

-- the rank of the member that is met at a place, of so many
abbrev pub rank_of : Direction → ℕ → ℕ → ℕ
rank_of Rising len place = place
rank_of Falling len place = len - suc place

-- where the members from one rank up to another are met, of so many
abbrev pub start_of : Direction → ℕ → ℕ → ℕ → ℕ
start_of Rising len low high = low
start_of Falling len low high = len - high

-- what is told of a member
abbrev pub told : Bool → Scored → List Part
told false scored = Bulk scored.1 ∷ []
told true scored = Bulk scored.1 ∷ Bulk (canonical scored.0) ∷ []

abbrev pub told_all : Bool → List Scored → List Part
told_all with_scores list = flat_map (told with_scores) list

-- how many replies tell of so many members
abbrev pub sized : Bool → ℕ → ℕ
sized false n = n
sized true n = 2 * n

-- no score is above this one
abbrev pub EachUpTo : ℤ → List Scored → Type 0
EachUpTo most [] = Unit {0}
EachUpTo most (x ∷ xs) = (int_lt most x.0 ≡ false) × EachUpTo most xs

-- the score of each member, or null
abbrev pub scores_told : Scores → List (List ℕ) → List Part
scores_told scores members = map (λ member. score_or_null (get scores member)) members

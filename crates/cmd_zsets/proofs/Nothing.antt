-- What is told where there is no sorted set, and of one that was found.
use Rattle.std.proofs.Common.{◌≡◌, ℕ, zero, suc, ◌-◌, ℤ, pos, negsuc, Bool, true, false, List, [], ◌∷◌, length, take, drop, Option, None, Some, Result, Ok, Err, IfOk, refl, ap, ◌∙◌}
use Rattle.std.specs.FinMap.{empty}
use Rattle.std.proofs.Math.Seq.{take-nil}
use Rattle.plain_world.specs.declared.reply.Part.{Part}
use Rattle.plain_world.specs.declared.reply.Part.TheVariants.{Array}
use Rattle.plain_model.specs.ListSteps.{range_start, range_end, list_range}
use Rattle.plain_model.specs.ZsetSteps.{Scored, met, ranked, within, behind, at_most, limited, place_from, listed}
use Rattle.plain_model.specs.declared.zset_command.Direction.{Direction}
use Rattle.plain_model.specs.declared.zset_command.Direction.TheVariants.{Rising, Falling}
use Rattle.plain_model.specs.declared.zset_command.ScoreBound.{ScoreBound}
use Rattle.plain_model.specs.declared.zset_command.Limit.{Limit}
use Rattle.cmd_zsets.proofs.Ranked.{ranked_empty}

-- a reply is told in other words
pub told_as : {E : Type 0} (result : Result (List Part) E) (a b : List Part) → a ≡ b → IfOk result (λ reply. reply ≡ a) → IfOk result (λ reply. reply ≡ b)
told_as (Ok reply) a b same is = is ∙ same
told_as (Err e) a b same is = tt

nothing_met : (from : Direction) → met from [] ≡ []
nothing_met Rising = refl
nothing_met Falling = refl

nothing_left : (n : ℕ) → drop {A = Scored} n [] ≡ []
nothing_left zero = refl
nothing_left (suc n) = refl

none_met : (from : Direction) → met from (ranked empty) ≡ []
none_met from = ap (met from) ranked_empty ∙ nothing_met from

pub none_placed : (from : Direction) (member : List ℕ) → place_from 0 member (met from (ranked empty)) ≡ None
none_placed from member = ap (place_from 0 member) (none_met from)

no_range : (a b : ℤ) → list_range {A = Scored} [] a b ≡ []
no_range a b =
    let first = range_start 0 a in
    ap (take (range_end 0 b - first)) (nothing_left first) ∙ take-nil (range_end 0 b - first)

pub none_ranged : (from : Direction) (a b : ℤ) → list_range (met from (ranked empty)) a b ≡ []
none_ranged from a b = ap (λ (l : List Scored). list_range l a b) (none_met from) ∙ no_range a b

nothing_behind : (n : ℤ) → behind n [] ≡ []
nothing_behind (pos n) = nothing_left n
nothing_behind (negsuc n) = refl

nothing_first : (n : ℤ) → at_most n [] ≡ []
nothing_first (pos n) = take-nil n
nothing_first (negsuc n) = refl

no_limit : (limit : Option Limit) → limited limit [] ≡ []
no_limit None = refl
no_limit (Some limit) = ap (at_most limit.count) (nothing_behind limit.offset) ∙ nothing_first limit.count

pub none_bounded : (min max : ScoreBound) (from : Direction) (limit : Option Limit) → limited limit (within min max (met from (ranked empty))) ≡ []
none_bounded min max from limit = ap (λ (l : List Scored). limited limit (within min max l)) (none_met from) ∙ no_limit limit

pub none_counted : (min max : ScoreBound) → length (within min max (ranked empty)) ≡ 0
none_counted min max = ap (λ (l : List Scored). length (within min max l)) ranked_empty

-- no member is told with scores as without
pub none_listed : (with_scores : Bool) → listed with_scores [] ≡ Array 0 ∷ []
none_listed false = refl
none_listed true = refl

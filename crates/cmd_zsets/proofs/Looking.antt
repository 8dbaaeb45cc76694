-- What is found at a key, and what commands on sorted sets give of it.
use Rattle.std.proofs.Common.{◌≡◌, refl, Bool, true, false, ℕ, ℤ, List, [], ◌∷◌, Option, None, Result, Ok, Err, IfOk, sym, ap, ◌∙◌}
use Rattle.std.specs.Ordering.{nat_cmp}
use Rattle.std.specs.Cmp.Lexicographic.{slice_cmp}
use Rattle.std.specs.FinMap.{get, empty, len, get-empty, len-empty}
use Rattle.blocks.specs.Blocks.{Blocks}
use Rattle.zset_object.specs.Scored as object
use Rattle.zset_object.specs.declared.scored.Scored as kept
use Rattle.plain_world.specs.Worlds.{World, look}
use Rattle.plain_model.specs.Outcomes.{Outcome, leaves, tells}
use Rattle.plain_model.specs.OfType.{zset_in, of_type, on_type}
use Rattle.plain_model.specs.ZsetSteps.{Scores, on_zset, tell_zset, or_no_scores}
use Rattle.plain_model.specs.declared.ctx.Ctx.{Ctx}
use Rattle.plain_world.specs.declared.refusal.Refusal.TheVariants.{WrongType}
use Rattle.plain_world.specs.declared.reply.Part.{Part}
use Rattle.plain_world.specs.declared.reply.Part.TheVariants.{Refused}
use Rattle.keyspace.specs.declared.value.Value.{Value}
use Rattle.keyspace.specs.declared.value.Value.TheVariants as kinds
use Rattle.keyspace.specs.Values.{value_of}
use Rattle.keyspace.specs.Databases.{Bases}
use Rattle.keyspace.specs.Calls.{Found}
use Rattle.keyspace.specs.Commands.{seen}
use Rattle.cmd_zsets.specs.Found.{FoundZset, FoundOther}

-- whatever would be made of a sorted set, a value of another type is refused
pub refused_other : {E : Type 0} (old : World) (key : List ℕ) (answer : Option Scores → Outcome) (result : Result (List Part) E) → FoundOther old key
    → IfOk result (λ reply. reply ≡ Refused WrongType ∷ [])
    → IfOk result (λ reply. on_zset old key answer ≡ leaves reply old)
refused_other old key answer (Ok reply) found is =
    ap (λ o. on_type zset_in old o answer) found.stands ∙ ap (λ o. of_type old o answer) found.other ∙ ap (λ r. leaves r old) (sym is)
refused_other old key answer (Err x) found is = tt

-- what is told where nothing stands
pub told_none : {E : Type 0} (old : World) (key : List ℕ) (told : Scores → List Part) (parts : List Part) (result : Result (List Part) E) → look old key ≡ None → told empty ≡ parts
    → IfOk result (λ reply. reply ≡ parts)
    → IfOk result (λ reply. tell_zset old key told ≡ leaves reply old)
told_none old key told parts (Ok reply) none same is = ap (λ o. on_type zset_in old o (λ before. tells (told (or_no_scores before)) old)) none ∙ ap (λ r. leaves r old) (same ∙ sym is)
told_none old key told parts (Err x) none same is = tt

-- a sorted set without a member has no score
pub no_score : (member : List ℕ) → get (empty {X = ℤ} {R = slice_cmp nat_cmp}) member ≡ None
no_score member = get-empty (slice_cmp nat_cmp) member

pub no_member : len (empty {X = ℤ} {R = slice_cmp nat_cmp}) ≡ 0
no_member = len-empty (slice_cmp nat_cmp) ℤ

-- what is told of a sorted set that was found
pub told_zset : {E : Type 0} (old : World) (blocks : Blocks) (key : List ℕ) (zset : kept.Scored) (told : Scores → List Part) (result : Result (List Part) E) → FoundZset old blocks key zset
    → IfOk result (λ reply. reply ≡ told (object.scores blocks zset)) → IfOk result (λ reply. tell_zset old key told ≡ leaves reply old)
told_zset old blocks key zset told (Ok reply) found is =
    ap (λ o. on_type zset_in old o (λ before. tells (told (or_no_scores before)) old)) found.stands ∙ ap (λ r. leaves r old) (sym is)
told_zset old blocks key zset told (Err x) found is = tt

-- whether a value is a sorted set
abbrev pub is_zset : Value → Bool
is_zset (kinds.Zset b) = true
is_zset other = false

-- a value that is no sorted set means none
no_zset : (m : Blocks) (value : Value) → is_zset value ≡ false → zset_in (value_of m value) ≡ None
no_zset m (kinds.Text text) is = refl
no_zset m (kinds.List b) is = refl
no_zset m (kinds.Set b) is = refl
no_zset m (kinds.Hash b) is = refl
no_zset m (kinds.Zset b) is = cc
no_zset m (kinds.Stream b) is = refl

pub found_other : (bases : Bases) (m : Blocks) (at : Ctx) (key : List ℕ) (value : Value) → is_zset value ≡ false → Found bases m at.db key at.moment value → FoundOther (seen at bases m) key
found_other bases m at key value other found = record { entry = record { value = value_of m value; deadline = found.deadline }; stands = found.stands; other = no_zset m value other }

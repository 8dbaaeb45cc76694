-- What is found at a key, and what commands on lists give of it.
use Rattle.std.specs.FinMap.{get-empty, len-empty}
use Rattle.std.specs.Ordering.{nat_cmp}
use Rattle.std.specs.Cmp.Lexicographic.{slice_cmp}
use Rattle.std.proofs.Common.{pos, is_some, ◌≡◌, refl, Bool, true, false, ℕ, List, [], ◌∷◌, Option, None, Result, Ok, Err, IfOk, sym, ap, ◌∙◌}
use Rattle.blocks.specs.Blocks.{Blocks}
use Rattle.plain_world.specs.Worlds.{World, look}
use Rattle.plain_model.specs.Outcomes.{Outcome, leaves}
use Rattle.plain_model.specs.OfType.{set_in, of_type, on_type}
use Rattle.plain_model.specs.HashSteps.{one_if}
use Rattle.plain_model.specs.SetSteps.{Members, on_set, set_outcome}
use Rattle.plain_model.specs.declared.set_command.SetCommand.TheVariants as sets
use Rattle.plain_model.specs.declared.ctx.Ctx.{Ctx}
use Rattle.plain_world.specs.declared.refusal.Refusal.TheVariants.{WrongType}
use Rattle.plain_world.specs.declared.reply.Part.{Part}
use Rattle.plain_world.specs.declared.reply.Part.TheVariants.{Refused, Number}
use Rattle.keyspace.specs.declared.value.Value.{Value}
use Rattle.keyspace.specs.declared.value.Value.TheVariants as kinds
use Rattle.keyspace.specs.Values.{value_of}
use Rattle.keyspace.specs.Databases.{Bases}
use Rattle.keyspace.specs.Calls.{Found}
use Rattle.keyspace.specs.Commands.{seen}
use Rattle.cmd_sets.specs.Found.{FoundOther}

-- whatever would be made of a set, a value of another type is refused
pub refused_other : {E : Type 0} (old : World) (key : List ℕ) (answer : Option Members → Outcome) (result : Result (List Part) E) → FoundOther old key
    → IfOk result (λ reply. reply ≡ Refused WrongType ∷ [])
    → IfOk result (λ reply. on_set old key answer ≡ leaves reply old)
refused_other old key answer (Ok reply) found is =
    ap (λ o. on_type set_in old o answer) found.stands ∙ ap (λ o. of_type old o answer) found.other ∙ ap (λ r. leaves r old) (sym is)
refused_other old key answer (Err x) found is = tt

-- what is made where nothing stands
pub told_none : {E : Type 0} (old : World) (key : List ℕ) (answer : Option Members → Outcome) (result : Result (List Part) E) → look old key ≡ None
    → IfOk result (λ reply. reply ≡ (answer None).reply) → (answer None).world ≡ old
    → IfOk result (λ reply. on_set old key answer ≡ leaves reply old)
told_none old key answer (Ok reply) none is stays = ap (λ o. on_type set_in old o answer) none ∙ ap (λ r. leaves r (answer None).world) (sym is) ∙ ap (leaves reply) stays
told_none old key answer (Err x) none is stays = tt

-- where nothing stands, no member is counted
pub none_counted : {E : Type 0} (old : World) (key : List ℕ) (result : Result (List Part) E) → look old key ≡ None → IfOk result (λ reply. reply ≡ Number (pos 0) ∷ [])
    → IfOk result (λ reply. set_outcome old (sets.SCard key) ≡ leaves reply old)
none_counted {E = E} old key (Ok reply) none is = told_none {E = E} old key _ (Ok reply) none (is ∙ ap (λ n. Number (pos n) ∷ []) (sym (len-empty (slice_cmp nat_cmp) (Unit {0})))) refl
none_counted {E = E} old key (Err x) none is = tt

-- and nothing is a member
pub none_has : {E : Type 0} (old : World) (key member : List ℕ) (result : Result (List Part) E) → look old key ≡ None → IfOk result (λ reply. reply ≡ Number (pos 0) ∷ [])
    → IfOk result (λ reply. set_outcome old (sets.SIsMember key member) ≡ leaves reply old)
none_has {E = E} old key member (Ok reply) none is = told_none {E = E} old key _ (Ok reply) none (is ∙ ap (λ o. Number (one_if (is_some o)) ∷ []) (sym (get-empty (slice_cmp nat_cmp) member))) refl
none_has {E = E} old key member (Err x) none is = tt

-- whether a value is a set
abbrev pub is_set : Value → Bool
is_set (kinds.Set b) = true
is_set other = false

-- a value that is no set means none
no_set : (m : Blocks) (value : Value) → is_set value ≡ false → set_in (value_of m value) ≡ None
no_set m (kinds.Text text) is = refl
no_set m (kinds.List b) is = refl
no_set m (kinds.Set b) is = cc
no_set m (kinds.Hash b) is = refl
no_set m (kinds.Zset b) is = refl
no_set m (kinds.Stream b) is = refl

pub found_other : (bases : Bases) (m : Blocks) (at : Ctx) (key : List ℕ) (value : Value) → is_set value ≡ false → Found bases m at.db key at.moment value → FoundOther (seen at bases m) key
found_other bases m at key value other found = record { entry = record { value = value_of m value; deadline = found.deadline }; stands = found.stands; other = no_set m value other }

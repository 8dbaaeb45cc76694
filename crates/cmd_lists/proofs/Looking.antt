-- What is found at a key, and what commands on lists give of it.
use Rattle.std.proofs.Common.{◌≡◌, refl, Bool, true, false, ℕ, List, [], ◌∷◌, Option, Some, None, Result, Ok, Err, IfOk, sym, ap, ◌∙◌}
use Rattle.blocks.specs.Blocks.{Blocks}
use Rattle.quicklist.specs.Chain.{Chain, elements}
use Rattle.plain_world.specs.Worlds.{World, look}
use Rattle.plain_model.specs.Outcomes.{Outcome, leaves}
use Rattle.plain_model.specs.OfType.{list_in, of_type, on_type}
use Rattle.plain_model.specs.ListSteps.{Elements, on_list}
use Rattle.plain_model.specs.declared.ctx.Ctx.{Ctx}
use Rattle.plain_world.specs.declared.refusal.Refusal.TheVariants.{WrongType}
use Rattle.plain_world.specs.declared.reply.Part.{Part}
use Rattle.plain_world.specs.declared.reply.Part.TheVariants.{Refused}
use Rattle.keyspace.specs.declared.value.Value.{Value}
use Rattle.keyspace.specs.declared.value.Value.TheVariants as kinds
use Rattle.keyspace.specs.Values.{value_of}
use Rattle.keyspace.specs.Databases.{Bases}
use Rattle.keyspace.specs.Calls.{Found}
use Rattle.keyspace.specs.Commands.{seen}
use Rattle.cmd_lists.specs.Found.{FoundList, FoundOther}

-- whatever would be made of a list, a value of another type is refused
pub refused_other : {E : Type 0} (old : World) (key : List ℕ) (answer : Option Elements → Outcome) (result : Result (List Part) E) → FoundOther old key
    → IfOk result (λ reply. reply ≡ Refused WrongType ∷ [])
    → IfOk result (λ reply. on_list old key answer ≡ leaves reply old)
refused_other old key answer (Ok reply) found is =
    ap (λ o. on_type list_in old o answer) found.stands ∙ ap (λ o. of_type old o answer) found.other ∙ ap (λ r. leaves r old) (sym is)
refused_other old key answer (Err x) found is = tt

-- what is made where nothing stands
pub told_none : {E : Type 0} (old : World) (key : List ℕ) (answer : Option Elements → Outcome) (result : Result (List Part) E) → look old key ≡ None
    → IfOk result (λ reply. reply ≡ (answer None).reply) → (answer None).world ≡ old
    → IfOk result (λ reply. on_list old key answer ≡ leaves reply old)
told_none old key answer (Ok reply) none is stays = ap (λ o. on_type list_in old o answer) none ∙ ap (λ r. leaves r (answer None).world) (sym is) ∙ ap (leaves reply) stays
told_none old key answer (Err x) none is stays = tt

-- what is made of a list that was found
pub told_list : {E : Type 0} (old : World) (blocks : Blocks) (key : List ℕ) (q : Chain) (answer : Option Elements → Outcome) (result : Result (List Part) E) → FoundList old blocks key q
    → IfOk result (λ reply. reply ≡ (answer (Some (elements blocks q))).reply) → (answer (Some (elements blocks q))).world ≡ old → IfOk result (λ reply. on_list old key answer ≡ leaves reply old)
told_list old blocks key q answer (Ok reply) found is stays =
    ap (λ o. on_type list_in old o answer) found.stands ∙ ap (λ r. leaves r (answer (Some (elements blocks q))).world) (sym is) ∙ ap (leaves reply) stays
told_list old blocks key q answer (Err x) found is stays = tt

-- whether a value is a list
abbrev pub is_list : Value → Bool
is_list (kinds.List b) = true
is_list other = false

-- a value that is no list means none
no_list : (m : Blocks) (value : Value) → is_list value ≡ false → list_in (value_of m value) ≡ None
no_list m (kinds.Text text) is = refl
no_list m (kinds.List b) is = cc
no_list m (kinds.Set b) is = refl
no_list m (kinds.Hash b) is = refl
no_list m (kinds.Zset b) is = refl
no_list m (kinds.Stream b) is = refl

pub found_other : (bases : Bases) (m : Blocks) (at : Ctx) (key : List ℕ) (value : Value) → is_list value ≡ false → Found bases m at.db key at.moment value → FoundOther (seen at bases m) key
found_other bases m at key value other found = record { entry = record { value = value_of m value; deadline = found.deadline }; stands = found.stands; other = no_list m value other }

-- What calls leave that change nothing, and the rests of lists.
use Rattle.std.proofs.Common.{◌≡◌, ℕ, suc, ◌+◌, ◌<◌, ◌≤◌, List, [], ◌∷◌, length, get_or, drop, drop-cons, add-one, sym, ap, subst, ◌∙◌, arith}
use Rattle.std.specs.FinMap.{insert, len}
use Rattle.blocks.specs.Blocks.{Blocks, Changes, no_step}
use Rattle.blocks.proofs.Change.{changes_same}
use Rattle.rehash_dict.specs.Grown.{Grown}
use Rattle.rehash_dict.specs.Keyed.{hash_of}
use Rattle.hash_object.specs.Fields.{IsFields, KeepsSettings, refs, tables}
use Rattle.hash_object.specs.declared.fields.Fields.{Fields}
use Rattle.plain_model.specs.HashSteps.{Fields as Map, set_all}
use Rattle.keyspace.proofs.Settles.{one_more}

-- what a call leaves that changes nothing
pub left_sound : (before after : Blocks) (old new : Fields) → IsFields before old → new ≡ old → after ≡ before → IsFields after new
left_sound before after old new sound same stays = subst (λ h. IsFields after h) (sym same) (subst (λ b. IsFields b old) (sym stays) sound)

pub left_changes : (before after : Blocks) (old new : Fields) → IsFields before old → new ≡ old → after ≡ before → Changes before after (refs old) (refs new)
left_changes before after old new sound same stays = subst (λ h. Changes before after (refs old) (refs h)) (sym same)
    (subst (λ b. Changes before b (refs old) (refs old)) (sym stays) (changes_same _ _ sound.owned))

pub left_settings : (old new : Fields) → new ≡ old → KeepsSettings old new
left_settings old new same = record { limits = ap (λ (h : Fields). h.limits) same; seed = ap (λ (h : Fields). h.seed) same }

pub left_grown : (before after : Blocks) (old new : Fields) → new ≡ old → after ≡ before → Grown (hash_of old.seed) (tables before old) (tables after new)
left_grown before after old new same stays = subst (λ h. Grown (hash_of old.seed) (tables before old) (tables after h)) (sym same)
    (subst (λ b. Grown (hash_of old.seed) (tables before old) (tables b old)) (sym stays) no_step)

-- a hash that values are set in has no fewer fields
pub set_more : (map : Map) (pairs : List (List ℕ × List ℕ)) → len map ≤ len (set_all map pairs)
set_more map [] = omega arith
set_more map (pair ∷ pairs) =
    let one = one_more map pair.0 pair.1 in
    let rest = set_more (insert map pair.0 pair.1) pairs in
    omega (arith, one, rest)

pub settings_then : (a b c : Fields) → KeepsSettings a b → KeepsSettings b c → KeepsSettings a c
settings_then a b c p q = record { limits = q.limits ∙ p.limits; seed = q.seed ∙ p.seed }

-- the rest of a list from a place on is the element there and the rest behind it
pub rest_from : {A : Type 0} (xs : List A) (i : ℕ) (x : A) → i < length xs → x ≡ get_or xs i x → drop i xs ≡ x ∷ drop (i + 1) xs
rest_from {A = A} xs i x within is = rw (add-one, drop-cons xs i x) (ap (λ (z : A). z ∷ drop (suc i) xs) (sym is))

-- What calls leave that change nothing, and the rests of lists.
use Rattle.std.proofs.Common.{◌≡◌, ℕ, suc, ◌+◌, ◌<◌, ◌≤◌, Bool, true, false, List, [], ◌∷◌, length, get_or, drop, drop-cons, add-one, sym, ap, subst, ◌∙◌, arith}
use Rattle.std.specs.Prelude.{if◌then◌else◌}
use Rattle.std.specs.FinMap.{get, insert, len}
use Rattle.blocks.specs.Blocks.{Blocks, Changes, no_step}
use Rattle.blocks.proofs.Change.{changes_same}
use Rattle.rehash_dict.specs.Grown.{Grown}
use Rattle.rehash_dict.specs.Keyed.{hash_of}
use Rattle.zset_object.specs.Scored.{IsScored, KeepsSettings, refs, tables}
use Rattle.zset_object.specs.declared.scored.Scored.{Scored}
use Rattle.plain_model.specs.declared.zset_command.ScoreRules.{ScoreRules}
use Rattle.plain_model.specs.ZsetSteps.{Scores, Scored as Pair, permits, write_score, write_scores}
use Rattle.keyspace.proofs.Settles.{one_more}

-- what a call leaves that changes nothing
pub left_sound : (before after : Blocks) (old new : Scored) → IsScored before old → new ≡ old → after ≡ before → IsScored after new
left_sound before after old new sound same stays = subst (λ h. IsScored after h) (sym same) (subst (λ b. IsScored b old) (sym stays) sound)

pub left_changes : (before after : Blocks) (old new : Scored) → IsScored before old → new ≡ old → after ≡ before → Changes before after (refs old) (refs new)
left_changes before after old new sound same stays = subst (λ h. Changes before after (refs old) (refs h)) (sym same)
    (subst (λ b. Changes before b (refs old) (refs old)) (sym stays) (changes_same _ _ sound.owned))

pub left_settings : (old new : Scored) → new ≡ old → KeepsSettings old new
left_settings old new same = record { limits = ap (λ (h : Scored). h.limits) same; seed = ap (λ (h : Scored). h.seed) same }

pub left_grown : (before after : Blocks) (old new : Scored) → new ≡ old → after ≡ before → Grown (hash_of old.seed) (tables before old) (tables after new)
left_grown before after old new same stays = subst (λ h. Grown (hash_of old.seed) (tables before old) (tables after h)) (sym same)
    (subst (λ b. Grown (hash_of old.seed) (tables before old) (tables b old)) (sym stays) no_step)

-- a sorted set that scores are written to has no fewer members
pub write_more : (rules : ScoreRules) (map : Scores) (pairs : List Pair) → len map ≤ len (write_scores rules map pairs)
write_more rules map [] = omega arith
write_more rules map (pair ∷ pairs) =
    let one = by_test (permits rules (get map pair.1) pair.0) in
    let rest = write_more rules (write_score rules map pair) pairs in
    omega (arith, one, rest)
  where
    by_test : (b : Bool) → len map ≤ len (if b then insert map pair.1 pair.0 else map)
    by_test true = one_more map pair.1 pair.0
    by_test false = omega arith

pub settings_then : (a b c : Scored) → KeepsSettings a b → KeepsSettings b c → KeepsSettings a c
settings_then a b c p q = record { limits = q.limits ∙ p.limits; seed = q.seed ∙ p.seed }

-- the rest of a list from a place on is the element there and the rest behind it
pub rest_from : {A : Type 0} (xs : List A) (i : ℕ) (x : A) → i < length xs → x ≡ get_or xs i x → drop i xs ≡ x ∷ drop (i + 1) xs
rest_from {A = A} xs i x within is = rw (add-one, drop-cons xs i x) (ap (λ (z : A). z ∷ drop (suc i) xs) (sym is))
